-- Bounds, targets, left parts, elements of for lists and calls without faults of types are fair.
use Rattle.std.proofs.Common.{◌≡◌, ◌≤◌, ℕ, suc, Bool, true, false, List, [], ◌∷◌, length, refl, ap, sym, subst, arith}
use Rattle.std.specs.Prelude.{not, map, ◌++◌, ◌+◌, ◌&&◌}
use Rattle.std.specs.List.{AllByRecursion, flat_map}
use Rattle.gier_tree.specs.Declaring.{formals_of}
use Rattle.gier_tree.specs.Described.{Scopes, kind_in}
use Rattle.gier_tree.specs.Places.{Places}
use Rattle.gier_tree.specs.Trees.{NextName, MkNames, NoFormals, FormalList, Heading, MkHeading, Expr, Exprs, NoExprs, MoreExprs, Call, Alone, WithActuals, Subscripted, BoundPair, MkPair, NextPair, Segment, MkSegment, LeftSide, OneName, LeftElement, LeftPart, Turns, OneValue, StepUntil, WhileTrue}
use Rattle.gier_scope.specs.Places.{value_places}
use Rattle.gier_scope.specs.Scopes.{Scope, scope_of, declares}
use Rattle.gier_scope.specs.Uses.{uses_expr, uses_exprs, uses_call, uses_pair, uses_left, uses_turns, uses_actual, uses_actuals}
use Rattle.gier_kinds.specs.Actuals.{wanted_behind}
use Rattle.gier_kinds.specs.AllowedUses.{array_type}
use Rattle.gier_kinds.specs.Around.{Around}
use Rattle.gier_kinds.specs.ExprFaults as fault
use Rattle.gier_kinds.specs.ExprFaults.{AsStatement, most_subscripts, most_actuals, too_long, may_stand, may_be_called, wanted_of}
use Rattle.gier_kinds.specs.ExprTypes.{type_expr}
use Rattle.gier_kinds.specs.Faults.{TypeFault, WrongUse, WrongValue, WrongBound, WrongElement, WrongCondition, WrongTarget, WrongAssignment, falls, on_symbol}
use Rattle.gier_kinds.specs.Headings.{faults_commas, faults_formals, faults_heading, value_fault, is_value, formal_list}
use Rattle.gier_kinds.specs.TypeFaults.{faults_bound, faults_pair, faults_pairs, faults_segment, faults_targets, type_left, faults_left, faults_part, faults_integer, faults_turns}
use Rattle.gier_kinds.specs.Types.{ExprType, OfInteger, OfBoolean, OfLabel, agree, is_known}
use Rattle.gier_fair.specs.Described.{described, AreDeclared}
use Rattle.gier_fair.specs.Expressions.{FairExpr, FairExprs}
use Rattle.gier_fair.specs.Fair.{FairPair, FairSegment, FairHeading, FairLeft, FairTurns, FairCallStatement}
use Rattle.gier_fair.specs.InScope.{HasFormals, InScopeSegment}
use Rattle.gier_fair.proofs.FairExpressions.{Declared, fair_expr, fair_element, fair_actual, fair_actuals, arguments, on_bracket}
use Rattle.gier_fair.proofs.Lists.{both_empty, three_empty, four_empty, each_left, each_right, each_empty, each_with}
use Rattle.gier_fair.proofs.Silence.{silent, holds, holds_on, one_type, Typed, takes, one_more}

-- ---- headings

few_commas : (ns : List NextName) (before : ℕ) → before ≤ most_actuals → faults_commas before ns ≡ [] → before + length ns ≤ most_actuals
few_commas [] before le e = omega (arith, le)
few_commas (n ∷ ns) before le e =
    let q = both_empty (on_symbol n.comma (too_long most_actuals before)) (faults_commas (suc before) ns) e in
    let rest = few_commas ns (suc before) (one_more most_actuals before le (silent n.comma (too_long most_actuals before) q.0)) q.1 in
    omega (arith, rest)

few_names : (ns : List NextName) → length (map (λ (n : NextName). n.name) ns) ≡ length ns
few_names [] = refl
few_names (n ∷ ns) = ap suc (few_names ns)

few_formals : (h : Heading) → faults_formals (formal_list h) ≡ [] → length (formals_of h) ≤ most_actuals
few_formals (MkHeading t l x NoFormals m vs ss) e = omega arith
few_formals (MkHeading t l x (FormalList k (MkNames y ns) n) m vs ss) e =
    let few : 1 + length ns ≤ most_actuals = few_commas ns 1 (omega arith) e in
    let same = few_names ns in
    omega (arith, few, same)

value_kind : (declared value : Bool) (line : ℕ) → on_symbol line (falls (declared && not value) WrongValue) ≡ [] → declared ≡ true → value ≡ true
value_kind true value line e d = holds_on value WrongValue line e
value_kind false value line e d = cc

pub fair_heading : (h : Heading) → HasFormals h → faults_heading h ≡ [] → FairHeading h
fair_heading h f e =
    let q = both_empty (faults_formals (formal_list h)) (flat_map (value_fault h) (value_places h)) e in (
      few_formals h q.0,
      each_with (λ x. declares (scope_of (formals_of h)) x.number ≡ true) (λ x. value_fault h x ≡ []) (λ x. is_value (kind_in h x.number) ≡ true)
          (λ x d v. value_kind (declares (scope_of (formals_of h)) x.number) (is_value (kind_in h x.number)) x.line v d) (value_places h) f.by_value.1 (each_empty (value_fault h) (value_places h) q.1),
    )

module _ (p : Places) where
  abbrev at : Scopes
  at = described p

  -- an expression that has to be of this type
  pub of_type : (t : ExprType) → is_known t ≡ true → (kind : TypeFault) (line : ℕ) (e : Expr) → AreDeclared p (uses_expr e)
      → on_symbol line (falls (not (agree t (type_expr at e))) kind) ++ fault.faults_expr at e ≡ [] → FairExpr p t e
  of_type t known kind line e d f =
      let q = both_empty (on_symbol line (falls (not (agree t (type_expr at e))) kind)) (fault.faults_expr at e) f in
      takes t known line (λ t. FairExpr p t e) (type_expr at e) (holds_on (agree t (type_expr at e)) kind line q.0) (fair_expr p e d q.1)

  -- ---- bounds

  fair_bound : (line : ℕ) (kinds : List TypeFault) (e : Expr) → AreDeclared p (uses_expr e) → faults_bound at line kinds e ≡ [] → (kinds ≡ []) × FairExpr p OfInteger e
  fair_bound line kinds e d f =
      let wrong = falls (not (agree OfInteger (type_expr at e))) WrongBound in
      let q = both_empty (on_symbol line (kinds ++ wrong)) (fault.faults_expr at e) f in
      let here = both_empty kinds wrong (silent line (kinds ++ wrong) q.0) in
      (here.0, takes OfInteger refl line (λ t. FairExpr p t e) (type_expr at e) (holds (agree OfInteger (type_expr at e)) WrongBound here.1) (fair_expr p e d q.1))

  fair_pair : (line : ℕ) (kinds : List TypeFault) (b : BoundPair) → AreDeclared p (uses_pair b) → faults_pair at line kinds b ≡ [] → (kinds ≡ []) × FairPair p b
  fair_pair line kinds (MkPair a l b) d f =
      let q = both_empty (faults_bound at line kinds a) (faults_bound at l [] b) f in
      let x = fair_bound line kinds a (each_left (Declared p) (uses_expr a) (uses_expr b) d) q.0 in
      let y = fair_bound l [] b (each_right (Declared p) (uses_expr a) (uses_expr b) d) q.1 in
      (x.0, (x.1, y.1))

  fair_pairs : (bs : List NextPair) (before : ℕ) → before ≤ most_subscripts → AreDeclared p (flat_map (λ next. uses_pair next.pair) bs) → faults_pairs at before bs ≡ []
      → AllByRecursion (λ next. FairPair p next.pair) bs × (before + length bs ≤ most_subscripts)
  fair_pairs [] before le d f = (tt, omega (arith, le))
  fair_pairs (b ∷ bs) before le d f =
      let long = too_long most_subscripts before in
      let q = both_empty (faults_pair at b.comma long b.pair) (faults_pairs at (suc before) bs) f in
      let more = flat_map (λ (next : NextPair). uses_pair next.pair) bs in
      let x = fair_pair b.comma long b.pair (each_left (Declared p) (uses_pair b.pair) more d) q.0 in
      let r = fair_pairs bs (suc before) (one_more most_subscripts before le x.0) (each_right (Declared p) (uses_pair b.pair) more d) q.1 in
      let few = r.1 in
      ((x.1, r.0), omega (arith, few))

  pub fair_segment : (own : Scope) (g : Segment) → InScopeSegment p own g → faults_segment at g ≡ [] → FairSegment p g
  fair_segment own (MkSegment ns l b bs m) h f =
      let more = flat_map (λ (next : NextPair). uses_pair next.pair) bs in
      let q = both_empty (faults_pair at l [] b) (faults_pairs at 1 bs) f in
      let x = fair_pair l [] b (each_left (Declared p) (uses_pair b) more h.0) q.0 in
      let r = fair_pairs bs 1 (omega arith) (each_right (Declared p) (uses_pair b) more h.0) q.1 in
      let few = r.1 in
      (x.1, r.0, omega (arith, few))

  -- ---- targets, elements of for lists

  pub fair_targets : (es : Exprs) → AreDeclared p (uses_exprs es) → faults_targets at es ≡ [] → FairExprs p OfLabel es
  fair_targets NoExprs d f = tt
  fair_targets (MoreExprs l e es) d f =
      let here = on_symbol l (falls (not (agree OfLabel (type_expr at e))) WrongTarget) ++ fault.faults_expr at e in
      let q = both_empty here (faults_targets at es) f in
      (of_type OfLabel refl WrongTarget l e (each_left (Declared p) (uses_expr e) (uses_exprs es) d) q.0, fair_targets es (each_right (Declared p) (uses_expr e) (uses_exprs es) d) q.1)

  pub fair_turns : (line : ℕ) (t : Turns) → AreDeclared p (uses_turns t) → faults_turns at line t ≡ [] → FairTurns p t
  fair_turns line (OneValue e) d f = of_type OfInteger refl WrongElement line e d f
  fair_turns line (StepUntil a l b m c) d f =
      let q = three_empty (faults_integer at line a) (faults_integer at l b) (faults_integer at m c) f in
      let d1 = each_left (Declared p) (uses_expr a ++ uses_expr b) (uses_expr c) d in (
        of_type OfInteger refl WrongElement line a (each_left (Declared p) (uses_expr a) (uses_expr b) d1) q.0,
        of_type OfInteger refl WrongElement l b (each_right (Declared p) (uses_expr a) (uses_expr b) d1) q.1,
        of_type OfInteger refl WrongElement m c (each_right (Declared p) (uses_expr a ++ uses_expr b) (uses_expr c) d) q.2,
      )
  fair_turns line (WhileTrue e l c) d f =
      let condition = on_symbol l (falls (not (agree OfBoolean (type_expr at c))) WrongCondition) ++ fault.faults_expr at c in
      let q = both_empty (faults_integer at line e) condition f in (
        of_type OfInteger refl WrongElement line e (each_left (Declared p) (uses_expr e) (uses_expr c) d) q.0,
        of_type OfBoolean refl WrongCondition l c (each_right (Declared p) (uses_expr e) (uses_expr c) d) q.1,
      )

  -- ---- left parts and calls

  module _ (within : ℕ → Bool) where
    abbrev around : Around
    around = record { scopes = at; within = within }

    fair_left : (q : LeftSide) → AreDeclared p (uses_left q) → faults_left around q ≡ [] → Typed (λ t. FairLeft p within t q) (type_left around q)
    fair_left (OneName x) d f =
        let h = holds_on (is_known (type_left around (OneName x))) WrongUse x.line f in
        ((refl, h), h)
    fair_left (LeftElement (Subscripted x l e es m)) d f = fair_element p array_type (Subscripted x l e es m) d f

    pub fair_part : (t : ExprType) → is_known t ≡ true → (q : LeftPart) → AreDeclared p (uses_left q.left) → faults_part around t q ≡ [] → FairLeft p within t q.left
    fair_part t known q d f =
        let same = on_symbol q.becomes (falls (not (agree (type_left around q.left) t)) WrongAssignment) in
        let r = both_empty (faults_left around q.left) same f in
        let h = fair_left q.left d r.0 in
        subst (λ t. FairLeft p within t q.left) (sym (one_type (type_left around q.left) t h.1 known (holds_on (agree (type_left around q.left) t) WrongAssignment q.becomes r.1)).0) h.0

  pub fair_call_statement : (c : Call) → AreDeclared p (uses_call c) → fault.faults_call AsStatement at c ≡ [] → FairCallStatement p c
  fair_call_statement (Alone x) d f = holds_on (may_stand AsStatement (at x.number)) WrongUse x.line f
  fair_call_statement (WithActuals x l a more m) d f =
      let what = at x.number in
      let use_faults = fault.use_fault (may_be_called AsStatement what) x in
      let q = four_empty use_faults (on_bracket p AsStatement x l a more) (fault.faults_actual at a) (fault.faults_actuals at (wanted_behind (wanted_of AsStatement what)) 1 more) f in
      let h = holds_on (may_be_called AsStatement what) WrongUse x.line q.0 in
      let r = arguments p AsStatement x l a more h q.1 q.2 q.3
      (λ w f k. fair_actual p a (each_left (Declared p) (uses_actual a) (uses_actuals more) d.1) w f k)
      (λ w f. fair_actuals p more (each_right (Declared p) (uses_actual a) (uses_actuals more) d.1) w 1 f) in
      (h, r.0, r.1, r.2)
