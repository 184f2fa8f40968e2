-- Expressions without faults of types whose identifiers are declared are fair, and their type is known.
use Rattle.std.specs.Prelude.{not, ◌++◌}
use Rattle.std.proofs.Common.{◌≡◌, ◌≢◌, ◌≤◌, ℕ, suc, ◌+◌, true, [], Option, Some, None, refl, ap, sym, subst, ◌∙◌, arith}
use Rattle.std.specs.List.{AllByRecursion}
use Rattle.gier_tree.specs.declared.kind.Kind.{Kind}
use Rattle.gier_tree.specs.declared.kind.Kind.TheVariants.{Undeclared}
use Rattle.gier_tree.specs.Described.{Scopes}
use Rattle.gier_tree.specs.Need.{count_exprs, count_actuals}
use Rattle.gier_tree.specs.Places.{Places}
use Rattle.gier_tree.specs.Trees.{Name, Expr, OneSimple, IfExpr, Simple, OneImplication, Equivalent, Implication, OneDisjunction}
use Rattle.gier_tree.specs.Trees.{Implies, Disjunction, OneConjunction, Either, Conjunction, OneNegation, Both, Negation}
use Rattle.gier_tree.specs.Trees.{OneRelation, Negated, Relation, OneArithmetic, Compared, Arithmetic, OneTerm, Signed, Summed}
use Rattle.gier_tree.specs.Trees.{Term, OneFactor, Multiplied, Factor, OnePrimary, Raised, Primary, Numeral, Logical, Bracketed}
use Rattle.gier_tree.specs.Trees.{OneCall, OneElement, Call, Alone, WithActuals, Element, Subscripted, Actual, OneExpr, AString}
use Rattle.gier_tree.specs.Trees.{Actuals, NoActuals, MoreActuals, Exprs, NoExprs, MoreExprs}
use Rattle.gier_tree.specs.Written.{name_alone}
use Rattle.gier_scope.specs.Uses.{uses_expr, uses_simple, uses_implication, uses_disjunction, uses_conjunction, uses_negation}
use Rattle.gier_scope.specs.Uses.{uses_relation, uses_arithmetic, uses_term, uses_factor, uses_primary, uses_call, uses_element}
use Rattle.gier_scope.specs.Uses.{uses_actual, uses_actuals, uses_exprs}
use Rattle.gier_kinds.specs.Actuals.{Wanted, wanted_by, wanted_behind, known_formals, is_other_count, actual_fits, fits_by}
use Rattle.gier_kinds.specs.AllowedUses.{element_type}
use Rattle.gier_kinds.specs.ExprFaults as fault
use Rattle.gier_kinds.specs.ExprFaults.{CallPlace, InExpression, most_subscripts, most_actuals, too_long, is_other_number, subscript_fault, actual_fault, may_be_called, may_stand, wanted_of, unless_alone}
use Rattle.gier_kinds.specs.ExprTypes.{type_expr, type_simple, type_implication, type_disjunction, type_conjunction, type_negation, type_relation, type_arithmetic, type_term, type_factor, type_primary, type_call, type_element}
use Rattle.gier_kinds.specs.Faults.{TypeFaults, WrongUse, WrongSubscripts, WrongCount, WrongActual, WrongCondition, WrongBranches, falls, on_symbol}
use Rattle.gier_kinds.specs.Types.{ExprType, OfInteger, OfBoolean, agree, is_known}
use Rattle.gier_fair.specs.Expressions.{FairActualCount, FairPassed, first_wanted, FairExpr, FairSimple, FairImplication, FairDisjunction, FairConjunction, FairNegation, FairRelation, FairArithmetic, FairTerm, FairFactor, FairPrimary, FairCall, FairActual, FairActuals, FairElement, FairExprs}
use Rattle.gier_fair.specs.Described.{described, AreDeclared}
use Rattle.gier_fair.specs.Laws.{ExpressionsAreFair}
use Rattle.gier_fair.proofs.Lists.{both_empty, three_empty, four_empty, five_empty, each_left, each_right}
use Rattle.gier_fair.proofs.NamesAlone.{named}
use Rattle.gier_fair.proofs.Silence.{silent, not_fallen, holds, holds_on, one_type, Typed, takes, one_operand, two_operands, one_more}

few_actuals : (at : Scopes) (more : Actuals) (w : Wanted) (before : ℕ) → before ≤ most_actuals → fault.faults_actuals at w before more ≡ [] → before + count_actuals more ≤ most_actuals
few_actuals at NoActuals w before le e = omega (arith, le)
few_actuals at (MoreActuals l a more) w before le e =
    let ks = too_long most_actuals before ++ actual_fault (actual_fits at w a) in
    let q = three_empty (on_symbol l ks) (fault.faults_actual at a) (fault.faults_actuals at (wanted_behind w) (suc before) more) e in
    let here = both_empty (too_long most_actuals before) (actual_fault (actual_fits at w a)) (silent l ks q.0) in
    let rest = few_actuals at more (wanted_behind w) (suc before) (one_more most_actuals before le here.0) q.2 in
    omega (arith, rest)

few_subscripts : (at : Scopes) (es : Exprs) (before : ℕ) → before ≤ most_subscripts → fault.faults_subscripts at before es ≡ [] → before + count_exprs es ≤ most_subscripts
few_subscripts at NoExprs before le e = omega (arith, le)
few_subscripts at (MoreExprs l x es) before le e =
    let ks = too_long most_subscripts before ++ subscript_fault (type_expr at x) in
    let q = three_empty (on_symbol l ks) (fault.faults_expr at x) (fault.faults_subscripts at (suc before) es) e in
    let here = both_empty (too_long most_subscripts before) (subscript_fault (type_expr at x)) (silent l ks q.0) in
    let rest = few_subscripts at es (suc before) (one_more most_subscripts before le here.0) q.2 in
    omega (arith, rest)

-- the type that this way of use gives an identifier with subscripts
abbrev pub used_type : Scopes → (Kind → ExprType) → Element → ExprType
used_type at allowed (Subscripted x l e es m) = allowed (at x.number).kind

same_type : (at : Scopes) (e : Element) → used_type at element_type e ≡ type_element at e
same_type at (Subscripted x l e es m) = refl

module _ (p : Places) where
  abbrev at : Scopes
  at = described p

  abbrev pub Declared : Name → Type 0
  Declared x = (p x.number).what.kind ≢ Undeclared

  alone_declared : (e : Expr) (o : Option Name) → name_alone e ≡ o → AreDeclared p (uses_expr e) → (x : Name) → o ≡ Some x → Declared x
  alone_declared e o q d x r = (subst (AllByRecursion Declared) (named e x (q ∙ r)) d).0

  pub passed : (wanted : Wanted) (e : Expr) (o : Option Name) → ((x : Name) → o ≡ Some x → Declared x)
      → (fault.faults_expr at e ≡ [] → Typed (λ t. FairExpr p t e) (type_expr at e))
      → unless_alone o (fault.faults_expr at e) ≡ [] → fits_by o at wanted e ≡ true → FairPassed p wanted o (λ t. FairExpr p t e)
  passed wanted e (Some x) n f u h = (h, n x refl)
  passed wanted e None n f u h = let r = f u in (type_expr at e, r.0, r.1, h)

  -- the faults on the parenthesis of a call
  abbrev pub on_bracket : CallPlace → Name → (line : ℕ) → Actual → Actuals → TypeFaults
  on_bracket place x l a more =
      on_symbol l (falls (is_other_count (known_formals (at x.number)) (suc (count_actuals more))) WrongCount ++ actual_fault (actual_fits at (wanted_of place (at x.number)) a))

  pub arguments : (place : CallPlace) (x : Name) (l : ℕ) (a : Actual) (more : Actuals) → may_be_called place (at x.number) ≡ true → on_bracket place x l a more ≡ []
      → fault.faults_actual at a ≡ [] → fault.faults_actuals at (wanted_behind (wanted_of place (at x.number))) 1 more ≡ []
      → ((w : Wanted) → fault.faults_actual at a ≡ [] → actual_fits at w a ≡ true → FairActual p w a)
      → ((w : Wanted) → fault.faults_actuals at w 1 more ≡ [] → FairActuals p w more)
      → FairActualCount (at x.number) (suc (count_actuals more)) × FairActual p (first_wanted (at x.number)) a × FairActuals p (wanted_behind (first_wanted (at x.number))) more
  arguments place x l a more allowed e f g first others =
      let d = at x.number in
      let w = wanted_of place d in
      let same : w ≡ first_wanted d = ap (λ b. wanted_by b (known_formals d)) allowed in
      let counted = falls (is_other_count (known_formals d) (suc (count_actuals more))) WrongCount in
      let ks = counted ++ actual_fault (actual_fits at w a) in
      let here = both_empty counted (actual_fault (actual_fits at w a)) (silent l ks e) in
      let fits = first w f (holds (actual_fits at w a) WrongActual here.1) in
      let few : 1 + count_actuals more ≤ most_actuals = few_actuals at more (wanted_behind w) 1 (omega arith) g in
      ((not_fallen (is_other_count (known_formals d) (suc (count_actuals more))) WrongCount here.0, omega (arith, few)), subst (λ w. FairActual p w a) same fits, subst (λ w. FairActuals p (wanted_behind w) more) same (others (wanted_behind w) g))

  mutual
    pub fair_expr : (z : Expr) → AreDeclared p (uses_expr z) → fault.faults_expr at z ≡ [] → Typed (λ t. FairExpr p t z) (type_expr at z)
    fair_expr (OneSimple y) d e = fair_simple y d e
    fair_expr (IfExpr l c m s n x) d e =
        let condition = fault.condition_fault (type_expr at c) l in
        let branches = on_symbol n (falls (not (agree (type_simple at s) (type_expr at x))) WrongBranches) in
        let q = five_empty condition (fault.faults_expr at c) (fault.faults_simple at s) branches (fault.faults_expr at x) e in
        let d1 = each_left Declared (uses_expr c ++ uses_simple s) (uses_expr x) d in
        let a = fair_expr c (each_left Declared (uses_expr c) (uses_simple s) d1) q.1 in
        let b = fair_simple s (each_right Declared (uses_expr c) (uses_simple s) d1) q.2 in
        let r = fair_expr x (each_right Declared (uses_expr c ++ uses_simple s) (uses_expr x) d) q.4 in
        let first = takes OfBoolean refl l (λ t. FairExpr p t c) (type_expr at c) (holds_on (agree OfBoolean (type_expr at c)) WrongCondition l q.0) a in
        let same = one_type (type_simple at s) (type_expr at x) b.1 r.1 (holds_on (agree (type_simple at s) (type_expr at x)) WrongBranches n q.3) in
        let all : Typed (λ t. FairExpr p t (IfExpr l c m s n x)) (type_simple at s) = ((first, b.0, subst (λ t. FairExpr p t x) same.0 r.0), b.1) in
        subst (λ t. Typed (λ t. FairExpr p t (IfExpr l c m s n x)) t) (sym same.1) all

    pub fair_simple : (z : Simple) → AreDeclared p (uses_simple z) → fault.faults_simple at z ≡ [] → Typed (λ t. FairSimple p t z) (type_simple at z)
    fair_simple (OneImplication y) d e = fair_implication y d e
    fair_simple (Equivalent s l i) d e =
        let operands = fault.operands_fault OfBoolean (type_simple at s) (type_implication at i) l in
        let q = three_empty (fault.faults_simple at s) operands (fault.faults_implication at i) e in
        let h = fair_simple s (each_left Declared (uses_simple s) (uses_implication i) d) q.0 in
        let k = fair_implication i (each_right Declared (uses_simple s) (uses_implication i) d) q.2 in
        let r = two_operands OfBoolean refl l (λ t. FairSimple p t s) (λ t. FairImplication p t i) (type_simple at s) (type_implication at i) q.1 h k in
        ((refl, r.0, r.1), refl)

    pub fair_implication : (z : Implication) → AreDeclared p (uses_implication z) → fault.faults_implication at z ≡ [] → Typed (λ t. FairImplication p t z) (type_implication at z)
    fair_implication (OneDisjunction y) d e = fair_disjunction y d e
    fair_implication (Implies i l c) d e =
        let operands = fault.operands_fault OfBoolean (type_implication at i) (type_disjunction at c) l in
        let q = three_empty (fault.faults_implication at i) operands (fault.faults_disjunction at c) e in
        let h = fair_implication i (each_left Declared (uses_implication i) (uses_disjunction c) d) q.0 in
        let k = fair_disjunction c (each_right Declared (uses_implication i) (uses_disjunction c) d) q.2 in
        let r = two_operands OfBoolean refl l (λ t. FairImplication p t i) (λ t. FairDisjunction p t c) (type_implication at i) (type_disjunction at c) q.1 h k in
        ((refl, r.0, r.1), refl)

    pub fair_disjunction : (z : Disjunction) → AreDeclared p (uses_disjunction z) → fault.faults_disjunction at z ≡ [] → Typed (λ t. FairDisjunction p t z) (type_disjunction at z)
    fair_disjunction (OneConjunction y) d e = fair_conjunction y d e
    fair_disjunction (Either b l c) d e =
        let operands = fault.operands_fault OfBoolean (type_disjunction at b) (type_conjunction at c) l in
        let q = three_empty (fault.faults_disjunction at b) operands (fault.faults_conjunction at c) e in
        let h = fair_disjunction b (each_left Declared (uses_disjunction b) (uses_conjunction c) d) q.0 in
        let k = fair_conjunction c (each_right Declared (uses_disjunction b) (uses_conjunction c) d) q.2 in
        let r = two_operands OfBoolean refl l (λ t. FairDisjunction p t b) (λ t. FairConjunction p t c) (type_disjunction at b) (type_conjunction at c) q.1 h k in
        ((refl, r.0, r.1), refl)

    pub fair_conjunction : (z : Conjunction) → AreDeclared p (uses_conjunction z) → fault.faults_conjunction at z ≡ [] → Typed (λ t. FairConjunction p t z) (type_conjunction at z)
    fair_conjunction (OneNegation y) d e = fair_negation y d e
    fair_conjunction (Both c l n) d e =
        let operands = fault.operands_fault OfBoolean (type_conjunction at c) (type_negation at n) l in
        let q = three_empty (fault.faults_conjunction at c) operands (fault.faults_negation at n) e in
        let h = fair_conjunction c (each_left Declared (uses_conjunction c) (uses_negation n) d) q.0 in
        let k = fair_negation n (each_right Declared (uses_conjunction c) (uses_negation n) d) q.2 in
        let r = two_operands OfBoolean refl l (λ t. FairConjunction p t c) (λ t. FairNegation p t n) (type_conjunction at c) (type_negation at n) q.1 h k in
        ((refl, r.0, r.1), refl)

    pub fair_negation : (z : Negation) → AreDeclared p (uses_negation z) → fault.faults_negation at z ≡ [] → Typed (λ t. FairNegation p t z) (type_negation at z)
    fair_negation (OneRelation y) d e = fair_relation y d e
    fair_negation (Negated l r) d e =
        let operand = fault.operand_fault OfBoolean (type_relation at r) l in
        let q = both_empty operand (fault.faults_relation at r) e in
        ((refl, one_operand OfBoolean refl l (λ t. FairRelation p t r) (type_relation at r) q.0 (fair_relation r d q.1)), refl)

    pub fair_relation : (z : Relation) → AreDeclared p (uses_relation z) → fault.faults_relation at z ≡ [] → Typed (λ t. FairRelation p t z) (type_relation at z)
    fair_relation (OneArithmetic y) d e = fair_arithmetic y d e
    fair_relation (Compared a o l b) d e =
        let operands = fault.operands_fault OfInteger (type_arithmetic at a) (type_arithmetic at b) l in
        let q = three_empty (fault.faults_arithmetic at a) operands (fault.faults_arithmetic at b) e in
        let h = fair_arithmetic a (each_left Declared (uses_arithmetic a) (uses_arithmetic b) d) q.0 in
        let k = fair_arithmetic b (each_right Declared (uses_arithmetic a) (uses_arithmetic b) d) q.2 in
        let r = two_operands OfInteger refl l (λ t. FairArithmetic p t a) (λ t. FairArithmetic p t b) (type_arithmetic at a) (type_arithmetic at b) q.1 h k in
        ((refl, r.0, r.1), refl)

    pub fair_arithmetic : (z : Arithmetic) → AreDeclared p (uses_arithmetic z) → fault.faults_arithmetic at z ≡ [] → Typed (λ t. FairArithmetic p t z) (type_arithmetic at z)
    fair_arithmetic (OneTerm y) d e = fair_term y d e
    fair_arithmetic (Signed o l u) d e =
        let operand = fault.operand_fault OfInteger (type_term at u) l in
        let q = both_empty operand (fault.faults_term at u) e in
        ((refl, one_operand OfInteger refl l (λ t. FairTerm p t u) (type_term at u) q.0 (fair_term u d q.1)), refl)
    fair_arithmetic (Summed a o l u) d e =
        let operands = fault.operands_fault OfInteger (type_arithmetic at a) (type_term at u) l in
        let q = three_empty (fault.faults_arithmetic at a) operands (fault.faults_term at u) e in
        let h = fair_arithmetic a (each_left Declared (uses_arithmetic a) (uses_term u) d) q.0 in
        let k = fair_term u (each_right Declared (uses_arithmetic a) (uses_term u) d) q.2 in
        let r = two_operands OfInteger refl l (λ t. FairArithmetic p t a) (λ t. FairTerm p t u) (type_arithmetic at a) (type_term at u) q.1 h k in
        ((refl, r.0, r.1), refl)

    pub fair_term : (z : Term) → AreDeclared p (uses_term z) → fault.faults_term at z ≡ [] → Typed (λ t. FairTerm p t z) (type_term at z)
    fair_term (OneFactor y) d e = fair_factor y d e
    fair_term (Multiplied u o l f1) d e =
        let operands = fault.operands_fault OfInteger (type_term at u) (type_factor at f1) l in
        let q = three_empty (fault.faults_term at u) operands (fault.faults_factor at f1) e in
        let h = fair_term u (each_left Declared (uses_term u) (uses_factor f1) d) q.0 in
        let k = fair_factor f1 (each_right Declared (uses_term u) (uses_factor f1) d) q.2 in
        let r = two_operands OfInteger refl l (λ t. FairTerm p t u) (λ t. FairFactor p t f1) (type_term at u) (type_factor at f1) q.1 h k in
        ((refl, r.0, r.1), refl)

    pub fair_factor : (z : Factor) → AreDeclared p (uses_factor z) → fault.faults_factor at z ≡ [] → Typed (λ t. FairFactor p t z) (type_factor at z)
    fair_factor (OnePrimary y) d e = fair_primary y d e
    fair_factor (Raised f1 l y) d e =
        let operands = fault.operands_fault OfInteger (type_factor at f1) (type_primary at y) l in
        let q = three_empty (fault.faults_factor at f1) operands (fault.faults_primary at y) e in
        let h = fair_factor f1 (each_left Declared (uses_factor f1) (uses_primary y) d) q.0 in
        let k = fair_primary y (each_right Declared (uses_factor f1) (uses_primary y) d) q.2 in
        let r = two_operands OfInteger refl l (λ t. FairFactor p t f1) (λ t. FairPrimary p t y) (type_factor at f1) (type_primary at y) q.1 h k in
        ((refl, r.0, r.1), refl)

    pub fair_primary : (z : Primary) → AreDeclared p (uses_primary z) → fault.faults_primary at z ≡ [] → Typed (λ t. FairPrimary p t z) (type_primary at z)
    fair_primary (Numeral n l) d e = (refl, refl)
    fair_primary (Logical b l) d e = (refl, refl)
    fair_primary (Bracketed l x m) d e = fair_expr x d e
    fair_primary (OneCall c) d e = fair_call c d e
    fair_primary (OneElement x) d e =
        subst (λ t. Typed (λ t. FairElement p element_type t x) t) (same_type at x) (fair_element element_type x d e)

    pub fair_call : (z : Call) → AreDeclared p (uses_call z) → fault.faults_call InExpression at z ≡ [] → Typed (λ t. FairCall p t z) (type_call at z)
    fair_call (Alone x) d e =
        let h = holds_on (may_stand InExpression (at x.number)) WrongUse x.line e in
        ((refl, h), h)
    fair_call (WithActuals x l a more m) d e =
        let what = at x.number in
        let use_faults = fault.use_fault (may_be_called InExpression what) x in
        let w = wanted_of InExpression what in
        let q = four_empty use_faults (on_bracket InExpression x l a more) (fault.faults_actual at a) (fault.faults_actuals at (wanted_behind w) 1 more) e in
        let h = holds_on (may_be_called InExpression what) WrongUse x.line q.0 in
        let r = arguments InExpression x l a more h q.1 q.2 q.3
        (λ w f k. fair_actual a (each_left Declared (uses_actual a) (uses_actuals more) d.1) w f k)
        (λ w f. fair_actuals more (each_right Declared (uses_actual a) (uses_actuals more) d.1) w 1 f) in
        (((refl, h), r.0, r.1, r.2), h)

    pub fair_actual : (z : Actual) → AreDeclared p (uses_actual z) → (w : Wanted) → fault.faults_actual at z ≡ [] → actual_fits at w z ≡ true → FairActual p w z
    fair_actual (OneExpr x) d w e h = passed w x (name_alone x) (alone_declared x (name_alone x) refl d) (λ f. fair_expr x d f) e h
    fair_actual (AString l bs m) d w e h = h

    pub fair_actuals : (z : Actuals) → AreDeclared p (uses_actuals z) → (w : Wanted) (before : ℕ) → fault.faults_actuals at w before z ≡ [] → FairActuals p w z
    fair_actuals NoActuals d w before e = tt
    fair_actuals (MoreActuals l a more) d w before e =
        let ks = too_long most_actuals before ++ actual_fault (actual_fits at w a) in
        let q = three_empty (on_symbol l ks) (fault.faults_actual at a) (fault.faults_actuals at (wanted_behind w) (suc before) more) e in
        let here = both_empty (too_long most_actuals before) (actual_fault (actual_fits at w a)) (silent l ks q.0) in
        let first = fair_actual a (each_left Declared (uses_actual a) (uses_actuals more) d) w q.1 (holds (actual_fits at w a) WrongActual here.1) in
        (first, fair_actuals more (each_right Declared (uses_actual a) (uses_actuals more) d) (wanted_behind w) (suc before) q.2)

    pub fair_element : (allowed : Kind → ExprType) (z : Element) → AreDeclared p (uses_element z) → fault.faults_element allowed at z ≡ [] → Typed (λ t. FairElement p allowed t z) (used_type at allowed z)
    fair_element allowed (Subscripted x l s ss m) d e =
        let what = at x.number in
        let use_faults = fault.use_fault (is_known (allowed what.kind)) x in
        let other = is_other_number what.kind what.count (suc (count_exprs ss)) in
        let ks = falls other WrongSubscripts ++ subscript_fault (type_expr at s) in
        let q = four_empty use_faults (on_symbol l ks) (fault.faults_expr at s) (fault.faults_subscripts at 1 ss) e in
        let h = holds_on (is_known (allowed what.kind)) WrongUse x.line q.0 in
        let here = both_empty (falls other WrongSubscripts) (subscript_fault (type_expr at s)) (silent l ks q.1) in
        let integer = holds (agree OfInteger (type_expr at s)) WrongSubscripts here.1 in
        let first = takes OfInteger refl l (λ t. FairExpr p t s) (type_expr at s) integer (fair_expr s (each_left Declared (uses_expr s) (uses_exprs ss) d.1) q.2) in
        let few : 1 + count_exprs ss ≤ most_subscripts = few_subscripts at ss 1 (omega arith) q.3 in
        (((refl, h), (not_fallen other WrongSubscripts here.0, omega (arith, few)), first, fair_subscripts ss (each_right Declared (uses_expr s) (uses_exprs ss) d.1) 1 q.3), h)

    fair_subscripts : (z : Exprs) → AreDeclared p (uses_exprs z) → (before : ℕ) → fault.faults_subscripts at before z ≡ [] → FairExprs p OfInteger z
    fair_subscripts NoExprs d before e = tt
    fair_subscripts (MoreExprs l s ss) d before e =
        let ks = too_long most_subscripts before ++ subscript_fault (type_expr at s) in
        let q = three_empty (on_symbol l ks) (fault.faults_expr at s) (fault.faults_subscripts at (suc before) ss) e in
        let here = both_empty (too_long most_subscripts before) (subscript_fault (type_expr at s)) (silent l ks q.0) in
        let integer = holds (agree OfInteger (type_expr at s)) WrongSubscripts here.1 in
        let first = takes OfInteger refl l (λ t. FairExpr p t s) (type_expr at s) integer (fair_expr s (each_left Declared (uses_expr s) (uses_exprs ss) d) q.1) in
        (first, fair_subscripts ss (each_right Declared (uses_expr s) (uses_exprs ss) d) (suc before) q.2)

pub expressions_are_fair : ExpressionsAreFair
expressions_are_fair p e d f = fair_expr p e d f
