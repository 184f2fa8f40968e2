-- The faults at positions are those of the definition, and their positions rise strictly.
use Rattle.std.proofs.Common.{◌≤◌, ◌++◌, ℕ, suc, List, [], ◌∷◌, arith}
use Rattle.std.specs.Prelude.{Option, None, Some, not}
use Rattle.gier_tree.specs.declared.kind.Kind.{Kind}
use Rattle.gier_tree.specs.declared.kind.Kind.TheVariants.{IntegerArray, BooleanArray, Procedure, IntegerProcedure}
use Rattle.gier_tree.specs.declared.kind.Kind.TheVariants.{BooleanProcedure}
use Rattle.gier_tree.specs.Need.{count_exprs, count_actuals}
use Rattle.gier_tree.specs.Places.{Placed, Places}
use Rattle.gier_tree.specs.Written.{name_alone}
use Rattle.gier_tree.specs.Trees.{Name, Byte, Expr, OneSimple, IfExpr, Simple, OneImplication, Equivalent, Implication}
use Rattle.gier_tree.specs.Trees.{OneDisjunction, Implies, Disjunction, OneConjunction, Either, Conjunction, OneNegation, Both}
use Rattle.gier_tree.specs.Trees.{Negation, OneRelation, Negated, Relation, OneArithmetic, Compared, Arithmetic, OneTerm}
use Rattle.gier_tree.specs.Trees.{Signed, Summed, Term, OneFactor, Multiplied, Factor, OnePrimary, Raised, Primary, Numeral}
use Rattle.gier_tree.specs.Trees.{Logical, Bracketed, OneCall, OneElement, Call, Alone, WithActuals, Element, Subscripted}
use Rattle.gier_tree.specs.Trees.{Actual, OneExpr, AString, Actuals, NoActuals, MoreActuals, Exprs, NoExprs, MoreExprs}
use Rattle.gier_kinds.specs.Actuals.{Wanted, wanted_behind, known_formals, is_other_count, actual_fits}
use Rattle.gier_kinds.specs.ExprTypes.{type_expr, type_simple, type_implication, type_disjunction, type_conjunction}
use Rattle.gier_kinds.specs.ExprTypes.{type_negation, type_relation, type_arithmetic, type_term, type_factor, type_primary}
use Rattle.gier_kinds.specs.Types.{OfInteger, OfBoolean, agree, is_known}
use Rattle.gier_kinds.specs.ExprFaults.{InExpression, most_subscripts, most_actuals, too_long, subscript_fault, is_other_number}
use Rattle.gier_kinds.specs.ExprFaults.{may_stand, may_be_called, actual_fault, wanted_of, unless_alone, faults_expr}
use Rattle.gier_kinds.specs.ExprFaults.{faults_simple, faults_implication, faults_disjunction, faults_conjunction}
use Rattle.gier_kinds.specs.ExprFaults.{faults_negation, faults_relation, faults_arithmetic, faults_term, faults_factor}
use Rattle.gier_kinds.specs.ExprFaults.{faults_primary, faults_call, faults_actual, faults_actuals, faults_element}
use Rattle.gier_kinds.specs.ExprFaults.{faults_subscripts}
use Rattle.gier_kinds.specs.AllowedUses.{element_type}
use Rattle.gier_kinds.specs.Faults.{WrongUse, WrongSubscripts, WrongCount, WrongCondition, WrongBranches, TypeFaults, falls}
use Rattle.gier_text.specs.declared.fault.Fault.{Fault}
use Rattle.gier_fair.specs.Described.{described}
use Rattle.gier_text6.specs.PlacedFaults.{Fits}
use Rattle.gier_text6.specs.Positions.{after_count, after_use, after_bytes, after_by, after_expr, after_simple}
use Rattle.gier_text6.specs.Positions.{after_implication, after_disjunction, after_conjunction, after_negation, after_relation}
use Rattle.gier_text6.specs.Positions.{after_arithmetic, after_term, after_factor, after_primary, after_call, after_actual}
use Rattle.gier_text6.specs.Positions.{after_actuals, after_element, after_subscripts}
use Rattle.gier_text6.specs.PlacedExpressions.{operand_kinds, operand_kind, unless_named, placed_expr, placed_simple}
use Rattle.gier_text6.specs.PlacedExpressions.{placed_implication, placed_disjunction, placed_conjunction, placed_negation}
use Rattle.gier_text6.specs.PlacedExpressions.{placed_relation, placed_arithmetic, placed_term, placed_factor, placed_primary}
use Rattle.gier_text6.specs.PlacedExpressions.{placed_call, placed_actual, placed_actuals, placed_element, placed_subscripts}
use Rattle.gier_text6.proofs.Rising.{both, one, none, widen}

above_count : (kind : Kind) (n : ℕ) → n ≤ after_count kind n
above_count IntegerArray n = omega arith
above_count BooleanArray n = omega arith
above_count Procedure n = omega arith
above_count IntegerProcedure n = omega arith
above_count BooleanProcedure n = omega arith
above_count _ n = omega arith

pub above_use : (a : Placed) (n : ℕ) → suc n ≤ after_use a n
above_use a n = omega (arith, above_count a.what.kind (suc (suc n)))

above_bytes : (bs : List Byte) (n : ℕ) → n ≤ after_bytes bs n
above_bytes [] n = omega arith
above_bytes (b ∷ bs) n = omega (arith, above_bytes bs (suc n))

named : (o : Option Name) (p : Places) (m n : ℕ) (ps : List Fault) (fs : TypeFaults) → Fits (suc n) m ps fs
    → Fits n (suc (after_by o p m (suc n))) (unless_named o ps) (unless_alone o fs)
named None p m n ps fs f = widen n (suc n) m (suc m) ps fs (omega arith) (omega arith) f
named (Some x) p m n ps fs f = none n _ (omega (arith, above_use (p x.number) (suc n)))

mutual
  pub fits_expr : (p : Places) (x : Expr) (n : ℕ) → Fits n (after_expr p x n) (placed_expr p x n) (faults_expr (described p) x)
  fits_expr p (OneSimple s) n = fits_simple p s n
  fits_expr p (IfExpr l c m s j e) n =
      let n1 = suc (suc n) in let n2 = after_expr p c n1 in let n3 = suc n2 in let n4 = after_simple p s n3 in let n5 =
      suc n4 in let n6 = after_expr p e n5 in
      let g1 = both (suc n) n1 n2 _ _ _ _ (one (suc n) l (falls (not (agree OfBoolean (type_expr (described p) c)))
      WrongCondition)) (fits_expr p c n1) in
      let g2 = both (suc n) n2 n4 _ _ _ _ g1 (widen n2 n3 n4 n4 _ _ (omega arith) (omega arith) (fits_simple p s n3)) in
      let g3 = both (suc n) n4 n5 _ _ _ _ g2 (one n4 j (falls
      (not (agree (type_simple (described p) s) (type_expr (described p) e))) WrongBranches)) in
      let g4 = both (suc n) n5 n6 _ _ _ _ g3 (fits_expr p e n5) in
      widen n (suc n) n6 (suc n6) _ _ (omega arith) (omega arith) g4

  pub fits_simple : (p : Places) (x : Simple) (n : ℕ)
      → Fits n (after_simple p x n) (placed_simple p x n) (faults_simple (described p) x)
  fits_simple p (OneImplication y) n = fits_implication p y n
  fits_simple p (Equivalent x i y) n =
      let m = after_simple p x n in let h = after_implication p y (suc m) in
      both n (suc m) h _ _ _ _ (both n m (suc m) _ _ _ _ (fits_simple p x n) (one m i
      (operand_kinds OfBoolean (type_simple (described p) x) (type_implication (described p)
      y)))) (fits_implication p y (suc m))

  pub fits_implication : (p : Places) (x : Implication) (n : ℕ)
      → Fits n (after_implication p x n) (placed_implication p x n) (faults_implication (described p) x)
  fits_implication p (OneDisjunction y) n = fits_disjunction p y n
  fits_implication p (Implies x i y) n =
      let m = after_implication p x n in let h = after_disjunction p y (suc m) in
      both n (suc m) h _ _ _ _ (both n m (suc m) _ _ _ _ (fits_implication p x n) (one m i
      (operand_kinds OfBoolean (type_implication (described p) x) (type_disjunction (described p)
      y)))) (fits_disjunction p y (suc m))

  pub fits_disjunction : (p : Places) (x : Disjunction) (n : ℕ)
      → Fits n (after_disjunction p x n) (placed_disjunction p x n) (faults_disjunction (described p) x)
  fits_disjunction p (OneConjunction y) n = fits_conjunction p y n
  fits_disjunction p (Either x i y) n =
      let m = after_disjunction p x n in let h = after_conjunction p y (suc m) in
      both n (suc m) h _ _ _ _ (both n m (suc m) _ _ _ _ (fits_disjunction p x n) (one m i
      (operand_kinds OfBoolean (type_disjunction (described p) x) (type_conjunction (described p)
      y)))) (fits_conjunction p y (suc m))

  pub fits_conjunction : (p : Places) (x : Conjunction) (n : ℕ)
      → Fits n (after_conjunction p x n) (placed_conjunction p x n) (faults_conjunction (described p) x)
  fits_conjunction p (OneNegation y) n = fits_negation p y n
  fits_conjunction p (Both x i y) n =
      let m = after_conjunction p x n in let h = after_negation p y (suc m) in
      both n (suc m) h _ _ _ _ (both n m (suc m) _ _ _ _ (fits_conjunction p x n) (one m i
      (operand_kinds OfBoolean (type_conjunction (described p) x) (type_negation (described p) y)))) (fits_negation p y (suc m))

  pub fits_negation : (p : Places) (x : Negation) (n : ℕ)
      → Fits n (after_negation p x n) (placed_negation p x n) (faults_negation (described p) x)
  fits_negation p (OneRelation y) n = fits_relation p y n
  fits_negation p (Negated i y) n =
      both n (suc n) (after_relation p y (suc n)) _ _ _ _ (one n i (operand_kind OfBoolean
      (type_relation (described p) y))) (fits_relation p y (suc n))

  pub fits_relation : (p : Places) (x : Relation) (n : ℕ)
      → Fits n (after_relation p x n) (placed_relation p x n) (faults_relation (described p) x)
  fits_relation p (OneArithmetic y) n = fits_arithmetic p y n
  fits_relation p (Compared x o i y) n =
      let m = after_arithmetic p x n in let h = after_arithmetic p y (suc m) in
      both n (suc m) h _ _ _ _ (both n m (suc m) _ _ _ _ (fits_arithmetic p x n) (one m i
      (operand_kinds OfInteger (type_arithmetic (described p) x) (type_arithmetic (described p)
      y)))) (fits_arithmetic p y (suc m))

  pub fits_arithmetic : (p : Places) (x : Arithmetic) (n : ℕ)
      → Fits n (after_arithmetic p x n) (placed_arithmetic p x n) (faults_arithmetic (described p) x)
  fits_arithmetic p (OneTerm y) n = fits_term p y n
  fits_arithmetic p (Signed o i y) n =
      both n (suc n) (after_term p y (suc n)) _ _ _ _ (one n i (operand_kind OfInteger
      (type_term (described p) y))) (fits_term p y (suc n))
  fits_arithmetic p (Summed x o i y) n =
      let m = after_arithmetic p x n in let h = after_term p y (suc m) in
      both n (suc m) h _ _ _ _ (both n m (suc m) _ _ _ _ (fits_arithmetic p x n) (one m i
      (operand_kinds OfInteger (type_arithmetic (described p) x) (type_term (described p) y)))) (fits_term p y (suc m))

  pub fits_term : (p : Places) (x : Term) (n : ℕ) → Fits n (after_term p x n) (placed_term p x n) (faults_term (described p) x)
  fits_term p (OneFactor y) n = fits_factor p y n
  fits_term p (Multiplied x o i y) n =
      let m = after_term p x n in let h = after_factor p y (suc m) in
      both n (suc m) h _ _ _ _ (both n m (suc m) _ _ _ _ (fits_term p x n) (one m i
      (operand_kinds OfInteger (type_term (described p) x) (type_factor (described p) y)))) (fits_factor p y (suc m))

  pub fits_factor : (p : Places) (x : Factor) (n : ℕ)
      → Fits n (after_factor p x n) (placed_factor p x n) (faults_factor (described p) x)
  fits_factor p (OnePrimary y) n = fits_primary p y n
  fits_factor p (Raised x i y) n =
      let m = after_factor p x n in let h = after_primary p y (suc m) in
      both n (suc m) h _ _ _ _ (both n m (suc m) _ _ _ _ (fits_factor p x n) (one m i
      (operand_kinds OfInteger (type_factor (described p) x) (type_primary (described p) y)))) (fits_primary p y (suc m))

  pub fits_primary : (p : Places) (x : Primary) (n : ℕ)
      → Fits n (after_primary p x n) (placed_primary p x n) (faults_primary (described p) x)
  fits_primary p (Numeral v l) n = none n (suc n) (omega arith)
  fits_primary p (Logical b l) n = none n (suc n) (omega arith)
  fits_primary p (Bracketed l e m) n = widen n (suc n) _ _ _ _ (omega arith) (omega arith) (fits_expr p e (suc n))
  fits_primary p (OneCall c) n = fits_call p c n
  fits_primary p (OneElement e) n = fits_element p e n

  pub fits_call : (p : Places) (x : Call) (n : ℕ)
      → Fits n (after_call p x n) (placed_call p x n) (faults_call InExpression (described p) x)
  fits_call p (Alone x) n = widen n n (suc n) _ _ _ (omega arith) (above_use (p x.number) n) (one n x.line (falls
      (not (may_stand InExpression (described p x.number))) WrongUse))
  fits_call p (WithActuals x l a more m) n =
      let n1 = after_use (p x.number) n in let n2 = after_actual p a (suc n1) in let n3 = after_actuals p more n2 in
      let g1 = both n n1 (suc n1) _ _ _ _ (widen n n (suc n) n1 _ _ (omega arith) (above_use (p x.number) n) (one n x.line
      (falls (not (may_be_called InExpression (described p x.number))) WrongUse)))
      (one n1 l (falls (is_other_count (known_formals (described p x.number)) (suc (count_actuals more))) WrongCount
      ++ actual_fault (actual_fits (described p) (wanted_of InExpression (described p x.number)) a))) in
      let g2 = both n (suc n1) n2 _ _ _ _ g1 (fits_actual p a (suc n1)) in
      widen n n n3 (suc n3) _ _ (omega arith) (omega arith) (both n n2 n3 _ _ _ _ g2 (fits_actuals p
      (wanted_behind (wanted_of InExpression (described p x.number))) 1 more n2))

  pub fits_actual : (p : Places) (x : Actual) (n : ℕ)
      → Fits n (after_actual p x n) (placed_actual p x n) (faults_actual (described p) x)
  fits_actual p (OneExpr e) n = named (name_alone e) p (after_expr p e (suc n)) n _ _ (fits_expr p e (suc n))
  fits_actual p (AString l bs m) n = none n _ (omega (arith, above_bytes bs (suc (suc n))))

  pub fits_actuals : (p : Places) (w : Wanted) (ahead : ℕ) (x : Actuals) (n : ℕ)
      → Fits n (after_actuals p x n) (placed_actuals p w ahead x n) (faults_actuals (described p) w ahead x)
  fits_actuals p w ahead NoActuals n = none n n (omega arith)
  fits_actuals p w ahead (MoreActuals l a more) n =
      let n1 = after_actual p a (suc n) in let n2 = after_actuals p more n1 in
      both n n1 n2 _ _ _ _ (both n (suc n) n1 _ _ _ _ (one n l
      (too_long most_actuals ahead ++ actual_fault (actual_fits (described p) w
      a))) (fits_actual p a (suc n))) (fits_actuals p (wanted_behind w) (suc ahead) more n1)

  pub fits_element : (p : Places) (x : Element) (n : ℕ)
      → Fits n (after_element p x n) (placed_element p x n) (faults_element element_type (described p) x)
  fits_element p (Subscripted x l e es m) n =
      let n1 = after_use (p x.number) n in let n2 = suc (suc n1) in let n3 = after_expr p e n2 in let n4 = suc n3 in let n5 =
      after_subscripts p es n4 in
      let g1 = both n n1 (suc n1) _ _ _ _ (widen n n (suc n) n1 _ _ (omega arith) (above_use (p x.number) n) (one n x.line
      (falls (not (is_known (element_type (described p x.number).kind))) WrongUse)))
      (one n1 l (falls (is_other_number (described p x.number).kind (described p x.number).count (suc (count_exprs es)))
      WrongSubscripts ++ subscript_fault (type_expr (described p) e))) in
      let g2 = both n (suc n1) n4 _ _ _ _ g1 (widen (suc n1) n2 n3 n4 _ _ (omega arith) (omega arith) (fits_expr p e n2)) in
      widen n n n5 (suc n5) _ _ (omega arith) (omega arith) (both n n4 n5 _ _ _ _ g2 (fits_subscripts p 1 es n4))

  pub fits_subscripts : (p : Places) (ahead : ℕ) (x : Exprs) (n : ℕ)
      → Fits n (after_subscripts p x n) (placed_subscripts p ahead x n) (faults_subscripts (described p) ahead x)
  fits_subscripts p ahead NoExprs n = none n n (omega arith)
  fits_subscripts p ahead (MoreExprs l e es) n =
      let n2 = suc (suc n) in let n3 = after_expr p e n2 in let n4 = suc n3 in let n5 = after_subscripts p es n4 in
      both n n4 n5 _ _ _ _ (both n (suc n) n4 _ _ _ _ (one n l
      (too_long most_subscripts ahead
      ++ subscript_fault (type_expr (described p) e))) (widen (suc n) n2 n3 n4 _ _ (omega arith) (omega arith) (fits_expr p
      e n2))) (fits_subscripts p (suc ahead) es n4)
