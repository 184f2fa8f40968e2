-- The faults of types of expressions with their positions in text 5, in the order of positions. The definition, which tells their
-- lines alone, is in gier_kinds; each clause here has its form.
use Rattle.std.specs.Prelude.{◌++◌, ◌&&◌, ℕ, suc, not, List, [], Option, None, Some}
use Rattle.gier_tree.specs.Need.{count_exprs, count_actuals}
use Rattle.gier_tree.specs.Places.{Places}
use Rattle.gier_tree.specs.Written.{name_alone}
use Rattle.gier_tree.specs.Trees.{Name, Expr, OneSimple, IfExpr, Simple, OneImplication, Equivalent, Implication}
use Rattle.gier_tree.specs.Trees.{OneDisjunction, Implies, Disjunction, OneConjunction, Either, Conjunction, OneNegation, Both}
use Rattle.gier_tree.specs.Trees.{Negation, OneRelation, Negated, Relation, OneArithmetic, Compared, Arithmetic, OneTerm}
use Rattle.gier_tree.specs.Trees.{Signed, Summed, Term, OneFactor, Multiplied, Factor, OnePrimary, Raised, Primary, Numeral}
use Rattle.gier_tree.specs.Trees.{Logical, Bracketed, OneCall, OneElement, Call, Alone, WithActuals, Element, Subscripted}
use Rattle.gier_tree.specs.Trees.{Actual, OneExpr, AString, Actuals, NoActuals, MoreActuals, Exprs, NoExprs, MoreExprs}
use Rattle.gier_kinds.specs.Actuals.{Wanted, wanted_behind, known_formals, is_other_count, actual_fits}
use Rattle.gier_kinds.specs.AllowedUses.{element_type}
use Rattle.gier_kinds.specs.ExprFaults.{InExpression, most_subscripts, most_actuals, too_long, subscript_fault, is_other_number}
use Rattle.gier_kinds.specs.ExprFaults.{may_stand, may_be_called, actual_fault, wanted_of}
use Rattle.gier_kinds.specs.ExprTypes.{type_expr, type_simple, type_implication, type_disjunction, type_conjunction}
use Rattle.gier_kinds.specs.ExprTypes.{type_negation, type_relation, type_arithmetic, type_term, type_factor, type_primary}
use Rattle.gier_kinds.specs.Faults.{TypeFault, WrongUse, WrongSubscripts, WrongCount, WrongCondition, WrongBranches}
use Rattle.gier_kinds.specs.Faults.{WrongOperand, falls}
use Rattle.gier_kinds.specs.Types.{ExprType, OfInteger, OfBoolean, agree, is_known}
use Rattle.gier_text.specs.declared.fault.Fault.{Fault}
use Rattle.gier_fair.specs.Described.{described}
use Rattle.gier_text6.specs.PlacedFaults.{on_place}
use Rattle.gier_text6.specs.Positions.{after_use, after_expr, after_simple, after_implication, after_disjunction}
use Rattle.gier_text6.specs.Positions.{after_conjunction, after_arithmetic, after_term, after_factor, after_actual}

-- an operator with an operand of another type than it takes
abbrev pub operand_kinds : (taken left right : ExprType) → List TypeFault
operand_kinds taken a b = falls (not (agree taken a && agree taken b)) WrongOperand

abbrev pub operand_kind : (taken operand : ExprType) → List TypeFault
operand_kind taken t = falls (not (agree taken t)) WrongOperand

-- an actual that is an identifier alone has no faults of its own
abbrev pub unless_named : Option Name → List Fault → List Fault
unless_named None spots = spots
unless_named (Some x) spots = []

abbrev mutual
  pub placed_expr : Places → Expr → ℕ → List Fault
  placed_expr p (OneSimple s) n = placed_simple p s n
  placed_expr p (IfExpr l c m s j e) n =
      let n1 = suc (after_expr p c (suc (suc n))) in
      let n2 = after_simple p s n1 in
      on_place (suc n) l (falls (not (agree OfBoolean (type_expr (described p) c))) WrongCondition)
      ++ placed_expr p c (suc (suc n)) ++ placed_simple p s n1
      ++ on_place n2 j (falls (not (agree (type_simple (described p) s) (type_expr (described p) e))) WrongBranches)
      ++ placed_expr p e (suc n2)

  pub placed_simple : Places → Simple → ℕ → List Fault
  placed_simple p (OneImplication y) n = placed_implication p y n
  placed_simple p (Equivalent x i y) n =
      placed_simple p x n
      ++ on_place (after_simple p x n) i (operand_kinds OfBoolean (type_simple (described p) x)
      (type_implication (described p) y)) ++ placed_implication p y (suc (after_simple p x n))

  pub placed_implication : Places → Implication → ℕ → List Fault
  placed_implication p (OneDisjunction y) n = placed_disjunction p y n
  placed_implication p (Implies x i y) n =
      placed_implication p x n
      ++ on_place (after_implication p x n) i (operand_kinds OfBoolean (type_implication (described p) x)
      (type_disjunction (described p) y)) ++ placed_disjunction p y (suc (after_implication p x n))

  pub placed_disjunction : Places → Disjunction → ℕ → List Fault
  placed_disjunction p (OneConjunction y) n = placed_conjunction p y n
  placed_disjunction p (Either x i y) n =
      placed_disjunction p x n
      ++ on_place (after_disjunction p x n) i (operand_kinds OfBoolean (type_disjunction (described p) x)
      (type_conjunction (described p) y)) ++ placed_conjunction p y (suc (after_disjunction p x n))

  pub placed_conjunction : Places → Conjunction → ℕ → List Fault
  placed_conjunction p (OneNegation y) n = placed_negation p y n
  placed_conjunction p (Both x i y) n =
      placed_conjunction p x n
      ++ on_place (after_conjunction p x n) i (operand_kinds OfBoolean (type_conjunction (described p) x)
      (type_negation (described p) y)) ++ placed_negation p y (suc (after_conjunction p x n))

  pub placed_negation : Places → Negation → ℕ → List Fault
  placed_negation p (OneRelation y) n = placed_relation p y n
  placed_negation p (Negated i y) n = on_place n i (operand_kind OfBoolean (type_relation (described p) y))
      ++ placed_relation p y (suc n)

  pub placed_relation : Places → Relation → ℕ → List Fault
  placed_relation p (OneArithmetic y) n = placed_arithmetic p y n
  placed_relation p (Compared x o i y) n =
      placed_arithmetic p x n
      ++ on_place (after_arithmetic p x n) i (operand_kinds OfInteger (type_arithmetic (described p) x)
      (type_arithmetic (described p) y)) ++ placed_arithmetic p y (suc (after_arithmetic p x n))

  pub placed_arithmetic : Places → Arithmetic → ℕ → List Fault
  placed_arithmetic p (OneTerm y) n = placed_term p y n
  placed_arithmetic p (Signed o i y) n = on_place n i (operand_kind OfInteger (type_term (described p) y))
      ++ placed_term p y (suc n)
  placed_arithmetic p (Summed x o i y) n =
      placed_arithmetic p x n
      ++ on_place (after_arithmetic p x n) i (operand_kinds OfInteger (type_arithmetic (described p) x)
      (type_term (described p) y)) ++ placed_term p y (suc (after_arithmetic p x n))

  pub placed_term : Places → Term → ℕ → List Fault
  placed_term p (OneFactor y) n = placed_factor p y n
  placed_term p (Multiplied x o i y) n =
      placed_term p x n
      ++ on_place (after_term p x n) i (operand_kinds OfInteger (type_term (described p) x) (type_factor (described p) y))
      ++ placed_factor p y (suc (after_term p x n))

  pub placed_factor : Places → Factor → ℕ → List Fault
  placed_factor p (OnePrimary y) n = placed_primary p y n
  placed_factor p (Raised x i y) n =
      placed_factor p x n
      ++ on_place (after_factor p x n) i (operand_kinds OfInteger (type_factor (described p) x)
      (type_primary (described p) y)) ++ placed_primary p y (suc (after_factor p x n))

  pub placed_primary : Places → Primary → ℕ → List Fault
  placed_primary p (Numeral v l) n = []
  placed_primary p (Logical b l) n = []
  placed_primary p (Bracketed l e m) n = placed_expr p e (suc n)
  placed_primary p (OneCall c) n = placed_call p c n
  placed_primary p (OneElement e) n = placed_element p e n

  pub placed_call : Places → Call → ℕ → List Fault
  placed_call p (Alone x) n = on_place n x.line (falls (not (may_stand InExpression (described p x.number))) WrongUse)
  placed_call p (WithActuals x l a more m) n =
      let d = described p x.number in
      let wanted = wanted_of InExpression d in
      let n1 = after_use (p x.number) n in
      on_place n x.line (falls (not (may_be_called InExpression d)) WrongUse)
      ++ on_place n1 l (falls (is_other_count (known_formals d) (suc (count_actuals more))) WrongCount
      ++ actual_fault (actual_fits (described p) wanted a))
      ++ placed_actual p a (suc n1) ++ placed_actuals p (wanted_behind wanted) 1 more (after_actual p a (suc n1))

  pub placed_actual : Places → Actual → ℕ → List Fault
  placed_actual p (OneExpr e) n = unless_named (name_alone e) (placed_expr p e (suc n))
  placed_actual p (AString l bs m) n = []

  pub placed_actuals : Places → Wanted → (before : ℕ) → Actuals → ℕ → List Fault
  placed_actuals p w before NoActuals n = []
  placed_actuals p w before (MoreActuals l a more) n =
      on_place n l (too_long most_actuals before ++ actual_fault (actual_fits (described p) w a))
      ++ placed_actual p a (suc n) ++ placed_actuals p (wanted_behind w) (suc before) more (after_actual p a (suc n))

  pub placed_element : Places → Element → ℕ → List Fault
  placed_element p (Subscripted x l e es m) n =
      let d = described p x.number in
      let n1 = after_use (p x.number) n in
      on_place n x.line (falls (not (is_known (element_type d.kind))) WrongUse)
      ++ on_place n1 l (falls (is_other_number d.kind d.count (suc (count_exprs es))) WrongSubscripts
      ++ subscript_fault (type_expr (described p) e))
      ++ placed_expr p e (suc (suc n1)) ++ placed_subscripts p 1 es (suc (after_expr p e (suc (suc n1))))

  pub placed_subscripts : Places → (before : ℕ) → Exprs → ℕ → List Fault
  placed_subscripts p before NoExprs n = []
  placed_subscripts p before (MoreExprs l e es) n =
      on_place n l (too_long most_subscripts before ++ subscript_fault (type_expr (described p) e))
      ++ placed_expr p e (suc (suc n)) ++ placed_subscripts p (suc before) es (suc (after_expr p e (suc (suc n))))
