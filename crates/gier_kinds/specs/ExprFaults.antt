-- The faults of types in expressions and calls, in the order of their symbols (Report 3, 4.7). Scopes tell what each identifier is.
use Rattle.std.specs.Prelude.{◌++◌, ◌==◌, ◌&&◌, ℕ, suc, Bool, false, not, List, [], Option, None, Some}
use Rattle.gier_tree.specs.declared.kind.Kind.{Kind}
use Rattle.gier_tree.specs.declared.kind.Kind.TheVariants.{IntegerArray, BooleanArray, Switch, SwitchFormal}
use Rattle.gier_tree.specs.Described.{Described, Scopes}
use Rattle.gier_tree.specs.Need.{count_exprs, count_actuals}
use Rattle.gier_tree.specs.Written.{name_alone}
use Rattle.gier_tree.specs.Trees.{Name, Expr, OneSimple, IfExpr, Simple, OneImplication, Equivalent, Implication, OneDisjunction}
use Rattle.gier_tree.specs.Trees.{Implies, Disjunction, OneConjunction, Either, Conjunction, OneNegation, Both, Negation}
use Rattle.gier_tree.specs.Trees.{OneRelation, Negated, Relation, OneArithmetic, Compared, Arithmetic, OneTerm, Signed, Summed}
use Rattle.gier_tree.specs.Trees.{Term, OneFactor, Multiplied, Factor, OnePrimary, Raised, Primary, Numeral, Logical, Bracketed}
use Rattle.gier_tree.specs.Trees.{OneCall, OneElement, Call, Alone, WithActuals, Element, Subscripted, Actual, OneExpr, AString}
use Rattle.gier_tree.specs.Trees.{Actuals, NoActuals, MoreActuals, Exprs, NoExprs, MoreExprs}
use Rattle.gier_kinds.specs.Actuals.{Wanted, wanted_by, wanted_behind, known_formals, is_other_count, actual_fits}
use Rattle.gier_kinds.specs.AllowedUses.{alone_type, called_type, element_type, is_statement, is_called_statement}
use Rattle.gier_kinds.specs.ExprTypes.{type_expr, type_simple, type_implication, type_disjunction, type_conjunction}
use Rattle.gier_kinds.specs.ExprTypes.{type_negation, type_relation, type_arithmetic, type_term, type_factor, type_primary}
use Rattle.gier_kinds.specs.Faults.{TypeFault, ListTooLong, WrongUse, WrongSubscripts, WrongCount, WrongActual, WrongCondition}
use Rattle.gier_kinds.specs.Faults.{WrongBranches, WrongOperand, TypeFaults, falls, on_symbol}
use Rattle.gier_kinds.specs.Types.{ExprType, OfInteger, OfBoolean, agree, is_known}

-- lists go up to these lengths; the comma before what is beyond has a fault
abbrev pub most_subscripts : ℕ
most_subscripts = 30

abbrev pub most_actuals : ℕ
most_actuals = 255

abbrev pub too_long : (most before : ℕ) → List TypeFault
too_long most before = falls (before == most) ListTooLong

-- a wrong use falls on the identifier
abbrev pub use_fault : (allowed : Bool) → Name → TypeFaults
use_fault allowed x = on_symbol x.line (falls (not allowed) WrongUse)

-- an operator with an operand of another type than it takes
abbrev pub operand_fault : (taken operand : ExprType) → (line : ℕ) → TypeFaults
operand_fault taken t line = on_symbol line (falls (not (agree taken t)) WrongOperand)

abbrev pub operands_fault : (taken left right : ExprType) → (line : ℕ) → TypeFaults
operands_fault taken a b line = on_symbol line (falls (not (agree taken a && agree taken b)) WrongOperand)

-- the word before a condition
abbrev pub condition_fault : ExprType → (line : ℕ) → TypeFaults
condition_fault t line = on_symbol line (falls (not (agree OfBoolean t)) WrongCondition)

-- a subscript that isn't integer, on the symbol before it
abbrev pub subscript_fault : ExprType → List TypeFault
subscript_fault t = falls (not (agree OfInteger t)) WrongSubscripts

-- another number of subscripts than that of the declared array, or than one for a switch
abbrev pub is_other_number : Kind → (declared subscripts : ℕ) → Bool
is_other_number IntegerArray declared n = not (n == declared)
is_other_number BooleanArray declared n = not (n == declared)
is_other_number Switch declared n = not (n == 1)
is_other_number SwitchFormal declared n = not (n == 1)
is_other_number kind declared n = false

-- a call stands in an expression or is a statement
pub data CallPlace : Type 0 where
  InExpression : CallPlace
  AsStatement : CallPlace

abbrev pub may_stand : CallPlace → Described → Bool
may_stand InExpression d = is_known (alone_type d.kind d.count)
may_stand AsStatement d = is_statement d.kind d.count

abbrev pub may_be_called : CallPlace → Described → Bool
may_be_called InExpression d = is_known (called_type d.kind d.count)
may_be_called AsStatement d = is_called_statement d.kind d.count

abbrev pub actual_fault : (fits : Bool) → List TypeFault
actual_fault fits = falls (not fits) WrongActual

abbrev pub wanted_of : CallPlace → Described → Wanted
wanted_of place d = wanted_by (may_be_called place d) (known_formals d)

-- an actual that is an identifier alone has no faults of its own
abbrev pub unless_alone : Option Name → TypeFaults → TypeFaults
unless_alone None faults = faults
unless_alone (Some x) faults = []

abbrev mutual
  pub faults_expr : Scopes → Expr → TypeFaults
  faults_expr at (OneSimple s) = faults_simple at s
  faults_expr at (IfExpr l c m s n e) =
      condition_fault (type_expr at c) l ++ faults_expr at c ++ faults_simple at s
      ++ on_symbol n (falls (not (agree (type_simple at s) (type_expr at e))) WrongBranches) ++ faults_expr at e

  pub faults_simple : Scopes → Simple → TypeFaults
  faults_simple at (OneImplication i) = faults_implication at i
  faults_simple at (Equivalent s l i) =
      faults_simple at s ++ operands_fault OfBoolean (type_simple at s) (type_implication at i) l ++ faults_implication at i

  pub faults_implication : Scopes → Implication → TypeFaults
  faults_implication at (OneDisjunction d) = faults_disjunction at d
  faults_implication at (Implies i l d) =
      faults_implication at i ++ operands_fault OfBoolean (type_implication at i) (type_disjunction at d) l
      ++ faults_disjunction at d

  pub faults_disjunction : Scopes → Disjunction → TypeFaults
  faults_disjunction at (OneConjunction c) = faults_conjunction at c
  faults_disjunction at (Either d l c) =
      faults_disjunction at d ++ operands_fault OfBoolean (type_disjunction at d) (type_conjunction at c) l
      ++ faults_conjunction at c

  pub faults_conjunction : Scopes → Conjunction → TypeFaults
  faults_conjunction at (OneNegation n) = faults_negation at n
  faults_conjunction at (Both c l n) =
      faults_conjunction at c ++ operands_fault OfBoolean (type_conjunction at c) (type_negation at n) l ++ faults_negation at n

  pub faults_negation : Scopes → Negation → TypeFaults
  faults_negation at (OneRelation r) = faults_relation at r
  faults_negation at (Negated l r) = operand_fault OfBoolean (type_relation at r) l ++ faults_relation at r

  pub faults_relation : Scopes → Relation → TypeFaults
  faults_relation at (OneArithmetic a) = faults_arithmetic at a
  faults_relation at (Compared a o l b) =
      faults_arithmetic at a ++ operands_fault OfInteger (type_arithmetic at a) (type_arithmetic at b) l ++ faults_arithmetic at b

  pub faults_arithmetic : Scopes → Arithmetic → TypeFaults
  faults_arithmetic at (OneTerm t) = faults_term at t
  faults_arithmetic at (Signed o l t) = operand_fault OfInteger (type_term at t) l ++ faults_term at t
  faults_arithmetic at (Summed a o l t) =
      faults_arithmetic at a ++ operands_fault OfInteger (type_arithmetic at a) (type_term at t) l ++ faults_term at t

  pub faults_term : Scopes → Term → TypeFaults
  faults_term at (OneFactor f) = faults_factor at f
  faults_term at (Multiplied t o l f) =
      faults_term at t ++ operands_fault OfInteger (type_term at t) (type_factor at f) l ++ faults_factor at f

  pub faults_factor : Scopes → Factor → TypeFaults
  faults_factor at (OnePrimary p) = faults_primary at p
  faults_factor at (Raised f l p) =
      faults_factor at f ++ operands_fault OfInteger (type_factor at f) (type_primary at p) l ++ faults_primary at p

  pub faults_primary : Scopes → Primary → TypeFaults
  faults_primary at (Numeral n l) = []
  faults_primary at (Logical b l) = []
  faults_primary at (Bracketed l e m) = faults_expr at e
  faults_primary at (OneCall c) = faults_call InExpression at c
  faults_primary at (OneElement e) = faults_element element_type at e

  -- a number of actuals that differs falls on the parenthesis, as does a first actual that doesn't fit
  pub faults_call : CallPlace → Scopes → Call → TypeFaults
  faults_call place at (Alone x) = use_fault (may_stand place (at x.number)) x
  faults_call place at (WithActuals x l a more m) =
      let d = at x.number in
      let wanted = wanted_of place d in
      use_fault (may_be_called place d) x
      ++ on_symbol l (falls (is_other_count (known_formals d) (suc (count_actuals more))) WrongCount
      ++ actual_fault (actual_fits at wanted a))
      ++ faults_actual at a ++ faults_actuals at (wanted_behind wanted) 1 more

  pub faults_actual : Scopes → Actual → TypeFaults
  faults_actual at (OneExpr e) = unless_alone (name_alone e) (faults_expr at e)
  faults_actual at (AString l bs m) = []

  -- behind so many actuals
  pub faults_actuals : Scopes → Wanted → (before : ℕ) → Actuals → TypeFaults
  faults_actuals at wanted before NoActuals = []
  faults_actuals at wanted before (MoreActuals l a more) =
      on_symbol l (too_long most_actuals before ++ actual_fault (actual_fits at wanted a))
      ++ faults_actual at a ++ faults_actuals at (wanted_behind wanted) (suc before) more

  -- the type tells which identifiers may have subscripts
  pub faults_element : (Kind → ExprType) → Scopes → Element → TypeFaults
  faults_element allowed at (Subscripted x l e es m) =
      let d = at x.number in
      use_fault (is_known (allowed d.kind)) x
      ++ on_symbol l (falls (is_other_number d.kind d.count (suc (count_exprs es))) WrongSubscripts
      ++ subscript_fault (type_expr at e))
      ++ faults_expr at e ++ faults_subscripts at 1 es

  -- behind so many subscripts
  pub faults_subscripts : Scopes → (before : ℕ) → Exprs → TypeFaults
  faults_subscripts at before NoExprs = []
  faults_subscripts at before (MoreExprs l e es) =
      on_symbol l (too_long most_subscripts before ++ subscript_fault (type_expr at e))
      ++ faults_expr at e ++ faults_subscripts at (suc before) es
