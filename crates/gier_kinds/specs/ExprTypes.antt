-- The type of each expression (Report 3.3, 3.4, 3.5). An operator has the type of its results, also where an operand is wrong.
use Rattle.gier_tree.specs.Described.{Scopes}
use Rattle.gier_tree.specs.Trees.{Expr, OneSimple, IfExpr, Simple, OneImplication, Equivalent, Implication, OneDisjunction}
use Rattle.gier_tree.specs.Trees.{Implies, Disjunction, OneConjunction, Either, Conjunction, OneNegation, Both, Negation}
use Rattle.gier_tree.specs.Trees.{OneRelation, Negated, Relation, OneArithmetic, Compared, Arithmetic, OneTerm, Signed, Summed}
use Rattle.gier_tree.specs.Trees.{Term, OneFactor, Multiplied, Factor, OnePrimary, Raised, Primary, Numeral, Logical, Bracketed}
use Rattle.gier_tree.specs.Trees.{OneCall, OneElement, Call, Alone, WithActuals, Element, Subscripted}
use Rattle.gier_kinds.specs.AllowedUses.{alone_type, called_type, element_type}
use Rattle.gier_kinds.specs.Types.{ExprType, OfInteger, OfBoolean, either_type}

abbrev pub type_call : Scopes → Call → ExprType
type_call at (Alone x) = alone_type (at x.number).kind (at x.number).count
type_call at (WithActuals x l a more m) = called_type (at x.number).kind (at x.number).count

abbrev pub type_element : Scopes → Element → ExprType
type_element at (Subscripted x l e es m) = element_type (at x.number).kind

abbrev mutual
  pub type_expr : Scopes → Expr → ExprType
  type_expr at (OneSimple s) = type_simple at s
  type_expr at (IfExpr l c m s n e) = either_type (type_simple at s) (type_expr at e)

  pub type_simple : Scopes → Simple → ExprType
  type_simple at (OneImplication i) = type_implication at i
  type_simple at (Equivalent s l i) = OfBoolean

  pub type_implication : Scopes → Implication → ExprType
  type_implication at (OneDisjunction d) = type_disjunction at d
  type_implication at (Implies i l d) = OfBoolean

  pub type_disjunction : Scopes → Disjunction → ExprType
  type_disjunction at (OneConjunction c) = type_conjunction at c
  type_disjunction at (Either d l c) = OfBoolean

  pub type_conjunction : Scopes → Conjunction → ExprType
  type_conjunction at (OneNegation n) = type_negation at n
  type_conjunction at (Both c l n) = OfBoolean

  pub type_negation : Scopes → Negation → ExprType
  type_negation at (OneRelation r) = type_relation at r
  type_negation at (Negated l r) = OfBoolean

  pub type_relation : Scopes → Relation → ExprType
  type_relation at (OneArithmetic a) = type_arithmetic at a
  type_relation at (Compared a o l b) = OfBoolean

  pub type_arithmetic : Scopes → Arithmetic → ExprType
  type_arithmetic at (OneTerm t) = type_term at t
  type_arithmetic at (Signed o l t) = OfInteger
  type_arithmetic at (Summed a o l t) = OfInteger

  pub type_term : Scopes → Term → ExprType
  type_term at (OneFactor f) = type_factor at f
  type_term at (Multiplied t o l f) = OfInteger

  pub type_factor : Scopes → Factor → ExprType
  type_factor at (OnePrimary p) = type_primary at p
  type_factor at (Raised f l p) = OfInteger

  pub type_primary : Scopes → Primary → ExprType
  type_primary at (Numeral n l) = OfInteger
  type_primary at (Logical b l) = OfBoolean
  type_primary at (Bracketed l e m) = type_expr at e
  type_primary at (OneCall c) = type_call at c
  type_primary at (OneElement e) = type_element at e
