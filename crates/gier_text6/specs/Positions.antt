-- How many symbols of text 5 stand before what follows a part of an expression, where so many stand before the part.
use Rattle.std.specs.Prelude.{ℕ, suc, List, [], ◌∷◌, Option, None, Some}
use Rattle.gier_tree.specs.declared.kind.Kind.{Kind}
use Rattle.gier_tree.specs.declared.kind.Kind.TheVariants.{IntegerArray, BooleanArray, Procedure, IntegerProcedure}
use Rattle.gier_tree.specs.declared.kind.Kind.TheVariants.{BooleanProcedure}
use Rattle.gier_tree.specs.Places.{Placed, Places}
use Rattle.gier_tree.specs.Written.{name_alone}
use Rattle.gier_tree.specs.Trees.{Name, Byte, Expr, OneSimple, IfExpr, Simple, OneImplication, Equivalent, Implication}
use Rattle.gier_tree.specs.Trees.{OneDisjunction, Implies, Disjunction, OneConjunction, Either, Conjunction, OneNegation, Both}
use Rattle.gier_tree.specs.Trees.{Negation, OneRelation, Negated, Relation, OneArithmetic, Compared, Arithmetic, OneTerm}
use Rattle.gier_tree.specs.Trees.{Signed, Summed, Term, OneFactor, Multiplied, Factor, OnePrimary, Raised, Primary, Numeral}
use Rattle.gier_tree.specs.Trees.{Logical, Bracketed, OneCall, OneElement, Call, Alone, WithActuals, Element, Subscripted}
use Rattle.gier_tree.specs.Trees.{Actual, OneExpr, AString, Actuals, NoActuals, MoreActuals, Exprs, NoExprs, MoreExprs}

-- arrays and procedures have a count
abbrev pub after_count : Kind → ℕ → ℕ
after_count IntegerArray n = suc n
after_count BooleanArray n = suc n
after_count Procedure n = suc n
after_count IntegerProcedure n = suc n
after_count BooleanProcedure n = suc n
after_count kind n = n

abbrev pub after_use : Placed → ℕ → ℕ
after_use a n = after_count a.what.kind (suc (suc n))

-- an identifier alone as an actual, or another expression
abbrev pub after_bytes : List Byte → ℕ → ℕ
after_bytes [] n = n
after_bytes (b ∷ bs) n = after_bytes bs (suc n)

abbrev pub after_by : Option Name → Places → (all start : ℕ) → ℕ
after_by None p m n = m
after_by (Some x) p m n = after_use (p x.number) n

abbrev mutual
  pub after_expr : Places → Expr → ℕ → ℕ
  after_expr p (OneSimple s) n = after_simple p s n
  after_expr p (IfExpr l c m s j e) n = suc (after_expr p e (suc (after_simple p s (suc (after_expr p c (suc (suc n)))))))

  pub after_simple : Places → Simple → ℕ → ℕ
  after_simple p (OneImplication y) n = after_implication p y n
  after_simple p (Equivalent x i y) n = after_implication p y (suc (after_simple p x n))

  pub after_implication : Places → Implication → ℕ → ℕ
  after_implication p (OneDisjunction y) n = after_disjunction p y n
  after_implication p (Implies x i y) n = after_disjunction p y (suc (after_implication p x n))

  pub after_disjunction : Places → Disjunction → ℕ → ℕ
  after_disjunction p (OneConjunction y) n = after_conjunction p y n
  after_disjunction p (Either x i y) n = after_conjunction p y (suc (after_disjunction p x n))

  pub after_conjunction : Places → Conjunction → ℕ → ℕ
  after_conjunction p (OneNegation y) n = after_negation p y n
  after_conjunction p (Both x i y) n = after_negation p y (suc (after_conjunction p x n))

  pub after_negation : Places → Negation → ℕ → ℕ
  after_negation p (OneRelation y) n = after_relation p y n
  after_negation p (Negated i y) n = after_relation p y (suc n)

  pub after_relation : Places → Relation → ℕ → ℕ
  after_relation p (OneArithmetic y) n = after_arithmetic p y n
  after_relation p (Compared x o i y) n = after_arithmetic p y (suc (after_arithmetic p x n))

  pub after_arithmetic : Places → Arithmetic → ℕ → ℕ
  after_arithmetic p (OneTerm y) n = after_term p y n
  after_arithmetic p (Signed o i y) n = after_term p y (suc n)
  after_arithmetic p (Summed x o i y) n = after_term p y (suc (after_arithmetic p x n))

  pub after_term : Places → Term → ℕ → ℕ
  after_term p (OneFactor y) n = after_factor p y n
  after_term p (Multiplied x o i y) n = after_factor p y (suc (after_term p x n))

  pub after_factor : Places → Factor → ℕ → ℕ
  after_factor p (OnePrimary y) n = after_primary p y n
  after_factor p (Raised x i y) n = after_primary p y (suc (after_factor p x n))

  pub after_primary : Places → Primary → ℕ → ℕ
  after_primary p (Numeral v l) n = suc n
  after_primary p (Logical b l) n = suc n
  after_primary p (Bracketed l e m) n = suc (after_expr p e (suc n))
  after_primary p (OneCall c) n = after_call p c n
  after_primary p (OneElement e) n = after_element p e n

  pub after_call : Places → Call → ℕ → ℕ
  after_call p (Alone x) n = after_use (p x.number) n
  after_call p (WithActuals x l a more m) n = suc (after_actuals p more (after_actual p a (suc (after_use (p x.number) n))))

  pub after_actual : Places → Actual → ℕ → ℕ
  after_actual p (OneExpr e) n = suc (after_by (name_alone e) p (after_expr p e (suc n)) (suc n))
  after_actual p (AString l bs m) n = suc (suc (after_bytes bs (suc (suc n))))

  pub after_actuals : Places → Actuals → ℕ → ℕ
  after_actuals p NoActuals n = n
  after_actuals p (MoreActuals l a more) n = after_actuals p more (after_actual p a (suc n))

  pub after_element : Places → Element → ℕ → ℕ
  after_element p (Subscripted x l e es m) n =
      suc (after_subscripts p es (suc (after_expr p e (suc (suc (after_use (p x.number) n))))))

  pub after_subscripts : Places → Exprs → ℕ → ℕ
  after_subscripts p NoExprs n = n
  after_subscripts p (MoreExprs l e es) n = after_subscripts p es (suc (after_expr p e (suc (suc n))))
