-- The identifiers that an expression, or another part of a statement, uses, in the order of the text (Report 3).
use Rattle.std.specs.Prelude.{◌++◌, List, [], ◌∷◌}
use Rattle.std.specs.List.{flat_map}
use Rattle.gier_tree.specs.Trees.{Name, Expr, OneSimple, IfExpr, Simple, OneImplication, Equivalent, Implication, OneDisjunction}
use Rattle.gier_tree.specs.Trees.{Implies, Disjunction, OneConjunction, Either, Conjunction, OneNegation, Both, Negation}
use Rattle.gier_tree.specs.Trees.{OneRelation, Negated, Relation, OneArithmetic, Compared, Arithmetic, OneTerm, Signed, Summed}
use Rattle.gier_tree.specs.Trees.{Term, OneFactor, Multiplied, Factor, OnePrimary, Raised, Primary, Numeral, Logical, Bracketed}
use Rattle.gier_tree.specs.Trees.{OneCall, OneElement, Call, Alone, WithActuals, Element, Subscripted, Actual, OneExpr, AString}
use Rattle.gier_tree.specs.Trees.{Actuals, NoActuals, MoreActuals, Exprs, NoExprs, MoreExprs, BoundPair, MkPair, NextPair}
use Rattle.gier_tree.specs.Trees.{LeftSide, OneName, LeftElement, LeftPart, Turns, OneValue, StepUntil, WhileTrue, NextTurns}

abbrev mutual
  pub uses_expr : Expr → List Name
  uses_expr (OneSimple s) = uses_simple s
  uses_expr (IfExpr l c m s n e) = uses_expr c ++ uses_simple s ++ uses_expr e

  pub uses_simple : Simple → List Name
  uses_simple (OneImplication i) = uses_implication i
  uses_simple (Equivalent s l i) = uses_simple s ++ uses_implication i

  pub uses_implication : Implication → List Name
  uses_implication (OneDisjunction d) = uses_disjunction d
  uses_implication (Implies i l d) = uses_implication i ++ uses_disjunction d

  pub uses_disjunction : Disjunction → List Name
  uses_disjunction (OneConjunction c) = uses_conjunction c
  uses_disjunction (Either d l c) = uses_disjunction d ++ uses_conjunction c

  pub uses_conjunction : Conjunction → List Name
  uses_conjunction (OneNegation n) = uses_negation n
  uses_conjunction (Both c l n) = uses_conjunction c ++ uses_negation n

  pub uses_negation : Negation → List Name
  uses_negation (OneRelation r) = uses_relation r
  uses_negation (Negated l r) = uses_relation r

  pub uses_relation : Relation → List Name
  uses_relation (OneArithmetic a) = uses_arithmetic a
  uses_relation (Compared a o l b) = uses_arithmetic a ++ uses_arithmetic b

  pub uses_arithmetic : Arithmetic → List Name
  uses_arithmetic (OneTerm t) = uses_term t
  uses_arithmetic (Signed o l t) = uses_term t
  uses_arithmetic (Summed a o l t) = uses_arithmetic a ++ uses_term t

  pub uses_term : Term → List Name
  uses_term (OneFactor f) = uses_factor f
  uses_term (Multiplied t o l f) = uses_term t ++ uses_factor f

  pub uses_factor : Factor → List Name
  uses_factor (OnePrimary p) = uses_primary p
  uses_factor (Raised f l p) = uses_factor f ++ uses_primary p

  pub uses_primary : Primary → List Name
  uses_primary (Numeral n l) = []
  uses_primary (Logical b l) = []
  uses_primary (Bracketed l e m) = uses_expr e
  uses_primary (OneCall c) = uses_call c
  uses_primary (OneElement e) = uses_element e

  pub uses_call : Call → List Name
  uses_call (Alone x) = x ∷ []
  uses_call (WithActuals x l a more m) = x ∷ uses_actual a ++ uses_actuals more

  pub uses_element : Element → List Name
  uses_element (Subscripted x l e es m) = x ∷ uses_expr e ++ uses_exprs es

  pub uses_actual : Actual → List Name
  uses_actual (OneExpr e) = uses_expr e
  uses_actual (AString l bs m) = []

  pub uses_actuals : Actuals → List Name
  uses_actuals NoActuals = []
  uses_actuals (MoreActuals l a more) = uses_actual a ++ uses_actuals more

  pub uses_exprs : Exprs → List Name
  uses_exprs NoExprs = []
  uses_exprs (MoreExprs l e es) = uses_expr e ++ uses_exprs es

-- bound pairs (5.2)
abbrev pub uses_pair : BoundPair → List Name
uses_pair (MkPair a l b) = uses_expr a ++ uses_expr b

abbrev pub uses_pairs : BoundPair → List NextPair → List Name
uses_pairs p ps = uses_pair p ++ flat_map (λ next. uses_pair next.pair) ps

-- left parts (4.2)
abbrev pub uses_left : LeftSide → List Name
uses_left (OneName x) = x ∷ []
uses_left (LeftElement e) = uses_element e

abbrev pub uses_parts : LeftPart → List LeftPart → List Name
uses_parts p ps = uses_left p.left ++ flat_map (λ q. uses_left q.left) ps

-- elements of a for list (4.6)
abbrev pub uses_turns : Turns → List Name
uses_turns (OneValue e) = uses_expr e
uses_turns (StepUntil a l b m c) = uses_expr a ++ uses_expr b ++ uses_expr c
uses_turns (WhileTrue e l c) = uses_expr e ++ uses_expr c

abbrev pub uses_list : Turns → List NextTurns → List Name
uses_list t ts = uses_turns t ++ flat_map (λ next. uses_turns next.turns) ts
