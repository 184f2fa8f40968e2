-- Uses of identifiers get other numbers, in expressions and in parts of statements; a Renaming tells what number a use has.
use Rattle.std.specs.Prelude.{ℕ, List, [], ◌∷◌}
use Rattle.gier_tree.specs.Trees.{Name, Expr, OneSimple, IfExpr, Simple, OneImplication, Equivalent, Implication, OneDisjunction}
use Rattle.gier_tree.specs.Trees.{Implies, Disjunction, OneConjunction, Either, Conjunction, OneNegation, Both, Negation}
use Rattle.gier_tree.specs.Trees.{OneRelation, Negated, Relation, OneArithmetic, Compared, Arithmetic, OneTerm, Signed, Summed}
use Rattle.gier_tree.specs.Trees.{Term, OneFactor, Multiplied, Factor, OnePrimary, Raised, Primary, Numeral, Logical, Bracketed}
use Rattle.gier_tree.specs.Trees.{OneCall, OneElement, Call, Alone, WithActuals, Element, Subscripted, Actual, OneExpr, AString}
use Rattle.gier_tree.specs.Trees.{Actuals, NoActuals, MoreActuals, Exprs, NoExprs, MoreExprs, BoundPair, MkPair, NextPair}
use Rattle.gier_tree.specs.Trees.{Segment, MkSegment, NextSegment, LeftSide, OneName, LeftElement, LeftPart, Turns, OneValue}
use Rattle.gier_tree.specs.Trees.{StepUntil, WhileTrue, NextTurns}

abbrev pub Renaming : Type 0
Renaming = ℕ → ℕ

abbrev pub rename : Renaming → Name → Name
rename f x = record { number = f x.number; line = x.line }

abbrev mutual
  pub rename_expr : Renaming → Expr → Expr
  rename_expr f (OneSimple s) = OneSimple (rename_simple f s)
  rename_expr f (IfExpr l c m s n e) = IfExpr l (rename_expr f c) m (rename_simple f s) n (rename_expr f e)

  pub rename_simple : Renaming → Simple → Simple
  rename_simple f (OneImplication i) = OneImplication (rename_implication f i)
  rename_simple f (Equivalent s l i) = Equivalent (rename_simple f s) l (rename_implication f i)

  pub rename_implication : Renaming → Implication → Implication
  rename_implication f (OneDisjunction d) = OneDisjunction (rename_disjunction f d)
  rename_implication f (Implies i l d) = Implies (rename_implication f i) l (rename_disjunction f d)

  pub rename_disjunction : Renaming → Disjunction → Disjunction
  rename_disjunction f (OneConjunction c) = OneConjunction (rename_conjunction f c)
  rename_disjunction f (Either d l c) = Either (rename_disjunction f d) l (rename_conjunction f c)

  pub rename_conjunction : Renaming → Conjunction → Conjunction
  rename_conjunction f (OneNegation n) = OneNegation (rename_negation f n)
  rename_conjunction f (Both c l n) = Both (rename_conjunction f c) l (rename_negation f n)

  pub rename_negation : Renaming → Negation → Negation
  rename_negation f (OneRelation r) = OneRelation (rename_relation f r)
  rename_negation f (Negated l r) = Negated l (rename_relation f r)

  pub rename_relation : Renaming → Relation → Relation
  rename_relation f (OneArithmetic a) = OneArithmetic (rename_arithmetic f a)
  rename_relation f (Compared a o l b) = Compared (rename_arithmetic f a) o l (rename_arithmetic f b)

  pub rename_arithmetic : Renaming → Arithmetic → Arithmetic
  rename_arithmetic f (OneTerm t) = OneTerm (rename_term f t)
  rename_arithmetic f (Signed o l t) = Signed o l (rename_term f t)
  rename_arithmetic f (Summed a o l t) = Summed (rename_arithmetic f a) o l (rename_term f t)

  pub rename_term : Renaming → Term → Term
  rename_term f (OneFactor x) = OneFactor (rename_factor f x)
  rename_term f (Multiplied t o l x) = Multiplied (rename_term f t) o l (rename_factor f x)

  pub rename_factor : Renaming → Factor → Factor
  rename_factor f (OnePrimary p) = OnePrimary (rename_primary f p)
  rename_factor f (Raised x l p) = Raised (rename_factor f x) l (rename_primary f p)

  pub rename_primary : Renaming → Primary → Primary
  rename_primary f (Numeral n l) = Numeral n l
  rename_primary f (Logical b l) = Logical b l
  rename_primary f (Bracketed l e m) = Bracketed l (rename_expr f e) m
  rename_primary f (OneCall c) = OneCall (rename_call f c)
  rename_primary f (OneElement e) = OneElement (rename_element f e)

  pub rename_call : Renaming → Call → Call
  rename_call f (Alone x) = Alone (rename f x)
  rename_call f (WithActuals x l a more m) = WithActuals (rename f x) l (rename_actual f a) (rename_actuals f more) m

  pub rename_element : Renaming → Element → Element
  rename_element f (Subscripted x l e es m) = Subscripted (rename f x) l (rename_expr f e) (rename_exprs f es) m

  pub rename_actual : Renaming → Actual → Actual
  rename_actual f (OneExpr e) = OneExpr (rename_expr f e)
  rename_actual f (AString l bs m) = AString l bs m

  pub rename_actuals : Renaming → Actuals → Actuals
  rename_actuals f NoActuals = NoActuals
  rename_actuals f (MoreActuals l a more) = MoreActuals l (rename_actual f a) (rename_actuals f more)

  pub rename_exprs : Renaming → Exprs → Exprs
  rename_exprs f NoExprs = NoExprs
  rename_exprs f (MoreExprs l e es) = MoreExprs l (rename_expr f e) (rename_exprs f es)

abbrev pub rename_pair : Renaming → BoundPair → BoundPair
rename_pair f (MkPair a l b) = MkPair (rename_expr f a) l (rename_expr f b)

abbrev pub rename_pairs : Renaming → List NextPair → List NextPair
rename_pairs f [] = []
rename_pairs f (p ∷ ps) = record { comma = p.comma; pair = rename_pair f p.pair } ∷ rename_pairs f ps

-- the bounds are uses, the identifiers before them aren't
abbrev pub rename_segment : Renaming → Segment → Segment
rename_segment f (MkSegment ns l p ps m) = MkSegment ns l (rename_pair f p) (rename_pairs f ps) m

abbrev pub rename_segments : Renaming → List NextSegment → List NextSegment
rename_segments f [] = []
rename_segments f (s ∷ ss) = record { comma = s.comma; segment = rename_segment f s.segment } ∷ rename_segments f ss

abbrev pub rename_left : Renaming → LeftSide → LeftSide
rename_left f (OneName x) = OneName (rename f x)
rename_left f (LeftElement e) = LeftElement (rename_element f e)

abbrev pub rename_part : Renaming → LeftPart → LeftPart
rename_part f p = record { left = rename_left f p.left; becomes = p.becomes }

abbrev pub rename_turns : Renaming → Turns → Turns
rename_turns f (OneValue e) = OneValue (rename_expr f e)
rename_turns f (StepUntil a l b m c) = StepUntil (rename_expr f a) l (rename_expr f b) m (rename_expr f c)
rename_turns f (WhileTrue e l g) = WhileTrue (rename_expr f e) l (rename_expr f g)

abbrev pub rename_next_turns : Renaming → List NextTurns → List NextTurns
rename_next_turns f [] = []
rename_next_turns f (t ∷ ts) = record { comma = t.comma; turns = rename_turns f t.turns } ∷ rename_next_turns f ts
