-- The lines of the first and of the last symbol of a part. A statement may have no symbol: then the line that is given counts.
use Rattle.std.specs.Prelude.{ℕ, List, [], ◌∷◌, None, Some}
use Rattle.gier_tree.specs.Trees.{Expr, OneSimple, IfExpr, Simple, OneImplication, Equivalent, Implication, OneDisjunction}
use Rattle.gier_tree.specs.Trees.{Implies, Disjunction, OneConjunction, Either, Conjunction, OneNegation, Both, Negation}
use Rattle.gier_tree.specs.Trees.{OneRelation, Negated, Relation, OneArithmetic, Compared, Arithmetic, OneTerm, Signed, Summed}
use Rattle.gier_tree.specs.Trees.{Term, OneFactor, Multiplied, Factor, OnePrimary, Raised, Primary, Numeral, Logical, Bracketed}
use Rattle.gier_tree.specs.Trees.{OneCall, OneElement, Call, Alone, WithActuals, Element, Subscripted, Actual, OneExpr, AString}
use Rattle.gier_tree.specs.Trees.{Exprs, NoExprs, MoreExprs, NextName, Names, MkNames, ValuePart, NoValues, ValueList}
use Rattle.gier_tree.specs.Trees.{Specification, Heading, MkHeading, LabelPlace, LeftSide, OneName, LeftElement, Turns, OneValue}
use Rattle.gier_tree.specs.Trees.{StepUntil, WhileTrue, Group, MkBlock, MkCompound, Statement, OneUnconditional, OneConditional}
use Rattle.gier_tree.specs.Trees.{OneLoop, Unconditional, MkUnconditional, Basic, OneGroup, Assign, Jump, CallStatement, Dummy}
use Rattle.gier_tree.specs.Trees.{Conditional, IfThen, IfElse, IfLoop, Loop, MkLoop, Program, MkProgram}

abbrev mutual
  pub first_expr : Expr → ℕ
  first_expr (OneSimple s) = first_simple s
  first_expr (IfExpr l c m s n e) = l

  pub first_simple : Simple → ℕ
  first_simple (OneImplication i) = first_implication i
  first_simple (Equivalent s l i) = first_simple s

  pub first_implication : Implication → ℕ
  first_implication (OneDisjunction d) = first_disjunction d
  first_implication (Implies i l d) = first_implication i

  pub first_disjunction : Disjunction → ℕ
  first_disjunction (OneConjunction c) = first_conjunction c
  first_disjunction (Either d l c) = first_disjunction d

  pub first_conjunction : Conjunction → ℕ
  first_conjunction (OneNegation n) = first_negation n
  first_conjunction (Both c l n) = first_conjunction c

  pub first_negation : Negation → ℕ
  first_negation (OneRelation r) = first_relation r
  first_negation (Negated l r) = l

  pub first_relation : Relation → ℕ
  first_relation (OneArithmetic a) = first_arithmetic a
  first_relation (Compared a o l b) = first_arithmetic a

  pub first_arithmetic : Arithmetic → ℕ
  first_arithmetic (OneTerm t) = first_term t
  first_arithmetic (Signed o l t) = l
  first_arithmetic (Summed a o l t) = first_arithmetic a

  pub first_term : Term → ℕ
  first_term (OneFactor f) = first_factor f
  first_term (Multiplied t o l f) = first_term t

  pub first_factor : Factor → ℕ
  first_factor (OnePrimary p) = first_primary p
  first_factor (Raised f l p) = first_factor f

  pub first_primary : Primary → ℕ
  first_primary (Numeral n l) = l
  first_primary (Logical b l) = l
  first_primary (Bracketed l e m) = l
  first_primary (OneCall c) = first_call c
  first_primary (OneElement e) = first_element e

  pub first_call : Call → ℕ
  first_call (Alone x) = x.line
  first_call (WithActuals x l a more m) = x.line

  pub first_element : Element → ℕ
  first_element (Subscripted x l e es m) = x.line

abbrev pub last_call : Call → ℕ
last_call (Alone x) = x.line
last_call (WithActuals x l a more m) = m

abbrev pub last_element : Element → ℕ
last_element (Subscripted x l e es m) = m

abbrev pub last_primary : Primary → ℕ
last_primary (Numeral n l) = l
last_primary (Logical b l) = l
last_primary (Bracketed l e m) = m
last_primary (OneCall c) = last_call c
last_primary (OneElement e) = last_element e

abbrev pub last_factor : Factor → ℕ
last_factor (OnePrimary p) = last_primary p
last_factor (Raised f l p) = last_primary p

abbrev pub last_term : Term → ℕ
last_term (OneFactor f) = last_factor f
last_term (Multiplied t o l f) = last_factor f

abbrev pub last_arithmetic : Arithmetic → ℕ
last_arithmetic (OneTerm t) = last_term t
last_arithmetic (Signed o l t) = last_term t
last_arithmetic (Summed a o l t) = last_term t

abbrev pub last_relation : Relation → ℕ
last_relation (OneArithmetic a) = last_arithmetic a
last_relation (Compared a o l b) = last_arithmetic b

abbrev pub last_negation : Negation → ℕ
last_negation (OneRelation r) = last_relation r
last_negation (Negated l r) = last_relation r

abbrev pub last_conjunction : Conjunction → ℕ
last_conjunction (OneNegation n) = last_negation n
last_conjunction (Both c l n) = last_negation n

abbrev pub last_disjunction : Disjunction → ℕ
last_disjunction (OneConjunction c) = last_conjunction c
last_disjunction (Either d l c) = last_conjunction c

abbrev pub last_implication : Implication → ℕ
last_implication (OneDisjunction d) = last_disjunction d
last_implication (Implies i l d) = last_disjunction d

abbrev pub last_simple : Simple → ℕ
last_simple (OneImplication i) = last_implication i
last_simple (Equivalent s l i) = last_implication i

abbrev pub last_expr : Expr → ℕ
last_expr (OneSimple s) = last_simple s
last_expr (IfExpr l c m s n e) = last_expr e

abbrev pub first_actual : Actual → ℕ
first_actual (OneExpr e) = first_expr e
first_actual (AString l bs m) = l

abbrev pub last_actual : Actual → ℕ
last_actual (OneExpr e) = last_expr e
last_actual (AString l bs m) = m

-- elements of for lists
abbrev pub first_turns : Turns → ℕ
first_turns (OneValue e) = first_expr e
first_turns (StepUntil a l b m c) = first_expr a
first_turns (WhileTrue e l f) = first_expr e

abbrev pub last_turns : Turns → ℕ
last_turns (OneValue e) = last_expr e
last_turns (StepUntil a l b m c) = last_expr c
last_turns (WhileTrue e l f) = last_expr f

-- identifiers
abbrev pub first_name : Names → ℕ
first_name (MkNames x ns) = x.line

abbrev pub last_next_name : (line : ℕ) → List NextName → ℕ
last_next_name line [] = line
last_next_name line (n ∷ ns) = last_next_name n.name.line ns

abbrev pub last_name : Names → ℕ
last_name (MkNames x ns) = last_next_name x.line ns

abbrev pub last_exprs : (line : ℕ) → Exprs → ℕ
last_exprs line NoExprs = line
last_exprs line (MoreExprs l e es) = last_exprs (last_expr e) es

-- labels, where the line behind them is known
abbrev pub first_labelled : List LabelPlace → (line : ℕ) → ℕ
first_labelled [] line = line
first_labelled (l ∷ ls) line = l.name.line

abbrev pub last_labelled : List LabelPlace → (line : ℕ) → ℕ
last_labelled [] line = line
last_labelled (l ∷ ls) line = last_labelled ls l.colon

-- statements; labels not counted
abbrev pub group_begin : Group → ℕ
group_begin (MkBlock l d m ds s ss n) = l
group_begin (MkCompound l s ss n) = l

abbrev pub group_end : Group → ℕ
group_end (MkBlock l d m ds s ss n) = n
group_end (MkCompound l s ss n) = n

abbrev pub first_left : LeftSide → ℕ
first_left (OneName x) = x.line
first_left (LeftElement e) = first_element e

abbrev pub first_basic : Basic → (line : ℕ) → ℕ
first_basic (OneGroup g) line = group_begin g
first_basic (Assign p ps e) line = first_left p.left
first_basic (Jump l e) line = l
first_basic (CallStatement c) line = first_call c
first_basic Dummy line = line

abbrev pub last_basic : Basic → (line : ℕ) → ℕ
last_basic (OneGroup g) line = group_end g
last_basic (Assign p ps e) line = last_expr e
last_basic (Jump l e) line = last_expr e
last_basic (CallStatement c) line = last_call c
last_basic Dummy line = line

-- with their labels
abbrev pub first_unconditional : Unconditional → (line : ℕ) → ℕ
first_unconditional (MkUnconditional ls b) line = first_labelled ls (first_basic b line)

abbrev pub last_unconditional : Unconditional → (line : ℕ) → ℕ
last_unconditional (MkUnconditional ls b) line = last_basic b (last_labelled ls line)

abbrev pub first_conditional : Conditional → ℕ
first_conditional (IfThen ls l e m u) = first_labelled ls l
first_conditional (IfElse ls l e m u n s) = first_labelled ls l
first_conditional (IfLoop ls l e m f) = first_labelled ls l

abbrev pub first_loop : Loop → ℕ
first_loop (MkLoop ls l x m t ts n s) = first_labelled ls l

abbrev pub first_statement : Statement → (line : ℕ) → ℕ
first_statement (OneUnconditional u) line = first_unconditional u line
first_statement (OneConditional c) line = first_conditional c
first_statement (OneLoop f) line = first_loop f

abbrev mutual
  pub last_statement : Statement → (line : ℕ) → ℕ
  last_statement (OneUnconditional u) line = last_unconditional u line
  last_statement (OneConditional c) line = last_conditional c
  last_statement (OneLoop f) line = last_loop f

  pub last_conditional : Conditional → ℕ
  last_conditional (IfThen ls l e m u) = last_unconditional u m
  last_conditional (IfElse ls l e m u n s) = last_statement s n
  last_conditional (IfLoop ls l e m f) = last_loop f

  pub last_loop : Loop → ℕ
  last_loop (MkLoop ls l x m t ts n s) = last_statement s n

-- headings
abbrev pub first_heading : Heading → ℕ
first_heading (MkHeading None l x fs m vs ss) = l
first_heading (MkHeading (Some t) l x fs m vs ss) = t.line

abbrev pub last_values : ValuePart → (line : ℕ) → ℕ
last_values NoValues line = line
last_values (ValueList l ns m) line = m

abbrev pub last_specifications : List Specification → (line : ℕ) → ℕ
last_specifications [] line = line
last_specifications (s ∷ ss) line = last_specifications ss s.semicolon

abbrev pub last_heading : Heading → ℕ
last_heading (MkHeading t l x fs m vs ss) = last_specifications ss (last_values vs m)

abbrev pub first_program : Program → ℕ
first_program (MkProgram ls g l) = first_labelled ls (group_begin g)
