-- How many working words a part of a program needs beside the words of its activation. What an identifier is, and which
-- formals are by value, the scopes tell.
use Rattle.std.specs.Prelude.{ℕ, suc, ◌+◌, ◌*◌, max, List, [], ◌∷◌}
use Rattle.gier_tree.specs.declared.kind.Kind.{Kind}
use Rattle.gier_tree.specs.declared.kind.Kind.TheVariants.{Switch, Procedure, IntegerProcedure, BooleanProcedure, IntegerValue}
use Rattle.gier_tree.specs.declared.kind.Kind.TheVariants.{BooleanValue, SwitchFormal, ProcedureFormal, IntegerProcedureFormal}
use Rattle.gier_tree.specs.declared.kind.Kind.TheVariants.{BooleanProcedureFormal}
use Rattle.gier_tree.specs.Described.{Scopes, turn_scopes}
use Rattle.gier_tree.specs.Trees.{Expr, OneSimple, IfExpr, Simple, OneImplication, Equivalent, Implication, OneDisjunction}
use Rattle.gier_tree.specs.Trees.{Implies, Disjunction, OneConjunction, Either, Conjunction, OneNegation, Both, Negation}
use Rattle.gier_tree.specs.Trees.{OneRelation, Negated, Relation, OneArithmetic, Compared, Arithmetic, OneTerm, Signed, Summed}
use Rattle.gier_tree.specs.Trees.{Term, OneFactor, Multiplied, Factor, OnePrimary, Raised, Primary, Numeral, Logical, Bracketed}
use Rattle.gier_tree.specs.Trees.{OneCall, OneElement, Call, Alone, WithActuals, Element, Subscripted, Actual, OneExpr, AString}
use Rattle.gier_tree.specs.Trees.{Actuals, NoActuals, MoreActuals, Exprs, NoExprs, MoreExprs, BoundPair, MkPair, NextPair}
use Rattle.gier_tree.specs.Trees.{Segment, MkSegment, NextSegment, LeftSide, OneName, LeftElement, LeftPart, Turns, OneValue}
use Rattle.gier_tree.specs.Trees.{StepUntil, WhileTrue, NextTurns, Declaration, DeclareArrays, Declarations, NoDeclarations}
use Rattle.gier_tree.specs.Trees.{MoreDeclarations, Group, MkBlock, MkCompound, Statements, NoStatements, MoreStatements}
use Rattle.gier_tree.specs.Trees.{Statement, OneUnconditional, OneConditional, OneLoop, Unconditional, MkUnconditional, Basic}
use Rattle.gier_tree.specs.Trees.{OneGroup, Assign, Jump, CallStatement, Dummy, Conditional, IfThen, IfElse, IfLoop, Loop, MkLoop}

abbrev pub count_exprs : Exprs → ℕ
count_exprs NoExprs = 0
count_exprs (MoreExprs l e es) = suc (count_exprs es)

abbrev pub count_actuals : Actuals → ℕ
count_actuals NoActuals = 0
count_actuals (MoreActuals l a more) = suc (count_actuals more)

-- of the words behind an array's identifier: one, one for each subscript, and those of each subscript behind the ones before it
abbrev pub element_need : Kind → (count first all : ℕ) → ℕ
element_need Switch count first all = first
element_need SwitchFormal count first all = first
element_need kind count first all = max (1 + count) all

-- of a call with so many actuals, by what is called: those by value stand behind the ones before them
abbrev pub call_need : Kind → (count by_value greatest : ℕ) → ℕ
call_need Procedure count by_value greatest = max (2 * count) by_value
call_need IntegerProcedure count by_value greatest = max (2 * count) by_value
call_need BooleanProcedure count by_value greatest = max (2 * count) by_value
call_need ProcedureFormal count by_value greatest = 2 * count
call_need IntegerProcedureFormal count by_value greatest = 2 * count
call_need BooleanProcedureFormal count by_value greatest = 2 * count
call_need kind count by_value greatest = greatest

-- of an actual for a formal of this kind, where so many words are taken before it
abbrev pub value_need : Kind → (before need : ℕ) → ℕ
value_need IntegerValue before need = before + need
value_need BooleanValue before need = before + need
value_need kind before need = 0

abbrev pub first_need : List Kind → (before need : ℕ) → ℕ
first_need [] before need = 0
first_need (kind ∷ kinds) before need = value_need kind before need

abbrev pub other_kinds : List Kind → List Kind
other_kinds [] = []
other_kinds (kind ∷ kinds) = kinds

abbrev mutual
  pub need_expr : Scopes → Expr → ℕ
  need_expr scopes (OneSimple s) = need_simple scopes s
  need_expr scopes (IfExpr l c m s n e) = max (need_expr scopes c) (max (need_simple scopes s) (need_expr scopes e))

  pub need_simple : Scopes → Simple → ℕ
  need_simple scopes (OneImplication i) = need_implication scopes i
  need_simple scopes (Equivalent s l i) = max (need_simple scopes s) (1 + need_implication scopes i)

  pub need_implication : Scopes → Implication → ℕ
  need_implication scopes (OneDisjunction d) = need_disjunction scopes d
  need_implication scopes (Implies i l d) = max (need_implication scopes i) (1 + need_disjunction scopes d)

  pub need_disjunction : Scopes → Disjunction → ℕ
  need_disjunction scopes (OneConjunction c) = need_conjunction scopes c
  need_disjunction scopes (Either d l c) = max (need_disjunction scopes d) (1 + need_conjunction scopes c)

  pub need_conjunction : Scopes → Conjunction → ℕ
  need_conjunction scopes (OneNegation n) = need_negation scopes n
  need_conjunction scopes (Both c l n) = max (need_conjunction scopes c) (1 + need_negation scopes n)

  pub need_negation : Scopes → Negation → ℕ
  need_negation scopes (OneRelation r) = need_relation scopes r
  need_negation scopes (Negated l r) = need_relation scopes r

  pub need_relation : Scopes → Relation → ℕ
  need_relation scopes (OneArithmetic a) = need_arithmetic scopes a
  need_relation scopes (Compared a o l b) = max (need_arithmetic scopes a) (1 + need_arithmetic scopes b)

  pub need_arithmetic : Scopes → Arithmetic → ℕ
  need_arithmetic scopes (OneTerm t) = need_term scopes t
  need_arithmetic scopes (Signed o l t) = need_term scopes t
  need_arithmetic scopes (Summed a o l t) = max (need_arithmetic scopes a) (1 + need_term scopes t)

  pub need_term : Scopes → Term → ℕ
  need_term scopes (OneFactor f) = need_factor scopes f
  need_term scopes (Multiplied t o l f) = max (need_term scopes t) (1 + need_factor scopes f)

  pub need_factor : Scopes → Factor → ℕ
  need_factor scopes (OnePrimary p) = need_primary scopes p
  need_factor scopes (Raised f l p) = max (need_factor scopes f) (1 + need_primary scopes p)

  pub need_primary : Scopes → Primary → ℕ
  need_primary scopes (Numeral n l) = 0
  need_primary scopes (Logical b l) = 0
  need_primary scopes (Bracketed l e m) = need_expr scopes e
  need_primary scopes (OneCall c) = need_call scopes c
  need_primary scopes (OneElement e) = need_element scopes e

  pub need_call : Scopes → Call → ℕ
  need_call scopes (Alone x) = 0
  need_call scopes (WithActuals x l a more m) =
      let n = need_actual scopes a in
      let formals = (scopes x.number).formals in
      call_need (scopes x.number).kind (suc (count_actuals more))
      (max (first_need formals 0 n) (need_by_value scopes more (other_kinds formals) 2)) (max n (need_actuals scopes more))

  pub need_element : Scopes → Element → ℕ
  need_element scopes (Subscripted x l e es m) =
      let n = need_expr scopes e in
      element_need (scopes x.number).kind (suc (count_exprs es)) n (max (1 + n) (need_subscripts scopes es 2))

  pub need_actual : Scopes → Actual → ℕ
  need_actual scopes (OneExpr e) = need_expr scopes e
  need_actual scopes (AString l bs m) = 0

  -- the greatest over actuals
  pub need_actuals : Scopes → Actuals → ℕ
  need_actuals scopes NoActuals = 0
  need_actuals scopes (MoreActuals l a more) = max (need_actual scopes a) (need_actuals scopes more)

  -- the greatest over those for formals by value, where so many words are taken before
  pub need_by_value : Scopes → Actuals → List Kind → (before : ℕ) → ℕ
  need_by_value scopes NoActuals kinds before = 0
  need_by_value scopes (MoreActuals l a more) kinds before =
      max (first_need kinds before (need_actual scopes a)) (need_by_value scopes more (other_kinds kinds) (before + 2))

  -- the greatest over subscripts, where so many words are taken before
  pub need_subscripts : Scopes → Exprs → (before : ℕ) → ℕ
  need_subscripts scopes NoExprs before = 0
  need_subscripts scopes (MoreExprs l e es) before = max (before + need_expr scopes e) (need_subscripts scopes es (suc before))

-- the bounds of an array segment, each behind those before it
abbrev pub need_pair : Scopes → BoundPair → (before : ℕ) → ℕ
need_pair scopes (MkPair a l b) before = max (before + need_expr scopes a) (suc before + need_expr scopes b)

abbrev pub need_pairs : Scopes → List NextPair → (before : ℕ) → ℕ
need_pairs scopes [] before = before
need_pairs scopes (p ∷ ps) before = max (need_pair scopes p.pair before) (need_pairs scopes ps (before + 2))

abbrev pub need_segment : Scopes → Segment → ℕ
need_segment scopes (MkSegment ns l p ps m) = max (need_pair scopes p 0) (need_pairs scopes ps 2)

abbrev pub need_segments : Scopes → List NextSegment → ℕ
need_segments scopes [] = 0
need_segments scopes (s ∷ ss) = max (need_segment scopes s.segment) (need_segments scopes ss)

-- the left parts of an assignment, each behind those before it; then the right side
abbrev pub need_left : Scopes → LeftSide → ℕ
need_left scopes (OneName x) = 0
need_left scopes (LeftElement e) = need_element scopes e

abbrev pub need_assignment : Scopes → List LeftPart → Expr → (before : ℕ) → ℕ
need_assignment scopes [] e before = before + need_expr scopes e
need_assignment scopes (p ∷ ps) e before = max (before + need_left scopes p.left) (need_assignment scopes ps e (suc before))

-- an element of a for list
abbrev pub need_turns : Scopes → Turns → ℕ
need_turns scopes (OneValue e) = 1 + need_expr scopes e
need_turns scopes (StepUntil a l b m c) = max (1 + need_expr scopes a) (max (1 + need_expr scopes c) (2 + need_expr scopes b))
need_turns scopes (WhileTrue e l f) = max (1 + need_expr scopes e) (need_expr scopes f)

abbrev pub need_next_turns : Scopes → List NextTurns → ℕ
need_next_turns scopes [] = 0
need_next_turns scopes (t ∷ ts) = max (need_turns scopes t.turns) (need_next_turns scopes ts)

-- statements; a block needs nothing of what surrounds it
abbrev mutual
  pub need_statement : Scopes → Statement → ℕ
  need_statement scopes (OneUnconditional u) = need_unconditional scopes u
  need_statement scopes (OneConditional c) = need_conditional scopes c
  need_statement scopes (OneLoop f) = need_loop scopes f

  pub need_statements : Scopes → Statements → ℕ
  need_statements scopes NoStatements = 0
  need_statements scopes (MoreStatements l s ss) = max (need_statement scopes s) (need_statements scopes ss)

  pub need_unconditional : Scopes → Unconditional → ℕ
  need_unconditional scopes (MkUnconditional ls b) = need_basic scopes b

  pub need_basic : Scopes → Basic → ℕ
  need_basic scopes (OneGroup g) = need_group scopes g
  need_basic scopes (Assign p ps e) = need_assignment scopes (p ∷ ps) e 0
  need_basic scopes (Jump l e) = need_expr scopes e
  need_basic scopes (CallStatement c) = need_call scopes c
  need_basic scopes Dummy = 0

  pub need_group : Scopes → Group → ℕ
  need_group scopes (MkBlock l d m ds s ss n) = 0
  need_group scopes (MkCompound l s ss m) = max (need_statement scopes s) (need_statements scopes ss)

  pub need_conditional : Scopes → Conditional → ℕ
  need_conditional scopes (IfThen ls l e m u) = max (need_expr scopes e) (need_unconditional scopes u)
  need_conditional scopes (IfElse ls l e m u n s) =
      max (need_expr scopes e) (max (need_unconditional scopes u) (need_statement scopes s))
  need_conditional scopes (IfLoop ls l e m f) = max (need_expr scopes e) (need_loop scopes f)

  pub need_loop : Scopes → Loop → ℕ
  need_loop scopes (MkLoop ls l x m t ts n s) =
      1 + max (need_statement (turn_scopes s scopes) s) (max (need_turns scopes t) (need_next_turns scopes ts))

-- a block's own need: the greatest over its array segments and statements, in the scopes within it
abbrev pub need_declaration : Scopes → Declaration → ℕ
need_declaration scopes (DeclareArrays t l s ss) = max (need_segment scopes s) (need_segments scopes ss)
need_declaration scopes d = 0

abbrev pub need_declarations : Scopes → Declarations → ℕ
need_declarations scopes NoDeclarations = 0
need_declarations scopes (MoreDeclarations d l ds) = max (need_declaration scopes d) (need_declarations scopes ds)

abbrev pub need_block : Scopes → Declaration → Declarations → Statement → Statements → ℕ
need_block scopes d ds s ss = max (max (need_declaration scopes d) (need_declarations scopes ds))
    (max (need_statement scopes s) (need_statements scopes ss))
