-- Text 7: the code of a hoisted program, with labels in place of addresses and rooms without what their activations need.
use Rattle.std.specs.Prelude.{ℕ, zero, suc, ◌+◌, ◌*◌, List, [], ◌∷◌, length, Option, None, Some}
use Rattle.gier_order.specs.declared.operation.Operation.TheVariants.{Start as OStart, Stop as OStop, Short as OShort}
use Rattle.gier_order.specs.declared.operation.Operation.TheVariants.{Keep as OKeep, Put as OPut, Add as OAdd, Sub as OSub}
use Rattle.gier_order.specs.declared.operation.Operation.TheVariants.{Jump as OJump, False as OFalse, Test as OTest}
use Rattle.gier_order.specs.declared.operation.Operation.TheVariants.{Turn as OTurn, Block as OBlock, Leave as OLeave}
use Rattle.gier_order.specs.declared.operation.Operation.TheVariants.{Array as OArray, Proc as OProc, Return as OReturn}
use Rattle.gier_order.specs.declared.operation.Operation.TheVariants.{Back as OBack, Go as OGo}
use Rattle.gier_symbol.specs.declared.symbol.Symbol.{Symbol}
use Rattle.gier_symbol.specs.declared.tag.Tag.TheVariants.{ObjectWords}
use Rattle.gier_symbol.specs.ByTag.{sym}
use Rattle.gier_tree.specs.Coded.{scopes_of, address_of, value_of, code_expr, code_exprs, code_call, code_label, element_code}
use Rattle.gier_tree.specs.Coded.{then_order, evaluation}
use Rattle.gier_tree.specs.Declaring.{list_of, formals_of}
use Rattle.gier_tree.specs.Entries.{block_entries, procedure_entries, turn_entries, program_entries, entries_numbers}
use Rattle.gier_tree.specs.Entries.{numbers_unconditional}
use Rattle.gier_tree.specs.Hoist.{hoist}
use Rattle.gier_tree.specs.Lines.{first_expr, first_name, first_left, first_heading, group_begin}
use Rattle.gier_tree.specs.Need.{need_expr, need_statement, need_group, need_block}
use Rattle.gier_tree.specs.Orders.{State, Following, Code, order, with_label, room_order, data_word, label_word, define, needs}
use Rattle.gier_tree.specs.Orders.{new, new_unless, no_code, also}
use Rattle.gier_tree.specs.OwnCount.{owns_in_unconditional}
use Rattle.gier_tree.specs.Places.{Placed, Places, block_places, procedure_places, turn_places, program_places}
use Rattle.gier_tree.specs.Room.{block_header, block_words, procedure_words, result_words}
use Rattle.gier_tree.specs.Texts.{Where, inner, further, behind_statement, behind_declaration, behind_declarations}
use Rattle.gier_tree.specs.Trees.{Name, Expr, Subscripted, Exprs, NoExprs, MoreExprs, BoundPair, MkPair, NextPair, Segment}
use Rattle.gier_tree.specs.Trees.{MkSegment, NextSegment, Heading, MkHeading, LabelPlace, LeftSide, OneName, LeftElement}
use Rattle.gier_tree.specs.Trees.{LeftPart, Turns, OneValue, StepUntil, WhileTrue, NextTurns, Declaration, DeclareType}
use Rattle.gier_tree.specs.Trees.{DeclareOwn, DeclareArrays, DeclareOwnArrays, DeclareSwitch, DeclareProcedure, Declarations}
use Rattle.gier_tree.specs.Trees.{NoDeclarations, MoreDeclarations, Group, MkBlock, MkCompound, Statements, NoStatements}
use Rattle.gier_tree.specs.Trees.{MoreStatements, Statement, OneUnconditional, OneConditional, OneLoop, Unconditional}
use Rattle.gier_tree.specs.Trees.{MkUnconditional, Basic, OneGroup, Assign, Jump, CallStatement, Dummy, Conditional, IfThen}
use Rattle.gier_tree.specs.Trees.{IfElse, IfLoop, Loop, MkLoop, Program, MkProgram}

-- labels stand before their statement
abbrev pub labels_code : Places → List LabelPlace → Code
labels_code p [] level w st go = go st
labels_code p (l ∷ ls) level w st go = define (p l.name.number).address st (λ s. labels_code p ls level w s go)

-- assignments: the addresses of the left parts from left to right, the right side, and then all left parts receive it
abbrev pub left_code : Places → LeftSide → Code
left_code p (OneName x) level w st go = address_of (p x.number) x.line st go
left_code p (LeftElement (Subscripted x l e es m)) level w st go =
    element_code (p x.number) x.line (code_expr p e ∷ code_exprs p es) level w st go

abbrev pub puts : (n w line : ℕ) → State → Following → List Symbol
puts zero w line st go = go st
puts (suc n) w line st go = order OPut 0 w line st (λ s. puts n (w + 1) line s go)

abbrev pub lefts_code : Places → (line : ℕ) → List LeftPart → (right : Code) → Code
lefts_code p line [] right level w st go = right level w st go
lefts_code p line (q ∷ qs) right level w st go =
    left_code p q.left level w st (λ s. order OKeep 0 w line s (λ s1. lefts_code p line qs right level (w + 1) s1 go))

abbrev pub assignment_code : Places → LeftPart → List LeftPart → Expr → Code
assignment_code p q qs e level w st go =
    let line = first_left q.left in
    lefts_code p line (q ∷ qs) (code_expr p e) level w st (λ s. puts (suc (length qs)) w line s go)

-- elements of for lists. The controlled variable gets a value; the controlled statement, whose label may be new, is executed and
-- goes on at the place that waits in w
abbrev pub set_to : Placed → (variable line : ℕ) → (value : Code) → Code
set_to x variable line value level w st go = address_of x variable st (λ s. order OKeep 0 (w + 1) line s (λ s1.
    value level (w + 2) s1 (λ s2. order OPut 0 (w + 1) line s2 go)))

abbrev pub do_next : (back line w : ℕ) → Option ℕ → State → ((s : ℕ) → Following) → List Symbol
do_next back line w label st go = with_label OShort 0 back line st (λ s. order OKeep 0 w line s (λ s1.
    new_unless label s1 (λ body s2. with_label OJump 0 body line s2 (go body))))

-- V + B
abbrev pub step_value_code : Placed → (variable line : ℕ) → (step : Code) → Code
step_value_code x variable line step level w st go =
    value_of x variable st (λ s. order OKeep 0 w line s (λ s1. step level (w + 1) s1 (λ s2. order OAdd 0 w line s2 go)))

abbrev pub turns_code : Places → Placed → (variable : ℕ) → Turns → (level w : ℕ) → Option ℕ → State → ((s : ℕ) → Following)
    → List Symbol
turns_code p x variable (OneValue e) level w body st go =
    let line = first_expr e in
    set_to x variable line (code_expr p e) level w st (λ s. new s (λ n s1. do_next n line w body s1 (λ b s2. define n s2 (go b))))
turns_code p x variable (StepUntil a l b m c) level w body st go =
    let line = first_expr a in
    set_to x variable line (code_expr p a) level w st
    (λ s. new s (λ t s1. with_label OJump 0 t line s1 (λ s2. new s2 (λ again s3. define again s3 (λ s4.
    set_to x variable line (step_value_code x variable line (code_expr p b)) level w s4 (λ s5. define t s5 (λ s6.
    value_of x variable s6
    (λ s7.
    order OKeep 0 (w + 1) line s7
    (λ s8. code_expr p c level (w + 2) s8 (λ s9. order OSub 0 (w + 1) line s9 (λ s10. order OKeep 0 (w + 1) line s10 (λ s11.
    code_expr p b level (w + 2) s11
    (λ s12. order OTest 0 (w + 1) line s12 (λ s13. new s13 (λ n s14. with_label OFalse 0 n line s14 (λ s15.
    do_next again line w body s15 (λ q s16. define n s16 (go q))))))))))))))))))
turns_code p x variable (WhileTrue e l f) level w body st go =
    let line = first_expr e in
    new st
    (λ again s.
    define again s
    (λ s1. set_to x variable line (code_expr p e) level w s1
    (λ s2. code_expr p f level (w + 1) s2 (λ s3. new s3 (λ n s4. with_label OFalse 0 n line s4 (λ s5.
    do_next again line w body s5 (λ q s6. define n s6 (go q))))))))

abbrev pub next_turns_code : Places → Placed → (variable : ℕ) → List NextTurns → (level w body : ℕ) → State
    → ((s : ℕ) → Following) → List Symbol
next_turns_code p x variable [] level w body st go = go body st
next_turns_code p x variable (t ∷ ts) level w body st go =
    turns_code p x variable t.turns level w (Some body) st (λ b s. next_turns_code p x variable ts level w b s go)

-- array segments: the bounds in working places, and then each array takes its elements
abbrev pub bound_code : Places → Expr → (line : ℕ) → Code
bound_code p e line level w st go = code_expr p e level w st (λ s. order OKeep 0 w line s go)

abbrev pub pair_code : Places → BoundPair → (line : ℕ) → Code
pair_code p (MkPair a l b) line level w st go = bound_code p a line level w st (λ s. bound_code p b line level (w + 1) s go)

abbrev pub pairs_code : Places → List NextPair → (line : ℕ) → Code
pairs_code p [] line level w st go = go st
pairs_code p (q ∷ qs) line level w st go = pair_code p q.pair line level w st (λ s. pairs_code p qs line level (w + 2) s go)

abbrev pub arrays_code : Places → List Name → (count line w : ℕ) → State → Following → List Symbol
arrays_code p [] count line w st go = go st
arrays_code p (x ∷ xs) count line w st go =
    order OShort 0 w line st (λ s. order OArray count (p x.number).address line s (λ s1. arrays_code p xs count line w s1 go))

abbrev pub segment_code : Places → Segment → Code
segment_code p (MkSegment ns l q qs m) level w st go =
    let line = first_name ns in
    pair_code p q line level w st (λ s. pairs_code p qs line level (w + 2) s (λ s1.
    arrays_code p (list_of ns) (suc (length qs)) line w s1 go))

abbrev pub segments_code : Places → List NextSegment → Code
segments_code p [] level w st go = go st
segments_code p (s ∷ ss) level w st go = segment_code p s.segment level w st (λ q. segments_code p ss level w q go)

-- switches: a table of labels, and an evaluation for each element
abbrev pub table_code : (n line : ℕ) → State → (List ℕ → Following) → List Symbol
table_code zero line st go = go [] st
table_code (suc n) line st go =
    new st (λ label s. label_word label line s (λ s1. table_code n line s1 (λ labels. go (label ∷ labels))))

abbrev pub elements_of : Exprs → List Expr
elements_of NoExprs = []
elements_of (MoreExprs l e es) = e ∷ elements_of es

abbrev pub switch_elements_code : Places → List ℕ → List Expr → State → Following → List Symbol
switch_elements_code p (label ∷ labels) (e ∷ es) st go =
    define label st
    (λ s. evaluation 2 (need_expr (scopes_of p) e) (first_expr e) (then_order OBack (first_expr e) (code_label p e)) s (λ s1.
    switch_elements_code p labels es s1 go))
switch_elements_code p labels es st go = go st

abbrev pub switch_declared : Places → (line : ℕ) → Name → List Expr → State → Following → List Symbol
switch_declared p line x es st go =
    new st (λ over s. with_label OJump 0 over line s (λ s1. define (p x.number).address s1 (λ s2.
    data_word (length es) line s2 (λ s3. table_code (length es) line s3 (λ labels s4.
    switch_elements_code p labels es s4 (λ s5. define over s5 go))))))

-- a procedure: its body stands behind a jump
abbrev pub procedure_declared : Places → (level need line : ℕ) → Heading → (body : Code) → State → Following → List Symbol
procedure_declared p level need line (MkHeading t l x fs m vs ss) body st go =
    let h = MkHeading t l x fs m vs ss in
    new st
    (λ over s.
    with_label OJump 0 over line s
    (λ s1.
    define (p x.number).address s1
    (λ s2. room_order OProc level (procedure_words h) line s2
    (λ s3. data_word (2 * length (formals_of h) + result_words t) line s3 (λ s4.
    body level (procedure_words h) s4 (λ s5. order OReturn 0 (result_words t) line s5 (λ s6. needs need s6 (λ s7.
    define over s7 go))))))))

-- conditional statements
abbrev pub if_code : (line : ℕ) → (test so : Code) → Code
if_code line test so level w st go =
    test level w st (λ s. new s (λ x s1. with_label OFalse 0 x line s1 (λ s2. so level w s2 (λ s3. define x s3 go))))

abbrev pub if_else_code : (line : ℕ) → (test so otherwise : Code) → Code
if_else_code line test so otherwise level w st go = test level w st (λ s. new s (λ x s1. with_label OFalse 0 x line s1 (λ s2.
    so level w s2 (λ s3. new s3 (λ y s4. with_label OJump 0 y line s4 (λ s5. define x s5 (λ s6. otherwise level w s6 (λ s7.
    define y s7 go))))))))

-- a for statement: its elements, and the controlled statement, which returns to where its turn came from
abbrev pub for_code : Places → (line : ℕ) → Name → Turns → List NextTurns → (body : Code) → Code
for_code p line x t ts body level w st go =
    turns_code p (p x.number) x.line t level w None st
    (λ b s. next_turns_code p (p x.number) x.line ts level w b s
    (λ c s1. new s1 (λ end s2. with_label OJump 0 end line s2 (λ s3. define c s3 (λ s4.
    body level (w + 1) s4 (λ s5. order OTurn 0 w line s5 (λ s6. define end s6 go)))))))

abbrev pub block_code : (level need line words : ℕ) → (inside : Code) → State → Following → List Symbol
block_code level need line words inside st go =
    room_order OBlock level words line st (λ s. inside level words s (λ s1. order OLeave 0 0 line s1 (λ s2. needs need s2 go)))

abbrev mutual
  pub code_declaration : Places → Where → Declaration → Code
  code_declaration p at (DeclareType y ns) = no_code
  code_declaration p at (DeclareOwn l y ns) = no_code
  code_declaration p at (DeclareArrays y l s ss) = also (segment_code p s) (segments_code p ss)
  code_declaration p at (DeclareOwnArrays k y l s ss) = no_code
  code_declaration p at (DeclareSwitch l x m e es) = λ level w st go. switch_declared p l x (e ∷ elements_of es) st go
  code_declaration p at (DeclareProcedure h s) =
      let q = procedure_places (suc at.level) at.numbers h s p in
      λ level w st go. procedure_declared p (suc at.level) (need_statement (scopes_of q) s) (first_heading h) h
      (code_statement q (inner at (procedure_entries h s)) s) st go

  pub code_declarations : Places → Where → Declarations → Code
  code_declarations p at NoDeclarations = no_code
  code_declarations p at (MoreDeclarations d l ds) =
      also (code_declaration p at d) (code_declarations p (behind_declaration at d) ds)

  pub code_group : Places → Where → Group → Code
  code_group p at (MkBlock l d m ds s ss n) =
      let q = block_places (suc at.level) at.numbers d ds s ss p in
      let w1 = inner at (block_entries d ds s ss) in
      let w2 = behind_declaration w1 d in
      let w3 = behind_declarations w2 ds in
      let inside =
      also (code_declaration q w1 d) (also (code_declarations q w2 ds) (also (code_statement q w3 s) (code_statements q
      (behind_statement w3 s) ss))) in
      λ level w st go. block_code (suc at.level) (need_block (scopes_of q) d ds s ss) l (block_words d ds) inside st go
  code_group p at (MkCompound l s ss n) = also (code_statement p at s) (code_statements p (behind_statement at s) ss)

  pub code_statements : Places → Where → Statements → Code
  code_statements p at NoStatements = no_code
  code_statements p at (MoreStatements l s ss) = also (code_statement p at s) (code_statements p (behind_statement at s) ss)

  pub code_statement : Places → Where → Statement → Code
  code_statement p at (OneUnconditional u) = code_unconditional p at u
  code_statement p at (OneConditional c) = code_conditional p at c
  code_statement p at (OneLoop f) = code_loop p at f

  pub code_unconditional : Places → Where → Unconditional → Code
  code_unconditional p at (MkUnconditional ls b) = also (labels_code p ls) (code_basic p at b)

  pub code_basic : Places → Where → Basic → Code
  code_basic p at (OneGroup g) = code_group p at g
  code_basic p at (Assign q qs e) = assignment_code p q qs e
  code_basic p at (Jump l e) = then_order OGo l (code_label p e)
  code_basic p at (CallStatement c) = code_call p c
  code_basic p at Dummy = no_code

  pub code_conditional : Places → Where → Conditional → Code
  code_conditional p at (IfThen ls l e m u) = also (labels_code p ls) (if_code l (code_expr p e) (code_unconditional p at u))
  code_conditional p at (IfElse ls l e m u n s) =
      also (labels_code p ls) (if_else_code l (code_expr p e) (code_unconditional p at u) (code_statement p
      (further at (numbers_unconditional u) (owns_in_unconditional u)) s))
  code_conditional p at (IfLoop ls l e m f) = also (labels_code p ls) (if_code l (code_expr p e) (code_loop p at f))

  pub code_loop : Places → Where → Loop → Code
  code_loop p at (MkLoop ls l x m t ts n s) =
      also (labels_code p ls) (for_code p l x t ts (code_statement (turn_places at.level at.numbers s p)
      (further at (entries_numbers (turn_entries s)) 0) s))

abbrev pub object_words : Following
object_words st = sym ObjectWords st.words st.line ∷ []

abbrev pub code_program : Program → List Symbol
code_program (MkProgram ls g l) =
    let t = MkProgram ls g l in
    let p = program_places t in
    let line = group_begin g in
    room_order OStart 1 block_header line (record { labels = 0; line = line; words = 0 })
    (λ s.
    also (labels_code p ls) (code_group p (record { level = 1; numbers = entries_numbers (program_entries t); owns = 0 }) g)
    1 block_header s
    (λ s1. order OStop 0 0 line s1 (λ s2. needs (need_group (scopes_of p) g) s2 object_words)))

abbrev pub text7 : (written : Program) → List Symbol
text7 t = code_program (hoist t)
