-- The needs of statements and declarations, and with them the rooms of blocks, procedures and evaluations, are equal in both trees.
use Rattle.std.proofs.Common.{◌≡◌, ◌∙◌, ◌+◌, ◌*◌, ℕ, suc, List, [], ◌∷◌, length, refl, sym as back, ap, ap₂, arith}
use Rattle.std.specs.Prelude.{max, map, Option, None, Some}
use Rattle.gier_tree.specs.Declaring.{list_of, formals_of}
use Rattle.gier_tree.specs.Described.{Scopes, block_scopes, procedure_scopes, turn_scopes}
use Rattle.gier_tree.specs.Need as tree_need
use Rattle.gier_tree.specs.Room as tree_room
use Rattle.gier_tree.specs.Trees as tree
use Rattle.gier_tree.specs.Trees.{MkHeading, MkPair, MkSegment, NextPair, NextSegment, TypeWord, IntegerType, BooleanType, ValueType}
use Rattle.gier_agree.specs.declared.kind.Kind.{Kind as Fitting}
use Rattle.gier_meaning.specs.Plain as plain
use Rattle.gier_meaning.specs.Room as meaning
use Rattle.gier_meaning.specs.Tree.{Name, Statement, Declarations, MoreStatements}
use Rattle.gier_meaning.specs.What.{What, in_block, in_procedure, in_controlled}
use Rattle.gier_twice.specs.SameNeeds.{AreAlike}
use Rattle.gier_twice.proofs.ExpressionNeeds.{same_expr, same_call, same_element}
use Rattle.gier_twice.proofs.SameScopes.{list_same, within_blocks, within_procedures, within_turns}

the : (A : Type 0) → A → A
the A a = a

-- parts of statements
module _ (scopes : Scopes) (what : Name → What) (alike : AreAlike scopes what) where
  -- bounds, each behind those before it; of so many words none stands behind the last
  pairs_same : (p : tree.BoundPair) (ps : List NextPair) (before : ℕ)
      → max (tree_need.need_pair scopes p before) (tree_need.need_pairs scopes ps (before + 2))
      ≡ max (before + meaning.count (plain.bounds p ps)) (meaning.need_behind what before (plain.bounds p ps))
  pairs_same (MkPair a l b) [] before =
      let ea = same_expr scopes what alike a in
      let eb = same_expr scopes what alike b in
      omega (arith, ea, eb)
  pairs_same (MkPair a l b) (p ∷ ps) before =
      let ea = same_expr scopes what alike a in
      let eb = same_expr scopes what alike b in
      let more = pairs_same p.pair ps (before + 2) in
      let place : meaning.need_behind what (before + 2) (plain.bounds p.pair ps)
      ≡ meaning.need_behind what (suc (suc before)) (plain.bounds p.pair ps) =
      ap (λ n. meaning.need_behind what n (plain.bounds p.pair ps)) (the (before + 2 ≡ suc (suc before)) (omega arith)) in
      omega (arith, ea, eb, more, place)

  segment_same : (kind : Fitting) (s : tree.Segment) (rest : Declarations)
      → meaning.bounds_need what (plain.segment kind s rest) ≡ max (tree_need.need_segment scopes s) (meaning.bounds_need what rest)
  segment_same kind (MkSegment ns l p ps m) rest =
      let e = pairs_same p ps 0 in omega (arith, e)

  segments_same : (kind : Fitting) (ss : List NextSegment) (rest : Declarations)
      → meaning.bounds_need what (plain.segments kind ss rest) ≡ max (tree_need.need_segments scopes ss) (meaning.bounds_need what rest)
  segments_same kind [] rest = omega arith
  segments_same kind (s ∷ ss) rest =
      let e = segment_same kind s.segment (plain.segments kind ss rest) in
      let g = segments_same kind ss rest in omega (arith, e, g)

  declaration_same : (d : tree.Declaration) (rest : Declarations)
      → meaning.bounds_need what (plain.declaration d rest) ≡ max (tree_need.need_declaration scopes d) (meaning.bounds_need what rest)
  declaration_same (tree.DeclareType t ns) rest = omega arith
  declaration_same (tree.DeclareOwn l t ns) rest = omega arith
  declaration_same (tree.DeclareArrays t l s ss) rest =
      let k = plain.array_kind t.type in
      let e = segment_same k s (plain.segments k ss rest) in
      let g = segments_same k ss rest in omega (arith, e, g)
  declaration_same (tree.DeclareOwnArrays k t l s ss) rest = omega arith
  declaration_same (tree.DeclareSwitch l x m e es) rest = omega arith
  declaration_same (tree.DeclareProcedure (MkHeading t l x fs m vs ss) s) rest = omega arith

  declarations_same : (ds : tree.Declarations)
      → meaning.bounds_need what (plain.declarations ds) ≡ tree_need.need_declarations scopes ds
  declarations_same tree.NoDeclarations = refl
  declarations_same (tree.MoreDeclarations d l ds) =
      let e = declaration_same d (plain.declarations ds) in
      let g = declarations_same ds in omega (arith, e, g)

  left_same : (p : tree.LeftSide) → tree_need.need_left scopes p ≡ meaning.need what (plain.left_side p)
  left_same (tree.OneName x) = refl
  left_same (tree.LeftElement e) = same_element scopes what alike e

  -- left parts and the right side behind them
  assignment_same : (ps : List tree.LeftPart) (e : tree.Expr) (before : ℕ) → tree_need.need_assignment scopes ps e before
      ≡ max (before + (meaning.count (plain.left_parts ps) + meaning.need what (plain.expr e)))
      (meaning.need_behind what before (plain.left_parts ps))
  assignment_same [] e before = let g = same_expr scopes what alike e in omega (arith, g)
  assignment_same (p ∷ ps) e before =
      let g = left_same p.left in
      let more = assignment_same ps e (suc before) in omega (arith, g, more)

  turns_same : (t : tree.Turns) → tree_need.need_turns scopes t ≡ meaning.turn_need what (plain.turns t)
  turns_same (tree.OneValue e) = ap (λ n. 1 + n) (same_expr scopes what alike e)
  turns_same (tree.StepUntil a l b m c) =
      let ea = same_expr scopes what alike a in
      let eb = same_expr scopes what alike b in
      let ec = same_expr scopes what alike c in omega (arith, ea, eb, ec)
  turns_same (tree.WhileTrue e l f) =
      let ee = same_expr scopes what alike e in
      let ef = same_expr scopes what alike f in omega (arith, ee, ef)

  next_turns_same : (ts : List tree.NextTurns) → tree_need.need_next_turns scopes ts ≡ meaning.turns_need what (plain.more_turns ts)
  next_turns_same [] = refl
  next_turns_same (t ∷ ts) = ap₂ max (turns_same t.turns) (next_turns_same ts)

-- statements
labelled_need : (what : Name → What) (ls : List tree.LabelPlace) (s : Statement)
    → meaning.statement_need what (plain.with_labels ls s) ≡ meaning.statement_need what s
labelled_need what [] s = refl
labelled_need what (l ∷ ls) s = labelled_need what ls s

mutual
  pub statement_same : (scopes : Scopes) (what : Name → What) → AreAlike scopes what → (s : tree.Statement)
      → tree_need.need_statement scopes s ≡ meaning.statement_need what (plain.statement s)
  statement_same scopes what a (tree.OneUnconditional u) = unconditional_same scopes what a u
  statement_same scopes what a (tree.OneConditional c) = conditional_same scopes what a c
  statement_same scopes what a (tree.OneLoop f) = loop_same scopes what a f

  pub statements_same : (scopes : Scopes) (what : Name → What) → AreAlike scopes what → (ss : tree.Statements)
      → tree_need.need_statements scopes ss ≡ meaning.statements_need what (plain.statements ss)
  statements_same scopes what a tree.NoStatements = refl
  statements_same scopes what a (tree.MoreStatements l s ss) = ap₂ max (statement_same scopes what a s) (statements_same scopes what a ss)

  unconditional_same : (scopes : Scopes) (what : Name → What) → AreAlike scopes what → (u : tree.Unconditional)
      → tree_need.need_unconditional scopes u ≡ meaning.statement_need what (plain.unconditional u)
  unconditional_same scopes what a (tree.MkUnconditional ls b) = basic_same scopes what a b ∙ back (labelled_need what ls (plain.basic b))

  basic_same : (scopes : Scopes) (what : Name → What) → AreAlike scopes what → (b : tree.Basic)
      → tree_need.need_basic scopes b ≡ meaning.statement_need what (plain.basic b)
  basic_same scopes what a (tree.OneGroup g) = group_same scopes what a g
  basic_same scopes what a (tree.Assign p ps e) = assignment_same scopes what a (p ∷ ps) e 0 ∙ zero_plus
    where
      zero_plus : max (0 + (suc (meaning.count (plain.left_parts ps)) + meaning.need what (plain.expr e)))
          (meaning.need_behind what 0 (plain.left_parts (p ∷ ps)))
          ≡ max (suc (meaning.count (plain.left_parts ps)) + meaning.need what (plain.expr e)) (meaning.need_behind what 0 (plain.left_parts (p ∷ ps)))
      zero_plus = omega arith
  basic_same scopes what a (tree.Jump l e) = same_expr scopes what a e
  basic_same scopes what a (tree.CallStatement c) = same_call scopes what a c
  basic_same scopes what a tree.Dummy = refl

  group_same : (scopes : Scopes) (what : Name → What) → AreAlike scopes what → (g : tree.Group)
      → tree_need.need_group scopes g ≡ meaning.statement_need what (plain.group g)
  group_same scopes what a (tree.MkBlock l d m ds s ss n) = refl
  group_same scopes what a (tree.MkCompound l s ss m) = ap₂ max (statement_same scopes what a s) (statements_same scopes what a ss)

  conditional_same : (scopes : Scopes) (what : Name → What) → AreAlike scopes what → (c : tree.Conditional)
      → tree_need.need_conditional scopes c ≡ meaning.statement_need what (plain.conditional c)
  conditional_same scopes what a (tree.IfThen ls l e m u) =
      ap₂ max (same_expr scopes what a e) (unconditional_same scopes what a u) ∙ back (labelled_need what ls _)
  conditional_same scopes what a (tree.IfElse ls l e m u n s) =
      ap₂ max (same_expr scopes what a e) (ap₂ max (unconditional_same scopes what a u) (statement_same scopes what a s))
      ∙ back (labelled_need what ls _)
  conditional_same scopes what a (tree.IfLoop ls l e m f) =
      ap₂ max (same_expr scopes what a e) (loop_same scopes what a f) ∙ back (labelled_need what ls _)

  loop_same : (scopes : Scopes) (what : Name → What) → AreAlike scopes what → (f : tree.Loop)
      → tree_need.need_loop scopes f ≡ meaning.statement_need what (plain.loop f)
  loop_same scopes what a (tree.MkLoop ls l x m t ts n s) =
      ap (λ n. 1 + n) (ap₂ max
      (statement_same (turn_scopes s scopes) (in_controlled (plain.statement s) what) (within_turns scopes what a s) s)
      (ap₂ max (turns_same scopes what a t) (next_turns_same scopes what a ts)))
      ∙ back (labelled_need what ls _)

-- words of what is declared

count_bounds : (p : tree.BoundPair) (ps : List NextPair) → meaning.count (plain.bounds p ps) ≡ 2 * suc (length ps)
count_bounds (MkPair a l b) [] = refl
count_bounds (MkPair a l b) (p ∷ ps) = let e = count_bounds p.pair ps in omega (arith, e)

count_names : (ns : tree.Names) → length (plain.names ns) ≡ length (list_of ns)
count_names ns = length_map (plain.name_list ns) ∙ ap length (list_same ns)
  where
    length_map : (xs : List tree.Name) → length (map plain.name_of xs) ≡ length xs
    length_map [] = refl
    length_map (x ∷ xs) = ap suc (length_map xs)

segment_words_same : (kind : Fitting) (s : tree.Segment) (rest : Declarations)
    → meaning.declared_words (plain.segment kind s rest) ≡ tree_room.segment_words s + meaning.declared_words rest
segment_words_same kind (MkSegment ns l p ps m) rest =
    ap (λ n. n + meaning.declared_words rest) (ap₂ (λ a b. a * (2 + b)) (count_names ns) (count_bounds p ps))

segments_words_same : (kind : Fitting) (ss : List NextSegment) (rest : Declarations)
    → meaning.declared_words (plain.segments kind ss rest) ≡ tree_room.segments_words ss + meaning.declared_words rest
segments_words_same kind [] rest = omega arith
segments_words_same kind (s ∷ ss) rest =
    let e = segment_words_same kind s.segment (plain.segments kind ss rest) in
    let g = segments_words_same kind ss rest in omega (arith, e, g)

declared_same : (d : tree.Declaration) (rest : Declarations)
    → meaning.declared_words (plain.declaration d rest) ≡ tree_room.declared_words d + meaning.declared_words rest
declared_same (tree.DeclareType t ns) rest = ap (λ n. n + meaning.declared_words rest) (count_names ns)
declared_same (tree.DeclareOwn l t ns) rest = omega arith
declared_same (tree.DeclareArrays t l s ss) rest =
    let k = plain.array_kind t.type in
    let e = segment_words_same k s (plain.segments k ss rest) in
    let g = segments_words_same k ss rest in omega (arith, e, g)
declared_same (tree.DeclareOwnArrays k t l s ss) rest = omega arith
declared_same (tree.DeclareSwitch l x m e es) rest = omega arith
declared_same (tree.DeclareProcedure (MkHeading t l x fs m vs ss) s) rest = omega arith

all_declared_same : (ds : tree.Declarations) → meaning.declared_words (plain.declarations ds) ≡ tree_room.all_declared_words ds
all_declared_same tree.NoDeclarations = refl
all_declared_same (tree.MoreDeclarations d l ds) =
    let e = declared_same d (plain.declarations ds) in
    let g = all_declared_same ds in omega (arith, e, g)

-- rooms

pub evaluations_equal : (scopes : Scopes) (what : Name → What) → AreAlike scopes what → (e : tree.Expr)
    → tree_room.room_evaluation scopes e ≡ meaning.evaluation_room what (plain.expr e)
evaluations_equal scopes what a e = ap (λ n. 5 + n) (same_expr scopes what a e)

pub blocks_equal : (scopes : Scopes) (what : Name → What) → AreAlike scopes what → (d : tree.Declaration) (ds : tree.Declarations)
    (s : tree.Statement) (ss : tree.Statements) → tree_room.room_block scopes d ds s ss
    ≡ meaning.block_room what (plain.declaration d (plain.declarations ds)) (MoreStatements (plain.statement s) (plain.statements ss))
blocks_equal scopes what a d ds s ss =
    let inner = within_blocks scopes what a d ds s ss in
    let sc = block_scopes d ds s ss scopes in
    let w = in_block (plain.declaration d (plain.declarations ds)) (MoreStatements (plain.statement s) (plain.statements ss)) what in
    let words = declared_same d (plain.declarations ds) in
    let more_words = all_declared_same ds in
    let bounds = declaration_same sc w inner d (plain.declarations ds) in
    let more_bounds = declarations_same sc w inner ds in
    let first = statement_same sc w inner s in
    let others = statements_same sc w inner ss in
    omega (arith, words, more_words, bounds, more_bounds, first, others)

count_formals : (vs : tree.ValuePart) (ss : List tree.Specification) (xs : List tree.Name) → length (plain.formals_from vs ss xs) ≡ length xs
count_formals vs ss [] = refl
count_formals vs ss (x ∷ xs) = ap suc (count_formals vs ss xs)

formals_equal : (t : Option TypeWord) (l : ℕ) (x : tree.Name) (fs : tree.Formals) (m : ℕ) (vs : tree.ValuePart)
    (ss : List tree.Specification) → length (plain.formals fs vs ss) ≡ length (formals_of (MkHeading t l x fs m vs ss))
formals_equal t l x tree.NoFormals m vs ss = refl
formals_equal t l x (tree.FormalList k ns n) m vs ss = count_formals vs ss (plain.name_list ns) ∙ ap length (list_same ns)

result_equal : (t : Option TypeWord) → tree_room.result_words t ≡ meaning.value_words (plain.procedure_kind t)
result_equal None = refl
result_equal (Some w) = typed w.type
  where
    typed : (t : ValueType) → 1 ≡ meaning.value_words (plain.function_kind t)
    typed IntegerType = refl
    typed BooleanType = refl

pub procedures_equal : (scopes : Scopes) (what : Name → What) → AreAlike scopes what → (t : Option TypeWord) (l : ℕ) (x : tree.Name)
    (fs : tree.Formals) (m : ℕ) (vs : tree.ValuePart) (ss : List tree.Specification) (s : tree.Statement)
    → tree_room.room_procedure scopes (MkHeading t l x fs m vs ss) s
    ≡ meaning.procedure_room what (plain.procedure_kind t) (plain.formals fs vs ss) (plain.statement s)
procedures_equal scopes what a t l x fs m vs ss s =
    let inner = within_procedures scopes what a t l x fs m vs ss s in
    let need = statement_same (procedure_scopes (MkHeading t l x fs m vs ss) s scopes)
    (in_procedure (plain.formals fs vs ss) (plain.statement s) what) inner s in
    let many = formals_equal t l x fs m vs ss in
    let result = result_equal t in
    omega (arith, need, many, result)
