-- Own quantities (5) are hoisted: a program with own declarations becomes a block that declares all of them, in the order of
-- the text, and whose one statement is that program. The i-th own quantity, from 0, has the fresh identifier `2^32 + i`, and
-- so has each use of it. An own declaration stays in its place, where it declares nothing.
use Rattle.std.specs.Prelude.{ℕ, zero, suc, ◌+◌, ◌==◌, ◌^◌, List, [], ◌∷◌, ◌++◌, map, length, if◌then◌else◌}
use Rattle.gier_tree.specs.Declaring.{list_of, formals_of, name_of_heading, own_names, names_of_segment, names_of_segments}
use Rattle.gier_tree.specs.Declaring.{labels_of_statement, labels_of_statements, labels_of_program}
use Rattle.gier_tree.specs.Lines.{last_name}
use Rattle.gier_tree.specs.OwnCount.{owns_of_program, owns_in_declaration, owns_in_declarations, owns_in_statement}
use Rattle.gier_tree.specs.OwnCount.{owns_in_unconditional}
use Rattle.gier_tree.specs.Rename.{Renaming, rename, rename_expr, rename_exprs, rename_call, rename_segment, rename_segments}
use Rattle.gier_tree.specs.Rename.{rename_part, rename_turns, rename_next_turns}
use Rattle.gier_tree.specs.Trees.{Name, Adding, Expr, OneSimple, OneImplication, OneDisjunction, OneConjunction, OneNegation}
use Rattle.gier_tree.specs.Trees.{OneRelation, OneArithmetic, Signed, OneFactor, OnePrimary, Numeral, only, NextName, Names}
use Rattle.gier_tree.specs.Trees.{MkNames, BoundPair, MkPair, NextPair, Segment, MkSegment, NextSegment, Constant, Unsigned}
use Rattle.gier_tree.specs.Trees.{WithSign, FixedPair, MkFixedPair, Further, NoFurther, MoreFurther, FurtherPairs, most_further}
use Rattle.gier_tree.specs.Trees.{FixedSegment, MkFixed, NextFixed, Heading, LabelPlace, Declaration, DeclareType, DeclareOwn}
use Rattle.gier_tree.specs.Trees.{DeclareArrays, DeclareOwnArrays, DeclareSwitch, DeclareProcedure, Declarations, NoDeclarations}
use Rattle.gier_tree.specs.Trees.{MoreDeclarations, Group, MkBlock, MkCompound, Statements, NoStatements, MoreStatements}
use Rattle.gier_tree.specs.Trees.{Statement, OneUnconditional, OneConditional, OneLoop, Unconditional, MkUnconditional, Basic}
use Rattle.gier_tree.specs.Trees.{OneGroup, Assign, Jump, CallStatement, Dummy, Conditional, IfThen, IfElse, IfLoop, Loop, MkLoop}
use Rattle.gier_tree.specs.Trees.{Program, MkProgram}

-- the fresh identifiers
abbrev pub first_fresh : ℕ
first_fresh = 2 ^ 32

abbrev pub fresh : (i : ℕ) → ℕ
fresh i = first_fresh + i

-- within the scope of this identifier its uses have this number
abbrev pub means : (x new : ℕ) → Renaming → Renaming
means x new f y = if y == x then new else f y

-- the identifiers of a scope hide those outside; of two that are the same the first one counts
abbrev pub hide : List Name → Renaming → Renaming
hide [] f = f
hide (x ∷ xs) f = means x.number x.number (hide xs f)

-- own quantities, numbered from i
abbrev pub own : List Name → (i : ℕ) → Renaming → Renaming
own [] i f = f
own (x ∷ xs) i f = means x.number (fresh i) (own xs (suc i) f)

abbrev pub hide_labels : List LabelPlace → Renaming → Renaming
hide_labels ls f = hide (map (λ l. l.name) ls) f

-- what a declaration hides, where so many own quantities stand before it
abbrev pub behind_declaration : Declaration → (i : ℕ) → Renaming → Renaming
behind_declaration (DeclareType t ns) i f = hide (list_of ns) f
behind_declaration (DeclareOwn l t ns) i f = own (list_of ns) i f
behind_declaration (DeclareArrays t l s ss) i f = hide (names_of_segment s ++ names_of_segments ss) f
behind_declaration (DeclareOwnArrays k t l s ss) i f = own (own_names (DeclareOwnArrays k t l s ss)) i f
behind_declaration (DeclareSwitch l x m e es) i f = hide (x ∷ []) f
behind_declaration (DeclareProcedure h s) i f = hide (name_of_heading h ∷ []) f

abbrev pub behind_declarations : Declarations → (i : ℕ) → Renaming → Renaming
behind_declarations NoDeclarations i f = f
behind_declarations (MoreDeclarations d l ds) i f = behind_declaration d i (behind_declarations ds (i + owns_in_declaration d) f)

-- within a block (2.4.3, 5)
abbrev pub within_block : Declaration → Declarations → Statement → Statements → (i : ℕ) → Renaming → Renaming
within_block d ds s ss i f =
    behind_declaration d i
    (behind_declarations ds (i + owns_in_declaration d) (hide_labels (labels_of_statement s (labels_of_statements ss [])) f))

-- within a procedure, and within a controlled statement
abbrev pub within_procedure : Heading → Statement → Renaming → Renaming
within_procedure h s f = hide (formals_of h) (hide_labels (labels_of_statement s []) f)

abbrev pub within_turn : Statement → Renaming → Renaming
within_turn s f = hide_labels (labels_of_statement s []) f

-- the uses of own quantities get their fresh identifiers; i own quantities stand before the part
abbrev mutual
  pub hoist_declaration : Declaration → (i : ℕ) → Renaming → Declaration
  hoist_declaration (DeclareType t ns) i f = DeclareType t ns
  hoist_declaration (DeclareOwn l t ns) i f = DeclareOwn l t ns
  hoist_declaration (DeclareArrays t l s ss) i f = DeclareArrays t l (rename_segment f s) (rename_segments f ss)
  hoist_declaration (DeclareOwnArrays k t l s ss) i f = DeclareOwnArrays k t l s ss
  hoist_declaration (DeclareSwitch l x m e es) i f = DeclareSwitch l x m (rename_expr f e) (rename_exprs f es)
  hoist_declaration (DeclareProcedure h s) i f = DeclareProcedure h (hoist_statement s i (within_procedure h s f))

  pub hoist_declarations : Declarations → (i : ℕ) → Renaming → Declarations
  hoist_declarations NoDeclarations i f = NoDeclarations
  hoist_declarations (MoreDeclarations d l ds) i f =
      MoreDeclarations (hoist_declaration d i f) l (hoist_declarations ds (i + owns_in_declaration d) f)

  pub hoist_group : Group → (i : ℕ) → Renaming → Group
  hoist_group (MkBlock l d m ds s ss n) i f =
      let g = within_block d ds s ss i f in
      let j = i + owns_in_declaration d in
      let k = j + owns_in_declarations ds in
      MkBlock l (hoist_declaration d i g) m (hoist_declarations ds j g) (hoist_statement s k g)
      (hoist_statements ss (k + owns_in_statement s) g) n
  hoist_group (MkCompound l s ss m) i f = MkCompound l (hoist_statement s i f) (hoist_statements ss (i + owns_in_statement s) f) m

  pub hoist_statements : Statements → (i : ℕ) → Renaming → Statements
  hoist_statements NoStatements i f = NoStatements
  hoist_statements (MoreStatements l s ss) i f =
      MoreStatements l (hoist_statement s i f) (hoist_statements ss (i + owns_in_statement s) f)

  pub hoist_statement : Statement → (i : ℕ) → Renaming → Statement
  hoist_statement (OneUnconditional u) i f = OneUnconditional (hoist_unconditional u i f)
  hoist_statement (OneConditional c) i f = OneConditional (hoist_conditional c i f)
  hoist_statement (OneLoop x) i f = OneLoop (hoist_loop x i f)

  pub hoist_unconditional : Unconditional → (i : ℕ) → Renaming → Unconditional
  hoist_unconditional (MkUnconditional ls b) i f = MkUnconditional ls (hoist_basic b i f)

  pub hoist_basic : Basic → (i : ℕ) → Renaming → Basic
  hoist_basic (OneGroup g) i f = OneGroup (hoist_group g i f)
  hoist_basic (Assign p ps e) i f = Assign (rename_part f p) (map (rename_part f) ps) (rename_expr f e)
  hoist_basic (Jump l e) i f = Jump l (rename_expr f e)
  hoist_basic (CallStatement c) i f = CallStatement (rename_call f c)
  hoist_basic Dummy i f = Dummy

  pub hoist_conditional : Conditional → (i : ℕ) → Renaming → Conditional
  hoist_conditional (IfThen ls l e m u) i f = IfThen ls l (rename_expr f e) m (hoist_unconditional u i f)
  hoist_conditional (IfElse ls l e m u n s) i f =
      IfElse ls l (rename_expr f e) m (hoist_unconditional u i f) n (hoist_statement s (i + owns_in_unconditional u) f)
  hoist_conditional (IfLoop ls l e m x) i f = IfLoop ls l (rename_expr f e) m (hoist_loop x i f)

  pub hoist_loop : Loop → (i : ℕ) → Renaming → Loop
  hoist_loop (MkLoop ls l x m t ts n s) i f =
      MkLoop ls l (rename f x) m (rename_turns f t) (rename_next_turns f ts) n (hoist_statement s i (within_turn s f))

-- the declaration without `_own`, its bounds as expressions, numbered from i
abbrev pub fresh_next : List NextName → (i : ℕ) → List NextName
fresh_next [] i = []
fresh_next (n ∷ ns) i = record { comma = n.comma; name = record { number = fresh i; line = n.name.line } } ∷ fresh_next ns (suc i)

abbrev pub fresh_names : Names → (i : ℕ) → Names
fresh_names (MkNames x ns) i = MkNames (record { number = fresh i; line = x.line }) (fresh_next ns (suc i))

abbrev pub signed_number : Adding → (sign value line : ℕ) → Expr
signed_number o k n l =
    OneSimple (OneImplication (OneDisjunction (OneConjunction (OneNegation (OneRelation (OneArithmetic (Signed o k (OneFactor
    (OnePrimary (Numeral n l))))))))))

abbrev pub constant_expr : Constant → Expr
constant_expr (Unsigned n l) = only (Numeral n l)
constant_expr (WithSign o k n l) = signed_number o k n l

abbrev pub pair_of : FixedPair → BoundPair
pair_of (MkFixedPair a l b) = MkPair (constant_expr a) l (constant_expr b)

abbrev pub further_by : {T : Type 0} → (T → List NextPair) → Further T → List NextPair
further_by pairs NoFurther = []
further_by pairs (MoreFurther l p more) = record { comma = l; pair = pair_of p } ∷ pairs more

abbrev pub further_pairs : (n : ℕ) → FurtherPairs n → List NextPair
further_pairs zero more = []
further_pairs (suc n) more = further_by (further_pairs n) more

abbrev pub fresh_segment : FixedSegment → (i : ℕ) → Segment
fresh_segment (MkFixed ns l p ps m) i = MkSegment (fresh_names ns i) l (pair_of p) (further_pairs most_further ps) m

abbrev pub count_fixed : FixedSegment → ℕ
count_fixed (MkFixed ns l p ps m) = length (list_of ns)

abbrev pub fresh_segments : List NextFixed → (i : ℕ) → List NextSegment
fresh_segments [] i = []
fresh_segments (s ∷ ss) i =
    record { comma = s.comma; segment = fresh_segment s.segment i } ∷ fresh_segments ss (i + count_fixed s.segment)

abbrev pub without_own : Declaration → (i : ℕ) → Declaration
without_own (DeclareOwn l t ns) i = DeclareType t (fresh_names ns i)
without_own (DeclareOwnArrays k t l s ss) i = DeclareArrays t l (fresh_segment s i) (fresh_segments ss (i + count_fixed s))
without_own d i = d

-- the line of a declaration's last identifier, which the new semicolon has, also where the `]` of an array stands on a later line
abbrev pub last_fixed : FixedSegment → List NextFixed → ℕ
last_fixed (MkFixed ns l p ps m) [] = last_name ns
last_fixed s (next ∷ more) = last_fixed next.segment more

abbrev pub last_own : Declaration → ℕ
last_own (DeclareOwn l t ns) = last_name ns
last_own (DeclareOwnArrays k t l s ss) = last_fixed s ss
last_own d = 0

abbrev pub hoisted_declarations : List Declaration → (i : ℕ) → Declarations
hoisted_declarations [] i = NoDeclarations
hoisted_declarations (d ∷ ds) i =
    MoreDeclarations (without_own d i) (last_own d) (hoisted_declarations ds (i + length (own_names d)))

-- the line of a program's first symbol
abbrev pub begin_line : Group → ℕ
begin_line (MkBlock l d m ds s ss n) = l
begin_line (MkCompound l s ss m) = l

abbrev pub first_line : Program → ℕ
first_line (MkProgram [] g l) = begin_line g
first_line (MkProgram (p ∷ ls) g l) = p.name.line

abbrev pub with_fresh : Program → Statement
with_fresh (MkProgram ls g l) =
    OneUnconditional
    (MkUnconditional ls (OneGroup (hoist_group g 0 (hide_labels (labels_of_program (MkProgram ls g l)) (λ x. x)))))

abbrev pub end_line : Program → ℕ
end_line (MkProgram ls g l) = l

abbrev pub hoist_by : List Declaration → Program → Program
hoist_by [] t = t
hoist_by (d ∷ ds) t =
    MkProgram [] (MkBlock (first_line t) (without_own d 0) (last_own d) (hoisted_declarations ds (length (own_names d)))
    (with_fresh t) NoStatements (end_line t)) (end_line t)

abbrev pub hoist : Program → Program
hoist t = hoist_by (owns_of_program t) t
