-- Text 4 of the hoisted parts is text 4 of the written ones.
use Rattle.std.proofs.Common.{◌≡◌, ◌∙◌, ◌+◌, ◌-◌, ◌++◌, subst, ℕ, suc, Bool, true, false, List, [], ◌∷◌, length, refl, sym as back, ap, arith}
use Rattle.std.specs.Prelude.{map, nat_lt, ◌==◌, if◌then◌else◌}
use Rattle.std.proofs.lemmas.Bool.Decides.{nat_tests}
use Rattle.gier_symbol.specs.declared.symbol.Symbol.{Symbol}
use Rattle.gier_symbol.specs.declared.tag.Tag.TheVariants.{Declaring, Comma, Colon, Semicolon, Becomes, LeftBracket, Begin, End, If, Then, Else, For, Step, Until, While, Do, Goto, Array, Switch}
use Rattle.gier_symbol.specs.ByTag.{word}
use Rattle.gier_tree.specs.declared.construct.Construct.TheVariants.{Block as MBlock, Compound as MCompound, SwitchDeclaration as MSwitch, ArraySegment as MSegment, ProcedureDeclaration as MProcedure, ProcedureBody as MBody, ForStatement as MFor, ControlledStatement as MControlled, ConditionalStatement as MConditional, Bound as MBound, SwitchElement as MElement, ForElement as MForElement, GoTo as MGoTo}
use Rattle.gier_tree.specs.Declaring.{list_of, own_names, names_of_segment, names_of_segments, name_of_heading, formals_of, labels_of_statement, labels_of_statements, labels_of_unconditional, labels_of_basic, labels_of_group, labels_of_conditional, labels_of_loop}
use Rattle.gier_tree.specs.Described.{description, array_kind}
use Rattle.gier_tree.specs.Entries.{entry, segment_entries, segments_entries, declaration_entries, procedure_entries, turn_entries, label_entries, block_entries, numbers_unconditional}
use Rattle.gier_tree.specs.Hoist.{first_fresh, fresh, means, hide, own, hide_labels, within_block, within_procedure, within_turn, behind_declaration as renames_declaration, behind_declarations as renames_declarations, hoist_declaration, hoist_declarations, hoist_group, hoist_statements, hoist_statement, hoist_unconditional, hoist_basic, hoist_conditional, hoist_loop}
use Rattle.gier_tree.specs.Lines.{first_expr, last_expr, first_turns, last_turns, first_name, last_exprs, first_left, first_labelled, last_labelled, first_statement, last_statement, first_conditional, last_conditional, first_unconditional, last_unconditional, first_basic, last_basic, first_loop, last_loop, first_heading, last_heading, group_begin, group_end}
use Rattle.gier_tree.specs.OwnCount.{owns_of_declaration, owns_of_declarations, owns_of_group, owns_of_statements, owns_of_statement, owns_of_unconditional, owns_of_basic, owns_of_conditional, owns_of_loop, count_owns, owns_in_declaration, owns_in_declarations, owns_in_statement, owns_in_unconditional}
use Rattle.gier_tree.specs.Places.{Places, block_places}
use Rattle.gier_tree.specs.Rename.{Renaming, rename_expr, rename_exprs, rename_call, rename_pair, rename_pairs, rename_segment, rename_segments, rename_left, rename_part, rename_turns, rename_next_turns}
use Rattle.gier_tree.specs.Spell.{spell_type}
use Rattle.gier_tree.specs.Texts.{entries_of, entries_of_all, all_entries, own_entries, declares, names_as, text_bound, text_pair, text_pairs, text_segment, text_segments, text_switch_element, text_switch_elements, text_heading, text_labels, text_left, text_lefts, text_turn, text_turns, text_next_turns, text_call_statement, next_line, Where, further, behind_statement, behind_declaration, behind_declarations, inner, text_declaration, text_declarations, text_group, text_statements, text_statement, text_unconditional, text_basic, text_conditional, text_loop}
use Rattle.gier_tree.specs.TextsOf.{names_of_owns}
use Rattle.gier_tree.specs.Written.{Collected, opens, shuts, number_written, own_name, used_name, text_expr}
use Rattle.gier_tree.specs.Trees.{Name, Expr, Call, Alone, WithActuals, Exprs, NoExprs, MoreExprs, ValueType, BoundPair, MkPair, NextPair, Segment, MkSegment, NextSegment, LabelPlace, LeftSide, OneName, LeftElement, LeftPart, Turns, OneValue, StepUntil, WhileTrue, NextTurns, Declaration, DeclareType, DeclareOwn, DeclareArrays, DeclareOwnArrays, DeclareSwitch, DeclareProcedure, Declarations, NoDeclarations, MoreDeclarations, Group, MkBlock, MkCompound, Statements, NoStatements, MoreStatements, Statement, OneUnconditional, OneConditional, OneLoop, Unconditional, MkUnconditional, Basic, OneGroup, Assign, Jump, CallStatement, Dummy, Conditional, IfThen, IfElse, IfLoop, Loop, MkLoop}
use Rattle.gier_written.specs.Renamed.{collected_text, IsUndone, AreSmall, AreNumbered}
use Rattle.gier_written.proofs.RenamedExpressions.{first_same_expr, last_same_expr, last_same_exprs, first_same_element, first_same_call, last_same_call, use_same, name_same, same_expr, same_call, same_element}

-- own declarations, labels and lines stay

mutual
  pub owns_declaration : (x : Declaration) (i : ℕ) (f : Renaming) (r : List Declaration) → owns_of_declaration (hoist_declaration x i f) r ≡ owns_of_declaration x r
  owns_declaration (DeclareType t ns) i f r = refl
  owns_declaration (DeclareOwn l t ns) i f r = refl
  owns_declaration (DeclareArrays t l s ss) i f r = refl
  owns_declaration (DeclareOwnArrays k t l s ss) i f r = refl
  owns_declaration (DeclareSwitch l x m e es) i f r = refl
  owns_declaration (DeclareProcedure hd s) i f r = owns_statement s i (within_procedure hd s f) r

  pub owns_declarations : (x : Declarations) (i : ℕ) (f : Renaming) (r : List Declaration) → owns_of_declarations (hoist_declarations x i f) r ≡ owns_of_declarations x r
  owns_declarations NoDeclarations i f r = refl
  owns_declarations (MoreDeclarations d l ds) i f r = owns_declaration d i f _ ∙ ap (owns_of_declaration d) (owns_declarations ds (i + owns_in_declaration d) f r)

  pub owns_group : (x : Group) (i : ℕ) (f : Renaming) (r : List Declaration) → owns_of_group (hoist_group x i f) r ≡ owns_of_group x r
  owns_group (MkBlock l d m ds s ss n) i f r =
      let g = within_block d ds s ss i f in
      let j = i + owns_in_declaration d in
      let k = j + owns_in_declarations ds in
      owns_declaration d i g _ ∙ ap (owns_of_declaration d) (owns_declarations ds j g _ ∙ ap (owns_of_declarations ds) (owns_statement s k g _ ∙ ap (owns_of_statement s) (owns_statements ss (k + owns_in_statement s) g r)))
  owns_group (MkCompound l s ss m) i f r = owns_statement s i f _ ∙ ap (owns_of_statement s) (owns_statements ss (i + owns_in_statement s) f r)

  pub owns_statements : (x : Statements) (i : ℕ) (f : Renaming) (r : List Declaration) → owns_of_statements (hoist_statements x i f) r ≡ owns_of_statements x r
  owns_statements NoStatements i f r = refl
  owns_statements (MoreStatements l s ss) i f r = owns_statement s i f _ ∙ ap (owns_of_statement s) (owns_statements ss (i + owns_in_statement s) f r)

  pub owns_statement : (x : Statement) (i : ℕ) (f : Renaming) (r : List Declaration) → owns_of_statement (hoist_statement x i f) r ≡ owns_of_statement x r
  owns_statement (OneUnconditional u) i f r = owns_unconditional u i f r
  owns_statement (OneConditional c) i f r = owns_conditional c i f r
  owns_statement (OneLoop x) i f r = owns_loop x i f r

  pub owns_unconditional : (x : Unconditional) (i : ℕ) (f : Renaming) (r : List Declaration) → owns_of_unconditional (hoist_unconditional x i f) r ≡ owns_of_unconditional x r
  owns_unconditional (MkUnconditional ls b) i f r = owns_basic b i f r

  owns_basic : (x : Basic) (i : ℕ) (f : Renaming) (r : List Declaration) → owns_of_basic (hoist_basic x i f) r ≡ owns_of_basic x r
  owns_basic (OneGroup g) i f r = owns_group g i f r
  owns_basic (Assign p ps e) i f r = refl
  owns_basic (Jump l e) i f r = refl
  owns_basic (CallStatement c) i f r = refl
  owns_basic Dummy i f r = refl

  owns_conditional : (x : Conditional) (i : ℕ) (f : Renaming) (r : List Declaration) → owns_of_conditional (hoist_conditional x i f) r ≡ owns_of_conditional x r
  owns_conditional (IfThen ls l e m u) i f r = owns_unconditional u i f r
  owns_conditional (IfElse ls l e m u n s) i f r = owns_unconditional u i f _ ∙ ap (owns_of_unconditional u) (owns_statement s (i + owns_in_unconditional u) f r)
  owns_conditional (IfLoop ls l e m x) i f r = owns_loop x i f r

  owns_loop : (x : Loop) (i : ℕ) (f : Renaming) (r : List Declaration) → owns_of_loop (hoist_loop x i f) r ≡ owns_of_loop x r
  owns_loop (MkLoop ls l x m t ts n s) i f r = owns_statement s i (within_turn s f) r

mutual
  pub labels_statement : (x : Statement) (i : ℕ) (f : Renaming) (r : List LabelPlace) → labels_of_statement (hoist_statement x i f) r ≡ labels_of_statement x r
  labels_statement (OneUnconditional u) i f r = labels_unconditional u i f r
  labels_statement (OneConditional c) i f r = labels_conditional c i f r
  labels_statement (OneLoop x) i f r = labels_loop x i f r

  pub labels_statements : (x : Statements) (i : ℕ) (f : Renaming) (r : List LabelPlace) → labels_of_statements (hoist_statements x i f) r ≡ labels_of_statements x r
  labels_statements NoStatements i f r = refl
  labels_statements (MoreStatements l s ss) i f r = labels_statement s i f _ ∙ ap (labels_of_statement s) (labels_statements ss (i + owns_in_statement s) f r)

  labels_unconditional : (x : Unconditional) (i : ℕ) (f : Renaming) (r : List LabelPlace) → labels_of_unconditional (hoist_unconditional x i f) r ≡ labels_of_unconditional x r
  labels_unconditional (MkUnconditional ls b) i f r = ap (λ m. ls ++ m) (labels_basic b i f r)

  labels_basic : (x : Basic) (i : ℕ) (f : Renaming) (r : List LabelPlace) → labels_of_basic (hoist_basic x i f) r ≡ labels_of_basic x r
  labels_basic (OneGroup g) i f r = labels_group g i f r
  labels_basic (Assign p ps e) i f r = refl
  labels_basic (Jump l e) i f r = refl
  labels_basic (CallStatement c) i f r = refl
  labels_basic Dummy i f r = refl

  pub labels_group : (x : Group) (i : ℕ) (f : Renaming) (r : List LabelPlace) → labels_of_group (hoist_group x i f) r ≡ labels_of_group x r
  labels_group (MkBlock l d m ds s ss n) i f r = refl
  labels_group (MkCompound l s ss m) i f r = labels_statement s i f _ ∙ ap (labels_of_statement s) (labels_statements ss (i + owns_in_statement s) f r)

  labels_conditional : (x : Conditional) (i : ℕ) (f : Renaming) (r : List LabelPlace) → labels_of_conditional (hoist_conditional x i f) r ≡ labels_of_conditional x r
  labels_conditional (IfThen ls l e m u) i f r = ap (λ m. ls ++ m) (labels_unconditional u i f r)
  labels_conditional (IfElse ls l e m u n s) i f r = ap (λ m. ls ++ m) (labels_unconditional u i f _ ∙ ap (labels_of_unconditional u) (labels_statement s (i + owns_in_unconditional u) f r))
  labels_conditional (IfLoop ls l e m x) i f r = ap (λ m. ls ++ m) (labels_loop x i f r)

  labels_loop : (x : Loop) (i : ℕ) (f : Renaming) (r : List LabelPlace) → labels_of_loop (hoist_loop x i f) r ≡ labels_of_loop x r
  labels_loop (MkLoop ls l x m t ts n s) i f r = refl

first_group : (x : Group) (i : ℕ) (f : Renaming) → group_begin (hoist_group x i f) ≡ group_begin x
first_group (MkBlock l d m ds s ss n) i f = refl
first_group (MkCompound l s ss m) i f = refl

pub last_group : (x : Group) (i : ℕ) (f : Renaming) → group_end (hoist_group x i f) ≡ group_end x
last_group (MkBlock l d m ds s ss n) i f = refl
last_group (MkCompound l s ss m) i f = refl

first_of_left : (f : Renaming) (x : LeftSide) → first_left (rename_left f x) ≡ first_left x
first_of_left f (OneName x) = refl
first_of_left f (LeftElement e) = first_same_element f e

first_of_basic : (x : Basic) (i : ℕ) (f : Renaming) (n : ℕ) → first_basic (hoist_basic x i f) n ≡ first_basic x n
first_of_basic (OneGroup g) i f n = first_group g i f
first_of_basic (Assign p ps e) i f n = first_of_left f p.left
first_of_basic (Jump l e) i f n = refl
first_of_basic (CallStatement c) i f n = first_same_call f c
first_of_basic Dummy i f n = refl

last_of_basic : (x : Basic) (i : ℕ) (f : Renaming) (n : ℕ) → last_basic (hoist_basic x i f) n ≡ last_basic x n
last_of_basic (OneGroup g) i f n = last_group g i f
last_of_basic (Assign p ps e) i f n = last_same_expr f e
last_of_basic (Jump l e) i f n = last_same_expr f e
last_of_basic (CallStatement c) i f n = last_same_call f c
last_of_basic Dummy i f n = refl

first_of_unconditional : (x : Unconditional) (i : ℕ) (f : Renaming) (n : ℕ) → first_unconditional (hoist_unconditional x i f) n ≡ first_unconditional x n
first_of_unconditional (MkUnconditional ls b) i f n = ap (first_labelled ls) (first_of_basic b i f n)

last_of_unconditional : (x : Unconditional) (i : ℕ) (f : Renaming) (n : ℕ) → last_unconditional (hoist_unconditional x i f) n ≡ last_unconditional x n
last_of_unconditional (MkUnconditional ls b) i f n = last_of_basic b i f (last_labelled ls n)

first_of_conditional : (x : Conditional) (i : ℕ) (f : Renaming) → first_conditional (hoist_conditional x i f) ≡ first_conditional x
first_of_conditional (IfThen ls l e m u) i f = refl
first_of_conditional (IfElse ls l e m u n s) i f = refl
first_of_conditional (IfLoop ls l e m x) i f = refl

first_of_loop : (x : Loop) (i : ℕ) (f : Renaming) → first_loop (hoist_loop x i f) ≡ first_loop x
first_of_loop (MkLoop ls l x m t ts n s) i f = refl

first_of_statement : (x : Statement) (i : ℕ) (f : Renaming) (n : ℕ) → first_statement (hoist_statement x i f) n ≡ first_statement x n
first_of_statement (OneUnconditional u) i f n = first_of_unconditional u i f n
first_of_statement (OneConditional c) i f n = first_of_conditional c i f
first_of_statement (OneLoop x) i f n = first_of_loop x i f

mutual
  last_of_statement : (x : Statement) (i : ℕ) (f : Renaming) (n : ℕ) → last_statement (hoist_statement x i f) n ≡ last_statement x n
  last_of_statement (OneUnconditional u) i f n = last_of_unconditional u i f n
  last_of_statement (OneConditional c) i f n = last_of_conditional c i f
  last_of_statement (OneLoop x) i f n = last_of_loop x i f

  last_of_conditional : (x : Conditional) (i : ℕ) (f : Renaming) → last_conditional (hoist_conditional x i f) ≡ last_conditional x
  last_of_conditional (IfThen ls l e m u) i f = last_of_unconditional u i f m
  last_of_conditional (IfElse ls l e m u n s) i f = last_of_statement s (i + owns_in_unconditional u) f n
  last_of_conditional (IfLoop ls l e m x) i f = last_of_loop x i f

  last_of_loop : (x : Loop) (i : ℕ) (f : Renaming) → last_loop (hoist_loop x i f) ≡ last_loop x
  last_of_loop (MkLoop ls l x m t ts n s) i f = last_of_statement s i (within_turn s f) n

next_same : (x : Statements) (i : ℕ) (f : Renaming) (n : ℕ) → next_line (hoist_statements x i f) n ≡ next_line x n
next_same NoStatements i f n = refl
next_same (MoreStatements l s ss) i f n = refl

-- entries
pairs_length : (f : Renaming) (ps : List NextPair) → length (rename_pairs f ps) ≡ length ps
pairs_length f [] = refl
pairs_length f (p ∷ ps) = ap suc (pairs_length f ps)

segment_same : (t : ValueType) (f : Renaming) (s : Segment) → segment_entries t (rename_segment f s) ≡ segment_entries t s
segment_same t f (MkSegment ns l p ps m) = ap (λ n. map (entry (description (array_kind t) (suc n) [])) (list_of ns)) (pairs_length f ps)

segments_same : (t : ValueType) (f : Renaming) (ss : List NextSegment) → segments_entries t (rename_segments f ss) ≡ segments_entries t ss
segments_same t f [] = refl
segments_same t f (s ∷ ss) = ap (λ a. a ++ segments_entries t (rename_segments f ss)) (segment_same t f s.segment) ∙ ap (λ a. segment_entries t s.segment ++ a) (segments_same t f ss)

entries_same : (d : Declaration) (i : ℕ) (f : Renaming) → declaration_entries (hoist_declaration d i f) ≡ declaration_entries d
entries_same (DeclareType t ns) i f = refl
entries_same (DeclareOwn l t ns) i f = refl
entries_same (DeclareArrays t l s ss) i f = ap (λ a. a ++ segments_entries t.type (rename_segments f ss)) (segment_same t.type f s) ∙ ap (λ a. segment_entries t.type s ++ a) (segments_same t.type f ss)
entries_same (DeclareOwnArrays k t l s ss) i f = refl
entries_same (DeclareSwitch l x m e es) i f = refl
entries_same (DeclareProcedure hd s) i f = refl

own_names_same : (d : Declaration) (i : ℕ) (f : Renaming) → own_names (hoist_declaration d i f) ≡ own_names d
own_names_same (DeclareType t ns) i f = refl
own_names_same (DeclareOwn l t ns) i f = refl
own_names_same (DeclareArrays t l s ss) i f = refl
own_names_same (DeclareOwnArrays k t l s ss) i f = refl
own_names_same (DeclareSwitch l x m e es) i f = refl
own_names_same (DeclareProcedure hd s) i f = refl

count_same : (d : Declaration) (i : ℕ) (f : Renaming) → owns_in_declaration (hoist_declaration d i f) ≡ owns_in_declaration d
count_same d i f = ap count_owns (owns_declaration d i f [])

entries_of_same : (d : Declaration) (i : ℕ) (f : Renaming) (j l : ℕ) (k : List Symbol) → entries_of Collected (hoist_declaration d i f) j l k ≡ entries_of Collected d j l k
entries_of_same d i f j l k = ap (λ es. all_entries es l (own_entries (own_names (hoist_declaration d i f)) j l k)) (entries_same d i f) ∙ ap (λ xs. all_entries (declaration_entries d) l (own_entries xs j l k)) (own_names_same d i f)

entries_all_same : (ds : Declarations) (i : ℕ) (f : Renaming) (j l : ℕ) (k : List Symbol) → entries_of_all Collected (hoist_declarations ds i f) j l k ≡ entries_of_all Collected ds j l k
entries_all_same NoDeclarations i f j l k = refl
entries_all_same (MoreDeclarations d m ds) i f j l k = entries_of_same d i f j l _ ∙ ap (entries_of Collected d j l) (entries_all_same ds (i + owns_in_declaration d) f (j + owns_in_declaration (hoist_declaration d i f)) l k ∙ ap (λ n. entries_of_all Collected ds (j + n) l k) (count_same d i f))

heads_same : (d : Declaration) (ds : Declarations) (i j : ℕ) (g : Renaming) (m n l : ℕ) (k : List Symbol) → m ≡ n → entries_of Collected (hoist_declaration d i g) m l (entries_of_all Collected (hoist_declarations ds j g) (m + owns_in_declaration (hoist_declaration d i g)) l k) ≡ entries_of Collected d n l (entries_of_all Collected ds (n + owns_in_declaration d) l k)
heads_same d ds i j g m n l k e = entries_of_same d i g m l (entries_of_all Collected (hoist_declarations ds j g) (m + owns_in_declaration (hoist_declaration d i g)) l k)
    ∙ ap (λ z. entries_of Collected d m l z) (entries_all_same ds j g (m + owns_in_declaration (hoist_declaration d i g)) l k)
    ∙ ap (λ z. entries_of Collected d m l (entries_of_all Collected ds (m + z) l k)) (count_same d i g)
    ∙ ap (λ z. entries_of Collected d z l (entries_of_all Collected ds (z + owns_in_declaration d) l k)) e

-- the own quantities of a part, and those that follow
mutual
  pub app_declaration : (x : Declaration) (r t : List Declaration) → owns_of_declaration x (r ++ t) ≡ owns_of_declaration x r ++ t
  app_declaration (DeclareType y ns) r t = refl
  app_declaration (DeclareOwn l y ns) r t = refl
  app_declaration (DeclareArrays y l s ss) r t = refl
  app_declaration (DeclareOwnArrays k y l s ss) r t = refl
  app_declaration (DeclareSwitch l x m e es) r t = refl
  app_declaration (DeclareProcedure hd s) r t = app_statement s r t

  pub app_declarations : (x : Declarations) (r t : List Declaration) → owns_of_declarations x (r ++ t) ≡ owns_of_declarations x r ++ t
  app_declarations NoDeclarations r t = refl
  app_declarations (MoreDeclarations d l ds) r t = ap (owns_of_declaration d) (app_declarations ds r t) ∙ app_declaration d _ t

  app_group : (x : Group) (r t : List Declaration) → owns_of_group x (r ++ t) ≡ owns_of_group x r ++ t
  app_group (MkBlock l d m ds s ss n) r t = ap (λ a. owns_of_declaration d (owns_of_declarations ds (owns_of_statement s a))) (app_statements ss r t) ∙ ap (λ a. owns_of_declaration d (owns_of_declarations ds a)) (app_statement s _ t) ∙ ap (owns_of_declaration d) (app_declarations ds _ t) ∙ app_declaration d _ t
  app_group (MkCompound l s ss m) r t = ap (owns_of_statement s) (app_statements ss r t) ∙ app_statement s _ t

  pub app_statements : (x : Statements) (r t : List Declaration) → owns_of_statements x (r ++ t) ≡ owns_of_statements x r ++ t
  app_statements NoStatements r t = refl
  app_statements (MoreStatements l s ss) r t = ap (owns_of_statement s) (app_statements ss r t) ∙ app_statement s _ t

  pub app_statement : (x : Statement) (r t : List Declaration) → owns_of_statement x (r ++ t) ≡ owns_of_statement x r ++ t
  app_statement (OneUnconditional u) r t = app_unconditional u r t
  app_statement (OneConditional c) r t = app_conditional c r t
  app_statement (OneLoop x) r t = app_loop x r t

  app_unconditional : (x : Unconditional) (r t : List Declaration) → owns_of_unconditional x (r ++ t) ≡ owns_of_unconditional x r ++ t
  app_unconditional (MkUnconditional ls b) r t = app_basic b r t

  app_basic : (x : Basic) (r t : List Declaration) → owns_of_basic x (r ++ t) ≡ owns_of_basic x r ++ t
  app_basic (OneGroup g) r t = app_group g r t
  app_basic (Assign p ps e) r t = refl
  app_basic (Jump l e) r t = refl
  app_basic (CallStatement c) r t = refl
  app_basic Dummy r t = refl

  app_conditional : (x : Conditional) (r t : List Declaration) → owns_of_conditional x (r ++ t) ≡ owns_of_conditional x r ++ t
  app_conditional (IfThen ls l e m u) r t = app_unconditional u r t
  app_conditional (IfElse ls l e m u n s) r t = ap (owns_of_unconditional u) (app_statement s r t) ∙ app_unconditional u _ t
  app_conditional (IfLoop ls l e m x) r t = app_loop x r t

  app_loop : (x : Loop) (r t : List Declaration) → owns_of_loop x (r ++ t) ≡ owns_of_loop x r ++ t
  app_loop (MkLoop ls l x m u us n s) r t = app_statement s r t

the : (A : Type 0) → A → A
the A a = a

-- the numbers from i on are those of these names
abbrev At : List Name → (i : ℕ) → List Name → Type 0
At os i xs = (j : ℕ) → own_name os (i + j) ≡ own_name xs j

at_suc : (os : List Name) (i : ℕ) (x : Name) (xs : List Name) → At os i (x ∷ xs) → At os (suc i) xs
at_suc os i x xs a = λ j. ap (own_name os) (the (suc i + j ≡ i + suc j) (omega arith)) ∙ a (suc j)

at_behind : (os : List Name) (i : ℕ) (xs ys : List Name) → At os i (xs ++ ys) → At os (i + length xs) ys
at_behind os i [] ys a = λ j. ap (own_name os) (the ((i + 0) + j ≡ i + j) (omega arith)) ∙ a j
at_behind os i (x ∷ xs) ys a = λ j. ap (own_name os) (the ((i + suc (length xs)) + j ≡ (suc i + length xs) + j) (omega arith)) ∙ at_behind os (suc i) xs ys (at_suc os i x (xs ++ ys) a) j

numbered_behind : (os : List Name) (i : ℕ) (a b : List Declaration) → AreNumbered os i (a ++ b) → AreNumbered os (i + count_owns a) b
numbered_behind os i [] b t = λ j. ap (own_name os) (the ((i + 0) + j ≡ i + j) (omega arith)) ∙ t j
numbered_behind os i (d ∷ a) b t = λ j. ap (own_name os) (the ((i + (length (own_names d) + count_owns a)) + j ≡ ((i + length (own_names d)) + count_owns a) + j) (omega arith)) ∙ numbered_behind os (i + length (own_names d)) a b (at_behind os i (own_names d) (names_of_owns (a ++ b)) t) j

numbered_declaration : (os : List Name) (i : ℕ) (x : Declaration) (r : List Declaration) → AreNumbered os i (owns_of_declaration x r) → AreNumbered os (i + owns_in_declaration x) r
numbered_declaration os i x r t = numbered_behind os i (owns_of_declaration x []) r (subst (AreNumbered os i) (app_declaration x [] r) t)

numbered_declarations : (os : List Name) (i : ℕ) (x : Declarations) (r : List Declaration) → AreNumbered os i (owns_of_declarations x r) → AreNumbered os (i + owns_in_declarations x) r
numbered_declarations os i x r t = numbered_behind os i (owns_of_declarations x []) r (subst (AreNumbered os i) (app_declarations x [] r) t)

numbered_statement : (os : List Name) (i : ℕ) (x : Statement) (r : List Declaration) → AreNumbered os i (owns_of_statement x r) → AreNumbered os (i + owns_in_statement x) r
numbered_statement os i x r t = numbered_behind os i (owns_of_statement x []) r (subst (AreNumbered os i) (app_statement x [] r) t)

numbered_unconditional : (os : List Name) (i : ℕ) (x : Unconditional) (r : List Declaration) → AreNumbered os i (owns_of_unconditional x r) → AreNumbered os (i + owns_in_unconditional x) r
numbered_unconditional os i x r t = numbered_behind os i (owns_of_unconditional x []) r (subst (AreNumbered os i) (app_unconditional x [] r) t)

-- what is renamed is written as it was
fresh_not : (i : ℕ) → nat_lt (4294967296 + i) 4294967296 ≡ false
fresh_not i = grind (arith, nat_tests)

fresh_less : (i : ℕ) → (4294967296 + i) - 4294967296 ≡ i
fresh_less i = omega arith

fresh_written : (os : List Name) (i : ℕ) → number_written os (fresh i) ≡ own_name os i
fresh_written os i = rw (fresh_not i) (ap (own_name os) (fresh_less i))

small_written : (os : List Name) (y : ℕ) → nat_lt y first_fresh ≡ true → number_written os y ≡ y
small_written os y h = rw h refl

means_back : (os : List Name) (f : Renaming) (h : IsUndone os f) (x new : ℕ) → number_written os new ≡ number_written os x → IsUndone os (means x new f)
means_back os f h x new g = λ y. by_test y (y == x) refl
  where
    same_number : (y : ℕ) → (y == x) ≡ true → y ≡ x
    same_number y e = grind (arith, nat_tests)

    by_test : (y : ℕ) (b : Bool) → (y == x) ≡ b → number_written os (if b then new else f y) ≡ number_written os y
    by_test y true e = g ∙ ap (number_written os) (back (same_number y e))
    by_test y false e = h y

pub hide_back : (os : List Name) (f : Renaming) (h : IsUndone os f) (xs : List Name) → IsUndone os (hide xs f)
hide_back os f h [] = h
hide_back os f h (x ∷ xs) = means_back os (hide xs f) (hide_back os f h xs) x.number x.number refl

own_back : (os : List Name) (small : AreSmall os) (f : Renaming) (h : IsUndone os f) (i : ℕ) (xs rest : List Name) → At os i (xs ++ rest) → IsUndone os (own xs i f)
own_back os small f h i [] rest a = h
own_back os small f h i (x ∷ xs) rest a =
    let e : own_name os i ≡ x.number = ap (own_name os) (the (i ≡ i + 0) (omega arith)) ∙ a 0 in
    means_back os (own xs (suc i) f) (own_back os small f h (suc i) xs rest (at_suc os i x (xs ++ rest) a)) x.number (fresh i) (fresh_written os i ∙ e ∙ back (small_written os x.number (subst (λ n. nat_lt n first_fresh ≡ true) e (small i))))

declaration_back : (os : List Name) (small : AreSmall os) (f : Renaming) (h : IsUndone os f) (i : ℕ) (d : Declaration) (r : List Declaration) → AreNumbered os i (owns_of_declaration d r) → IsUndone os (renames_declaration d i f)
declaration_back os small f h i (DeclareType t ns) r a = hide_back os f h (list_of ns)
declaration_back os small f h i (DeclareOwn l t ns) r a = own_back os small f h i (list_of ns) (names_of_owns r) a
declaration_back os small f h i (DeclareArrays t l s ss) r a = hide_back os f h (names_of_segment s ++ names_of_segments ss)
declaration_back os small f h i (DeclareOwnArrays k t l s ss) r a = own_back os small f h i (own_names (DeclareOwnArrays k t l s ss)) (names_of_owns r) a
declaration_back os small f h i (DeclareSwitch l x m e es) r a = hide_back os f h (x ∷ [])
declaration_back os small f h i (DeclareProcedure hd s) r a = hide_back os f h (name_of_heading hd ∷ [])

declarations_back : (os : List Name) (small : AreSmall os) (f : Renaming) (h : IsUndone os f) (i : ℕ) (ds : Declarations) (r : List Declaration) → AreNumbered os i (owns_of_declarations ds r) → IsUndone os (renames_declarations ds i f)
declarations_back os small f h i NoDeclarations r a = h
declarations_back os small f h i (MoreDeclarations d l ds) r a = declaration_back os small _ (declarations_back os small f h (i + owns_in_declaration d) ds r (numbered_declaration os i d _ a)) i d (owns_of_declarations ds r) a

-- parts of statements

bound_same : (os : List Name) (f : Renaming) (h : IsUndone os f) (p q : Places) (e : Expr) (k : List Symbol) → text_bound (collected_text os) p (rename_expr f e) k ≡ text_bound (collected_text os) q e k
bound_same os f h p q e k = rw (first_same_expr f e) (rw (last_same_expr f e) (ap (λ r. opens MBound (first_expr e) ∷ r) (same_expr os f h p q e _)))

pair_same : (os : List Name) (f : Renaming) (h : IsUndone os f) (p q : Places) (x : BoundPair) (k : List Symbol) → text_pair (collected_text os) p (rename_pair f x) k ≡ text_pair (collected_text os) q x k
pair_same os f h p q (MkPair a l b) k = bound_same os f h p q a _ ∙ ap (λ r. text_bound (collected_text os) q a (word Colon l ∷ r)) (bound_same os f h p q b k)

pairs_same : (os : List Name) (f : Renaming) (h : IsUndone os f) (p q : Places) (x : List NextPair) (k : List Symbol) → text_pairs (collected_text os) p (rename_pairs f x) k ≡ text_pairs (collected_text os) q x k
pairs_same os f h p q [] k = refl
pairs_same os f h p q (n ∷ ns) k = ap (λ r. word Comma n.comma ∷ r) (pair_same os f h p q n.pair _ ∙ ap (text_pair (collected_text os) q n.pair) (pairs_same os f h p q ns k))

array_same : (os : List Name) (f : Renaming) (h : IsUndone os f) (p q : Places) (x : Segment) (k : List Symbol) → text_segment (collected_text os) p (rename_segment f x) k ≡ text_segment (collected_text os) q x k
array_same os f h p q (MkSegment ns l b bs m) k = ap (λ r. opens MSegment (first_name ns) ∷ names_as Declaring ns (word LeftBracket l ∷ r)) (pair_same os f h p q b _ ∙ ap (text_pair (collected_text os) q b) (pairs_same os f h p q bs _))

arrays_same : (os : List Name) (f : Renaming) (h : IsUndone os f) (p q : Places) (x : List NextSegment) (k : List Symbol) → text_segments (collected_text os) p (rename_segments f x) k ≡ text_segments (collected_text os) q x k
arrays_same os f h p q [] k = refl
arrays_same os f h p q (s ∷ ss) k = ap (λ r. word Comma s.comma ∷ r) (array_same os f h p q s.segment _ ∙ ap (text_segment (collected_text os) q s.segment) (arrays_same os f h p q ss k))

switch_same : (os : List Name) (f : Renaming) (h : IsUndone os f) (p q : Places) (e : Expr) (k : List Symbol) → text_switch_element (collected_text os) p (rename_expr f e) k ≡ text_switch_element (collected_text os) q e k
switch_same os f h p q e k = rw (first_same_expr f e) (rw (last_same_expr f e) (ap (λ r. opens MElement (first_expr e) ∷ r) (same_expr os f h p q e _)))

switches_same : (os : List Name) (f : Renaming) (h : IsUndone os f) (p q : Places) (x : Exprs) (k : List Symbol) → text_switch_elements (collected_text os) p (rename_exprs f x) k ≡ text_switch_elements (collected_text os) q x k
switches_same os f h p q NoExprs k = refl
switches_same os f h p q (MoreExprs l e es) k = ap (λ r. word Comma l ∷ r) (switch_same os f h p q e _ ∙ ap (text_switch_element (collected_text os) q e) (switches_same os f h p q es k))

left_same : (os : List Name) (f : Renaming) (h : IsUndone os f) (p q : Places) (x : LeftSide) (k : List Symbol) → text_left (collected_text os) p (rename_left f x) k ≡ text_left (collected_text os) q x k
left_same os f h p q (OneName x) k = use_same os f h p q x k
left_same os f h p q (LeftElement e) k = same_element os f h p q e k

lefts_same : (os : List Name) (f : Renaming) (h : IsUndone os f) (p q : Places) (x : List LeftPart) (k : List Symbol) → text_lefts (collected_text os) p (map (rename_part f) x) k ≡ text_lefts (collected_text os) q x k
lefts_same os f h p q [] k = refl
lefts_same os f h p q (x ∷ xs) k = left_same os f h p q x.left _ ∙ ap (λ r. text_left (collected_text os) q x.left (word Becomes x.becomes ∷ r)) (lefts_same os f h p q xs k)

first_of_turns : (f : Renaming) (x : Turns) → first_turns (rename_turns f x) ≡ first_turns x
first_of_turns f (OneValue e) = first_same_expr f e
first_of_turns f (StepUntil a l b m c) = first_same_expr f a
first_of_turns f (WhileTrue e l g) = first_same_expr f e

last_of_turns : (f : Renaming) (x : Turns) → last_turns (rename_turns f x) ≡ last_turns x
last_of_turns f (OneValue e) = last_same_expr f e
last_of_turns f (StepUntil a l b m c) = last_same_expr f c
last_of_turns f (WhileTrue e l g) = last_same_expr f g

turn_same : (os : List Name) (f : Renaming) (h : IsUndone os f) (p q : Places) (x : Turns) (k : List Symbol) → text_turn (collected_text os) p (rename_turns f x) k ≡ text_turn (collected_text os) q x k
turn_same os f h p q (OneValue e) k = same_expr os f h p q e k
turn_same os f h p q (StepUntil a l b m c) k = same_expr os f h p q a _ ∙ ap (λ r. text_expr (collected_text os) q a (word Step l ∷ r)) (same_expr os f h p q b _ ∙ ap (λ r. text_expr (collected_text os) q b (word Until m ∷ r)) (same_expr os f h p q c k))
turn_same os f h p q (WhileTrue e l g) k = same_expr os f h p q e _ ∙ ap (λ r. text_expr (collected_text os) q e (word While l ∷ r)) (same_expr os f h p q g k)

turns_same : (os : List Name) (f : Renaming) (h : IsUndone os f) (p q : Places) (x : Turns) (k : List Symbol) → text_turns (collected_text os) p (rename_turns f x) k ≡ text_turns (collected_text os) q x k
turns_same os f h p q x k = rw (first_of_turns f x) (rw (last_of_turns f x) (ap (λ r. opens MForElement (first_turns x) ∷ r) (turn_same os f h p q x _)))

next_turns_same : (os : List Name) (f : Renaming) (h : IsUndone os f) (p q : Places) (x : List NextTurns) (k : List Symbol) → text_next_turns (collected_text os) p (rename_next_turns f x) k ≡ text_next_turns (collected_text os) q x k
next_turns_same os f h p q [] k = refl
next_turns_same os f h p q (u ∷ us) k = ap (λ r. word Comma u.comma ∷ r) (turns_same os f h p q u.turns _ ∙ ap (text_turns (collected_text os) q u.turns) (next_turns_same os f h p q us k))

call_same : (os : List Name) (f : Renaming) (h : IsUndone os f) (p q : Places) (x : Call) (k : List Symbol) → text_call_statement (collected_text os) p (rename_call f x) k ≡ text_call_statement (collected_text os) q x k
call_same os f h p q (Alone x) k = name_same os f h p q true true x k
call_same os f h p q (WithActuals x l a more m) k = same_call os f h p q (WithActuals x l a more m) k

last_switch : (f : Renaming) (e : Expr) (es : Exprs) → last_exprs (last_expr (rename_expr f e)) (rename_exprs f es) ≡ last_exprs (last_expr e) es
last_switch f e es = last_same_exprs f (last_expr (rename_expr f e)) es ∙ ap (λ m. last_exprs m es) (last_same_expr f e)

-- declarations and statements
mutual
  pub same_declaration : (os : List Name) (small : AreSmall os) (f : Renaming) (h : IsUndone os f) (p q : Places) (w v : Where) (i : ℕ) (a : w.owns ≡ i) (b : v.owns ≡ i) (next : ℕ) (x : Declaration) (r : List Declaration) → AreNumbered os i (owns_of_declaration x r) → (k : List Symbol) → text_declaration (collected_text os) p w next (hoist_declaration x i f) k ≡ text_declaration (collected_text os) q v next x k
  same_declaration os small f h p q w v i a b next (DeclareType y ns) r t k = refl
  same_declaration os small f h p q w v i a b next (DeclareOwn l y ns) r t k = refl
  same_declaration os small f h p q w v i a b next (DeclareArrays y l s ss) r t k = ap (λ r. spell_type y (word Array l ∷ r)) (array_same os f h p q s _ ∙ ap (text_segment (collected_text os) q s) (arrays_same os f h p q ss k))
  same_declaration os small f h p q w v i a b next (DeclareOwnArrays k' y l s ss) r t k = refl
  same_declaration os small f h p q w v i a b next (DeclareSwitch l x m e es) r t k = rw (last_switch f e es) (ap (λ r. opens MSwitch l ∷ word Switch l ∷ declares x ∷ word Becomes m ∷ r) (switch_same os f h p q e _ ∙ ap (text_switch_element (collected_text os) q e) (switches_same os f h p q es _)))
  same_declaration os small f h p q w v i a b next (DeclareProcedure hd s) r t k =
      let g = within_procedure hd s f in
      rw (labels_statement s i g [], first_of_statement s i g next, last_of_statement s i g next, last_of_statement s i g (last_heading hd))
      (ap (λ r. opens MProcedure (first_heading hd) ∷ all_entries (procedure_entries hd s) (first_heading hd) (text_heading hd (opens MBody (first_statement s next) ∷ r)))
      (same_statement os small g (hide_back os (hide_labels (labels_of_statement s []) f) (hide_back os f h (map (λ l. l.name) (labels_of_statement s []))) (formals_of hd)) _ _ _ _ i a b next s r t _))

  pub same_declarations : (os : List Name) (small : AreSmall os) (f : Renaming) (h : IsUndone os f) (p q : Places) (w v : Where) (i : ℕ) (a : w.owns ≡ i) (b : v.owns ≡ i) (x : Declarations) (r : List Declaration) → AreNumbered os i (owns_of_declarations x r) → (k : List Symbol) → text_declarations (collected_text os) p w (hoist_declarations x i f) k ≡ text_declarations (collected_text os) q v x k
  same_declarations os small f h p q w v i a b NoDeclarations r t k = refl
  same_declarations os small f h p q w v i a b (MoreDeclarations d l ds) r t k = same_declaration os small f h p q w v i a b l d (owns_of_declarations ds r) t _ ∙ ap (λ r. text_declaration (collected_text os) q v l d (word Semicolon l ∷ r)) (same_declarations os small f h p q (behind_declaration w (hoist_declaration d i f)) (behind_declaration v d) (i + owns_in_declaration d) (omega (arith, a, count_same d i f)) (omega (arith, b)) ds r (numbered_declaration os i d _ t) k)

  pub same_group : (os : List Name) (small : AreSmall os) (f : Renaming) (h : IsUndone os f) (p q : Places) (w v : Where) (i : ℕ) (a : w.owns ≡ i) (b : v.owns ≡ i) (x : Group) (r : List Declaration) → AreNumbered os i (owns_of_group x r) → (k : List Symbol) → text_group (collected_text os) p w (hoist_group x i f) k ≡ text_group (collected_text os) q v x k
  same_group os small f h p q w v i a b (MkBlock l d m ds s ss n) r t k =
      let g = within_block d ds s ss i f in
      let j = i + owns_in_declaration d in
      let c = j + owns_in_declarations ds in
      let t1 : AreNumbered os j (owns_of_declarations ds (owns_of_statement s (owns_of_statements ss r))) = numbered_declaration os i d _ t in
      let t2 : AreNumbered os c (owns_of_statement s (owns_of_statements ss r)) = numbered_declarations os j ds _ t1 in
      let t3 : AreNumbered os (c + owns_in_statement s) (owns_of_statements ss r) = numbered_statement os c s _ t2 in
      let gb : IsUndone os g = declaration_back os small _ (declarations_back os small (hide_labels (labels_of_statement s (labels_of_statements ss [])) f) (hide_back os f h (map (λ l. l.name) (labels_of_statement s (labels_of_statements ss [])))) j ds _ t1) i d _ t in
      let ed = count_same d i g in
      let eds : owns_in_declarations (hoist_declarations ds j g) ≡ owns_in_declarations ds = ap count_owns (owns_declarations ds j g []) in
      let es : owns_in_statement (hoist_statement s c g) ≡ owns_in_statement s = ap count_owns (owns_statement s c g []) in
      let a2 : w.owns + owns_in_declaration (hoist_declaration d i g) ≡ j = omega (arith, a, ed) in
      let b2 : v.owns + owns_in_declaration d ≡ j = omega (arith, b) in
      let a3 : (w.owns + owns_in_declaration (hoist_declaration d i g)) + owns_in_declarations (hoist_declarations ds j g) ≡ c = omega (arith, a, ed, eds) in
      let b3 : (v.owns + owns_in_declaration d) + owns_in_declarations ds ≡ c = omega (arith, b) in
      let a4 : ((w.owns + owns_in_declaration (hoist_declaration d i g)) + owns_in_declarations (hoist_declarations ds j g)) + owns_in_statement (hoist_statement s c g) ≡ c + owns_in_statement s = omega (arith, a, ed, eds, es) in
      let b4 : ((v.owns + owns_in_declaration d) + owns_in_declarations ds) + owns_in_statement s ≡ c + owns_in_statement s = omega (arith, b) in
      let d' = hoist_declaration d i g in
      let ds' = hoist_declarations ds j g in
      let s' = hoist_statement s c g in
      let ss' = hoist_statements ss (c + owns_in_statement s) g in
      let p' = block_places (suc w.level) w.numbers d' ds' s' ss' p in
      let q' = block_places (suc v.level) v.numbers d ds s ss q in
      let w1 = inner w (block_entries d' ds' s' ss') in
      let v1 = inner v (block_entries d ds s ss) in
      let w2 = behind_declaration w1 d' in
      let v2 = behind_declaration v1 d in
      let w3 = behind_declarations w2 ds' in
      let v3 = behind_declarations v2 ds in
      let end : List Symbol = word End n ∷ shuts MBlock n ∷ k in
      let e4 : text_statements (collected_text os) p' (behind_statement w3 s') n ss' end ≡ text_statements (collected_text os) q' (behind_statement v3 s) n ss end = same_statements os small g gb p' q' (behind_statement w3 s') (behind_statement v3 s) (c + owns_in_statement s) a4 b4 n ss r t3 end in
      let k4 = text_statements (collected_text os) p' (behind_statement w3 s') n ss' end in
      let e3 : text_statement (collected_text os) p' w3 (next_line ss' n) s' k4 ≡ text_statement (collected_text os) q' v3 (next_line ss n) s (text_statements (collected_text os) q' (behind_statement v3 s) n ss end) =
      ap (λ z. text_statement (collected_text os) p' w3 z s' k4) (next_same ss (c + owns_in_statement s) g n) ∙ same_statement os small g gb p' q' w3 v3 c a3 b3 (next_line ss n) s (owns_of_statements ss r) t2 k4 ∙ ap (λ z. text_statement (collected_text os) q' v3 (next_line ss n) s z) e4 in
      let k3 = text_statement (collected_text os) p' w3 (next_line ss' n) s' k4 in
      let e2 = same_declarations os small g gb p' q' w2 v2 j a2 b2 ds (owns_of_statement s (owns_of_statements ss r)) t1 k3 ∙ ap (λ z. text_declarations (collected_text os) q' v2 ds z) e3 in
      let k2 = text_declarations (collected_text os) p' w2 ds' k3 in
      let e1 = same_declaration os small g gb p' q' w1 v1 i a b m d (owns_of_declarations ds (owns_of_statement s (owns_of_statements ss r))) t (word Semicolon m ∷ k2) ∙ ap (λ z. text_declaration (collected_text os) q' v1 m d (word Semicolon m ∷ z)) e2 in
      let k1 = text_declaration (collected_text os) p' w1 m d' (word Semicolon m ∷ k2) in
      let el = labels_statement s c g (labels_of_statements ss' []) ∙ ap (λ z. labels_of_statement s z) (labels_statements ss (c + owns_in_statement s) g []) in
      ap (λ z. opens MBlock l ∷ entries_of Collected d' w.owns l (entries_of_all Collected ds' (w.owns + owns_in_declaration d') l (all_entries (label_entries z) l (word Begin l ∷ k1)))) el
      ∙ ap (λ z. opens MBlock l ∷ z) (heads_same d ds i j g w.owns v.owns l (all_entries (label_entries (labels_of_statement s (labels_of_statements ss []))) l (word Begin l ∷ k1)) (a ∙ back b))
      ∙ ap (λ z. opens MBlock l ∷ entries_of Collected d v.owns l (entries_of_all Collected ds (v.owns + owns_in_declaration d) l (all_entries (label_entries (labels_of_statement s (labels_of_statements ss []))) l (word Begin l ∷ z)))) e1
  same_group os small f h p q w v i a b (MkCompound l s ss n) r t k =
      rw (next_same ss (i + owns_in_statement s) f n)
      (ap (λ r. opens MCompound l ∷ word Begin l ∷ r) (same_statement os small f h p q w v i a b (next_line ss n) s (owns_of_statements ss r) t _ ∙ ap (text_statement (collected_text os) q v (next_line ss n) s)
      (same_statements os small f h p q (behind_statement w (hoist_statement s i f)) (behind_statement v s) (i + owns_in_statement s) (omega (arith, a, ap count_owns (owns_statement s i f []))) (omega (arith, b)) n ss r (numbered_statement os i s _ t) _)))

  pub same_statements : (os : List Name) (small : AreSmall os) (f : Renaming) (h : IsUndone os f) (p q : Places) (w v : Where) (i : ℕ) (a : w.owns ≡ i) (b : v.owns ≡ i) (next : ℕ) (x : Statements) (r : List Declaration) → AreNumbered os i (owns_of_statements x r) → (k : List Symbol) → text_statements (collected_text os) p w next (hoist_statements x i f) k ≡ text_statements (collected_text os) q v next x k
  same_statements os small f h p q w v i a b next NoStatements r t k = refl
  same_statements os small f h p q w v i a b next (MoreStatements l s ss) r t k =
      rw (next_same ss (i + owns_in_statement s) f next)
      (ap (λ r. word Semicolon l ∷ r) (same_statement os small f h p q w v i a b (next_line ss next) s (owns_of_statements ss r) t _ ∙ ap (text_statement (collected_text os) q v (next_line ss next) s)
      (same_statements os small f h p q (behind_statement w (hoist_statement s i f)) (behind_statement v s) (i + owns_in_statement s) (omega (arith, a, ap count_owns (owns_statement s i f []))) (omega (arith, b)) next ss r (numbered_statement os i s _ t) k)))

  pub same_statement : (os : List Name) (small : AreSmall os) (f : Renaming) (h : IsUndone os f) (p q : Places) (w v : Where) (i : ℕ) (a : w.owns ≡ i) (b : v.owns ≡ i) (next : ℕ) (x : Statement) (r : List Declaration) → AreNumbered os i (owns_of_statement x r) → (k : List Symbol) → text_statement (collected_text os) p w next (hoist_statement x i f) k ≡ text_statement (collected_text os) q v next x k
  same_statement os small f h p q w v i a b next (OneUnconditional u) r t k = same_unconditional os small f h p q w v i a b next u r t k
  same_statement os small f h p q w v i a b next (OneConditional c) r t k = same_conditional os small f h p q w v i a b next c r t k
  same_statement os small f h p q w v i a b next (OneLoop x) r t k = same_loop os small f h p q w v i a b next x r t k

  pub same_unconditional : (os : List Name) (small : AreSmall os) (f : Renaming) (h : IsUndone os f) (p q : Places) (w v : Where) (i : ℕ) (a : w.owns ≡ i) (b : v.owns ≡ i) (next : ℕ) (x : Unconditional) (r : List Declaration) → AreNumbered os i (owns_of_unconditional x r) → (k : List Symbol) → text_unconditional (collected_text os) p w next (hoist_unconditional x i f) k ≡ text_unconditional (collected_text os) q v next x k
  same_unconditional os small f h p q w v i a b next (MkUnconditional ls x) r t k = ap (text_labels ls) (same_basic os small f h p q w v i a b x r t k)

  pub same_basic : (os : List Name) (small : AreSmall os) (f : Renaming) (h : IsUndone os f) (p q : Places) (w v : Where) (i : ℕ) (a : w.owns ≡ i) (b : v.owns ≡ i) (x : Basic) (r : List Declaration) → AreNumbered os i (owns_of_basic x r) → (k : List Symbol) → text_basic (collected_text os) p w (hoist_basic x i f) k ≡ text_basic (collected_text os) q v x k
  same_basic os small f h p q w v i a b (OneGroup x) r t k = same_group os small f h p q w v i a b x r t k
  same_basic os small f h p q w v i a b (Assign x xs e) r t k = lefts_same os f h p q (x ∷ xs) _ ∙ ap (text_lefts (collected_text os) q (x ∷ xs)) (same_expr os f h p q e k)
  same_basic os small f h p q w v i a b (Jump l e) r t k = rw (last_same_expr f e) (ap (λ r. opens MGoTo l ∷ word Goto l ∷ r) (same_expr os f h p q e _))
  same_basic os small f h p q w v i a b (CallStatement c) r t k = call_same os f h p q c k
  same_basic os small f h p q w v i a b Dummy r t k = refl

  pub same_conditional : (os : List Name) (small : AreSmall os) (f : Renaming) (h : IsUndone os f) (p q : Places) (w v : Where) (i : ℕ) (a : w.owns ≡ i) (b : v.owns ≡ i) (next : ℕ) (x : Conditional) (r : List Declaration) → AreNumbered os i (owns_of_conditional x r) → (k : List Symbol) → text_conditional (collected_text os) p w next (hoist_conditional x i f) k ≡ text_conditional (collected_text os) q v next x k
  same_conditional os small f h p q w v i a b next (IfThen ls l e m u) r t k = rw (last_of_unconditional u i f m) (ap (λ r. opens MConditional (first_labelled ls l) ∷ text_labels ls (word If l ∷ r)) (same_expr os f h p q e _ ∙ ap (λ r. text_expr (collected_text os) q e (word Then m ∷ r)) (same_unconditional os small f h p q w v i a b next u r t _)))
  same_conditional os small f h p q w v i a b next (IfElse ls l e m u n s) r t k = rw (last_of_statement s (i + owns_in_unconditional u) f n) (ap (λ r. opens MConditional (first_labelled ls l) ∷ text_labels ls (word If l ∷ r)) (same_expr os f h p q e _ ∙ ap (λ r. text_expr (collected_text os) q e (word Then m ∷ r)) (same_unconditional os small f h p q w v i a b n u (owns_of_statement s r) t _ ∙ ap (λ r. text_unconditional (collected_text os) q v n u (word Else n ∷ r))
      (same_statement os small f h p q (further w (numbers_unconditional (hoist_unconditional u i f)) (owns_in_unconditional (hoist_unconditional u i f))) (further v (numbers_unconditional u) (owns_in_unconditional u)) (i + owns_in_unconditional u) (omega (arith, a, ap count_owns (owns_unconditional u i f []))) (omega (arith, b)) next s r (numbered_unconditional os i u _ t) _))))
  same_conditional os small f h p q w v i a b next (IfLoop ls l e m x) r t k = rw (last_of_loop x i f) (ap (λ r. opens MConditional (first_labelled ls l) ∷ text_labels ls (word If l ∷ r)) (same_expr os f h p q e _ ∙ ap (λ r. text_expr (collected_text os) q e (word Then m ∷ r)) (same_loop os small f h p q w v i a b next x r t _)))

  pub same_loop : (os : List Name) (small : AreSmall os) (f : Renaming) (h : IsUndone os f) (p q : Places) (w v : Where) (i : ℕ) (a : w.owns ≡ i) (b : v.owns ≡ i) (next : ℕ) (x : Loop) (r : List Declaration) → AreNumbered os i (owns_of_loop x r) → (k : List Symbol) → text_loop (collected_text os) p w next (hoist_loop x i f) k ≡ text_loop (collected_text os) q v next x k
  same_loop os small f h p q w v i a b next (MkLoop ls l x m u us n s) r t k =
      let g = within_turn s f in
      let a0 : w.owns + 0 ≡ i = omega (arith, a) in
      let b0 : v.owns + 0 ≡ i = omega (arith, b) in
      rw (labels_statement s i g [], first_of_statement s i g next, last_of_statement s i g next, last_of_statement s i g n)
      (ap (λ r. opens MFor (first_labelled ls l) ∷ text_labels ls (word For l ∷ r)) (use_same os f h p q x _ ∙ ap (λ r. used_name (collected_text os) q x (word Becomes m ∷ r)) (turns_same os f h p q u _ ∙ ap (text_turns (collected_text os) q u) (next_turns_same os f h p q us _ ∙ ap (λ r. text_next_turns (collected_text os) q us (word Do n ∷ opens MControlled (first_statement s next) ∷ all_entries (turn_entries s) (first_statement s next) r))
      (same_statement os small g (hide_back os f h (map (λ l. l.name) (labels_of_statement s []))) _ _ _ _ i a0 b0 next s r t _)))))
