-- Text 4 of a hoisted program is that of the program in its frame.
use Rattle.std.proofs.Common.{◌≡◌, ◌∙◌, ◌+◌, ◌++◌, ℕ, suc, List, [], ◌∷◌, length, refl, sym as back, ap, arith}
use Rattle.std.specs.Prelude.{map}
use Rattle.gier_symbol.specs.declared.symbol.Symbol.{Symbol}
use Rattle.gier_symbol.specs.declared.tag.Tag.TheVariants.{Semicolon, Begin, End}
use Rattle.gier_symbol.specs.ByTag.{word}
use Rattle.gier_tree.specs.declared.construct.Construct.TheVariants.{Program as MProgram, Block as MBlock}
use Rattle.gier_tree.specs.Declaring.{own_names, labels_of_statement, labels_of_program}
use Rattle.gier_tree.specs.Entries.{Entry, label_entries, declaration_entries, declarations_entries}
use Rattle.gier_tree.specs.Hoist.{hide_labels, hoist_statement, hoist_by, without_own, hoisted_declarations, first_line, last_own}
use Rattle.gier_tree.specs.OwnCount.{owns_of_declaration, owns_of_declarations, owns_of_group, owns_of_statements, owns_of_statement}
use Rattle.gier_tree.specs.OwnCount.{owns_of_unconditional, owns_of_basic, owns_of_conditional, owns_of_loop, owns_of_program}
use Rattle.gier_tree.specs.OwnCount.{count_owns, owns_in_declaration, owns_in_declarations}
use Rattle.gier_tree.specs.Places.{Places, place_all}
use Rattle.gier_tree.specs.Room.{block_header}
use Rattle.gier_tree.specs.Rename.{Renaming}
use Rattle.gier_tree.specs.Texts.{Where, inner, behind_declaration, behind_declarations, text_statement, text_declaration}
use Rattle.gier_tree.specs.Texts.{text_declarations, text_group, entries_of, entries_of_all, all_entries}
use Rattle.gier_tree.specs.TextsOf.{names_of_owns, text4, text_program}
use Rattle.gier_tree.specs.Trees.{Name, LabelPlace, Declaration, DeclareType, DeclareOwn, DeclareArrays, DeclareOwnArrays}
use Rattle.gier_tree.specs.Trees.{DeclareSwitch, DeclareProcedure, Declarations, NoDeclarations, MoreDeclarations, Group, MkBlock}
use Rattle.gier_tree.specs.Trees.{MkCompound, Statements, NoStatements, MoreStatements, Statement, OneUnconditional, OneConditional}
use Rattle.gier_tree.specs.Trees.{OneLoop, Unconditional, MkUnconditional, Basic, OneGroup, Assign, Jump, CallStatement, Dummy}
use Rattle.gier_tree.specs.Trees.{Conditional, IfThen, IfElse, IfLoop, Loop, MkLoop, Program, MkProgram}
use Rattle.gier_tree.specs.Written.{Collected, opens, shuts, own_name}
use Rattle.gier_written.specs.Framed.{as_statement, frame_by, written_text4}
use Rattle.gier_written.specs.Renamed.{collected_text, IsUndone, AreSmall, AreNumbered}
use Rattle.gier_written.proofs.HoistedStatements.{hide_back, same_statement, labels_statement}

-- what a declaration becomes in the frame has no own quantities
abbrev IsOwn : Declaration → Type 0
IsOwn d = (i : ℕ) (r : List Declaration) → owns_of_declaration (without_own d i) r ≡ r

data AllOwn : List Declaration → Type 0 where
  NoOwn : AllOwn []
  MoreOwn : (d : Declaration) (ds : List Declaration) → IsOwn d → AllOwn ds → AllOwn (d ∷ ds)

mutual
  declaration_owns : (x : Declaration) (r : List Declaration) → AllOwn r → AllOwn (owns_of_declaration x r)
  declaration_owns (DeclareType y ns) r a = a
  declaration_owns (DeclareOwn l y ns) r a = MoreOwn (DeclareOwn l y ns) r (λ i q. refl) a
  declaration_owns (DeclareArrays y l s ss) r a = a
  declaration_owns (DeclareOwnArrays k y l s ss) r a = MoreOwn (DeclareOwnArrays k y l s ss) r (λ i q. refl) a
  declaration_owns (DeclareSwitch l x m e es) r a = a
  declaration_owns (DeclareProcedure h s) r a = statement_owns s r a

  declarations_owns : (x : Declarations) (r : List Declaration) → AllOwn r → AllOwn (owns_of_declarations x r)
  declarations_owns NoDeclarations r a = a
  declarations_owns (MoreDeclarations d l ds) r a = declaration_owns d _ (declarations_owns ds r a)

  group_owns : (x : Group) (r : List Declaration) → AllOwn r → AllOwn (owns_of_group x r)
  group_owns (MkBlock l d m ds s ss n) r a =
      declaration_owns d _ (declarations_owns ds _ (statement_owns s _ (statements_owns ss r a)))
  group_owns (MkCompound l s ss m) r a = statement_owns s _ (statements_owns ss r a)

  statements_owns : (x : Statements) (r : List Declaration) → AllOwn r → AllOwn (owns_of_statements x r)
  statements_owns NoStatements r a = a
  statements_owns (MoreStatements l s ss) r a = statement_owns s _ (statements_owns ss r a)

  statement_owns : (x : Statement) (r : List Declaration) → AllOwn r → AllOwn (owns_of_statement x r)
  statement_owns (OneUnconditional u) r a = unconditional_owns u r a
  statement_owns (OneConditional c) r a = conditional_owns c r a
  statement_owns (OneLoop x) r a = loop_owns x r a

  unconditional_owns : (x : Unconditional) (r : List Declaration) → AllOwn r → AllOwn (owns_of_unconditional x r)
  unconditional_owns (MkUnconditional ls b) r a = basic_owns b r a

  basic_owns : (x : Basic) (r : List Declaration) → AllOwn r → AllOwn (owns_of_basic x r)
  basic_owns (OneGroup g) r a = group_owns g r a
  basic_owns (Assign p ps e) r a = a
  basic_owns (Jump l e) r a = a
  basic_owns (CallStatement c) r a = a
  basic_owns Dummy r a = a

  conditional_owns : (x : Conditional) (r : List Declaration) → AllOwn r → AllOwn (owns_of_conditional x r)
  conditional_owns (IfThen ls l e m u) r a = unconditional_owns u r a
  conditional_owns (IfElse ls l e m u n s) r a = unconditional_owns u _ (statement_owns s r a)
  conditional_owns (IfLoop ls l e m x) r a = loop_owns x r a

  loop_owns : (x : Loop) (r : List Declaration) → AllOwn r → AllOwn (owns_of_loop x r)
  loop_owns (MkLoop ls l x m u us n s) r a = statement_owns s r a

none_in_frame : (ds : List Declaration) (i : ℕ) → AllOwn ds → owns_of_declarations (hoisted_declarations ds i) [] ≡ []
none_in_frame [] i a = refl
none_in_frame (d ∷ ds) i (MoreOwn _ _ own more) = own i _ ∙ none_in_frame ds (i + length (own_names d)) more

-- the block around a statement
abbrev frame_entries : Declaration → Declarations → List LabelPlace → List Entry
frame_entries d ds ls = declaration_entries d ++ declarations_entries ds ++ label_entries ls

abbrev frame_places : Where → Places → Declaration → Declarations → List LabelPlace → Places
frame_places w p d ds ls = place_all (suc w.level) block_header w.numbers (frame_entries d ds ls) p

abbrev frame_text : List Name → Places → Where → (line : ℕ) → Declaration → (next : ℕ) → Declarations → List LabelPlace → List Symbol
    → List Symbol
frame_text os p w l d m ds ls r =
    let q = frame_places w p d ds ls in
    let v = inner w (frame_entries d ds ls) in
    opens MBlock l ∷ entries_of Collected d w.owns l (entries_of_all Collected ds (w.owns + owns_in_declaration d) l
    (all_entries (label_entries ls) l (word Begin l ∷ text_declaration (collected_text os) q v m d (word Semicolon m
    ∷ text_declarations (collected_text os) q (behind_declaration v d) ds r))))

framed_block : (os : List Name) (small : AreSmall os) (f : Renaming) (h : IsUndone os f) (p : Places) (w : Where) → w.owns ≡ 0
    → (l : ℕ) (d : Declaration) (m : ℕ) (ds : Declarations) → owns_in_declaration d ≡ 0 → owns_in_declarations ds ≡ 0
    → (s : Statement) (n : ℕ) → AreNumbered os 0 (owns_of_statement s []) → (k : List Symbol)
    → text_group (collected_text os) p w (MkBlock l d m ds (hoist_statement s 0 f) NoStatements n) k
    ≡ text_group (collected_text os) p w (MkBlock l d m ds s NoStatements n) k
framed_block os small f h p w z l d m ds dz dsz s n t k =
    let s' = hoist_statement s 0 f in
    let end : List Symbol = word End n ∷ shuts MBlock n ∷ k in
    let place : (List LabelPlace → Where) = λ ls. behind_declarations (behind_declaration (inner w (frame_entries d ds ls)) d) ds in
    let a : (ls : List LabelPlace) → (w.owns + owns_in_declaration d) + owns_in_declarations ds ≡ 0 = λ ls. omega (arith, z, dz, dsz) in
    let v' = place (labels_of_statement s' []) in
    let v = place (labels_of_statement s []) in
    let q' = frame_places w p d ds (labels_of_statement s' []) in
    let q = frame_places w p d ds (labels_of_statement s []) in
    ap (λ ls. frame_text os p w l d m ds ls (text_statement (collected_text os) q' v' n s' end)) (labels_statement s 0 f [])
    ∙ ap (frame_text os p w l d m ds (labels_of_statement s []))
    (same_statement os small f h q' q v' v 0 (a []) (a []) n s [] t end)

framed_by : (os : List Name) (small : AreSmall os) (ds : List Declaration) → AllOwn ds → (t : Program)
    → AreNumbered os 0 (owns_of_statement (as_statement t) [])
    → text_program (collected_text os) 0 (hoist_by ds t) ≡ text_program (collected_text os) 0 (frame_by ds t)
framed_by os small [] a t n = refl
framed_by os small (d ∷ ds) (MoreOwn _ _ own more) (MkProgram ls g l) n =
    let t = MkProgram ls g l in
    let f = hide_labels (labels_of_program t) (λ x. x) in
    let h : IsUndone os f = hide_back os (λ x. x) (λ y. refl) (map (λ l. l.name) (labels_of_program t)) in
    ap (λ r. opens MProgram (first_line t) ∷ r)
    (framed_block os small f h _ _ refl (first_line t) (without_own d 0) (last_own d) (hoisted_declarations ds (length (own_names d)))
    (ap count_owns (own 0 [])) (ap count_owns (none_in_frame ds (length (own_names d)) more)) (as_statement t) l n _)

owns_of_whole : (t : Program) → owns_of_statement (as_statement t) [] ≡ owns_of_program t
owns_of_whole (MkProgram ls g l) = refl

all_own : (t : Program) → AllOwn (owns_of_program t)
all_own (MkProgram ls g l) = group_owns g [] NoOwn

the : (A : Type 0) → A → A
the A a = a

numbered_from_start : (t : Program) → AreNumbered (names_of_owns (owns_of_program t)) 0 (owns_of_statement (as_statement t) [])
numbered_from_start t = λ j. ap (own_name (names_of_owns (owns_of_program t))) (the (0 + j ≡ j) (omega arith))
    ∙ ap (λ ds. own_name (names_of_owns ds) j) (back (owns_of_whole t))

pub framed_text : (t : Program) → AreSmall (names_of_owns (owns_of_program t)) → text4 t ≡ written_text4 t
framed_text t small = framed_by (names_of_owns (owns_of_program t)) small (owns_of_program t) (all_own t) t (numbered_from_start t)
