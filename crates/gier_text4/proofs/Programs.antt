-- Over text 3 of a program the pass writes its text 4.
use Rattle.std.proofs.Common.{◌≡◌, ◌∙◌, ◌==◌, ◌+◌, ◌++◌, ◌-◌, ℕ, Bool, true, false, nat_lt, List, [], ◌∷◌, length, refl}
use Rattle.std.proofs.Common.{sym as back, ap, arith, subst}
use Rattle.std.specs.Prelude.{if◌then◌else◌}
use Rattle.std.specs.List.{All}
use Rattle.std.proofs.lemmas.Bool.{eqb-true}
use Rattle.std.proofs.lemmas.List.Elements.{All-head, All-tail}
use Rattle.gier_symbol.specs.declared.symbol.Symbol.{Symbol}
use Rattle.gier_symbol.specs.declared.tag.Tag.TheVariants.{Identifier, Declaring, TextEnd, Begin, End, Semicolon}
use Rattle.gier_symbol.specs.ByTag.{sym, word}
use Rattle.gier_symbol.specs.Tags.{number_of}
use Rattle.gier_tree.specs.declared.construct.Construct.TheVariants.{Program as MProgram, Block as MBlock}
use Rattle.gier_tree.specs.Declaring.{own_names, labels_of_program, labels_of_group}
use Rattle.gier_tree.specs.Entries.{label_entries, program_entries, block_entries, entries_numbers}
use Rattle.gier_tree.specs.Hoist.{first_fresh, first_line, without_own, last_own, hoisted_declarations}
use Rattle.gier_tree.specs.Lines.{first_program, group_end}
use Rattle.gier_tree.specs.OwnCount.{count_owns, owns_of_group, owns_of_program, owns_in_declaration}
use Rattle.gier_tree.specs.Places.{Places, program_places, block_places}
use Rattle.gier_tree.specs.Texts.{Where, inner, behind_declaration, behind_declarations, all_entries, entries_of, entries_of_all}
use Rattle.gier_tree.specs.Texts.{text_labels, text_group, text_declaration, text_declarations}
use Rattle.gier_tree.specs.TextsOf.{names_of_owns, text3, text4, text_program}
use Rattle.gier_tree.specs.Trees.{Name, LabelPlace, Declaration, MkNames, MkFixed}
use Rattle.gier_tree.specs.Trees.{NoStatements, Group, MkBlock, MkCompound, Program, MkProgram}
use Rattle.gier_tree.specs.Written.{Collected, opens, shuts, number_written, own_name}
use Rattle.gier_written.specs.Framed.{as_statement, frame_by, written_text4}
use Rattle.gier_written.specs.Renamed.{collected_text}
use Rattle.gier_written.proofs.FramedPrograms.{framed_text}
use Rattle.gier_text4.specs.PurePass.{step, fold, written, pass4_text}
use Rattle.gier_text4.specs.State.{Frame, NoFrame, FrameBegin, lined}
use Rattle.gier_text4.specs.Text4.{is_small_name}
use Rattle.gier_text4.proofs.Copying.{fold_written, marked_text, is_use, as_written}
use Rattle.gier_text4.proofs.Calm.{calm}
use Rattle.gier_text4.proofs.SmallNumbers.{program_small}
use Rattle.gier_text4.proofs.Scopes.{lined_entries}
use Rattle.gier_text4.proofs.Standing.{hoisted_text, hoisted_entries, IsFramed, labelled}
use Rattle.gier_text4.proofs.Statements.{group_stands}
use Rattle.gier_text4.proofs.Frames.{AreOwn, NoOwns, OwnVariables, OwnArrays, group_owns, none_in_frame, entries_framed}
use Rattle.gier_text4.proofs.Frames.{text_framed}
use Rattle.gier_text4.proofs.Frames.{hoisted_app}

-- the first line of a program
pub line_of_program : (t : Program) → first_program t ≡ first_line t
line_of_program (MkProgram [] (MkBlock l d m ds s ss n) e) = refl
line_of_program (MkProgram [] (MkCompound l s ss m) e) = refl
line_of_program (MkProgram (l ∷ ls) g e) = refl

-- the program behind its mark, from its end
body_stands : (os : List Name) (fr : Frame) (p q : Places) (u v : Where) (ls : List LabelPlace) (g : Group) (k o : List Symbol)
    → u.owns ≡ 0 → v.owns ≡ 0 → IsFramed fr (owns_of_group g []) → fold_written os k ≡ calm o [] ([] ∷ []) [] fr
    → fold_written os (text_labels ls (text_group (marked_text os) p u g k))
    ≡ calm (text_labels ls (text_group (collected_text os) q v g o)) (hoisted_text (owns_of_group g []) 0 [])
    (all_entries (label_entries (ls ++ labels_of_group g [])) 0 [] ∷ []) (hoisted_entries (owns_of_group g []) 0 []) fr
body_stands os fr p q u v ls g k o au av f h =
    let n : count_owns (owns_of_group g []) ≡ 0 + count_owns (owns_of_group g []) = omega arith in
    labelled os fr [] [] (text_group (marked_text os) p u g k) (text_group (collected_text os) q v g o) (owns_of_group g []) 0 ls
    (labels_of_group g []) [] []
    (group_stands os fr [] [] p q u v 0 (count_owns (owns_of_group g [])) g [] [] k o [] [] au av n f h)

unframed : (os : List Name) (ls : List LabelPlace) (g : Group) (l : ℕ) → owns_of_group g [] ≡ []
    → written (fold_written os (text_program (marked_text os) 0 (MkProgram ls g l)))
    ≡ text_program (collected_text os) 0 (MkProgram ls g l)
unframed os ls g l e =
    let t = MkProgram ls g l in
    let u : Where = record { level = 1; numbers = entries_numbers (program_entries t); owns = 0 } in
    let k : List Symbol = shuts MProgram (group_end g) ∷ sym TextEnd 0 l ∷ [] in
    let h = body_stands os NoFrame (program_places t) (program_places t) u u ls g k k refl refl (subst (IsFramed NoFrame) (back
    e) tt) refl in
    let o = text_labels ls (text_group (collected_text os) (program_places t) u g k) in
    ap (λ c. written (step (opens MProgram (first_program t)) c)) h
    ∙ ap (λ z. opens MProgram (first_program t) ∷ z) (lined_entries (label_entries (labels_of_program t)) (first_program t) [] o)

-- with own quantities: the end of the text, which is read first
framed_end : (os : List Name) (ds : List Declaration) (d : Declaration) (g l : ℕ) → AreOwn (d ∷ ds)
    → fold_written os (shuts MProgram g ∷ sym TextEnd (length (names_of_owns (d ∷ ds))) l ∷ [])
    ≡ calm (word End l ∷ shuts MBlock l ∷ shuts MProgram l ∷ sym TextEnd 0 l ∷ []) [] ([] ∷ []) [] FrameBegin
framed_end os ds _ g l (OwnVariables y t (MkNames x ns) _ a) = refl
framed_end os ds _ g l (OwnArrays y t m (MkFixed (MkNames x ns) c p ps n) ss _ a) = refl

-- the block around the program as text 4 has it
abbrev frame_text : List Name → Places → Where → (ds : List Declaration) → (line : ℕ) → List LabelPlace → List Symbol → List Symbol
frame_text os q v ds l ls o = opens MProgram l ∷ opens MBlock l ∷ entries_of_all Collected (hoisted_declarations ds 0) 0 l
    (all_entries (label_entries ls) l (word Begin l ∷ text_declarations (collected_text os) q v (hoisted_declarations ds 0) o))

frame_written : (os : List Name) (q : Places) (v : Where) (ds : List Declaration) (l : ℕ) (ls : List LabelPlace) (o : List Symbol)
    → AreOwn ds
    → written (step (opens MProgram l) (calm o (hoisted_text ds 0 []) (all_entries (label_entries ls) 0 [] ∷ [])
    (hoisted_entries ds 0 [])
    FrameBegin)) ≡ frame_text os q v ds l ls o
frame_written os q v ds l ls o a =
    ap (λ z. opens MProgram l ∷ opens MBlock l ∷ lined l (hoisted_entries ds 0 []) (lined l (all_entries (label_entries ls) 0 [])
    (word Begin l ∷ z))) (hoisted_app ds 0 [] o a ∙ back (text_framed os q v ds 0 o a))
    ∙ ap (λ z. opens MProgram l ∷ opens MBlock l ∷ lined l (hoisted_entries ds 0 []) z)
    (lined_entries (label_entries ls) l [] (word Begin l ∷ text_declarations (collected_text os) q v (hoisted_declarations ds 0) o))
    ∙ ap (λ z. opens MProgram l ∷ opens MBlock l ∷ z) (entries_framed ds 0 0 l (all_entries (label_entries ls) l (word Begin l
    ∷ text_declarations (collected_text os) q v (hoisted_declarations ds 0) o)) a)

rest_own : (d : Declaration) (ds : List Declaration) → AreOwn (d ∷ ds) → AreOwn ds
rest_own _ ds (OwnVariables y t ns _ a) = a
rest_own _ ds (OwnArrays y t m s ss _ a) = a

none_within : (d : Declaration) (ds : List Declaration) → AreOwn (d ∷ ds) → (i : ℕ) → owns_in_declaration (without_own d i) ≡ 0
none_within _ ds (OwnVariables y t ns _ a) i = refl
none_within _ ds (OwnArrays y t m s ss _ a) i = refl

-- the same, where its first declaration is told apart
abbrev frame_from : List Name → Places → Where → Declaration → List Declaration → (next line : ℕ) → List LabelPlace → List Symbol
    → List Symbol
frame_from os q v d ds n l ls o = opens MProgram l ∷ opens MBlock l ∷ entries_of Collected (without_own d 0) 0 l
    (entries_of_all Collected (hoisted_declarations ds n) (0 + owns_in_declaration (without_own d 0)) l
    (all_entries (label_entries ls) l (word Begin l ∷ text_declaration (collected_text os) q v (last_own d) (without_own d 0)
    (word Semicolon (last_own d) ∷ text_declarations (collected_text os) q (behind_declaration v (without_own d 0))
    (hoisted_declarations ds n) o))))

framed : (os : List Name) (d : Declaration) (ds : List Declaration) (ls : List LabelPlace) (g : Group) (l : ℕ) → AreOwn (d ∷ ds)
    → owns_of_group g [] ≡ d ∷ ds
    → written (fold_written os (text_program (marked_text os) (length (names_of_owns (d ∷ ds))) (MkProgram ls g l)))
    ≡ text_program (collected_text os) 0 (frame_by (d ∷ ds) (MkProgram ls g l))
framed os d ds ls g l a e =
    let t = MkProgram ls g l in
    let f = first_program t in
    let n = length (own_names d) in
    let hd = hoisted_declarations ds n in
    let whole = MkProgram [] (MkBlock (first_line t) (without_own d 0) (last_own d) hd (as_statement t) NoStatements l) l in
    let u : Where = record { level = 1; numbers = entries_numbers (program_entries t); owns = 0 } in
    let w : Where = record { level = 1; numbers = entries_numbers (program_entries whole); owns = 0 } in
    let q = block_places 2 w.numbers (without_own d 0) hd (as_statement t) NoStatements (program_places whole) in
    let w1 = inner w (block_entries (without_own d 0) hd (as_statement t) NoStatements) in
    let w3 = behind_declarations (behind_declaration w1 (without_own d 0)) hd in
    let none : w3.owns ≡ 0 =
    omega (arith, none_within d ds a 0, ap count_owns (none_in_frame ds n (rest_own d ds a))) in
    let k : List Symbol = shuts MProgram (group_end g) ∷ sym TextEnd (length (names_of_owns (d ∷ ds))) l ∷ [] in
    let o : List Symbol = word End l ∷ shuts MBlock l ∷ shuts MProgram l ∷ sym TextEnd 0 l ∷ [] in
    let o1 = text_labels ls (text_group (collected_text os) q w3 g o) in
    let labels = labels_of_program t in
    let h = body_stands os FrameBegin (program_places t) q u w3 ls g k o refl none (subst (IsFramed FrameBegin) (back e) refl)
    (framed_end os ds d (group_end g) l a) in
    let zero_added : 0 + n ≡ n = omega arith in
    ap (λ c. written (step (opens MProgram f) c)) h
    ∙ ap (λ z. written (step (opens MProgram f) (calm o1 (hoisted_text z 0 []) (all_entries (label_entries labels) 0 [] ∷ [])
    (hoisted_entries z 0 []) FrameBegin))) e
    ∙ frame_written os q w1 (d ∷ ds) f labels o1 a
    ∙ ap (λ z. frame_from os q w1 d ds z f labels o1) zero_added
    ∙ ap (λ z. frame_from os q w1 d ds n z labels o1) (line_of_program t)

by_owns : (os : List Name) (ds : List Declaration) (ls : List LabelPlace) (g : Group) (l : ℕ) → AreOwn ds → owns_of_group g [] ≡ ds
    → written (fold_written os (text_program (marked_text os) (length (names_of_owns ds)) (MkProgram ls g l)))
    ≡ text_program (collected_text os) 0 (frame_by ds (MkProgram ls g l))
by_owns os [] ls g l a e = unframed os ls g l e
by_owns os (d ∷ ds) ls g l a e = framed os d ds ls g l a e

framed_program : (t : Program)
    → written (fold_written (names_of_owns (owns_of_program t)) (text3 t)) ≡ written_text4 t
framed_program (MkProgram ls g l) =
    by_owns (names_of_owns (owns_of_group g [])) (owns_of_group g []) ls g l (group_owns g [] NoOwns) refl

abbrev with_tag : Symbol → (tag : ℕ) → Symbol
with_tag s n = record { tag = n; value = s.value; line = s.line }

-- used identifiers are written as they are, where their numbers are below the fresh ones
same_use : (os : List Name) (s : Symbol) → is_small_name s ≡ true → as_written os s ≡ s
same_use os s small = by (is_use s.tag) refl small
  where
    by : (b : Bool) → is_use s.tag ≡ b
        → (if b then nat_lt s.value first_fresh else (if s.tag == number_of Declaring then nat_lt s.value first_fresh else
        true)) ≡ true
        → (if b then sym Identifier (number_written os s.value) s.line else s) ≡ s
    by true e small =
        ap (λ b. sym Identifier (if b then s.value else own_name os (s.value - first_fresh)) s.line) small
        ∙ ap (with_tag s) (back (eqb-true s.tag (number_of Identifier) e))
    by false e small = refl

same_fold : (os : List Name) (w : List Symbol) → All (λ s. is_small_name s ≡ true) w → fold_written os w ≡ fold w
same_fold os [] small = refl
same_fold os (s ∷ w) small =
    ap (λ z. step z (fold_written os w)) (same_use os s (All-head (λ s. is_small_name s ≡ true) s w small))
    ∙ ap (step s) (same_fold os w (All-tail (λ s. is_small_name s ≡ true) s w small))

pub program_text : (t : Program) → All (λ s. is_small_name s ≡ true) (text3 t) → pass4_text (text3 t) ≡ text4 t
program_text t small =
    ap written (back (same_fold (names_of_owns (owns_of_program t)) (text3 t) small))
    ∙ framed_program t
    ∙ back (framed_text t (program_small t small))
