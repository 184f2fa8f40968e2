-- A program without faults of scopes is in scope when it is hoisted: with own quantities in a block around it, or as it was written.
use Rattle.std.proofs.Common.{◌≡◌, ◌<◌, inl, ℕ, Bool, true, false, List, [], ◌∷◌, length, refl, ap, ap₂, sym, subst, ◌∙◌, arith}
use Rattle.std.specs.Prelude.{◌++◌, ◌||◌}
use Rattle.gier_tree.specs.declared.kind.Kind.TheVariants.{Undeclared, OutInteger, OutText, OutCr, OutChar, InInteger, InChar, Abs, Sign}
use Rattle.gier_tree.specs.Declaring.{own_names, labels_of_statement, labels_of_group, labels_of_program}
use Rattle.gier_tree.specs.Described.{plain}
use Rattle.gier_tree.specs.Entries.{Entry, entry, declaration_entries, declarations_entries, label_entries, block_entries, program_entries}
use Rattle.gier_tree.specs.Hoist.{fresh, hide_labels, without_own, hoisted_declarations, with_fresh, hoist_by}
use Rattle.gier_tree.specs.OwnCount.{count_owns, owns_of_group, owns_of_program}
use Rattle.gier_tree.specs.Places.{standard_places, block_places, program_places}
use Rattle.gier_tree.specs.Rename.{Renaming}
use Rattle.gier_tree.specs.Room.{block_header}
use Rattle.gier_tree.specs.Texts as text
use Rattle.gier_tree.specs.Texts.{inner}
use Rattle.gier_tree.specs.Trees.{Name, LabelPlace, Declaration, NoStatements, Group, Program, MkProgram}
use Rattle.gier_scope.specs.Around as scope
use Rattle.gier_scope.specs.Around.{behind_labels, level_by}
use Rattle.gier_scope.specs.ScopeFaults.{labels_in, faults_group, scope_faults}
use Rattle.gier_scope.specs.Scopes.{declares, is_declared, standard_scope, label_names, program_scope}
use Rattle.gier_fair.specs.Described.{described}
use Rattle.gier_fair.specs.FewNames.{HasFewNames}
use Rattle.gier_fair.specs.Hoisted.{IsSeen, Sees}
use Rattle.gier_fair.specs.InScope.{AreDistinct, identifiers, in_program, InScopeGroup, IsInScope}
use Rattle.gier_fair.specs.Laws.{ProgramsAreFair}
use Rattle.gier_fair.proofs.Apart.{lacks, names_apart, joined, labels_apart, distinct_both}
use Rattle.gier_fair.proofs.FairPrograms.{types_are_fair}
use Rattle.gier_fair.proofs.HoistedEntries.{declaration_seen, declarations_seen, labels_seen, label_identifiers, joined_identifiers}
use Rattle.gier_fair.proofs.HoistedScopes.{group_in}
use Rattle.gier_fair.proofs.LabelsOf.{same_group}
use Rattle.gier_fair.proofs.Layers.{Layer, both_layers, hidden, AreSeen, seen_inside, within, left_in}
use Rattle.gier_fair.proofs.Lists.{both_empty, each_both}
use Rattle.gier_fair.proofs.OwnDeclarations.{fresh_from, above_first, fresh_distinct, all_declared, AllOwn, group_owns, frame_numbered, first_in_scope, others_in_scope}
use Rattle.gier_fair.proofs.PlacesTell.{bind_entries, told}
use Rattle.gier_fair.proofs.ScopesApart.{labels, group_apart}
use Rattle.gier_fair.proofs.Unhoisted.{same_hidden, group_stays}

-- ---- standard identifiers

abbrev standard : (x : ℕ) → Name
standard x = record { number = x; line = 0 }

abbrev standard_entries : List Entry
standard_entries =
    entry (plain OutInteger) (standard 0) ∷ entry (plain OutText) (standard 1) ∷ entry (plain OutCr) (standard 2) ∷ entry (plain OutChar) (standard 3)
    ∷ entry (plain InInteger) (standard 4) ∷ entry (plain InChar) (standard 5) ∷ entry (plain Abs) (standard 6) ∷ entry (plain Sign) (standard 7) ∷ []

are_seen : AreSeen standard_entries
are_seen = ((λ e. cc), ((λ e. cc), ((λ e. cc), ((λ e. cc), ((λ e. cc), ((λ e. cc), ((λ e. cc), ((λ e. cc), tt))))))))

alone : (c : Bool) → (c || false) ≡ true → c ≡ true
alone true e = refl
alone false e = cc

standard_seen : Sees 0 (λ x. is_declared (standard_scope ∷ []) x) (λ x. x) (described standard_places)
standard_seen = record {
  sees = λ x q. seen_inside standard_entries (λ x. plain Undeclared) x are_seen (alone (declares standard_scope x) q);
  fresh_seen = λ j lt. absurd (omega (arith, lt));
  stays = λ x. inl refl;
}

-- ---- labels of a program

abbrev renaming : Program → Renaming
renaming t = hide_labels (labels_of_program t) (λ x. x)

program_labels : (ls : List LabelPlace) (g : Group) (l : ℕ) → scope_faults (MkProgram ls g l) ≡ [] → AreDistinct (labels (labels_of_program (MkProgram ls g l)))
program_labels ls g l e =
    let a = scope.in_program (MkProgram ls g l) in
    let q = both_empty (labels_in a ls) (faults_group (behind_labels ls a) g) e in
    (labels_apart [] ls (labels_of_group g []) (names_apart [] (label_names ls) q.0) (group_apart (behind_labels ls a) g q.1)).0

-- ---- without own quantities

written_in : (ls : List LabelPlace) (g : Group) (l : ℕ) → HasFewNames (MkProgram ls g l) → owns_of_group g [] ≡ [] → scope_faults (MkProgram ls g l) ≡ [] → IsInScope (MkProgram ls g l)
written_in ls g l few none e =
    let t = MkProgram ls g l in
    let a = scope.in_program t in
    let f = renaming t in
    let all = labels_of_program t in
    let es = program_entries t in
    let ids : identifiers es ≡ labels all = label_identifiers all in
    let layer : Layer 0 (program_scope t) (identifiers es) (λ x. x) f = subst (λ xs. Layer 0 (program_scope t) xs (λ x. x) f) (sym ids) (hidden 0 (label_names all) (λ x. x)) in
    let k0 = within 0 (λ x. is_declared (standard_scope ∷ []) x) (λ x. x) f (described standard_places) (program_scope t) es (labels_seen all) layer standard_seen in
    let k = subst (Sees 0 (λ x. is_declared (program_scope t ∷ standard_scope ∷ []) x) f) (told 1 0 0 es standard_places) k0 in
    let zero_owns : count_owns (owns_of_group g []) ≡ 0 = ap count_owns none in
    let q = both_empty (labels_in a ls) (faults_group (behind_labels ls a) g) e in
    let r = group_in 0 (behind_labels ls a) (program_places t) f 0 (in_program t) g k (sym (ap level_by none)) few.1 (omega (arith, zero_owns)) q.1 in
    (subst AreDistinct (sym ids) (program_labels ls g l e), subst (InScopeGroup (program_places t) (in_program t)) (group_stays g 0 f (same_hidden (label_names all) (λ x. x) (λ x. refl)) zero_owns) r)

-- ---- with own quantities

framed_in : (ls : List LabelPlace) (g : Group) (l : ℕ) (d : Declaration) (ds : List Declaration) → HasFewNames (MkProgram ls g l) → owns_of_group g [] ≡ d ∷ ds → AllOwn (d ∷ ds)
    → scope_faults (MkProgram ls g l) ≡ [] → IsInScope (hoist_by (d ∷ ds) (MkProgram ls g l))
framed_in ls g l d ds few own all_own e =
    let t = MkProgram ls g l in
    let a = scope.in_program t in
    let f = renaming t in
    let owns = count_owns (d ∷ ds) in
    let all = labels_of_program t in
    let s = with_fresh t in
    let d1 = without_own d 0 in
    let ds1 = hoisted_declarations ds (length (own_names d)) in
    let framed = hoist_by (d ∷ ds) t in
    let es = block_entries d1 ds1 s NoStatements in
    let kept = labels_of_statement s [] in
    let same : kept ≡ all = ap (λ ms. ls ++ ms) (same_group g 0 f []) in
    let ids : identifiers es ≡ fresh_from owns 0 ++ labels all =
    joined_identifiers (declaration_entries d1 ++ declarations_entries ds1) (label_entries kept)
    ∙ ap₂ (λ a b. a ++ b) (frame_numbered d ds all_own) (label_identifiers kept ∙ ap labels same) in
    let outside = λ (n : ℕ) (q : declares (labels all) n ≡ true). lacks (declares (fresh_from owns 0) n) (λ r. let lt = few.0 n q in let le = above_first owns n r in absurd (omega (arith, lt, le))) in
    let distinct : AreDistinct (fresh_from owns 0 ++ labels all) = distinct_both (fresh_from owns 0) (labels all) (fresh_distinct owns 0) (program_labels ls g l e) outside in
    let seen = each_both (λ e. IsSeen e.what) (declaration_entries d1 ++ declarations_entries ds1) (label_entries kept) (each_both (λ e. IsSeen e.what) (declaration_entries d1) (declarations_entries ds1) (declaration_seen d1) (declarations_seen ds1)) (labels_seen kept) in
    let layer0 : Layer 0 (labels all) (fresh_from owns 0 ++ labels all) (λ x. x) f = both_layers 0 (labels all) (labels all) [] (fresh_from owns 0) (λ x. x) f f (hidden 0 (label_names all) (λ x. x)) (λ x. inl (refl, refl)) in
    let layer = subst (λ xs. Layer 0 (program_scope t) xs (λ x. x) f) (sym ids) layer0 in
    let k0 = within 0 (λ x. is_declared (standard_scope ∷ []) x) (λ x. x) f (described standard_places) (program_scope t) es seen layer standard_seen in
    let there = λ (j : ℕ) (lt : j < owns). subst (λ xs. declares xs (fresh j) ≡ true) (sym ids) (joined (fresh_from owns 0) (labels all) (fresh j) ∙ left_in (declares (fresh_from owns 0) (fresh j)) (declares (labels all) (fresh j)) (all_declared owns j lt)) in
    let k1 : Sees owns (λ x. is_declared (program_scope t ∷ standard_scope ∷ []) x) f (bind_entries es (described standard_places)) = record { sees = k0.sees; fresh_seen = λ j lt. seen_inside es (described standard_places) (fresh j) seen (there j lt); stays = k0.stays } in
    let place = block_places 2 0 d1 ds1 s NoStatements (program_places framed) in
    let k = subst (Sees owns (λ x. is_declared (program_scope t ∷ standard_scope ∷ []) x) f) (told 2 block_header 0 es (program_places framed)) k1 in
    let w1 = inner (in_program framed) es in
    let w2 = text.behind_declaration w1 d1 in
    let w3 = text.behind_declarations w2 ds1 in
    let counted : count_owns (owns_of_group g []) ≡ owns = ap count_owns own in
    let q = both_empty (labels_in a ls) (faults_group (behind_labels ls a) g) e in (
      tt,
      (
        omega arith,
        subst AreDistinct (sym ids) distinct,
        first_in_scope place (identifiers es) w1 d ds all_own,
        others_in_scope place (identifiers es) w2 ds (length (own_names d)) all_own.1,
        group_in owns (behind_labels ls a) place f 0 w3 g k (sym (ap level_by own)) few.1 (omega (arith, counted)) q.1,
        tt,
      ),
    )

in_scope : (t : Program) → HasFewNames t → scope_faults t ≡ [] → (ds : List Declaration) → owns_of_program t ≡ ds → AllOwn ds → IsInScope (hoist_by ds t)
in_scope (MkProgram ls g l) few e [] own all_own = written_in ls g l few own e
in_scope (MkProgram ls g l) few e (d ∷ ds) own all_own = framed_in ls g l d ds few own all_own e

all_of_program : (t : Program) → AllOwn (owns_of_program t)
all_of_program (MkProgram ls g l) = group_owns g [] tt

pub programs_are_fair : ProgramsAreFair
programs_are_fair t few e =
    let h = in_scope t few e (owns_of_program t) refl (all_of_program t) in
    (h, types_are_fair (hoist_by (owns_of_program t) t) h)
