-- The labels of a program's text 7 and their numbers.
use Rattle.std.proofs.Common.{◌≡◌, ℕ, ◌+◌, List, [], refl, sym, ap, ◌∙◌, arith}
use Rattle.gier_tree.specs.Declaring.{labels_of_group, labels_of_program}
use Rattle.gier_tree.specs.Entries.{entries_numbers, program_entries, numbers_group}
use Rattle.gier_tree.specs.Orders.{first_label}
use Rattle.gier_tree.specs.Places.{program_places, standard_places}
use Rattle.gier_tree.specs.Text7.{code_program}
use Rattle.gier_tree.specs.Trees.{MkProgram, Group, LabelPlace}
use Rattle.gier_fair.specs.InScope.{IsInScope, in_program}
use Rattle.gier_complete.proofs.Claims.{placed_program}
use Rattle.gier_complete.proofs.PlacedLabels.{placed_labels, placed_group}
use Rattle.gier_placed.specs.Placed.{places_in, times, numbered, program_numbers, AreNumbered}
use Rattle.gier_placed.proofs.CodeLabels.{program_places as places_weigh}
use Rattle.gier_placed.proofs.DeclaredLabels.{group_is}
use Rattle.gier_placed.proofs.OwnNumbers.{own_numbers, both_labels, label_entries_weight}
use Rattle.gier_placed.proofs.Weights.{sum, row, rows, row_from, row_is, chosen, each, times_is, length_is, length_of}

add_all : (a b x y r s q : ℕ) → b ≡ y + s → x + y ≡ r → q ≡ r + s → a ≡ x + b → a ≡ q
add_all a b x y r s q e1 e2 e3 e4 = omega arith

-- those that are declared have the row of numbers from 0
pub declared_are : (ls : List LabelPlace) (g : Group) (l : ℕ) → IsInScope (MkProgram ls g l) → (weight : ℕ → ℕ)
    → placed_program ls g l weight ≡ row weight 0 (program_numbers (MkProgram ls g l))
declared_are ls g l h weight =
    let t = MkProgram ls g l in
    let p = program_places t in
    let own = entries_numbers (program_entries t) in
    let scope : placed_labels p ls weight + placed_labels p (labels_of_group g []) weight ≡ row weight 0 own =
    sym (both_labels weight p ls (labels_of_group g [])) ∙ label_entries_weight weight p (labels_of_program t)
    ∙ own_numbers weight 1 0 0 (program_entries t) standard_places h.0 in
    add_all (placed_program ls g l weight) (placed_group p (in_program
    t) g weight) (placed_labels p ls weight) (placed_labels p (labels_of_group g []) weight)
    (row weight 0 own) (row weight own (numbers_group g)) (row weight 0 (own + numbers_group g))
    (group_is weight p (in_program t) g h.1) scope
    (rows weight 0 own (numbers_group g)
    ∙ ap (λ n. row weight 0 own + n) (row_from weight (0 + own) own (numbers_group g) (omega arith))) refl

pub are_numbered : AreNumbered
are_numbered (MkProgram ls g l) h =
    let t = MkProgram ls g l in
    let all = places_weigh ls g l in
    let weighs : (weight : ℕ → ℕ) → sum weight (places_in (code_program t))
    ≡ row weight 0 (program_numbers t) + row weight first_label all.0 =
    λ weight. all.1 weight ∙ ap (λ n. n + row weight first_label all.0) (declared_are ls g l h weight) in (
      all.0,
      record {
        labels = λ x. sym (times_is x (places_in (code_program t))) ∙ weighs (chosen x)
            ∙ ap (λ n. n + row (chosen x) first_label all.0) (row_is (chosen x) 0 (program_numbers t)
            ∙ times_is x (numbered 0 (program_numbers t)))
            ∙ ap (λ n. times x (numbered 0 (program_numbers t)) + n) (row_is (chosen x) first_label all.0
            ∙ times_is x (numbered first_label all.0));
        all = sym (length_is (places_in (code_program t))) ∙ weighs each
            ∙ ap (λ n. n + row each first_label all.0) (length_of 0 (program_numbers t))
            ∙ ap (λ n. program_numbers t + n) (length_of first_label all.0);
      },
    )
