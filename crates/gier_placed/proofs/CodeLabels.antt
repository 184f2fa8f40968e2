-- The places in the code of a program: of the labels that it declares, and of those of the code, which are numbered where text 7
-- first has them.
use Rattle.std.proofs.Common.{◌≡◌, ℕ, suc, ◌+◌, List, refl, ap, ◌∙◌, arith}
use Rattle.gier_symbol.specs.declared.symbol.Symbol.{Symbol}
use Rattle.gier_tree.specs.Orders.{first_label}
use Rattle.gier_tree.specs.Text7.{code_program}
use Rattle.gier_tree.specs.Trees.{LabelPlace, Group, MkProgram}
use Rattle.gier_complete.proofs.Claims.{placed_program, program_carries}
use Rattle.gier_complete.proofs.OrderPieces.{piece_is}
use Rattle.gier_complete.proofs.Passing.{Ahead, Labels, Claim, IsCarried, none}
use Rattle.gier_placed.specs.Placed.{with_place, places_in}
use Rattle.gier_placed.proofs.Weights.{sum, row, row_from}

-- behind this state so many labels of the code are to come
abbrev pub Weighs : (Labels) → (from : ℕ) → List Symbol → (code : ℕ) → Type 0
Weighs places from rest code = (weight : ℕ → ℕ) → sum weight (places_in rest) ≡ places weight + row weight from code

abbrev placing : Claim
placing n st rest = (code : ℕ) × Weighs n.places (first_label + st.labels) rest code

one_place : (x s q r : ℕ) → s ≡ q + r → x + s ≡ (q + x) + r
one_place x s q r e = omega arith

one_new : (x s q r : ℕ) → s ≡ (q + x) + r → s ≡ q + (x + r)
one_new x s q r e = omega arith

and_none : (q : ℕ) → 0 ≡ q → 0 ≡ q + 0
and_none q e = omega arith

placing_carried : IsCarried placing
placing_carried = record {
  an_order = λ o other value line n st rest h.
      (h.0, λ weight. ap (λ p. sum weight (with_place p (places_in rest))) (piece_is o value line) ∙ h.1 weight);
  a_use = λ value line n st rest h. h;
  a_word_use = λ value line n st rest h. h;
  a_word = λ value line n st rest h. h;
  a_room = λ value line n st rest h. h;
  a_place = λ value line n st rest h. (
    h.0,
    λ weight. one_place (weight value) (sum weight (places_in rest)) (n.places weight) (row weight
        (first_label + st.labels) h.0) (h.1 weight),
  );
  a_need = λ value line n st rest h. h;
  a_new = λ n st rest h. (
    suc h.0,
    λ weight.
        let next : row weight (first_label + suc st.labels) h.0
        ≡ row weight (suc (first_label + st.labels)) h.0 =
        row_from weight (first_label + suc st.labels) (suc (first_label + st.labels)) h.0 (omega arith) in
        one_new (weight (first_label + st.labels)) (sum weight (places_in rest)) (n.places weight) (row weight (suc
        (first_label + st.labels)) h.0)
        (h.1 weight ∙ ap (λ r. (n.places weight + weight (first_label + st.labels)) + r) next),
  );
  same = λ n m rooms places st rest h.
      (h.0, λ weight. h.1 weight ∙ ap (λ q. q + row weight (first_label + st.labels) h.0) (places weight));
}

none_first : (a r : ℕ) → (0 + a) + r ≡ a + r
none_first a r = omega arith

-- of a whole program
pub program_places : (ls : List LabelPlace) (g : Group) (l : ℕ)
    → (code : ℕ) × Weighs (placed_program ls g l) first_label (code_program (MkProgram ls g l)) code
program_places ls g l =
    let n : Ahead = record { rooms = 1; places = none } in
    let all = program_carries placing placing_carried ls g l n (λ s. (0, λ weight. refl)) in
    (all.0, λ weight. all.1 weight ∙ none_first (placed_program ls g l weight) (row weight first_label all.0))
