-- A label stands once, if its number is one of those that are declared or of the code, and else nowhere.
use Rattle.std.proofs.Common.{◌≡◌, ◌<◌, ◌≤◌, ◌⊎◌, inl, inr, ℕ, zero, suc, ◌+◌, refl, ap, ◌∙◌, arith}
use Rattle.std.specs.Prelude.{if◌then◌else◌, length}
use Rattle.std.proofs.lemmas.Bool.{eq-eqb, ne_eqb}
use Rattle.gier_tree.specs.Orders.{first_label}
use Rattle.gier_tree.specs.Text7.{code_program}
use Rattle.gier_tree.specs.Trees.{Program}
use Rattle.gier_placed.specs.Laws.{HasFewLabels}
use Rattle.gier_placed.specs.Placed.{places_in, times, numbered, program_numbers, HasPlaces}

below : (x from count : ℕ) → x < from → times x (numbered from count) ≡ 0
below x from zero h = refl
below x from (suc count) h =
    let rest : times x (numbered (suc from) count) ≡ 0 = below x (suc from) count (omega arith) in
    ap (λ b. (if b then 1 else 0) + times x (numbered (suc from) count)) (ne_eqb from x (λ e. let no : ⊥ = omega arith in no))
    ∙ ap (λ n. 0 + n) rest

above : (x from count : ℕ) → from + count ≤ x → times x (numbered from count) ≡ 0
above x from zero h = refl
above x from (suc count) h =
    let rest : times x (numbered (suc from) count) ≡ 0 = above x (suc from) count (omega arith) in
    ap (λ b. (if b then 1 else 0) + times x (numbered (suc from) count)) (ne_eqb from x (λ e. let no : ⊥ = omega arith in no))
    ∙ ap (λ n. 0 + n) rest

either : (a b : ℕ) → (a < b) ⊎ (b ≤ a)
either zero zero = inr (omega arith)
either zero (suc b) = inl (omega arith)
either (suc a) zero = inr (omega arith)
either (suc a) (suc b) = by (either a b)
  where
    by : (a < b) ⊎ (b ≤ a) → (suc a < suc b) ⊎ (suc b ≤ suc a)
    by (inl h) = inl (omega arith)
    by (inr h) = inr (omega arith)

among : (x from count : ℕ) → from ≤ x → x < from + count → times x (numbered from count) ≡ 1
among x from zero h k = let no : ⊥ = omega arith in absurd no
among x from (suc count) h k = by (either from x) (λ later. among x (suc from) count later (omega arith))
  where
    by : (from < x) ⊎ (x ≤ from) → (suc from ≤ x → times x (numbered (suc from) count) ≡ 1)
        → times x (numbered from (suc count)) ≡ 1
    by (inl less) rest =
        let one : times x (numbered (suc from) count) ≡ 1 = rest (omega arith) in
        ap (λ b. (if b then 1 else 0) + times x (numbered (suc from) count)) (ne_eqb from x (λ e. let no : ⊥ =
        omega arith in no)) ∙ ap (λ n. 0 + n) one
    by (inr same) rest =
        ap (λ b. (if b then 1 else 0) + times x (numbered (suc from) count)) (eq-eqb from x (omega arith))
        ∙ ap (λ n. 1 + n) (below x (suc from) count (omega arith))

-- a number of those that are declared, or of the code
abbrev pub IsNumber : (t : Program) → (code x : ℕ) → Type 0
IsNumber t code x = (x < program_numbers t) ⊎ ((first_label ≤ x) × (x < first_label + code))

module _ (t : Program) (code : ℕ) (h : HasPlaces t code) (few : HasFewLabels t) where
  abbrev stands : ℕ → ℕ
  stands x = times x (places_in (code_program t))

  pub few_declared : program_numbers t ≤ first_label
  few_declared = let all : length (places_in (code_program t))
      ≡ program_numbers t + code = h.all in let f : length (places_in (code_program t)) ≤ first_label = few in omega arith

  pub few_of_code : code ≤ first_label
  few_of_code = let all : length (places_in (code_program t))
      ≡ program_numbers t + code = h.all in let f : length (places_in (code_program t)) ≤ first_label = few in omega arith

  from_both : (x a b : ℕ) → times x (numbered 0 (program_numbers t)) ≡ a → times x (numbered first_label code) ≡ b
      → stands x ≡ a + b
  from_both x a b e f = h.labels x ∙ ap (λ n. n + times x (numbered first_label code)) e ∙ ap (λ n. a + n) f

  pub one_place : (x : ℕ) → IsNumber t code x → stands x ≡ 1
  one_place x (inl small) =
      let d : program_numbers t ≤ first_label = few_declared in
      from_both x 1 0 (among x 0 (program_numbers t) (omega arith) (omega arith)) (below x first_label code (omega arith))
  one_place x (inr (large, least)) =
      let d : program_numbers t ≤ first_label = few_declared in
      from_both x 0 1 (above x 0 (program_numbers t) (omega arith)) (among x first_label code large least)

  pub no_place : (x : ℕ) → program_numbers t ≤ x → (x < first_label) ⊎ (first_label + code ≤ x) → stands x ≡ 0
  no_place x a (inl small) = from_both x 0 0 (above x 0 (program_numbers t) (omega arith)) (below x first_label code small)
  no_place x a (inr large) = from_both x 0 0 (above x 0 (program_numbers t) (omega arith)) (above x first_label code large)

  -- a label is numbered, or stands nowhere
  pub which : (x : ℕ) → IsNumber t code x ⊎ (stands x ≡ 0)
  which x = by (either x (program_numbers t)) (either x first_label) (either x (first_label + code))
    where
      by : (x < program_numbers t) ⊎ (program_numbers t ≤ x) → (x < first_label) ⊎ (first_label ≤ x)
          → (x < first_label + code) ⊎ (first_label + code ≤ x)
          → IsNumber t code x ⊎ (stands x ≡ 0)
      by (inl a) b c = inl (inl a)
      by (inr a) (inl b) c = inr (no_place x a (inl b))
      by (inr a) (inr b) (inl c) = inl (inr (b, c))
      by (inr a) (inr b) (inr c) = inr (no_place x a (inr c))

  pub placed_once : (x : ℕ) → stands x ≤ 1
  placed_once x = by (which x)
    where
      by : IsNumber t code x ⊎ (stands x ≡ 0) → stands x ≤ 1
      by (inl n) = let one : stands x ≡ 1 = one_place x n in omega arith
      by (inr none) = omega arith

  pub is_number : (x : ℕ) → 1 ≤ stands x → IsNumber t code x
  is_number x some = by (which x)
    where
      by : IsNumber t code x ⊎ (stands x ≡ 0) → IsNumber t code x
      by (inl n) = n
      by (inr none) = let no : ⊥ = omega arith in absurd no
