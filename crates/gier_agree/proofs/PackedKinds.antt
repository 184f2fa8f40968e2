-- Kinds come back from the word into which they were packed.
use Rattle.std.proofs.Common.{◌≡◌, ℕ, zero, suc, ◌+◌, ◌-◌, ◌*◌, ◌/◌, ◌%◌, ◌^◌, ◌<◌, ◌≤◌, ◌⊎◌, inl, inr, List, slice_index, All, length, arith, refl, subst}
use Rattle.std.proofs.Math.Nat.{div-div-eq-div-mul, pow-succ', pow-le-pow_right, add-suc, add-zero, div-one}
use Rattle.std.proofs.lemmas.Nat.{div-mul-add, mod-mul-add, pow-add}
use Rattle.std.proofs.lemmas.List.Elements.{All-get_or}
use Rattle.std.proofs.lemmas.Grind.{common_steps}
use Rattle.gier_agree.specs.Packed.{first_kinds, kinds_word, kind_in}

-- four bits are one digit
pub four_bits : (n : ℕ) → 2 ^ (4 * n) ≡ 16 ^ n
four_bits zero = refl
four_bits (suc n) =
    let four : 4 * suc n ≡ 4 + 4 * n = omega arith in
    rw (four, pow-add 2 4 (4 * n), four_bits n, pow-succ' 16 n) refl

abbrev pub Digits : List ℕ → Type 0
Digits kinds = (at : ℕ) → slice_index kinds at < 16

pub all_digits : (kinds : List ℕ) → All (λ kind. kind < 16) kinds → Digits kinds
all_digits kinds small at = elim (within at (length kinds)) [ inl lt ↦ All-get_or (λ kind. kind < 16) kinds at 0 lt small | inr past ↦ grind (arith, common_steps) ]
  where
    within : (a b : ℕ) → (a < b) ⊎ (b ≤ a)
    within a b = grind arith

pub first_below : (kinds : List ℕ) → Digits kinds → (n : ℕ) → first_kinds n kinds < 16 ^ n
first_below kinds small zero = omega arith
first_below kinds small (suc n) =
    let before : first_kinds n kinds < 16 ^ n = first_below kinds small n in
    let here : slice_index kinds n < 16 = small n in
    rw (pow-succ' 16 n) (omega arith)

pub fits_word : (kinds : List ℕ) → Digits kinds → (n : ℕ) → n ≤ 10 → first_kinds n kinds < 2 ^ 40
fits_word kinds small n most =
    let below : first_kinds n kinds < 16 ^ n = first_below kinds small n in
    let whole : 16 ^ n ≤ 16 ^ 10 = pow-le-pow_right (omega arith) most in
    omega arith

without : (kinds : List ℕ) → Digits kinds → (m n : ℕ) → first_kinds (m + n) kinds / 16 ^ n ≡ first_kinds m kinds
without kinds small m zero = rw (add-zero m) (div-one _)
without kinds small m (suc n) =
    let here : slice_index kinds (m + n) < 16 = small (m + n) in
    rw (add-suc m n, pow-succ' 16 n, ← div-div-eq-div-mul (first_kinds (suc (m + n)) kinds) 16 (16 ^ n), div-mul-add (first_kinds (m + n) kinds) 16 (slice_index kinds (m + n)) here)
    (without kinds small m n)

kind_last : (kinds : List ℕ) → Digits kinds → (at rest : ℕ) → first_kinds (suc at + rest) kinds / 16 ^ rest % 16 ≡ slice_index kinds at
kind_last kinds small at rest =
    rw (without kinds small (suc at) rest) (mod-mul-add (first_kinds at kinds) 16 (slice_index kinds at) (small at))

pub kinds_back : (kinds : List ℕ) → Digits kinds → (at : ℕ) → at < 10 → kind_in (kinds_word kinds) at ≡ slice_index kinds at
unfolding kinds_word kind_in
kinds_back kinds small at lt =
    let all : suc at + (9 - at) ≡ 10 = omega arith in
    let P : ℕ → Type 0 = λ n. first_kinds n kinds / 16 ^ (9 - at) % 16 ≡ slice_index kinds at in
    subst P all (kind_last kinds small at (9 - at))
