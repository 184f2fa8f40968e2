-- Whole numbers and logical values as words.
use Rattle.std.proofs.Common.{◌≡◌, ℕ, zero, suc, ◌-◌, ◌<◌, ◌≤◌, Bool, true, false, ℤ, pos, negsuc, refl, sym, ap, ◌∙◌, arith}
use Rattle.std.proofs.lemmas.Int.{ints}
use Rattle.std.specs.Prelude.{◌&&◌, ◌||◌, not, nat_lt, int_le, int_lt, if◌then◌else◌}
use Rattle.std.proofs.lemmas.Bool.{lt-ltb, le-ltb, ltb-false, ne_eqb}
use Rattle.gier_word.specs.Words.{int_of_word, word_of_int}
use Rattle.gier_word.specs.Operations.{is_in_range}
use Rattle.gier_order.specs.Flat.Rows as rows
use Rattle.gier_meaning.specs.Operators as meaning

pub round_trip : (z : ℤ) → is_in_range z ≡ true → int_of_word (word_of_int z) ≡ z
round_trip (pos n) e =
    let small : n < 549755813888 = grind (arith, ints) in
    ap (λ t. if t then pos n else negsuc (1099511627775 - n)) (lt-ltb n 549755813888 small)
round_trip (negsuc n) e =
    let small : n < 549755813888 = grind (arith, ints) in
    let word : ℕ = 1099511627775 - n in
    let back : 1099511627775 - word ≡ n = omega (arith, small) in
    ap (λ t. if t then pos word else negsuc (1099511627775 - word)) (le-ltb word 549755813888 (omega (arith, small))) ∙ ap negsuc back

pub short : (n : ℕ) → n < 549755813888 → int_of_word n ≡ pos n
short n small = ap (λ t. if t then pos n else negsuc (1099511627775 - n)) (lt-ltb n 549755813888 small)

above : (n : ℕ) → rows.is_true (suc n) ≡ true
above n = ap not (ne_eqb (suc n) 0 (λ e. absurd (omega (arith, e))))

positive : (n : ℕ) → meaning.is_true (pos (suc n)) ≡ true
positive n = grind (arith, ints)

truth_at : (t : Bool) (word : ℕ) → (nat_lt word 549755813888 ≡ t) → rows.is_true word ≡ meaning.is_true (if t then pos word else negsuc (1099511627775 - word))
truth_at true zero e = refl
truth_at true (suc n) e = above n ∙ sym (positive n)
truth_at false zero e = let h : 549755813888 ≤ zero = ltb-false zero 549755813888 e in absurd (omega (arith, h))
truth_at false (suc n) e = above n

pub same_truth : (word : ℕ) → rows.is_true word ≡ meaning.is_true (int_of_word word)
same_truth word = truth_at (nat_lt word 549755813888) word refl

pub truth_word : (b : Bool) → int_of_word (rows.truth b) ≡ meaning.truth b
truth_word true = refl
truth_word false = refl

pub unequal : (a b : ℤ) → not (int_le a b && int_le b a) ≡ (int_lt a b || int_lt b a)
unequal a b = grind (arith, ints)

pub alike : (a b : Bool) → ((a && b) || (not a && not b)) ≡ meaning.are_alike a b
alike true true = refl
alike true false = refl
alike false true = refl
alike false false = refl
