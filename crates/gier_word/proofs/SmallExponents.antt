-- A power is in the range, or spills, as the one with the small exponent that stands for its own.
use Rattle.std.specs.Prelude.{◌≡◌, ◌+◌, ◌*◌, ◌^◌, ◌<◌, ◌≤◌, ◌%◌, ◌==◌, ◌&&◌, ℕ, zero, suc, ℤ, pos, negsuc, neg_ℤ, Bool, true, false, nat_lt, nat_abs, int_lt, int_le, if◌then◌else◌, cond, Result, Ok, Err}
use Rattle.std.proofs.Common.{refl, sym, ap, ◌∙◌, arith}
use Rattle.std.proofs.lemmas.Bool.Decides.{nat_tests}
use Rattle.std.proofs.lemmas.Bool.{ltb-false}
use Rattle.std.specs.Int.{int_pow}
use Rattle.std.proofs.Math.Nat.{pow-le-pow_left, pow-le-pow_right}
use Rattle.gier_word.specs.declared.int40.Spoil.{Spoil}
use Rattle.gier_word.specs.declared.int40.Spoil.TheVariants.{Spill, Power}
use Rattle.gier_word.specs.Operations.{is_in_range, is_zero, in_range_or_spill, small_exponent, power_of}
use Rattle.gier_word.specs.Powers.{whole_power, AreWhole}
use Rattle.gier_word.proofs.Powers.{zero_power, one_power}

above_range : (a n : ℕ) → 2 ≤ a → 40 ≤ n → 1099511627776 ≤ a ^ n
above_range a n two many =
    let left : 2 ^ n ≤ a ^ n = pow-le-pow_left two n in
    let right : 2 ^ 40 ≤ 2 ^ n = pow-le-pow_right (omega arith) many in
    omega arith

positive_spills : (n : ℕ) → 1099511627776 ≤ n → is_in_range (pos n) ≡ false
positive_spills n le = grind (arith, nat_tests, le)

negative_spills : (n : ℕ) → 1099511627776 ≤ n → is_in_range (neg_ℤ (pos n)) ≡ false
negative_spills zero le = absurd (omega arith)
negative_spills (suc n) le = grind (arith, nat_tests, le)

-- with an exponent of 40 or more a base of two or more, without its sign, is out of the range
out_of_range : (a : ℤ) (n : ℕ) → 2 ≤ nat_abs a → 40 ≤ n → is_in_range (int_pow a n) ≡ false
out_of_range (pos a) n two many = positive_spills (a ^ n) (above_range a n two many)
out_of_range (negsuc a) n two many = by (n % 2 == 0)
  where
    by : (even : Bool) → is_in_range (cond even (pos (suc a ^ n)) (neg_ℤ (pos (suc a ^ n)))) ≡ false
    by true = positive_spills (suc a ^ n) (above_range (suc a) n two many)
    by false = negative_spills (suc a ^ n) (above_range (suc a) n two many)

both_spill : (y z : ℤ) → is_in_range y ≡ false → is_in_range z ≡ false → in_range_or_spill y ≡ in_range_or_spill z
both_spill y z first second = ap (λ held. if held then Ok y else Err Spill) first ∙ sym (ap (λ held. if held then Ok z else Err Spill) second)

-- two exponents of 40 or more, both even or both odd
same_above : (a : ℤ) (n k : ℕ) → 40 ≤ n → 40 ≤ k → n % 2 ≡ k % 2 → in_range_or_spill (int_pow a n) ≡ in_range_or_spill (int_pow a k)
same_above (pos zero) n k many more same = ap (λ m. in_range_or_spill (pos m)) (zero_power n (omega arith) ∙ sym (zero_power k (omega arith)))
same_above (pos (suc zero)) n k many more same = ap (λ m. in_range_or_spill (pos m)) (one_power n ∙ sym (one_power k))
same_above (negsuc zero) n k many more same =
    ap (λ m. in_range_or_spill (cond (n % 2 == 0) (pos m) (neg_ℤ (pos m)))) (one_power n ∙ sym (one_power k))
    ∙ ap (λ r. in_range_or_spill (cond (r == 0) (pos (1 ^ k)) (neg_ℤ (pos (1 ^ k))))) same
same_above (pos (suc (suc a))) n k many more same = both_spill (int_pow (pos (suc (suc a))) n) (int_pow (pos (suc (suc a))) k)
    (out_of_range (pos (suc (suc a))) n (omega arith) many) (out_of_range (pos (suc (suc a))) k (omega arith) more)
same_above (negsuc (suc a)) n k many more same = both_spill (int_pow (negsuc (suc a)) n) (int_pow (negsuc (suc a)) k)
    (out_of_range (negsuc (suc a)) n (omega arith) many) (out_of_range (negsuc (suc a)) k (omega arith) more)

pub small_is_whole : (a : ℤ) (n : ℕ) → in_range_or_spill (int_pow a (small_exponent n)) ≡ in_range_or_spill (int_pow a n)
small_is_whole a n = by (nat_lt n 40) refl
  where
    by : (few : Bool) → nat_lt n 40 ≡ few → in_range_or_spill (int_pow a (if few then n else 40 + n % 2)) ≡ in_range_or_spill (int_pow a n)
    by true is = refl
    by false is = same_above a (40 + n % 2) n (omega arith) (ltb-false n 40 is) (omega arith)

pub power_is_whole : AreWhole
power_is_whole a b = ap (λ held. if int_lt b (pos 0) then Err Power else (if is_zero a && is_zero b then Err Power else held)) (small_is_whole a (nat_abs b))
