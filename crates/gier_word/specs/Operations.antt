-- The operations on whole numbers from -2^39 to 2^39 - 1 (Report 3.3.4 and 3.2.4): each gives the whole number that
-- arithmetic gives, or says why there is none.
use Rattle.std.specs.Prelude.{◌&&◌, ◌+◌, ◌%◌, ℕ, nat_lt}
use Rattle.std.specs.Prelude.{◌+ℤ◌, ◌-ℤ◌, ◌*ℤ◌, ◌≤ℤ◌, ℤ, pos, negsuc, neg_ℤ, nat_abs, int_div, int_le, int_lt}
use Rattle.std.specs.Prelude.{if◌then◌else◌, Bool, Result, Ok, Err}
use Rattle.std.specs.Int.{int_pow, int_signum}
use Rattle.gier_word.specs.declared.int40.Spoil.{Spoil}
use Rattle.gier_word.specs.declared.int40.Spoil.TheVariants.{Spill, Division, Power}

-- -2^39
abbrev pub least : ℤ
least = negsuc 549755813887

-- 2^39 - 1
abbrev pub greatest : ℤ
greatest = pos 549755813887

abbrev pub InRange : ℤ → Type 0
InRange z = (least ≤ℤ z) × (z ≤ℤ greatest)

abbrev pub is_in_range : ℤ → Bool
is_in_range z = int_le least z && int_le z greatest

abbrev pub is_zero : ℤ → Bool
is_zero z = int_le (pos 0) z && int_le z (pos 0)

-- the number where it is in the range, and a spill elsewhere
abbrev pub in_range_or_spill : ℤ → Result ℤ Spoil
in_range_or_spill z = if is_in_range z then Ok z else Err Spill

abbrev pub sum_of : ℤ → ℤ → Result ℤ Spoil
sum_of a b = in_range_or_spill (a +ℤ b)

abbrev pub difference_of : ℤ → ℤ → Result ℤ Spoil
difference_of a b = in_range_or_spill (a -ℤ b)

abbrev pub product_of : ℤ → ℤ → Result ℤ Spoil
product_of a b = in_range_or_spill (a *ℤ b)

-- the quotient without its fraction, that is sign(a/b) * entier(abs(a/b))
abbrev pub quotient_of : ℤ → ℤ → Result ℤ Spoil
quotient_of a b = if is_zero b then Err Division else in_range_or_spill (int_div a b)

-- An exponent that stands for any other: with 40 and above no power is in the range but those of 0, 1 and -1, and of these it
-- only counts whether the exponent is even. So a power is formed of no more than 41 factors.
abbrev pub small_exponent : ℕ → ℕ
small_exponent n = if nat_lt n 40 then n else 40 + n % 2

-- the repeated product for a positive exponent, and 1 for the exponent 0 of any base but 0
abbrev pub power_of : ℤ → ℤ → Result ℤ Spoil
power_of a b = if int_lt b (pos 0) then Err Power
    else (if is_zero a && is_zero b then Err Power else in_range_or_spill (int_pow a (small_exponent (nat_abs b))))

abbrev pub negative_of : ℤ → Result ℤ Spoil
negative_of a = in_range_or_spill (neg_ℤ a)

abbrev pub modulus_of : ℤ → Result ℤ Spoil
modulus_of a = in_range_or_spill (pos (nat_abs a))

-- 1, 0 or -1 as the number is positive, zero or negative
abbrev pub sign_of : ℤ → ℤ
sign_of = int_signum
