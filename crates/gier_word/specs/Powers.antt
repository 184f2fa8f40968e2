-- The power formed whole, which says the same as the one with a small exponent.
use Rattle.std.specs.Prelude.{◌≡◌, ◌&&◌, ℤ, pos, negsuc, nat_abs, int_lt, if◌then◌else◌, Result, Ok, Err}
use Rattle.std.specs.Int.{int_pow}
use Rattle.gier_word.specs.declared.int40.Spoil.{Spoil}
use Rattle.gier_word.specs.declared.int40.Spoil.TheVariants.{Spill, Power}
use Rattle.gier_word.specs.Operations.{greatest, least, is_zero, in_range_or_spill, power_of}

-- first it is formed, and then it is asked whether it is in the range
abbrev pub whole_power : ℤ → ℤ → Result ℤ Spoil
whole_power a b = if int_lt b (pos 0) then Err Power
    else (if is_zero a && is_zero b then Err Power else in_range_or_spill (int_pow a (nat_abs b)))

abbrev pub AreWhole : Type 0
AreWhole = (a b : ℤ) → power_of a b ≡ whole_power a b

-- Of exponents up to the greatest number; -2 is the only base whose 39th power is held and whose 40th is not.
abbrev pub ArePowers : Type 0
ArePowers = (power_of (pos 2) (pos 38) ≡ Ok (pos 274877906944))
    × (power_of (pos 2) (pos 39) ≡ Err Spill)
    × (power_of (negsuc 1) (pos 39) ≡ Ok least)
    × (power_of (negsuc 1) (pos 40) ≡ Err Spill)
    × (power_of (negsuc 1) (pos 41) ≡ Err Spill)
    × (power_of (pos 2) greatest ≡ Err Spill)
    × (power_of greatest greatest ≡ Err Spill)
    × (power_of least greatest ≡ Err Spill)
    × (power_of (pos 0) greatest ≡ Ok (pos 0))
    × (power_of (pos 1) greatest ≡ Ok (pos 1))
    × (power_of (negsuc 0) greatest ≡ Ok (negsuc 0))
    × (power_of (negsuc 0) (pos 549755813886) ≡ Ok (pos 1))
    × (power_of (pos 7) (pos 0) ≡ Ok (pos 1))
    × (power_of (pos 2) (negsuc 0) ≡ Err Power)
