-- The definitions of the standard procedures, computed on small data.
use Rattle.std.proofs.Common.{◌≡◌, List, [], ◌∷◌, Ok, Err, true, false, pos, negsuc, codes, refl}
use Rattle.gier_word.specs.Standard.{integer_read, character_read, character_text, at_end, at_byte}
use Rattle.gier_word.specs.Operations.{quotient_of, power_of, sum_of, sign_of, modulus_of, least}
use Rattle.gier_word.specs.declared.alarm.Alarm.TheVariants.{Character, Data}
use Rattle.gier_word.specs.declared.int40.Spoil.TheVariants.{Spill, Division, Power}

reads_least : integer_read (codes "-549755813888") ≡ record { outcome = Ok least; taken = 13; meets_end = true }
reads_least = refl

reads_past_layout : integer_read (codes ", +42;") ≡ record { outcome = Ok (pos 42); taken = 6; meets_end = false }
reads_past_layout = refl

wants_digit : integer_read (codes "x") ≡ record { outcome = Err Data; taken = 1; meets_end = false }
wants_digit = refl

wants_digit_behind_sign : integer_read (codes "-") ≡ record { outcome = Err Data; taken = 1; meets_end = true }
wants_digit_behind_sign = refl

spills_at_digit : integer_read (codes "5497558138880") ≡ record { outcome = Err Data; taken = 12; meets_end = false }
spills_at_digit = refl

end_is_minus_one : character_read [] ≡ at_end (Ok (negsuc 0))
end_is_minus_one = refl

no_byte : character_text (pos 256) ≡ Err Character
no_byte = refl

toward_zero : quotient_of (negsuc 6) (pos 2) ≡ Ok (negsuc 2)
toward_zero = refl

by_zero : quotient_of (pos 1) (pos 0) ≡ Err Division
by_zero = refl

zero_to_zero : power_of (pos 0) (pos 0) ≡ Err Power
zero_to_zero = refl

cube : power_of (negsuc 1) (pos 3) ≡ Ok (negsuc 7)
cube = refl

spills : sum_of (pos 549755813887) (pos 1) ≡ Err Spill
spills = refl

least_has_no_modulus : modulus_of least ≡ Err Spill
least_has_no_modulus = refl

sign_of_negative : sign_of (negsuc 11) ≡ negsuc 0
sign_of_negative = refl
