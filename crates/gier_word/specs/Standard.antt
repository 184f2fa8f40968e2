-- What the standard procedures print, and what the reading ones make of the data, which are a list of bytes.
-- `abs` and `sign` are operations, in Operations.
use Rattle.std.specs.Prelude.{◌==◌, ◌&&◌, ◌||◌, ◌-◌, ◌+ℤ◌, ◌-ℤ◌, ◌*ℤ◌, ℕ, suc, ℤ, pos, negsuc, Bool, true, false, nat_lt}
use Rattle.std.specs.Prelude.{nat_le, if◌then◌else◌, List, [], ◌∷◌, Result, Ok, Err}
use Rattle.std.specs.Fmt.{signed_decimal}
use Rattle.gier_word.specs.Operations.{is_in_range}
use Rattle.gier_word.specs.declared.alarm.Alarm.{Alarm}
use Rattle.gier_word.specs.declared.alarm.Alarm.TheVariants.{Character, Data}

-- `outinteger`: the decimal digits, with `-` before those of a negative number
abbrev pub integer_text : ℤ → List ℕ
integer_text = signed_decimal

-- `outcr`
abbrev pub line_text : List ℕ
line_text = 10 ∷ []

-- `outchar`: the byte, and an alarm for a number that is none
abbrev pub character_text : ℤ → Result (List ℕ) Alarm
character_text (pos n) = if nat_lt n 256 then Ok (n ∷ []) else Err Character
character_text (negsuc n) = Err Character

-- what a procedure makes of the data: its value or alarm, how many bytes it takes, and whether it asks for one more
-- than there are
pub record Reading : Type 0 where
  pub outcome : Result ℤ Alarm
  pub taken : ℕ
  pub meets_end : Bool

abbrev pub at_end : Result ℤ Alarm → Reading
at_end outcome = record { outcome = outcome; taken = 0; meets_end = true }

-- the byte that is looked at is taken, and the reading is over
abbrev pub at_byte : Result ℤ Alarm → Reading
at_byte outcome = record { outcome = outcome; taken = 1; meets_end = false }

-- one byte is taken before all this
abbrev pub behind_byte : Reading → Reading
behind_byte rest = record { outcome = rest.outcome; taken = suc rest.taken; meets_end = rest.meets_end }

abbrev pub is_digit : ℕ → Bool
is_digit byte = nat_le 48 byte && nat_le byte 57

-- tab, new line, carriage return, space and comma
abbrev pub is_skipped : ℕ → Bool
is_skipped byte = (byte == 9) || (byte == 10) || (byte == 13) || (byte == 32) || (byte == 44)

-- the number with one more digit
abbrev pub with_digit : Bool → ℤ → ℕ → ℤ
with_digit negative n byte = if negative then (n *ℤ pos 10) -ℤ pos (byte - 48) else (n *ℤ pos 10) +ℤ pos (byte - 48)

-- behind a digit: all digits that follow, and the first other byte, which is dropped
abbrev pub digits_read : Bool → ℤ → List ℕ → Reading
digits_read negative n [] = at_end (Ok n)
digits_read negative n (byte ∷ bytes) =
    if is_digit byte
    then (if is_in_range (with_digit negative n byte) then behind_byte (digits_read negative (with_digit negative n byte) bytes)
    else at_byte (Err Data))
    else at_byte (Ok n)

-- a digit has to come
abbrev pub first_digit_read : Bool → List ℕ → Reading
first_digit_read negative [] = at_end (Err Data)
first_digit_read negative (byte ∷ bytes) =
    if is_digit byte then behind_byte (digits_read negative (with_digit negative (pos 0) byte) bytes) else at_byte (Err Data)

-- a sign or a digit has to come
abbrev pub sign_read : ℕ → List ℕ → Reading
sign_read byte bytes =
    if byte == 45 then behind_byte (first_digit_read true bytes)
    else (if byte == 43 then behind_byte (first_digit_read false bytes) else first_digit_read false (byte ∷ bytes))

-- `ininteger`
abbrev pub integer_read : List ℕ → Reading
integer_read [] = at_end (Err Data)
integer_read (byte ∷ bytes) = if is_skipped byte then behind_byte (integer_read bytes) else sign_read byte bytes

-- `inchar`: the next byte, or -1 at the end
abbrev pub character_read : List ℕ → Reading
character_read [] = at_end (Ok (negsuc 0))
character_read (byte ∷ bytes) = at_byte (Ok (pos byte))
