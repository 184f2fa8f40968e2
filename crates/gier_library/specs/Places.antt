-- How `ininteger` is read byte by byte: what is still to be read from a place on.
use Rattle.std.specs.Prelude.{ℕ, ℤ, List, Result, Ok, Err}
use Rattle.gier_word.specs.Standard.{Reading, behind_byte, at_byte, integer_read, first_digit_read, digits_read}
use Rattle.gier_word.specs.declared.alarm.Alarm.{Alarm}
use Rattle.gier_word.specs.declared.alarm.Alarm.TheVariants.{Data}
use Rattle.gier_library.specs.declared.number.Place.{Place}
use Rattle.gier_library.specs.declared.number.Place.TheVariants.{Blank, Signed, Digits}
use Rattle.gier_library.specs.declared.number.Step.{Step}
use Rattle.gier_library.specs.declared.number.Step.TheVariants.{Goes, Stops}

-- what the rest of the procedure makes of the bytes that follow
abbrev pub read_from : Place → List ℕ → Reading
read_from Blank bytes = integer_read bytes
read_from (Signed negative) bytes = first_digit_read negative bytes
read_from (Digits negative n) bytes = digits_read negative n bytes

-- and what it makes of them where a byte before them does this
abbrev pub read_after : Step → List ℕ → Reading
read_after (Goes place) bytes = behind_byte (read_from place bytes)
read_after (Stops outcome) bytes = at_byte outcome

-- what comes of a number that the end of the data cuts off here
abbrev pub outcome_at_end : Place → Result ℤ Alarm
outcome_at_end Blank = Err Data
outcome_at_end (Signed negative) = Err Data
outcome_at_end (Digits negative n) = Ok n
