-- The standard procedures (Report 3.2.4 has `abs` and `sign`; the others are this project's own), on the data that are left
-- and the bytes that are printed. One that has no value gives 0, for which nothing asks.
use Rattle.std.specs.Prelude.{ℕ, ℤ, pos, List, drop, Result, Ok, Err}
use Rattle.gier_word.specs.declared.alarm.Alarm.{Alarm}
use Rattle.gier_word.specs.declared.int40.Spoil.{Spoil}
use Rattle.gier_word.specs.Alarm.{alarm_of}
use Rattle.gier_word.specs.Operations.{modulus_of, sign_of}
use Rattle.gier_word.specs.Standard.{integer_text, line_text, character_text, Reading, integer_read, character_read}
use Rattle.gier_tree.specs.declared.kind.Kind.{Kind}
use Rattle.gier_tree.specs.declared.kind.Kind.TheVariants.{OutInteger, OutCr, OutChar, InInteger, InChar, Abs, Sign}
use Rattle.gier_meaning.specs.Live.{Live}
use Rattle.gier_meaning.specs.State.{State, with_printed}
use Rattle.gier_meaning.specs.Outcome.{Outcome, Gives, Alarmed, stops, senseless}

-- a number, or the alarm that there is none
abbrev pub value_or_alarm : {K : Type 0} → Result ℤ Spoil → (line : ℕ) → Live → State K → Outcome K ℤ
value_or_alarm (Ok value) line live s = Gives value s
value_or_alarm (Err spoil) line live s = stops (Alarmed (alarm_of spoil)) line live s

-- these bytes are printed, or it alarms and prints nothing
abbrev pub prints : {K : Type 0} → Result (List ℕ) Alarm → (line : ℕ) → Live → State K → Outcome K ℤ
prints (Ok bytes) line live s = Gives (pos 0) (with_printed bytes s)
prints (Err alarm) line live s = stops (Alarmed alarm) line live s

abbrev pub without : {K : Type 0} → ℕ → State K → State K
without n s = record s { unread = drop n s.unread }

abbrev pub reads : {K : Type 0} → Result ℤ Alarm → (line : ℕ) → Live → State K → Outcome K ℤ
reads (Ok value) line live s = Gives value s
reads (Err alarm) line live s = stops (Alarmed alarm) line live s

-- what was looked at is taken, also where it alarms
abbrev pub takes : {K : Type 0} → Reading → (line : ℕ) → Live → State K → Outcome K ℤ
takes reading line live s = reads reading.outcome line live (without reading.taken s)

-- the procedures without formals
abbrev pub standard_alone : {K : Type 0} → Kind → (line : ℕ) → Live → State K → Outcome K ℤ
standard_alone OutCr line live s = prints (Ok line_text) line live s
standard_alone InInteger line live s = takes (integer_read s.unread) line live s
standard_alone InChar line live s = takes (character_read s.unread) line live s
standard_alone _ line live s = senseless line live s

-- those with an integer by value
abbrev pub standard_of : {K : Type 0} → Kind → ℤ → (line : ℕ) → Live → State K → Outcome K ℤ
standard_of OutInteger value line live s = prints (Ok (integer_text value)) line live s
standard_of OutChar value line live s = prints (character_text value) line live s
standard_of Abs value line live s = value_or_alarm (modulus_of value) line live s
standard_of Sign value line live s = Gives (sign_of value) s
standard_of _ value line live s = senseless line live s

-- `outtext`
abbrev pub prints_text : {K : Type 0} → List ℕ → State K → Outcome K ℤ
prints_text bytes s = Gives (pos 0) (with_printed bytes s)
