-- How what a standard procedure prints, takes and leaves in R stands to its row of the order table.
use Rattle.std.specs.Prelude.{◌≡◌, ◌≤◌, ◌+◌, ◌++◌, ℕ, ℤ, Bool, List, Option, Result, Ok, Err}
use Rattle.gier_word.specs.Cause.{HasRisen}
use Rattle.gier_word.specs.Words.{word_of_int}
use Rattle.gier_word.specs.Alarm.{alarm_of}
use Rattle.gier_word.specs.Standard.{Reading}
use Rattle.gier_word.specs.declared.alarm.Alarm.{Alarm}
use Rattle.gier_word.specs.declared.int40.Spoil.{Spoil}
use Rattle.gier_io.specs.Device.{Puts, PutsPart}
use Rattle.gier_library.specs.Data.{Makes, IsBegun}
use Rattle.gier_order.specs.Flat.Row.{Odd as OddStep, Row}
use Rattle.gier_exec.specs.declared.stop.Stop.TheVariants.{Ended, Alarm as Alarmed, Steps, Odd}
use Rattle.gier_exec.specs.declared.stop.Miss.TheVariants.{Drum, Stop as Stopped}
use Rattle.gier_exec.specs.declared.stop.Quit.{Quit}
use Rattle.gier_exec.specs.declared.stop.Quit.TheVariants.{Miss as Missed, Read, Write}
use Rattle.gier_exec.specs.Registers.{Registers}
use Rattle.gier_exec.specs.Turning.{printing_row, StartsWith}

-- a device's count of faults doesn't fall, and rose where the order stopped by this device's failure
pub record CountsFailure {A : Type 0} (failure : Quit) (old new : ℕ) (result : Result A Quit) : Type 0 where
  pub later : old ≤ new
  pub failed : result ≡ Err failure → HasRisen old new

-- the address of the order after, where the procedure lets the run go on
abbrev pub on_from : ℕ → Result (Unit {0}) Quit → Result ℕ Quit
on_from place (Ok done) = Ok (place + 1)
on_from place (Err quit) = Err quit

-- The text is printed, or a prefix of it where the sink failed; with the alarm in its place nothing is.
abbrev pub Sends : {K : Type 0} → (K → Option (List ℕ)) → Result (List ℕ) Alarm → K → Result (Unit {0}) Quit → K → Type 0
Sends holds text old (Ok done) new = (bytes : List ℕ) × (text ≡ Ok bytes) × Puts (holds old) bytes (holds new)
Sends holds text old (Err (Missed (Stopped (Alarmed alarm)))) new = (text ≡ Err alarm) × (holds new ≡ holds old)
Sends holds text old (Err (Missed (Stopped Ended))) new = ⊥
Sends holds text old (Err (Missed (Stopped Steps))) new = ⊥
Sends holds text old (Err (Missed (Stopped Odd))) new = ⊥
Sends holds text old (Err (Missed Drum)) new = ⊥
Sends holds text old (Err Read) new = ⊥
Sends holds text old (Err Write) new = (bytes : List ℕ) × (text ≡ Ok bytes) × PutsPart (holds old) bytes (holds new)

-- the number comes to R, or the alarm in its place ends the run
abbrev pub Computes : Registers → Result ℤ Spoil → Registers → Result (Unit {0}) Quit → Type 0
Computes old (Ok z) new result = (result ≡ Ok tt) × (new ≡ record old { r = word_of_int z })
Computes old (Err spoil) new result = (result ≡ Err (Missed (Stopped (Alarmed (alarm_of spoil))))) × (new ≡ old)

-- What was made of the bytes that were taken comes to R, or is an alarm. Where the source failed they are the first of those
-- that the procedure takes.
abbrev pub Receives : (List ℕ → Reading) → List ℕ → Bool → Registers → Result (Unit {0}) Quit → Registers → Type 0
Receives reads bytes ended old (Ok done) new = (z : ℤ) × Makes (reads bytes) bytes (Ok z) ended
    × (new ≡ record old { r = word_of_int z })
Receives reads bytes ended old (Err (Missed (Stopped (Alarmed alarm)))) new = Makes (reads bytes) bytes (Err alarm) ended
    × (new ≡ old)
Receives reads bytes ended old (Err (Missed (Stopped Ended))) new = ⊥
Receives reads bytes ended old (Err (Missed (Stopped Steps))) new = ⊥
Receives reads bytes ended old (Err (Missed (Stopped Odd))) new = ⊥
Receives reads bytes ended old (Err (Missed Drum)) new = ⊥
Receives reads bytes ended old (Err Read) new = IsBegun reads bytes
Receives reads bytes ended old (Err Write) new = ⊥

-- these words are read and these bytes printed before all that
abbrev pub after_both : (read put : List ℕ) → Row → Row
after_both read put row = record { refs = read ++ row.refs; printed = put ++ row.printed; step = row.step }

-- more is read and printed behind these
abbrev pub Starts : Row → (read put : List ℕ) → Type 0
Starts row read put = StartsWith read row.refs × StartsWith put row.printed

-- The row reads these words, prints these bytes and goes on as another, or it is odd. Where a device failed they are the
-- first of the row's.
abbrev pub PrintsOn : (row go : Row) → (read put : List ℕ) → Result (Unit {0}) Quit → Type 0
PrintsOn row go read put (Ok done) = row ≡ after_both read put go
PrintsOn row go read put (Err (Missed (Stopped (Alarmed alarm)))) = ⊥
PrintsOn row go read put (Err (Missed (Stopped Ended))) = ⊥
PrintsOn row go read put (Err (Missed (Stopped Steps))) = ⊥
PrintsOn row go read put (Err (Missed (Stopped Odd))) = row ≡ printing_row read put OddStep
PrintsOn row go read put (Err (Missed Drum)) = Starts row read put
PrintsOn row go read put (Err Read) = ⊥
PrintsOn row go read put (Err Write) = Starts row read put
