-- What a procedure prints that may alarm.
use Rattle.std.specs.Prelude.{◌≡◌, ℕ, List, Option, Result, Ok, Err}
use Rattle.gier_word.specs.declared.alarm.Alarm.{Alarm}
use Rattle.gier_word.specs.declared.refusal.Failed.{Failed}
use Rattle.gier_io.specs.Device.{Puts, PutsPart}
use Rattle.gier_library.specs.declared.printing.OutStop.{OutStop}
use Rattle.gier_library.specs.declared.printing.OutStop.TheVariants.{Alarm as Alarmed, Write}

-- whether the sink failed
abbrev pub sink_answer : Result (Unit {0}) OutStop → Result (Unit {0}) Failed
sink_answer (Ok done) = Ok done
sink_answer (Err (Alarmed alarm)) = Ok tt
sink_answer (Err Write) = Err (record {})

-- the bytes are put, or a prefix of them where the sink failed; with the alarm in their place nothing is touched
abbrev pub Prints : {K : Type 0} → (K → Option (List ℕ)) → Result (List ℕ) Alarm → K → Result (Unit {0}) OutStop → K → Type 0
Prints holds text old (Ok done) new = (bytes : List ℕ) × (text ≡ Ok bytes) × Puts (holds old) bytes (holds new)
Prints holds text old (Err (Alarmed alarm)) new = (text ≡ Err alarm) × (new ≡ old)
Prints holds text old (Err Write) new = (bytes : List ℕ) × (text ≡ Ok bytes) × PutsPart (holds old) bytes (holds new)
