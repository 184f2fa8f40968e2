-- What the answers of the reading calls say: a value or an alarm, or that a read failed.
use Rattle.std.specs.Prelude.{ℤ, Result, Ok, Err}
use Rattle.gier_word.specs.declared.alarm.Alarm.{Alarm}
use Rattle.gier_word.specs.declared.refusal.Failed.{Failed}
use Rattle.gier_library.specs.declared.reading.InStop.{InStop}
use Rattle.gier_library.specs.declared.reading.InStop.TheVariants.{Alarm as Alarmed, Read}

abbrev pub integer_answer : Result ℤ InStop → Result (Result ℤ Alarm) Failed
integer_answer (Ok n) = Ok (Ok n)
integer_answer (Err (Alarmed alarm)) = Ok (Err alarm)
integer_answer (Err Read) = Err (record {})

abbrev pub character_answer : Result ℤ Failed → Result (Result ℤ Alarm) Failed
character_answer (Ok n) = Ok (Ok n)
character_answer (Err failed) = Err failed
