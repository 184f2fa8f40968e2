-- The number and the text of each status.
use Rattle.std.specs.Prelude.{ℕ, List, codes, Result, Ok, Err}
use Rattle.gier_word.specs.declared.refusal.Failed.{Failed}
use Rattle.gier_runner.specs.declared.ending.Ending.{Ending}
use Rattle.gier_runner.specs.declared.ending.Ending.TheVariants as ending
use Rattle.gier_job.specs.declared.status.Status.{Status}
use Rattle.gier_job.specs.declared.status.Status.TheVariants.{Done, Errors, Words, Alarm, Steps, Tape, Printer, Drum, Memory}
use Rattle.gier_job.specs.declared.status.Status.TheVariants.{Spoilt}

abbrev pub status_number : Status → ℕ
status_number Done = 0
status_number Errors = 1
status_number Words = 2
status_number Alarm = 3
status_number Steps = 4
status_number Tape = 5
status_number Printer = 6
status_number Drum = 7
status_number Memory = 8
status_number (Spoilt odd) = 9

abbrev pub text_of_status : Status → List ℕ
text_of_status Done = codes "done"
text_of_status Errors = codes "errors"
text_of_status Words = codes "words"
text_of_status Alarm = codes "alarm"
text_of_status Steps = codes "steps"
text_of_status Tape = codes "tape fault"
text_of_status Printer = codes "printer fault"
text_of_status Drum = codes "drum fault"
text_of_status Memory = codes "want of memory"
text_of_status (Spoilt odd) = codes "spoilt drum"

-- where the printer failed, that is the status
abbrev pub of_printer : {T : Type 0} → Result T Failed → Result T Status
of_printer (Ok done) = Ok done
of_printer (Err failed) = Err Printer

abbrev pub of_ending : Ending → Status
of_ending ending.Ended = Done
of_ending (ending.Alarm alarm) = Alarm
of_ending ending.Steps = Steps
of_ending ending.Read = Tape
of_ending ending.Write = Printer
of_ending ending.Drum = Drum
of_ending (ending.Spoilt odd) = Spoilt odd

-- a run has none of the others
abbrev pub IsOfRun : Status → Type 0
IsOfRun Errors = ⊥
IsOfRun Words = ⊥
IsOfRun Memory = ⊥
IsOfRun _ = Unit {0}

-- how what is printed behind a run may be stopped
abbrev pub IsStop : Status → Type 0
IsStop Printer = Unit {0}
IsStop Drum = Unit {0}
IsStop (Spoilt odd) = Unit {0}
IsStop _ = ⊥
