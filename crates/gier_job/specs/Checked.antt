-- What checking a program prints and takes, by the status that it ends with.
use Rattle.std.specs.Prelude.{◌≡◌, ◌<◌, ℕ, List, Option, None, Some, Result, length}
use Rattle.gier_io.specs.Device.{Puts, PutsPart}
use Rattle.gier_text.specs.declared.fault.Fault.{Fault}
use Rattle.gier_pass1.specs.Program.{TakesAll, TakesPart}
use Rattle.gier_front.specs.declared.stop.FrontStop.{FrontStop}
use Rattle.gier_front.specs.Fronted.{FrontTakes}
use Rattle.gier_front.specs.Printed.{errors_text}
use Rattle.gier_job.specs.declared.status.Status.{Status}
use Rattle.gier_job.specs.declared.status.Status.TheVariants.{Done, Errors, Words, Alarm, Steps, Tape, Printer, Drum, Memory}
use Rattle.gier_job.specs.declared.status.Status.TheVariants.{Spoilt}

-- the lines of some errors were printed, or a part of them
pub record PrintsErrors (old new : Option (List ℕ)) : Type 0 where
  pub faults : List Fault
  pub some : 0 < length faults
  pub put : Puts old (errors_text faults) new

pub record PrintsPart (old new : Option (List ℕ)) : Type 0 where
  pub faults : List Fault
  pub put : PutsPart old (errors_text faults) new

-- errors are printed and nothing else
abbrev pub Prints : Status → Option (List ℕ) → Option (List ℕ) → Type 0
Prints Done old new = new ≡ old
Prints Errors old new = PrintsErrors old new
Prints Printer old new = PrintsPart old new
Prints Tape old new = new ≡ old
Prints Drum old new = new ≡ old
Prints Memory old new = new ≡ old
Prints (Spoilt odd) old new = new ≡ old
Prints Words old new = ⊥
Prints Alarm old new = ⊥
Prints Steps old new = ⊥

-- the program text is taken, a part of it where a device failed, and nothing for want of memory
abbrev pub TakesProgram : Status → Option (List ℕ) → Option (List ℕ) → Type 0
TakesProgram Done old new = TakesAll old new
TakesProgram Errors old new = TakesAll old new
TakesProgram Printer old new = TakesAll old new
TakesProgram Tape old new = TakesPart old new
TakesProgram Drum old new = TakesPart old new
TakesProgram (Spoilt odd) old new = TakesPart old new
TakesProgram Memory old new = new ≡ old
TakesProgram Words old new = ⊥
TakesProgram Alarm old new = ⊥
TakesProgram Steps old new = ⊥

-- with a sample nothing is taken from the tape
abbrev pub TakesFor : Option ℕ → Status → Option (List ℕ) → Option (List ℕ) → Type 0
TakesFor None status old new = TakesProgram status old new
TakesFor (Some calls) status old new = new ≡ old

-- the same of what the front found
abbrev pub FoundFor : {T : Type 0} → Option ℕ → Result T FrontStop → Option (List ℕ) → Option (List ℕ) → Type 0
FoundFor None found old new = FrontTakes found old new
FoundFor (Some calls) found old new = new ≡ old

abbrev pub IsNotSpoilt : Status → Type 0
IsNotSpoilt (Spoilt odd) = ⊥
IsNotSpoilt _ = Unit {0}
