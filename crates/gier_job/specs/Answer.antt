-- What is answered to wrong words and to right ones.
use Rattle.std.specs.Prelude.{◌≡◌, ℕ, List, Option, Some, is_some, true, false}
use Rattle.gier_io.specs.Device.{Puts, PutsPart}
use Rattle.gier_kinds.specs.Errors.{errors as errors_of}
use Rattle.gier_job.specs.Checked.{Prints, PrintsErrors, TakesFor, IsNotSpoilt}
use Rattle.gier_job.specs.Devices.{Devices}
use Rattle.gier_job.specs.Early.{AnswersEarly}
use Rattle.gier_job.specs.Reply.{text_for}
use Rattle.gier_job.specs.RunAnswer.{IsRunEnd, HasRun}
use Rattle.gier_job.specs.Tails.{wrong_word_tail}
use Rattle.gier_job.specs.declared.command.Command.{Command}
use Rattle.gier_job.specs.declared.status.Status.{Status}
use Rattle.gier_job.specs.declared.status.Status.TheVariants.{Errors, Words, Printer}

-- the word with this number is wrong, and it is said, or the printer failed and got a part of that
abbrev pub Refuses : ℕ → Status → Option (List ℕ) → Option (List ℕ) → Type 0
Refuses number Words old new = Puts old (wrong_word_tail number) new
Refuses number Printer old new = PutsPart old (wrong_word_tail number) new
Refuses number _ old new = ⊥

-- What is answered to a command, with the devices before and after it. A plan is made for at most so many changes of track.
pub record Answers (command : Command) (most : ℕ) (status : Status) (old new : Devices) : Type 0 where
  -- `check` prints the errors of the program and nothing else, and just the program text is taken.
  pub checks : command.check ≡ true → Prints status old.printer.held new.printer.held
      × TakesFor command.sample status old.tape.left new.tape.left
  pub sound : command.check ≡ true → is_some old.drum.tracks ≡ true → IsNotSpoilt status
  -- `run` prints the errors too, and nothing is run then.
  pub errors : status ≡ Errors → PrintsErrors old.printer.held new.printer.held
      × TakesFor command.sample Errors old.tape.left new.tape.left
  -- Where the devices tell what they hold, errors of bytes, words, strings, numbers and structure are printed exactly, and so is
  -- that a program is too long; and with such errors no program ends well or is run.
  pub early : (bytes : List ℕ) → old.tape.left ≡ Some bytes → is_some old.drum.tracks ≡ true
      → AnswersEarly status (errors_of (text_for command.sample bytes)) old.printer.held new.printer.held
  -- Where the devices tell what they hold, a run that no device stopped prints what the flat run of its object prints, and
  -- then the tails. Which lines a post-mortem names isn't said.
  pub runs : (tracks : List (List ℕ)) (all : List ℕ) → command.check ≡ false → new.drum.tracks ≡ Some tracks
      → old.tape.left ≡ Some all → IsRunEnd status
      → HasRun tracks command most old.tape.left status old.printer.held new.printer.held new.drum.journal
