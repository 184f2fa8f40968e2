-- What a call does with words and a tape, where its devices tell what they hold: it gives the reply, or where a device failed
-- a beginning of it, or for want of memory nothing.
use Rattle.std.specs.Prelude.{◌≡◌, ◌≤◌, ℕ, List, [], drop, length, Some}
use Rattle.gier_io.specs.Device.{Puts, PutsPart}
use Rattle.gier_job.specs.Command.{IsCommand, IsFirstWrong}
use Rattle.gier_job.specs.Devices.{Devices}
use Rattle.gier_job.specs.Reply.{Reply, reply_to}
use Rattle.gier_job.specs.Tails.{wrong_word_tail}
use Rattle.gier_job.specs.declared.command.Command.{Command}
use Rattle.gier_job.specs.declared.status.Status.{Status}
use Rattle.gier_job.specs.declared.status.Status.TheVariants.{Words, Tape, Printer, Drum, Memory, Spoilt}

-- all of it: its status, its bytes, and what it takes from the tape
pub record IsWhole (reply : Reply) (tape : List ℕ) (status : Status) (old new : Devices) : Type 0 where
  pub ended : status ≡ reply.status
  pub put : Puts old.printer.held reply.printed new.printer.held
  pub took : new.tape.left ≡ Some (drop (length reply.taken) tape)

-- a beginning of its bytes, and of what it takes
pub record IsBegun (reply : Reply) (tape : List ℕ) (old new : Devices) : Type 0 where
  pub put : PutsPart old.printer.held reply.printed new.printer.held
  pub count : ℕ
  pub within : count ≤ length reply.taken
  pub took : new.tape.left ≡ Some (drop count tape)

-- by the status that the call ended with; over a drum that tells its tracks nothing is spoilt
abbrev pub IsReplied : Reply → (tape : List ℕ) → Status → (old new : Devices) → Type 0
IsReplied reply tape Tape old new = IsBegun reply tape old new
IsReplied reply tape Printer old new = IsBegun reply tape old new
IsReplied reply tape Drum old new = IsBegun reply tape old new
IsReplied reply tape Memory old new = (new.printer.held ≡ old.printer.held) × (new.tape.left ≡ Some tape)
IsReplied reply tape (Spoilt odd) old new = ⊥
IsReplied reply tape status old new = IsWhole reply tape status old new

-- the reply to wrong words
abbrev pub refusal : (number : ℕ) → Reply
refusal number = record { status = Words; printed = wrong_word_tail number; taken = [] }

-- the reply to any words: the first wrong one is told, or the command that they are is obeyed
pub record CallReply (words : List (List ℕ)) (tape : List ℕ) (status : Status) (old new : Devices) : Type 0 where
  pub refused : (number : ℕ) → IsFirstWrong words number → IsReplied (refusal number) tape status old new
  pub accepted : (command : Command) → IsCommand words command → IsReplied (reply_to command tape) tape status old new
