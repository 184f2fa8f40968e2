-- What is answered, put together from the parts of the work.
use Rattle.std.specs.Prelude.{◌≡◌, ◌≤◌, ℕ, Bool, true, false, List, Option, None, Some, is_some}
use Rattle.std.proofs.Common.{arith, refl, ap, subst}
use Rattle.gier_word.proofs.Cause.{risen_from}
use Rattle.gier_io.specs.View.{SourceView, SinkView}
use Rattle.gier_drum.specs.View.{DrumView}
use Rattle.gier_kinds.specs.Errors.{errors as errors_of}
use Rattle.gier_job.specs.Answer.{Answers}
use Rattle.gier_job.specs.Checked.{Prints, TakesFor, IsNotSpoilt}
use Rattle.gier_job.specs.Devices.{Devices, NamesFailed}
use Rattle.gier_job.specs.Early.{AnswersEarly}
use Rattle.gier_job.specs.Reply.{text_for}
use Rattle.gier_job.specs.RunAnswer.{IsRunEnd, HasRun}
use Rattle.gier_job.specs.Status.{IsOfRun}
use Rattle.gier_job.proofs.Runs.{has_run_most}
use Rattle.gier_job.specs.declared.command.Command.{Command}
use Rattle.gier_job.specs.declared.status.Status.{Status}
use Rattle.gier_job.specs.declared.status.Status.TheVariants.{Errors, Memory, Drum}

-- the program wasn't run
pub answers_told : (c : Command) (most : ℕ) (status : Status) (old new : Devices) → Prints status old.printer.held new.printer.held
    → TakesFor c.sample status old.tape.left new.tape.left → (is_some old.drum.tracks ≡ true → IsNotSpoilt status)
    → ((bytes : List ℕ) → old.tape.left ≡ Some bytes → is_some old.drum.tracks ≡ true
    → AnswersEarly status (errors_of (text_for c.sample bytes)) old.printer.held new.printer.held)
    → (c.check ≡ false → IsRunEnd status → ⊥) → Answers c most status old new
answers_told c most status old new prints takes sound early no_run = record {
  checks = λ check. (prints, takes);
  sound = λ check told. sound told;
  errors = λ e. (subst (λ s. Prints s old.printer.held new.printer.held) e prints, subst (λ s. TakesFor c.sample s old.tape.left new.tape.left) e takes);
  early = early;
  runs = λ tracks all off told left end. absurd (no_run off end);
}

pub check_run : (b : Bool) → b ≡ true → b ≡ false → ⊥
check_run true is off = cc
check_run false is off = cc

-- the program was run
pub answers_run : (c : Command) (most : ℕ) (status : Status) (old new : Devices) → c.check ≡ false → IsOfRun status
    → ((bytes : List ℕ) → old.tape.left ≡ Some bytes → is_some old.drum.tracks ≡ true
    → AnswersEarly status (errors_of (text_for c.sample bytes)) old.printer.held new.printer.held)
    → ((tracks : List (List ℕ)) (all : List ℕ) → c.check ≡ false → new.drum.tracks ≡ Some tracks → old.tape.left ≡ Some all → IsRunEnd status
    → HasRun tracks c most old.tape.left status old.printer.held new.printer.held new.drum.journal) → Answers c most status old new
answers_run c most status old new off of_run early runs = record {
  checks = λ check. absurd (check_run c.check check off);
  sound = λ check told. absurd (check_run c.check check off);
  errors = λ e. absurd (subst IsOfRun e of_run);
  early = early;
  runs = runs;
}

takes_memory : (sample : Option ℕ) (left : Option (List ℕ)) → TakesFor sample Memory left left
takes_memory None left = refl
takes_memory (Some calls) left = refl

takes_drum : (sample : Option ℕ) (left : Option (List ℕ)) → TakesFor sample Drum left left
takes_drum None None = refl
takes_drum None (Some bytes) = (0, omega arith, refl)
takes_drum (Some calls) left = refl

-- nothing was done, for want of memory or since the drum failed
pub answers_memory : (c : Command) (most : ℕ) (old new : Devices) → new.printer ≡ old.printer → new.tape ≡ old.tape → Answers c most Memory old new
answers_memory c most old new printer tape = answers_told c most Memory old new (rw printer refl) (rw tape (takes_memory c.sample old.tape.left)) (λ told. tt) (λ bytes left told. tt) (λ off end. end)

pub answers_drum : (c : Command) (most : ℕ) (old new : Devices) → new.printer ≡ old.printer → new.tape ≡ old.tape → Answers c most Drum old new
answers_drum c most old new printer tape = answers_told c most Drum old new (rw printer refl) (rw tape (takes_drum c.sample old.tape.left)) (λ told. tt) (λ bytes left told. tt) (λ off end. end)

-- the same where the drum was only grown before, and with another most where no plan is asked for
pub answers_from : (c : Command) (most other : ℕ) (status : Status) (old mid new : Devices) → mid.printer ≡ old.printer → mid.tape ≡ old.tape
    → (is_some old.drum.tracks ≡ true → is_some mid.drum.tracks ≡ true) → (c.best ≡ true → most ≡ other) → Answers c most status mid new
    → Answers c other status old new
answers_from c most other status old mid new printer tape told same h =
    let held : mid.printer.held ≡ old.printer.held = ap (λ (s : SinkView). s.held) printer in
    let left : mid.tape.left ≡ old.tape.left = ap (λ (s : SourceView). s.left) tape in
    let checks = rw (held, left) at h.checks in
    let errors = rw (held, left) at h.errors in
    let early = rw (held, left) at h.early in
    let runs = rw (held, left) at h.runs in
    record {
      checks = checks;
      sound = λ check is. h.sound check (told is);
      errors = errors;
      early = λ bytes is some. early bytes is (told some);
      runs = λ tracks all off is begins end. has_run_most tracks c most other old.tape.left status old.printer.held new.printer.held new.drum.journal same (runs tracks all off is begins end);
    }

le_trans : (a b c : ℕ) → a ≤ b → b ≤ c → a ≤ c
le_trans a b c h k = omega (arith, h, k)

-- where nothing failed before, a device is named for what failed later
pub names_later : (status : Status) (old mid new : Devices) → old.tape.faults ≤ mid.tape.faults → old.printer.faults ≤ mid.printer.faults
    → old.drum.faults ≤ mid.drum.faults → NamesFailed status mid new → NamesFailed status old new
names_later status old mid new tape printer drum h = record {
  tape_fault = λ e. risen_from old.tape.faults mid.tape.faults new.tape.faults tape (h.tape_fault e);
  printer_fault = λ e. risen_from old.printer.faults mid.printer.faults new.printer.faults printer (h.printer_fault e);
  drum_fault = λ e. risen_from old.drum.faults mid.drum.faults new.drum.faults drum (h.drum_fault e);
  tape_later = le_trans old.tape.faults mid.tape.faults new.tape.faults tape h.tape_later;
  printer_later = le_trans old.printer.faults mid.printer.faults new.printer.faults printer h.printer_later;
  drum_later = le_trans old.drum.faults mid.drum.faults new.drum.faults drum h.drum_later;
}
