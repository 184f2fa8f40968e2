-- What a command answers to a tape: the status, the printed bytes, and what is taken from the tape. Devices that fail aren't
-- spoken of here, nor is want of memory.
use Rattle.std.specs.Prelude.{◌++◌, ◌-◌, ◌/◌, ℕ, suc, Bool, true, false, List, [], ◌∷◌, map, take, length, Option}
use Rattle.std.specs.Prelude.{None, Some}
use Rattle.gier_symbol.specs.Tape.{program_of, data_of, most_data}
use Rattle.gier_symbol.specs.Reading.{symbols_of}
use Rattle.gier_symbol.specs.Assembly.{assembly}
use Rattle.gier_sample.specs.Sample.{sample_text}
use Rattle.gier_tree.specs.Trees.{Program}
use Rattle.gier_tree.specs.Structure.{program_spelled}
use Rattle.gier_tree.specs.Hoist.{hoist}
use Rattle.gier_tree.specs.Object.{code}
use Rattle.gier_kinds.specs.Errors.{Errors, TooLong, Listed, errors, most_bytes}
use Rattle.gier_kinds.specs.ErrorTexts.{error_lines}
use Rattle.gier_meaning.specs.Observation.{Observation}
use Rattle.gier_meaning.specs.Meaning.{meaning}
use Rattle.gier_order.specs.Flat.Run.{flat}
use Rattle.gier_job.specs.RunTails.{status_after, ending_tail, counts, mortem_for}
use Rattle.gier_job.specs.declared.command.Command.{Command}
use Rattle.gier_job.specs.declared.status.Status.{Status}
use Rattle.gier_job.specs.declared.status.Status.TheVariants.{Done, Errors as ErrorsFound}

pub record Reply : Type 0 where
  pub status : Status
  pub printed : List ℕ
  pub taken : List ℕ

-- the program text: that of the tape, or a sample
abbrev pub text_for : Option ℕ → (tape : List ℕ) → List ℕ
text_for None tape = program_of tape
text_for (Some calls) tape = sample_text calls

-- the data: what stands behind the text, or with a sample the whole tape, up to the number of bytes that data may have
abbrev pub data_for : Option ℕ → (tape : List ℕ) → List ℕ
data_for None tape = data_of tape
data_for (Some calls) tape = take most_data tape

-- the text is taken from the tape, with the `#` behind it where there is one; for a sample nothing is
abbrev pub text_taken : Option ℕ → (tape : List ℕ) → List ℕ
text_taken None tape = take (suc (length (program_of tape))) tape
text_taken (Some calls) tape = []

-- how many words a track has
abbrev pub track_words : ℕ
track_words = 40

-- the tracks within the object that its run refers to
abbrev pub tracks_of : Command → Program → (unread : List ℕ) → List ℕ
tracks_of c t unread = map (λ (a : ℕ). a / track_words) (flat (code t) 0 unread c.settings.steps c.settings.stack).refs

-- a program that was run, with what is told of its run
abbrev pub after_run : Command → Program → (unread taken : List ℕ) → Observation → Reply
after_run c t unread taken run = record {
  status = status_after run.ending;
  printed = run.printed ++ ending_tail run.ending ++ counts c run (tracks_of c t unread) ++ mortem_for c.mortem run.stop;
  taken = taken ++ take (length unread - length run.unread) unread;
}

-- a program without errors is done with where it is only checked, and else run
abbrev pub executed : (check : Bool) → Command → Program → (unread taken : List ℕ) → Reply
executed true c t unread taken = record { status = Done; printed = []; taken = taken }
executed false c t unread taken = after_run c t unread taken (meaning c.settings.stack (hoist t) unread c.settings.steps)

abbrev pub with_errors : Errors → (taken : List ℕ) → Reply
with_errors found taken = record { status = ErrorsFound; printed = error_lines found; taken = taken }

-- Of too long a text one byte more is taken than a program has at most. A text without errors is a program.
abbrev pub by_errors : Command → (tape : List ℕ) → Errors → Option Program → Reply
by_errors c tape TooLong t = with_errors TooLong (take (suc most_bytes) tape)
by_errors c tape (Listed (fault ∷ faults)) t = with_errors (Listed (fault ∷ faults)) (text_taken c.sample tape)
by_errors c tape (Listed []) None = with_errors (Listed []) (text_taken c.sample tape)
by_errors c tape (Listed []) (Some t) = executed c.check c t (data_for c.sample tape) (text_taken c.sample tape)

abbrev pub reply_to : Command → (tape : List ℕ) → Reply
reply_to c tape =
    let text : List ℕ = text_for c.sample tape in
    by_errors c tape (errors text) (program_spelled (assembly (symbols_of text).symbols).symbols)
