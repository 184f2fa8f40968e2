-- What is told of runs, what calls print and take, and what they add to the journal, by example; what an independent model gives.
use Rattle.std.specs.Prelude.{◌≡◌, ◌++◌, ℕ, true, List, [], ◌∷◌, Option, None, Some, codes}
use Rattle.std.specs.Option.{option_map}
use Rattle.gier_word.specs.declared.alarm.Alarm.TheVariants.{Assignment}
use Rattle.gier_drum.specs.declared.drum.Entry.{Entry}
use Rattle.gier_drum.specs.declared.drum.Entry.TheVariants.{Read, Write}
use Rattle.gier_tree.specs.Hoist.{hoist}
use Rattle.gier_tree.specs.Text7.{text7}
use Rattle.gier_meaning.specs.Live.{InProgram, InBlock, InProcedure, InEvaluation, Stop}
use Rattle.gier_meaning.specs.Outcome.{Alarmed, NoStepLeft}
use Rattle.gier_meaning.specs.Observation.{Observation, Ended, Stopped}
use Rattle.gier_meaning.specs.Meaning.{meaning}
use Rattle.gier_meaning.specs.Example.{told_as, live, stop_at}
use Rattle.gier_job.specs.CallReply.{IsReplied, refusal}
use Rattle.gier_job.specs.Command.{plain_command}
use Rattle.gier_job.specs.Devices.{Devices}
use Rattle.gier_job.specs.Journal.{IsJournalOf, run_for, tree_of}
use Rattle.gier_job.specs.Reply.{reply_to}
use Rattle.gier_job.specs.ReplyExamples.{short_run, prints, loops, takes_data, assigns_to_sum, endless, counts_own}
use Rattle.gier_job.specs.ToldRun.{told_by}
use Rattle.gier_job.specs.declared.command.Command.{Command}
use Rattle.gier_job.specs.declared.status.Status.TheVariants.{Done, Words, Printer, Memory}

-- what the flat run of a program's object tells by text 7, and what the program's meaning tells
abbrev pub run_told : Command → (program unread : List ℕ) → Option Observation
run_told c program unread = option_map (λ t. told_by (text7 t) (run_for c t unread)) (tree_of program)

abbrev pub meaning_told : Command → (program unread : List ℕ) → Option Observation
meaning_told c program unread =
    option_map (λ t. meaning c.settings.stack (hoist t) unread c.settings.steps) (tree_of program)

abbrev pub BothTell : Command → (program unread : List ℕ) → Observation → Type 0
BothTell c program unread told =
    (Some told ≡ run_told c program unread) × (Some told ≡ meaning_told c program unread)

-- what stops in it is the last word of a line
abbrev pub turns_back : List ℕ
turns_back = codes "_begin l: outchar(65);\n_goto l\n_end"

-- where the steps are used up in a program without blocks
abbrev pub stop_in_program : (line : ℕ) → Option Stop
stop_in_program line = stop_at (live InProgram 3 ∷ []) line

abbrev pub stop_in_sum : Option Stop
stop_in_sum = stop_at (live (InEvaluation 3) 6 ∷ live (InProcedure 4) 8 ∷ live InBlock 5 ∷ live InProgram 3 ∷ []) 3

pub record AreTold : Type 0 where
  pub printed : BothTell (short_run 8 50) prints [] (told_as (codes "5\n") Ended 0 4 [] None)
  pub repeated : BothTell (short_run 8 50) loops [] (told_as (codes "17") Ended 3 9 [] None)
  pub stopped : BothTell (short_run 8 50) assigns_to_sum [] (told_as [] (Stopped (Alarmed Assignment)) 3 22 [] stop_in_sum)
  pub out_of_steps : BothTell (short_run 8 3) endless [] (told_as (codes "AAAA") (Stopped NoStepLeft) 3 3 [] (stop_in_program 1))
  pub at_line_end : BothTell (short_run 8 3) turns_back [] (told_as (codes "AAAA") (Stopped NoStepLeft) 3 3 [] (stop_in_program 2))
  pub counted : BothTell (short_run 8 50) counts_own [] (told_as (codes "12") Ended 6 20 [] None)
  pub taken : BothTell (short_run 8 50) (codes "_begin outinteger(ininteger) _end") (codes "42 7")
      (told_as (codes "42") Ended 0 3 (codes "7") None)

-- a tape that has these bytes left, and a printer that holds these
abbrev pub at : (left held : List ℕ) → Devices
at left held = record {
  tape = record { left = Some left; faults = 0 };
  printer = record { held = Some held; faults = 0 };
  drum = record { room = 0; tracks = None; journal = None; faults = 0 };
}

abbrev pub given : List ℕ
given = takes_data ++ codes "42 7"

pub record AreCalls : Type 0 where
  pub ended : IsReplied (reply_to (short_run 8 50) given) given Done (at given (codes "before "))
      (at (codes "7") (codes "before 42"))
  pub broken_off : IsReplied (reply_to (short_run 8 50) given) given Printer (at given []) (at (codes "7") (codes "4"))
  pub nothing_done : IsReplied (reply_to (short_run 8 50) given) given Memory (at given []) (at given [])
  pub wrong_word : IsReplied (refusal 2) given Words (at given []) (at given (codes "\n*** word 2\n"))

-- the second area, and the object
abbrev pub second : ℕ
second = 629149

abbrev pub object : ℕ
object = 1258298

-- two texts with a track each, one in either area, each of which is written and then read
abbrev pub text_and_next : List Entry
text_and_next = Write second ∷ Read second ∷ Write 0 ∷ Read 0 ∷ []

-- texts with two tracks each, read forward or backward
abbrev pub reads_up : (first : ℕ) → (next : ℕ) → List Entry
reads_up first next = Read first ∷ Read next ∷ []

abbrev pub writes_up : (first : ℕ) → (next : ℕ) → List Entry
writes_up first next = Write first ∷ Write next ∷ []

abbrev pub two_tracks : List Entry
two_tracks =
    writes_up second 629150 ++ reads_up second 629150 ++ writes_up 0 1 ++ reads_up 0 1 ++ writes_up second 629150
    ++ reads_up 629150 second ++ writes_up 0 1 ++ reads_up 1 0 ++ writes_up second 629150 ++ reads_up second 629150 ++ writes_up 0 1
    ++ reads_up 0 1 ++ writes_up second 629150 ++ reads_up 629150 second ++ writes_up 0 1 ++ reads_up 1 0

abbrev pub least : List ℕ
least = codes "_begin _end"

pub record AreJournals : Type 0 where
  pub run : IsJournalOf (short_run 8 50) least
      (text_and_next ++ text_and_next ++ text_and_next ++ text_and_next ++ Write object ∷ Read object ∷ [])
  pub checked : IsJournalOf (plain_command true) least
      (text_and_next ++ text_and_next ++ Write second ∷ Read second ∷ Write 0 ∷ [])
  pub searched : IsJournalOf (record (short_run 8 50) { mortem = true }) assigns_to_sum
      (two_tracks ++ Write object ∷ Read object ∷ Read second ∷ Read 629150 ∷ [])
