-- What a program's run answers, by the report of the flat run of its object.
use Rattle.std.specs.Prelude.{◌≡◌, ◌≤◌, ◌++◌, ⊤, ℕ, Bool, List, [], length, take, slice_index, Option, Some, false}
use Rattle.gier_word.specs.Alarm.{name_of}
use Rattle.gier_drum.specs.declared.drum.Entry.{Entry}
use Rattle.gier_places.specs.Contents.{LogsReads}
use Rattle.gier_order.specs.Misses.{misses}
use Rattle.gier_order.specs.declared.object.Object.{Object}
use Rattle.gier_order.specs.Flat.Row.{Ending, Ended, Alarmed, NoSteps, Spoilt as IsSpoilt}
use Rattle.gier_order.specs.Flat.Run.{Report, flat}
use Rattle.gier_library.specs.Data.{limit}
use Rattle.gier_symbol.specs.declared.symbol.Symbol.{Symbol}
use Rattle.gier_tree.specs.Object.{object_of}
use Rattle.gier_text.specs.SymbolsOnTracks.{text_on}
use Rattle.gier_limits.specs.Areas.{longest, first_of, object_first, words_of}
use Rattle.gier_text.specs.Potential.{IsShort}
use Rattle.gier_tree.specs.Complete.{IsComplete}
use Rattle.gier_pass9.specs.Objects.{IsText7}
use Rattle.gier_exec.specs.Rows.{code_in}
use Rattle.gier_exec.specs.References.{tracks_of, notes_of}
use Rattle.gier_job.specs.Tails.{alarm_tail, steps_tail}
use Rattle.gier_job.specs.Checked.{TakesFor}
use Rattle.gier_job.specs.Reply.{text_for}
use Rattle.gier_job.specs.Mortem.{PutsTails}
use Rattle.gier_job.specs.TailsOfRun.{count_tails}
use Rattle.gier_job.specs.declared.command.Command.{Command}
use Rattle.gier_job.specs.declared.status.Status.{Status}
use Rattle.gier_job.specs.declared.status.Status.TheVariants.{Done, Alarm, Steps, Spoilt}

-- the run was told to its end
abbrev pub IsRunEnd : Status → Type 0
IsRunEnd Done = ⊤
IsRunEnd Alarm = ⊤
IsRunEnd Steps = ⊤
IsRunEnd _ = ⊥

abbrev pub status_of : Ending → Status
status_of Ended = Done
status_of (Alarmed alarm) = Alarm
status_of NoSteps = Steps
status_of (IsSpoilt place word) = Spoilt (record { place = place; word = word })

abbrev pub flat_end_tail : Ending → List ℕ
flat_end_tail Ended = []
flat_end_tail (Alarmed alarm) = alarm_tail (name_of alarm)
flat_end_tail NoSteps = steps_tail
flat_end_tail (IsSpoilt place word) = []

-- a post-mortem follows where it is asked for and something stopped the run
abbrev pub flat_has_mortem : (asked : Bool) → Ending → Bool
flat_has_mortem asked Ended = false
flat_has_mortem asked (Alarmed alarm) = asked
flat_has_mortem asked NoSteps = asked
flat_has_mortem asked (IsSpoilt place word) = false

-- by the words that the flat run referred to; a plan is made for at most so many changes of track
abbrev pub flat_tails : Command → (most : ℕ) → Object → Report → List ℕ
flat_tails c most object report =
    flat_end_tail report.ending
    ++ count_tails c (record {
      steps = report.steps;
      transfers
          = length (misses (tracks_of object report.refs) c.settings.places);
      words = report.words;
    })
    most (tracks_of object report.refs) (notes_of report.refs)

-- What was printed is what the flat run prints, and then its tails; the drum's journal ends with a read for each miss, and
-- only a post-mortem reads more.
pub record IsAnswered (c : Command) (most : ℕ) (object : Object) (report : Report) (status : Status)
    (old new : Option (List ℕ)) (journal : Option (List Entry)) : Type 0 where
  pub ended : status ≡ status_of report.ending
  pub printed : PutsTails (flat_has_mortem c.mortem report.ending) (report.printed
      ++ flat_tails c most object report) report.live old new
  pub read : c.mortem ≡ false
      → (before : Option (List Entry)) × LogsReads before (misses (tracks_of object report.refs) c.settings.places) journal

-- an object stands behind the texts, and is run from its first word
pub record IsPlaced (object : Object) : Type 0 where
  pub place : object.first_track ≡ object_first
  pub start : object.start ≡ 0
  pub some : 1 ≤ object.words
  pub few : object.words ≤ words_of longest

-- Text 7 of a program of so many bytes lies behind the first area, and after a post-mortem lay there; where all of it is known by
-- its end, the object's words are those that are defined from it.
pub record IsDefined (bytes : ℕ) (tracks : List (List ℕ)) (mortem : Bool) (object : Object) : Type 0 where
  pub seven : List Symbol
  pub held : mortem ≡ false → text_on (Some tracks) (first_of 7) (slice_index object.lengths 6) ≡ Some seven
  pub short : IsShort 7 bytes seven
  pub defined : IsComplete bytes seven → IsText7 longest seven → code_in tracks object ≡ object_of seven

-- A program was run: an object stands in these tracks, its words are those that text 7 defines, its data are what stood behind the
-- program text, up to the limit, and the run answers what the flat run of the object's words reports.
pub record HasRun (tracks : List (List ℕ)) (c : Command) (most : ℕ) (tape : Option (List ℕ)) (status : Status)
    (old new : Option (List ℕ)) (journal : Option (List Entry)) : Type 0 where
  pub object : Object
  pub placed : IsPlaced object
  pub bytes : ℕ
  pub counted : (all : List ℕ) → tape ≡ Some all → bytes ≡ length (text_for c.sample all)
  pub defined : IsDefined bytes tracks c.mortem object
  pub input : List ℕ
  pub takes : TakesFor c.sample Done tape (Some input)
  pub answers : IsAnswered c most object (flat (code_in tracks object) object.start
      (take limit input) c.settings.steps c.settings.stack) status old new journal
