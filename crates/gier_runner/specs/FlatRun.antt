-- A whole run, as the flat run of the words of its object has it: the words that were read, the bytes printed, the data
-- taken, and how it ended. Where a device failed, what was read, printed and taken is the first of what the flat run
-- reads, prints and takes.
use Rattle.std.specs.Prelude.{◌≡◌, ◌++◌, ◌<◌, ℕ, Bool, false, List, [], Option, None, Some}
use Rattle.gier_drum.specs.declared.drum.Entry.{Entry}
use Rattle.gier_order.specs.Counts.{StandsFor as RecentFor}
use Rattle.gier_order.specs.Misses.{misses}
use Rattle.gier_order.specs.declared.object.Object.{Object}
use Rattle.gier_order.specs.Flat.Row.{Regs, Ending as FlatEnding, Ended as HasEnded, Alarmed, NoSteps, Spoilt as IsSpoilt}
use Rattle.gier_order.specs.Flat.Run.{State as FlatState, Final, Over, exec, one, Report, report_of}
use Rattle.gier_places.specs.Contents.{LogsReads, StandsFor as PlacesFor}
use Rattle.gier_best.specs.TraceModel.{HasNoted}
use Rattle.gier_library.specs.Data.{Stand}
use Rattle.gier_exec.specs.Rows.{regs_of}
use Rattle.gier_exec.specs.References.{tracks_of, notes_of}
use Rattle.gier_exec.specs.Turning.{StartsWith}
use Rattle.gier_runner.specs.State.{State}
use Rattle.gier_runner.specs.declared.ending.Ending.{Ending}
use Rattle.gier_runner.specs.declared.ending.Ending.TheVariants as ending

-- how the flat run ended; it knows no device that fails
abbrev pub flat_ending : Ending → Option FlatEnding
flat_ending ending.Ended = Some HasEnded
flat_ending (ending.Alarm alarm) = Some (Alarmed alarm)
flat_ending ending.Steps = Some NoSteps
flat_ending ending.Read = None
flat_ending ending.Write = None
flat_ending ending.Drum = None
flat_ending (ending.Spoilt odd) = Some (IsSpoilt odd.place odd.word)

abbrev pub EndsWith : List ℕ → List ℕ → Type 0
EndsWith last all = (first : List ℕ) × (all ≡ first ++ last)

-- What was read and printed is the first of what a flat run reads and prints, and of the data that weren't taken it
-- leaves the last.
pub record IsPart (read put rest : List ℕ) (words bytes left : List ℕ) : Type 0 where
  pub refs : StartsWith read words
  pub printed : StartsWith put bytes
  pub input : EndsWith left rest

-- Orders one after another

-- a flat run that goes on from these registers
abbrev pub from : Regs → FlatState
from m = record { regs = m; refs = []; printed = [] }

-- it came to these registers where a run ended so, having read and printed this
abbrev pub Comes : Option FlatEnding → Regs → (read put : List ℕ) → Final → Type 0
Comes (Some ending) after read put final = final ≡ record {
  ending = ending;
  state = record {
    regs = after;
    refs = read;
    printed = put;
  };
}
Comes None after read put final = IsPart read put after.input final.state.refs final.state.printed final.state.regs.input

-- the flat run of an object, over a stack with so many words, from some registers to others
abbrev pub RunsTo : List ℕ → ℕ → (before after : Regs) → (read put : List ℕ) → Ending → Type 0
RunsTo code size before after read put ending =
    (moves : ℕ) × (final : Final) × (exec (one code size) moves (from before) ≡ Over final)
    × Comes (flat_ending ending) after read put final

-- Whole runs

-- data of which nothing was read
abbrev pub unread : Option (List ℕ) → Stand
unread left = record { left = left; given = 0; ended = false }

-- data of which so many bytes were read
abbrev pub read_up : Option (List ℕ) → ℕ → Bool → Stand
read_up left given ended = record { left = left; given = given; ended = ended }

-- These words of the object were referred to in a run: the runner's counts and places stand for them, and each that
-- missed was read from the drum, as a journal tells it.
pub record HasRead (object : Object) (refs : List ℕ) (s : State) (old new : Option (List Entry)) : Type 0 where
  pub recent : RecentFor s.recent (tracks_of object refs)
  pub noted : HasNoted s.trace (notes_of refs)
  pub places : PlacesFor s.places (tracks_of object refs)
  pub reads : LogsReads old (misses (tracks_of object refs) s.settings.places) new

-- what a runner's machine and frames are in a flat run that read and printed this and left these data
abbrev pub state_of : State → (read put rest : List ℕ) → FlatState
state_of s read put rest = record { regs = regs_of s.machine s.frames rest; refs = read; printed = put }

-- The report of a flat run that ended as this one did: it read and printed this and left these data, and all else is what
-- the runner's machine and frames have. Where a device failed, this run is its first part.
abbrev pub Reports : Option FlatEnding → State → (read put rest : List ℕ) → Report → Type 0
Reports (Some ending) s read put rest report =
    report ≡ report_of s.settings.steps (record { ending = ending; state = state_of s read put rest })
Reports None s read put rest report = IsPart read put rest report.refs report.printed report.left
