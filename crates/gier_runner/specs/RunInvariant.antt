-- What the orders of a run keep, one after another: that the next one can be read, and that all is counted in numbers of 128 bits.
use Rattle.std.specs.Prelude.{◌≡◌, ◌+◌, ◌*◌, ◌≤◌, ◌^◌, ℕ, List, Option, length}
use Rattle.gier_drum.specs.declared.drum.Entry.{Entry}
use Rattle.gier_order.specs.Counts.{Counts, references_taken}
use Rattle.gier_places.specs.Contents.{Contents}
use Rattle.gier_frames.specs.State.{State as Frames}
use Rattle.gier_best.specs.TraceModel.{Traced, AreTracks, KeepsSettings}
use Rattle.gier_exec.specs.Registers.{Registers, measure}
use Rattle.gier_exec.specs.Reading.{ReadsMore, tracks_for}

-- What is counted of references so far, and the most that the orders to come can add, stay below a bound.
pub record Counted (words : ℕ) (m : Registers) (recent : Counts) (places : Contents) : Type 0 where
  pub references : references_taken recent + measure words m * (2 * words + 2) ≤ 2 ^ 118
  pub transfers : places.transfers + measure words m * (2 * words + 2) ≤ 2 ^ 118

-- the devices as a caller knows them: what the drum tells, and how often each failed
pub record Devices : Type 0 where
  pub room : ℕ
  pub tracks : Option (List (List ℕ))
  pub journal : Option (List Entry)
  pub drum_faults : ℕ
  pub source_faults : ℕ
  pub sink_faults : ℕ

abbrev pub devices : {D S K : Type 0} → (D → ℕ) → (D → Option (List (List ℕ))) → (D → Option (List Entry)) → (D → ℕ) → (S → ℕ)
    → (K → ℕ) → D → S → K → Devices
devices room tracks journal drum_faults source_faults sink_faults drum source sink =
    record {
      room = room drum;
      tracks = tracks drum;
      journal = journal drum;
      drum_faults = drum_faults drum;
      source_faults = source_faults source;
      sink_faults = sink_faults sink;
    }

-- the parts of the run
pub record Parts : Type 0 where
  pub machine : Registers
  pub frames : Frames
  pub places : Contents
  pub trace : Traced

abbrev pub parts : Registers → Frames → Contents → Traced → Parts
parts m f p t = record { machine = m; frames = f; places = p; trace = t }

-- the drum is only read, and no count of faults falls
pub record OnlyReads (old new : Devices) : Type 0 where
  pub room : new.room ≡ old.room
  pub tracks : new.tracks ≡ old.tracks
  pub journal : ReadsMore old.journal new.journal
  pub drum_later : old.drum_faults ≤ new.drum_faults
  pub source_later : old.source_faults ≤ new.source_faults
  pub sink_later : old.sink_faults ≤ new.sink_faults

-- the parts keep their sizes
pub record KeepsSizes (words : ℕ) (old new : Parts) : Type 0 where
  pub steps : new.machine.steps ≤ old.machine.steps
  pub frames : length new.frames.words ≡ length old.frames.words
  pub places : new.places.places ≡ old.places.places
  pub trace : KeepsSettings old.trace new.trace
  pub noted : tracks_for words ≤ old.trace.tracks → AreTracks old.trace → AreTracks new.trace
