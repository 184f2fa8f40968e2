-- What an order that reads words of the object does to the drum, to the places, and to the two counts of references.
use Rattle.std.specs.Prelude.{◌≡◌, ◌+◌, ◌/◌, ◌≤◌, ◌^◌, ℕ, List, Option, Result, Err}
use Rattle.gier_word.specs.Cause.{HasRisen}
use Rattle.gier_drum.specs.declared.drum.Entry.{Entry}
use Rattle.gier_order.specs.Counts.{Counts, references_taken}
use Rattle.gier_order.specs.declared.object.Object.{Object}
use Rattle.gier_places.specs.Contents.{Contents, LogsReads}
use Rattle.gier_best.specs.TraceModel.{Traced, AreTracks, KeepsSettings}
use Rattle.gier_exec.specs.declared.pager.Pager.{Pager}

-- how many tracks so many words fill
abbrev pub tracks_for : ℕ → ℕ
tracks_for words = (words + 39) / 40

-- the drum as a caller knows it, the places, and the counts of references
pub record Stand : Type 0 where
  pub room : ℕ
  pub tracks : Option (List (List ℕ))
  pub journal : Option (List Entry)
  pub faults : ℕ
  pub places : Contents
  pub recent : Counts
  pub trace : Traced

abbrev pub view_of : {D : Type 0} → (D → ℕ) → (D → Option (List (List ℕ))) → (D → Option (List Entry)) → (D → ℕ) → D → Contents
    → Counts → Traced → Stand
view_of room tracks journal faults drum places recent trace =
    record {
      room = room drum;
      tracks = tracks drum;
      journal = journal drum;
      faults = faults drum;
      places = places;
      recent = recent;
      trace = trace;
    }

-- the same of a pager
abbrev pub pager_view : {D : Type 0} → (D → ℕ) → (D → Option (List (List ℕ))) → (D → Option (List Entry)) → (D → ℕ) → Pager D
    → Stand
pager_view room tracks journal faults pager =
    view_of room tracks journal faults pager.drum.now pager.places.now pager.recent.now pager.trace.now

-- a pager goes on with what it borrowed
pub record SamePager {D : Type 0} (old new : Pager D) : Type 0 where
  pub drum : new.drum.ghost_name ≡ old.drum.ghost_name
  pub places : new.places.ghost_name ≡ old.places.ghost_name
  pub recent : new.recent.ghost_name ≡ old.recent.ghost_name
  pub trace : new.trace.ghost_name ≡ old.trace.ghost_name

-- a pager goes on with what it borrowed, and a failure of the drum was counted
pub record PreservesPager {D A E : Type 0} (faults : D → ℕ) (failure : E) (old new : Pager D) (result : Result A E) : Type 0 where
  pub same : SamePager old new
  pub failed : result ≡ Err failure → HasRisen (faults old.drum.now) (faults new.drum.now)

-- some reads were appended to the journal, where it is told
abbrev pub ReadsMore : Option (List Entry) → Option (List Entry) → Type 0
ReadsMore old new = (tracks : List ℕ) × LogsReads old tracks new

-- so many words of the object can be read
pub record CanRead (count : ℕ) (object : Object) (s : Stand) : Type 0 where
  pub words : object.words ≤ 2 ^ 24
  pub in_room : object.first_track + tracks_for object.words ≤ s.room
  pub references : references_taken s.recent + count ≤ 2 ^ 120
  pub transfers : s.places.transfers + count ≤ 2 ^ 120

-- at most so many words of the object were read
pub record Reads (count : ℕ) (object : Object) (old new : Stand) : Type 0 where
  pub room : new.room ≡ old.room
  pub tracks : new.tracks ≡ old.tracks
  pub journal : ReadsMore old.journal new.journal
  pub faults : old.faults ≤ new.faults
  pub places : new.places.places ≡ old.places.places
  pub transfers : new.places.transfers ≤ old.places.transfers + count
  pub references : references_taken new.recent ≤ references_taken old.recent + count
  pub settings : KeepsSettings old.trace new.trace
  pub noted : tracks_for object.words ≤ old.trace.tracks → AreTracks old.trace → AreTracks new.trace
