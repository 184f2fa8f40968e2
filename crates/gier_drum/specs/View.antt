-- What a drum is for a caller, and what calls keep of it.
use Rattle.std.specs.Prelude.{◌≡◌, ◌≤◌, ◌++◌, ℕ, List, Option, None, Some, is_some}
use Rattle.gier_drum.specs.declared.drum.Entry.{Entry}

-- how many tracks it has, their words and the journal, where these are told, and how often it has failed
pub record DrumView : Type 0 where
  pub room : ℕ
  pub tracks : Option (List (List ℕ))
  pub journal : Option (List Entry)
  pub faults : ℕ

abbrev pub drum_view : {D : Type 0} → (D → ℕ) → (D → Option (List (List ℕ))) → (D → Option (List Entry)) → (D → ℕ) → D → DrumView
drum_view room tracks journal faults drum =
    record { room = room drum; tracks = tracks drum; journal = journal drum; faults = faults drum }

-- entries were appended to the journal; one that isn't told stays so
abbrev pub Extends : Option (List Entry) → Option (List Entry) → Type 0
Extends None new = new ≡ None
Extends (Some old) new = (entries : List Entry) × (new ≡ Some (old ++ entries))

-- tracks that are told stay told, and others untold
abbrev pub StaysTold : Option (List (List ℕ)) → Option (List (List ℕ)) → Type 0
StaysTold old new = is_some new ≡ is_some old

-- the room is the same, of the tracks this holds, and the count of faults never falls
pub record KeepsDrum (tracks_so : Option (List (List ℕ)) → Option (List (List ℕ)) → Type 0) (old new : DrumView) : Type 0 where
  pub same_room : new.room ≡ old.room
  pub same_tracks : tracks_so old.tracks new.tracks
  pub later : old.faults ≤ new.faults

-- the same, and the journal only grows
pub record PreservesDrum (tracks_so : Option (List (List ℕ)) → Option (List (List ℕ)) → Type 0) (old new : DrumView) : Type 0 where
  pub keeps : KeepsDrum tracks_so old new
  pub logged : Extends old.journal new.journal
