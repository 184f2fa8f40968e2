-- What the places hold, and what a reference does to that.
use Rattle.std.specs.Prelude.{◌≡◌, ◌+◌, ℕ, List, [], ◌∷◌, ◌++◌, All, length, map, Bool, if◌then◌else◌, Result, MatchResult}
use Rattle.std.specs.Prelude.{Option, None, Some, slice_get}
use Rattle.gier_drum.specs.declared.drum.Entry.{Entry}
use Rattle.gier_drum.specs.declared.drum.Entry.TheVariants.{Read}
use Rattle.gier_order.specs.Misses.{is_among, misses, most_recent}
use Rattle.gier_places.specs.HeldTracks.{HeldTrack}

-- how many places there are, the tracks in them and their words, the one referred to last first, and how many were read
pub record Contents : Type 0 where
  pub places : ℕ
  pub held : List HeldTrack
  pub transfers : ℕ

abbrev pub tracks_of : List HeldTrack → List ℕ
tracks_of held = map (λ (h : HeldTrack). h.track) held

abbrev pub is_held : Contents → ℕ → Bool
is_held contents track = is_among track (tracks_of contents.held)

-- The tracks held are those referred to last, of which least recently used ones were given up, and so many references
-- missed.
pub record StandsFor (contents : Contents) (refs : List ℕ) : Type 0 where
  pub tracks : tracks_of contents.held ≡ most_recent contents.places refs
  pub transfers : contents.transfers ≡ length (misses refs contents.places)

-- each track that is held has the words that the drum has there, where the drum tells that
abbrev pub Agrees : Option (List (List ℕ)) → List HeldTrack → Type 0
Agrees None held = Unit {0}
Agrees (Some tracks) held = All (λ (h : HeldTrack). slice_get tracks h.track ≡ Some h.words) held

-- one reference that succeeded
pub record Refers (old : Contents) (track : ℕ) (new : Contents) : Type 0 where
  pub places : new.places ≡ old.places
  pub latest : slice_get (tracks_of new.held) 0 ≡ Some track
  pub transfers : new.transfers ≡ (if is_held old track then old.transfers else old.transfers + 1)
  pub stands : (refs : List ℕ) → StandsFor old refs → StandsFor new (refs ++ track ∷ [])

-- after a failure nothing has changed, and else the places still agree with a drum that has these tracks
abbrev pub AfterRefer : {T E : Type 0} → Option (List (List ℕ)) → Contents → ℕ → Result T E → Contents → Type 0
AfterRefer tracks old track result new = MatchResult result
    (λ _. Refers old track new × (Agrees tracks old.held → Agrees tracks new.held)) (λ _. new ≡ old)

-- the reads of these tracks were appended to a journal, where it is told
abbrev pub LogsReads : Option (List Entry) → List ℕ → Option (List Entry) → Type 0
LogsReads None tracks new = new ≡ None
LogsReads (Some entries) tracks new = new ≡ Some (entries ++ map Read tracks)
