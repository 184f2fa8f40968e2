-- The tracks of an object, with forty words each, and what is written of them.
use Rattle.std.specs.Prelude.{ℕ, ◌+◌, ◌/◌, ◌%◌, ◌==◌, List, [], ◌∷◌, if◌then◌else◌}
use Rattle.gier_drum.specs.declared.drum.Entry.{Entry}
use Rattle.gier_drum.specs.declared.drum.Entry.TheVariants.{Write}

-- how many tracks so many words fill
abbrev pub tracks_of : ℕ → ℕ
tracks_of words = (words + 39) / 40

-- the write of the track that one more word fills
abbrev pub full_track : ℕ → ℕ → List Entry
full_track first count = if count % 40 == 39 then Write (first + count / 40) ∷ [] else []

-- the write of the last track, where it isn't full
abbrev pub last_track : ℕ → ℕ → List Entry
last_track first count = if count % 40 == 0 then [] else Write (first + count / 40) ∷ []
