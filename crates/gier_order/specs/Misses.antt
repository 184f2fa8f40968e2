-- Which references to tracks miss with so many places, by looking back in the list of references, and the tracks that
-- were referred to last. For whoever keeps so many tracks, proofs/Recency says what one more reference does: it misses
-- exactly where its track isn't in `most_recent` (`misses-one_more`), and then `most_recent` is the track and the others
-- (`most_recent-one_more`), each track once (`most_recent_once`) and no more than so many (`most_recent_fits`).
use Rattle.std.specs.Prelude.{◌==◌, ◌||◌, ℕ, Bool, true, false, nat_le, if◌then◌else◌, List, [], ◌∷◌, length, take, reverse}
use Rattle.std.specs.Prelude.{Option, None, Some}
use Rattle.std.specs.Option.{option_map}

abbrev pub is_among : ℕ → List ℕ → Bool
is_among track [] = false
is_among track (t ∷ ts) = (t == track) || is_among track ts

abbrev pub without : ℕ → List ℕ → List ℕ
without track [] = []
without track (t ∷ ts) = if t == track then without track ts else t ∷ without track ts

-- the different tracks of a list, each in the place where it stands first
abbrev pub different : List ℕ → List ℕ
different [] = []
different (t ∷ ts) = t ∷ without t (different ts)

-- The tracks referred to since the last reference to this track, None where there is none. Here and below, `before` are
-- the references before the one that is looked at, the latest first.
abbrev pub since : ℕ → List ℕ → Option (List ℕ)
since track [] = None
since track (t ∷ before) = if t == track then Some [] else option_map (λ ts. t ∷ ts) (since track before)

abbrev pub is_far : ℕ → Option (List ℕ) → Bool
is_far places None = true
is_far places (Some between) = nat_le places (length (different between))

-- The track has no earlier occurrence, or at least so many different tracks stand strictly between this position and
-- its last earlier occurrence.
abbrev pub is_miss : ℕ → ℕ → List ℕ → Bool
is_miss places track before = is_far places (since track before)

abbrev pub misses_behind : List ℕ → List ℕ → ℕ → List ℕ
misses_behind before [] places = []
misses_behind before (t ∷ refs) places =
    if is_miss places t before then t ∷ misses_behind (t ∷ before) refs places else misses_behind (t ∷ before) refs places

-- the tracks at the positions that miss, in order
abbrev pub misses : List ℕ → ℕ → List ℕ
misses refs places = misses_behind [] refs places

-- the tracks that were referred to last, each once, the latest first, and at most so many
abbrev pub most_recent : ℕ → List ℕ → List ℕ
most_recent places refs = take places (different (reverse refs))
