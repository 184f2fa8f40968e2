-- Plans for a number of places that begin empty, and the plan that gives up the track wanted farthest ahead.
-- What the places hold is a list: for each place, from the first, a track or nothing.
-- A plan is the list of its reads in order, each a track and the place that it is read into, counted from 1.
-- Its cost is their number.
use Rattle.std.specs.Prelude.{◌≡◌, ℕ, suc, ◌<◌, Bool, true, false, cond, nat_eq, nat_le, Option, Some, None, List, [], ◌∷◌}
use Rattle.std.specs.Prelude.{length, map, replicate, slice_set}
use Rattle.std.specs.Bool.{MatchBool}
use Rattle.std.specs.List.{list_all}

abbrev pub is_track : ℕ → Option ℕ → Bool
is_track track None = false
is_track track (Some other) = nat_eq track other

-- whether a place holds the track
abbrev pub holds : ℕ → List (Option ℕ) → Bool
holds track [] = false
holds track (place ∷ places) = cond (is_track track place) true (holds track places)

-- each track that no place holds is read into a place, which the plan names
abbrev pub IsPlan : List ℕ → List (Option ℕ) → List (ℕ × ℕ) → Type 0
IsPlan [] held moves = moves ≡ []
IsPlan (track ∷ refs) held moves =
    MatchBool (holds track held)
    (IsPlan refs held moves)
    ((place : ℕ) × (later : List (ℕ × ℕ)) × (place < length held) × (moves ≡ (track, suc place) ∷ later)
    × IsPlan refs (slice_set held place (Some track)) later)

-- a plan for places that begin empty
abbrev pub IsPlanFor : List ℕ → ℕ → List (ℕ × ℕ) → Type 0
IsPlanFor refs places moves = IsPlan refs (replicate places None) moves

-- the position at which a track occurs next; for one that doesn't occur again their number, so later than all others
abbrev pub next_use : List ℕ → ℕ → ℕ
next_use [] track = 0
next_use (ref ∷ refs) track = cond (nat_eq ref track) 0 (suc (next_use refs track))

-- when what a place holds is wanted: nothing is wanted later than each track
abbrev pub held_next_use : List ℕ → Option ℕ → ℕ
held_next_use refs None = suc (length refs)
held_next_use refs (Some track) = next_use refs track

-- where the greatest number of a list stands, the lowest such place
abbrev pub lowest_greatest : List ℕ → ℕ
lowest_greatest [] = 0
lowest_greatest (x ∷ xs) = cond (list_all (λ y. nat_le y x) xs) 0 (suc (lowest_greatest xs))

-- the lowest empty place, or else the lowest of those whose track is wanted latest
abbrev pub place_for : List ℕ → List (Option ℕ) → ℕ
place_for refs held = lowest_greatest (map (held_next_use refs) held)

-- the plan that reads each track into that place
abbrev pub farthest_from : List ℕ → List (Option ℕ) → List (ℕ × ℕ)
farthest_from [] held = []
farthest_from (track ∷ refs) held =
    cond (holds track held)
    (farthest_from refs held)
    ((track, suc (place_for refs held)) ∷ farthest_from refs (slice_set held (place_for refs held) (Some track)))

abbrev pub farthest : List ℕ → ℕ → List (ℕ × ℕ)
farthest refs places = farthest_from refs (replicate places None)
