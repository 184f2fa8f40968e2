-- How the planner keeps what the places hold, and when each of it is wanted.
use Rattle.std.specs.Prelude.{◌≡◌, ℕ, suc, ◌+◌, ◌-◌, ◌<◌, cond, nat_lt, Option, Some, None, List, [], ◌∷◌, ◌++◌, length, map}
use Rattle.std.specs.Prelude.{drop, replicate, slice_index, slice_set}
use Rattle.gier_best.specs.Plan.{next_use, farthest_from}

-- the places from the first that hold these tracks, and empty ones behind them
abbrev pub places_holding : ℕ → List ℕ → List (Option ℕ)
places_holding places tracks = map Some tracks ++ replicate (places - length tracks) None

-- for each change, the position of the next one of its track, or the number of changes
pub record AreNextUses (changes next : List ℕ) : Type 0 where
  pub even : length next ≡ length changes
  pub each : (at : ℕ) → at < length changes
      → slice_index next at ≡ suc at + next_use (drop (suc at) changes) (slice_index changes at)

-- for each track 1 + the place that holds it, or 0
pub record IsIndex (index tracks : List ℕ) : Type 0 where
  pub placed : (place : ℕ) → place < length tracks → slice_index index (slice_index tracks place) ≡ suc place
  pub holds : (track place : ℕ) → slice_index index track ≡ suc place → (place < length tracks) × (slice_index tracks place ≡ track)

-- when the held tracks are wanted, as positions among all changes, where the first of the rest stands at a position
abbrev pub due_from : ℕ → List ℕ → List ℕ → List ℕ
due_from at rest tracks = map (λ track. at + next_use rest track) tracks

-- a list with x in a place, or behind its last
abbrev pub put : List ℕ → ℕ → ℕ → List ℕ
put xs place x = cond (nat_lt place (length xs)) (slice_set xs place x) (xs ++ x ∷ [])

-- this much of a plan is made: what is left of it follows from here, and the times tell when each held track is wanted
pub record IsPlanned (count at : ℕ) (rest tracks due : List ℕ) (made whole : List (ℕ × ℕ)) : Type 0 where
  pub times : due ≡ due_from at rest tracks
  pub follows : made ++ farthest_from rest (places_holding count tracks) ≡ whole
