-- Changes of track: references whose track differs from the one before. The first reference counts as one.
use Rattle.std.specs.Prelude.{ℕ, cond, Option, Some, None, List, [], ◌∷◌}
use Rattle.gier_best.specs.Plan.{is_track}

-- the track of the last reference, with the last one before them
abbrev pub last_from : Option ℕ → List ℕ → Option ℕ
last_from last [] = last
last_from last (track ∷ refs) = last_from (Some track) refs

-- the tracks of the changes among the references, with the last one before them
abbrev pub changes_from : Option ℕ → List ℕ → List ℕ
changes_from last [] = []
changes_from last (track ∷ refs) = cond (is_track track last) (changes_from (Some track) refs)
    (track ∷ changes_from (Some track) refs)

abbrev pub changes_of : List ℕ → List ℕ
changes_of refs = changes_from None refs
