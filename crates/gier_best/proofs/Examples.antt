-- The farthest plan, computed on small lists.
use Rattle.std.proofs.Common.{◌≡◌, [], ◌∷◌, refl}
use Rattle.gier_best.specs.Plan.{farthest}

two_places : farthest (1 ∷ 2 ∷ 3 ∷ 1 ∷ 2 ∷ 3 ∷ []) 2 ≡ (1, 1) ∷ (2, 2) ∷ (3, 2) ∷ (2, 1) ∷ []
two_places = refl

one_place : farthest (7 ∷ 7 ∷ 8 ∷ 7 ∷ []) 1 ≡ (7, 1) ∷ (8, 1) ∷ (7, 1) ∷ []
one_place = refl
