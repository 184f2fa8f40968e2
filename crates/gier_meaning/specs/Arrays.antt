-- Bounds and subscripts of arrays (Report 5.2 and 3.1.4).
use Rattle.std.specs.Prelude.{◌&&◌, ℕ, ◌*◌, ◌-ℤ◌, ◌+ℤ◌, ℤ, pos, nat_abs, int_le, Bool, true, false, List, [], ◌∷◌}
use Rattle.gier_meaning.specs.State.{Pair}

-- the values of the bounds, two by two
abbrev pub bound_pairs : List ℤ → List Pair
bound_pairs [] = []
bound_pairs (lower ∷ []) = []
bound_pairs (lower ∷ upper ∷ values) = record { lower = lower; upper = upper } ∷ bound_pairs values

-- no upper bound is below its lower one (Report 5.2.4.2 says that an array is defined only then)
abbrev pub are_bounds : List Pair → Bool
are_bounds [] = true
are_bounds (pair ∷ pairs) = int_le pair.lower pair.upper && are_bounds pairs

abbrev pub extent : Pair → ℕ
extent pair = nat_abs ((pair.upper -ℤ pair.lower) +ℤ pos 1)

-- the number of elements
abbrev pub elements_of : List Pair → ℕ
elements_of [] = 1
elements_of (pair ∷ pairs) = extent pair * elements_of pairs

-- as many subscripts as bound pairs, each within its pair
abbrev pub are_within : List ℤ → List Pair → Bool
are_within [] [] = true
are_within [] (pair ∷ pairs) = false
are_within (subscript ∷ subscripts) [] = false
are_within (subscript ∷ subscripts) (pair ∷ pairs) =
    int_le pair.lower subscript && int_le subscript pair.upper && are_within subscripts pairs

-- the elements of a fresh array
abbrev pub no_elements : List ℤ → ℤ
no_elements subscripts = pos 0
