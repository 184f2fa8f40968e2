-- Arrays in the stack of a flat run: bounds, subscripts, and the number of an element. They are whole numbers from -2^39
-- to 2^39 - 1, looked at with 2^39 more, so that none is negative.
use Rattle.std.specs.Prelude.{◌+◌, ◌-◌, ◌*◌, ◌&&◌, ℕ, zero, suc, Bool, true, nat_lt, nat_le, if◌then◌else◌}

abbrev pub half : ℕ
half = 549755813888

abbrev pub excess_number : ℕ → ℕ
excess_number word = if nat_lt word half then word + half else word - half

-- the i-th of a list of pairs of bounds from a place on
abbrev pub lower : (ℕ → ℕ) → (at i : ℕ) → ℕ
lower words at i = excess_number (words (at + 2 * i))

abbrev pub upper : (ℕ → ℕ) → (at i : ℕ) → ℕ
upper words at i = excess_number (words (at + 2 * i + 1))

abbrev pub extent : (ℕ → ℕ) → (at i : ℕ) → ℕ
extent words at i = upper words at i - lower words at i + 1

-- whether no upper bound of d pairs lies below its lower bound
abbrev pub are_ordered : (ℕ → ℕ) → (at d : ℕ) → Bool
are_ordered words at zero = true
are_ordered words at (suc d) = are_ordered words at d && nat_le (lower words at d) (upper words at d)

-- how many elements d pairs of bounds give
abbrev pub elements : (ℕ → ℕ) → (at d : ℕ) → ℕ
elements words at zero = 1
elements words at (suc d) = elements words at d * extent words at d

-- the i-th subscript from a place on
abbrev pub subscript : (ℕ → ℕ) → (from i : ℕ) → ℕ
subscript words from i = excess_number (words (from + i))

-- whether each of d subscripts lies within its bounds
abbrev pub are_within : (ℕ → ℕ) → (at from d : ℕ) → Bool
are_within words at from zero = true
are_within words at from (suc d) =
    are_within words at from d
    && (nat_le (lower words at d) (subscript words from d) && nat_le (subscript words from d) (upper words at d))

-- the number of the element from the first on; the last subscript varies fastest
abbrev pub offset : (ℕ → ℕ) → (at from d : ℕ) → ℕ
offset words at from zero = 0
offset words at from (suc d) = offset words at from d * extent words at d + (subscript words from d - lower words at d)
