-- The bounds of arrays, which are whole numbers from -2^39 to 2^39 - 1, kept as words in two's complement.
use Rattle.std.specs.Prelude.{◌+◌, ◌-◌, ◌*◌, ◌&&◌, ◌==◌, ℕ, zero, suc, Bool, true, nat_lt, nat_le, if◌then◌else◌, List, length}
use Rattle.std.specs.Prelude.{slice_index, Result, Ok, Err}
use Rattle.gier_word.specs.declared.alarm.Alarm.TheVariants.{Subscript}
use Rattle.gier_frames.specs.declared.halt.Halt.{Halt}
use Rattle.gier_frames.specs.declared.halt.Halt.TheVariants.{Alarm, Odd}

-- the whole number that a word stands for, and 2^39 more, so that none is negative
abbrev pub excess_number : ℕ → ℕ
excess_number word = if nat_lt word 549755813888 then word + 549755813888 else word - 549755813888

-- the i-th lower and upper bound of a list of pairs from a place on
abbrev pub lower : List ℕ → ℕ → ℕ → ℕ
lower words at i = excess_number (slice_index words (at + 2 * i))

abbrev pub upper : List ℕ → ℕ → ℕ → ℕ
upper words at i = excess_number (slice_index words (at + 2 * i + 1))

-- how many subscripts a pair of bounds allows
abbrev pub extent : List ℕ → ℕ → ℕ → ℕ
extent words at i = upper words at i - lower words at i + 1

-- whether no upper bound of d pairs lies below its lower bound
abbrev pub are_ordered : List ℕ → ℕ → ℕ → Bool
are_ordered words at zero = true
are_ordered words at (suc d) = are_ordered words at d && nat_le (lower words at d) (upper words at d)

-- how many elements an array with d pairs of bounds has
abbrev pub elements : List ℕ → ℕ → ℕ → ℕ
elements words at zero = 1
elements words at (suc d) = elements words at d * extent words at d

-- the i-th subscript
abbrev pub subscript : List ℕ → ℕ → ℕ → ℕ
subscript words from i = excess_number (slice_index words (from + i))

-- whether each of d subscripts lies within its bounds
abbrev pub are_within : List ℕ → ℕ → ℕ → ℕ → Bool
are_within words at from zero = true
are_within words at from (suc d) = are_within words at from d && (nat_le (lower words at d) (subscript words from d)
    && nat_le (subscript words from d) (upper words at d))

-- the element's number from the first on, the last subscript varying fastest
abbrev pub offset : List ℕ → ℕ → ℕ → ℕ → ℕ
offset words at from zero = 0
offset words at from (suc d) = offset words at from d * extent words at d + (subscript words from d - lower words at d)

-- the place at an element's number, where it is one of the stack's
abbrev pub element_place : ℕ → ℕ → Result ℕ Halt
element_place place size = if nat_lt place size then Ok place else Err Odd

-- the element of an array whose descriptor stands at `base`, by d subscripts
abbrev pub element_in : List ℕ → ℕ → ℕ → ℕ → Result ℕ Halt
element_in words d base from =
    if nat_le (base + 2 + 2 * d) (length words)
    then (if are_within words (base + 2) from d then element_place (slice_index words base + offset words (base + 2) from d)
    (length words) else Err (Alarm Subscript))
    else Err Odd

-- the same, where the number of subscripts is first compared with the descriptor's
abbrev pub element_by : List ℕ → ℕ → ℕ → ℕ → Result ℕ Halt
element_by words d base from =
    if nat_lt (base + 1) (length words) then (if slice_index words (base + 1) == d then element_in words d base from
    else Err (Alarm Subscript)) else Err Odd

-- INDEX: the descriptor's place stands in a word, the subscripts after it
abbrev pub element_at : List ℕ → ℕ → ℕ → Result ℕ Halt
element_at words d place =
    if nat_le 1 d && (nat_le d 30 && nat_lt (place + d) (length words))
    then element_by words d (slice_index words place) (place + 1) else Err Odd
