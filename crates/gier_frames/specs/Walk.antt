-- The walks through the activations: along those that enclose the current one in the text, and along those before it.
use Rattle.std.specs.Prelude.{◌+◌, ◌/◌, ◌%◌, ◌==◌, ℕ, zero, suc, nat_lt, if◌then◌else◌, List, length, slice_index, Result, Ok, Err}
use Rattle.gier_frames.specs.declared.halt.Halt.{Halt}
use Rattle.gier_frames.specs.declared.halt.Halt.TheVariants.{Odd}
use Rattle.gier_frames.specs.State.{State}
use Rattle.gier_frames.specs.Numbers.{element_at}

-- The first activation of a level from a base on along the enclosing ones. A base with no second header word is none, nor
-- is an enclosing base that isn't below its own base. Bases fall, so one more look than the base's number is enough.
abbrev pub sought : ℕ → List ℕ → ℕ → ℕ → Result ℕ Halt
sought zero words level base = Err Odd
sought (suc looks) words level base =
    if nat_lt (base + 1) (length words)
    then (if slice_index words (base + 1) / 16777216 == level then Ok base
    else (if nat_lt (slice_index words (base + 1) % 16777216) base
    then sought looks words level (slice_index words (base + 1) % 16777216) else Err Odd))
    else Err Odd

-- the base of the visible activation of a level
abbrev pub visible : State → ℕ → Result ℕ Halt
visible s level = if s.entered then sought (suc s.base) s.words level s.base else Err Odd

-- the place at an address in the visible activation of a level
abbrev pub cell_of : State → ℕ → ℕ → Result ℕ Halt
cell_of s level address = elim (visible s level) as (λ _. Result ℕ Halt) [ Ok base ↦ Ok (base + address) | Err halt ↦ Err halt ]

-- INDEX: the place of an element
abbrev pub element_of : State → ℕ → ℕ → Result ℕ Halt
element_of s d place = if s.entered then element_at s.words d (s.base + place) else Err Odd
