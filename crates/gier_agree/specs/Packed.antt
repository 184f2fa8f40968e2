-- Ten kinds in a word of 40 bits.
use Rattle.std.specs.Prelude.{ℕ, zero, suc, ◌+◌, ◌-◌, ◌*◌, ◌/◌, ◌%◌, ◌^◌, List, slice_index}

-- the first n kinds, four bits each, with 0 for those behind the last
abbrev pub first_kinds : ℕ → List ℕ → ℕ
first_kinds zero kinds = 0
first_kinds (suc n) kinds = first_kinds n kinds * 16 + slice_index kinds n

-- the word of at most ten kinds, the first in the highest bits
unfoldable pub kinds_word : List ℕ → ℕ
kinds_word kinds = first_kinds 10 kinds

-- the four bits at a place of a word, counted from the highest of its 40 bits
unfoldable pub kind_in : ℕ → ℕ → ℕ
kind_in word at = word / 16 ^ (9 - at) % 16
