-- Writes to many words of a list: a run of zeros, a run of values, and an activation's header.
use Rattle.std.specs.Prelude.{◌≡◌, ◌+◌, ◌++◌, ℕ, zero, suc, List, [], ◌∷◌, length, slice_index, slice_set}

-- n words from a place on made 0
abbrev pub with_zeros : List ℕ → ℕ → ℕ → List ℕ
with_zeros words at zero = words
with_zeros words at (suc n) = slice_set (with_zeros words at n) (at + n) 0

-- the n words from a place on
abbrev pub words_from : List ℕ → ℕ → ℕ → List ℕ
words_from words at zero = []
words_from words at (suc n) = words_from words at n ++ slice_index words (at + n) ∷ []

-- the first n values written from a place on
abbrev pub with_values : List ℕ → ℕ → List ℕ → ℕ → List ℕ
with_values words at values zero = words
with_values words at values (suc n) = slice_set (with_values words at values n) (at + n) (slice_index values n)

-- two words written side by side
abbrev pub with_two : List ℕ → ℕ → ℕ → ℕ → List ℕ
with_two words at first second = slice_set (slice_set words at first) (at + 1) second

-- the header of an activation: the base before it, its level with the base that encloses it, and the word after it
abbrev pub with_header : List ℕ → ℕ → ℕ → ℕ → ℕ → List ℕ
with_header words at old head end = slice_set (with_two words at old head) (at + 2) end

-- the words become others, as many as they were
pub record Rewrites (old others new : List ℕ) : Type 0 where
  pub words : new ≡ others
  pub size : length new ≡ length old
