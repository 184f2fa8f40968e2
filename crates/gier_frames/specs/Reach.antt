-- What lies among the words of a stack, so that it can be read or written: a run of words, and the base of an activation.
use Rattle.std.specs.Prelude.{◌≡◌, ◌+◌, ◌<◌, ◌≤◌, ◌^◌, ℕ, List, length}

-- so many words from a place on are among these, and these are fewer than 2^24
pub record Reaches (words : List ℕ) (at count : ℕ) : Type 0 where
  pub within : at + count ≤ length words
  pub limit : length words < 2 ^ 24

-- a base is one of the places of these words, and these are fewer than 2^24
pub record IsBase (words : List ℕ) (base : ℕ) : Type 0 where
  pub place : base < length words
  pub limit : length words < 2 ^ 24

-- the same, and each word has a mark
pub record IsMarkedBase (words marks : List ℕ) (base : ℕ) : Type 0 where
  pub place : base < length words
  pub limit : length words < 2 ^ 24
  pub marked : length marks ≡ length words
