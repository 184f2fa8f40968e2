-- What a table of packed values in a region holds.
use Rattle.std.specs.Prelude.{◌+◌, ◌*◌, ◌≤◌, ◌++◌, [], ◌∷◌, ℕ, zero, suc, List, Option, length, take, drop}

-- a table's first word, how many entries it has room for, and how many it has
pub record Extent : Type 0 where
  pub base : ℕ
  pub capacity : ℕ
  pub len : ℕ

-- the n words from a place on
abbrev pub words_at : List ℕ → ℕ → ℕ → List ℕ
words_at words place n = take n (drop place words)

-- the words of a table with entries of so many words lie in a region
abbrev pub LiesIn : ℕ → Extent → List ℕ → Type 0
LiesIn width table words = table.base + table.capacity * width ≤ length words

-- the entry with a number from 0: what its words stand for, where they stand for a value
abbrev pub entry : {A : Type 0} → (List ℕ → Option A) → ℕ → Extent → List ℕ → ℕ → Option A
entry value_of width table words at = value_of (words_at words (table.base + at * width) width)

-- the values of a function at the numbers below n
abbrev pub tabulated : {A : Type 0} → (ℕ → A) → ℕ → List A
tabulated f zero = []
tabulated f (suc n) = tabulated f n ++ f n ∷ []

-- all entries, in order
abbrev pub entries : {A : Type 0} → (List ℕ → Option A) → ℕ → Extent → List ℕ → List (Option A)
entries value_of width table words = tabulated (entry value_of width table words) table.len
