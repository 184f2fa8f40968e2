-- What a region holds: a list of words, and how many of them, from the first on, are used.
use Rattle.std.specs.Prelude.{◌≡◌, ◌<◌, ◌≤◌, ◌⊎◌, ◌+◌, ◌-◌, ◌++◌, ℕ, List, length, take, drop, replicate, slice_index, slice_set}

pub record Contents : Type 0 where
  pub words : List ℕ
  pub used : ℕ

-- so many words, all 0 and none of them used
abbrev pub fresh : ℕ → Contents
fresh size = record { words = replicate size 0; used = 0 }

-- the next n words are used and 0; all others stay
abbrev pub with_taken : Contents → ℕ → Contents
with_taken r n = record {
  words = take r.used r.words ++ replicate n 0 ++ drop (r.used + n) r.words;
  used = r.used + n;
}

-- one word is another, and all others stay
abbrev pub with_word : Contents → ℕ → ℕ → Contents
with_word r place word = record r { words = slice_set r.words place word }

-- a list of words filled up with zeros
abbrev pub zero_filled : List ℕ → ℕ → List ℕ
zero_filled words size = words ++ replicate (size - length words) 0

-- only the n words from a place on may differ, and as many words are there
pub record ChangesOnly (place n : ℕ) (old new : List ℕ) : Type 0 where
  pub size : length new ≡ length old
  pub others : (k : ℕ) → (k < place) ⊎ (place + n ≤ k) → slice_index new k ≡ slice_index old k
