-- What the frames hold.
use Rattle.std.specs.Prelude.{◌≡◌, ◌<◌, ◌≤◌, ◌^◌, ℕ, Bool, true, false, List, length, replicate}

-- The words of the stack, the first word of the current activation, and the first free word. A word's mark is 1 where a
-- procedure's or an evaluation's activation begins there that was entered last of all that begin there, and else 0.
pub record State : Type 0 where
  pub words : List ℕ
  pub marks : List ℕ
  pub base : ℕ
  pub top : ℕ
  pub greatest : ℕ
  pub entered : Bool

-- so many words, all 0, and no activation
abbrev pub fresh : ℕ → State
fresh size = record { words = replicate size 0; marks = replicate size 0; base = 0; top = 0; greatest = 0; entered = false }

-- no activation any more, and all words 0
abbrev pub all_zero : State → State
all_zero s = fresh (length s.words)

-- what all frames keep: fewer than 2^24 words, as many marks, a top no further than their end, and a base that is a place
pub record IsKept (s : State) : Type 0 where
  pub size : length s.words < 2 ^ 24
  pub marks : length s.marks ≡ length s.words
  pub top : s.top ≤ length s.words
  pub base : s.entered ≡ true → s.base < length s.words
