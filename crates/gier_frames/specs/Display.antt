-- What a display of the visible activations says, and that it says what a walk along the enclosing bases finds.
use Rattle.std.specs.Prelude.{◌≡◌, ◌+◌, ◌%◌, ◌<◌, ◌==◌, ⊤, ℕ, zero, suc, nat_lt, if◌then◌else◌, List, length, slice_index}
use Rattle.std.specs.Prelude.{slice_set, Result, Ok, Err}
use Rattle.gier_frames.specs.declared.halt.Halt.{Halt}
use Rattle.gier_frames.specs.declared.halt.Halt.TheVariants.{Odd}
use Rattle.gier_frames.specs.Walk.{sought}

-- For each level the base of the first activation and 1 more, or 0; the bases of the walk; and 1 for each word that it read.
pub record Shown : Type 0 where
  pub by_level : List ℕ
  pub chain : List ℕ
  pub lit : List ℕ
  pub size : ℕ

-- the base that a level's number stands for
abbrev pub base_or_halt : ℕ → Result ℕ Halt
base_or_halt zero = Err Odd
base_or_halt (suc base) = Ok base

-- the same, where more is to come
abbrev pub answered_or : ℕ → Result ℕ Halt → Result ℕ Halt
answered_or zero rest = rest
answered_or (suc base) rest = Ok base

-- the levels with an activation that the walk came by
abbrev pub with_levels_noted : List ℕ → ℕ → ℕ → List ℕ
with_levels_noted by_level level base = if nat_lt level 256 then (if slice_index by_level level == 0
    then slice_set by_level level (suc base) else by_level) else by_level

-- each marked word stays so
abbrev pub KeepsLit : List ℕ → List ℕ → Type 0
KeepsLit old new = (k : ℕ) → slice_index old k ≡ 1 → slice_index new k ≡ 1

-- the second header words of the walk from a base on are marked
abbrev pub AreLit : ℕ → List ℕ → List ℕ → ℕ → Type 0
AreLit zero words lit base = ⊤
AreLit (suc looks) words lit base = base + 1 < length words
    → (slice_index lit (base + 1) ≡ 1) × (slice_index words (base + 1) % 16777216 < base
    → AreLit looks words lit (slice_index words (base + 1) % 16777216))

-- the display of the activation at a base
pub record Shows (shown : Shown) (words : List ℕ) (base : ℕ) : Type 0 where
  pub answers : (level : ℕ) → level < 256 → base_or_halt (slice_index shown.by_level level) ≡ sought (suc base) words level base
  pub marks : AreLit (suc base) words shown.lit base

-- a walk from a first base came to another
pub record Building (shown : Shown) (words : List ℕ) (first base : ℕ) : Type 0 where
  pub answers : (level : ℕ) → level < 256 → answered_or (slice_index shown.by_level level) (sought (suc base) words level base)
      ≡ sought (suc first) words level first
  pub marks : (lit : List ℕ) → KeepsLit shown.lit lit → AreLit (suc base) words lit base → AreLit (suc first) words lit first
  pub levels : length shown.by_level ≡ 256
