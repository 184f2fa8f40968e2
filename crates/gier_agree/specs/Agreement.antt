-- When packed formals and packed actuals agree.
use Rattle.std.specs.Prelude.{◌≡◌, ℕ, ◌<◌, ◌⊎◌}
use Rattle.gier_agree.specs.Kinds.{Fits}
use Rattle.gier_agree.specs.Packed.{kind_in}

-- a formal and an actual that fit, or a place behind the last of both
abbrev pub PairAgrees : ℕ → ℕ → Type 0
PairAgrees formal actual = Fits formal actual ⊎ ((formal ≡ 0) × (actual ≡ 0))

-- all ten pairs of two words agree
abbrev pub Agree : ℕ → ℕ → Type 0
Agree formals actuals = (at : ℕ) → at < 10 → PairAgrees (kind_in formals at) (kind_in actuals at)
