-- When a call of a device may fail: only where the device's count of faults rose in this call.
use Rattle.std.specs.Prelude.{◌^◌, ◌⊎◌, ◌+◌, ◌<◌, ◌≤◌, ℕ, Result, IsErr}

-- the count rose, or it stands at the last value of its type
abbrev pub HasRisen : ℕ → ℕ → Type 0
HasRisen before now = (before < now) ⊎ (2 ^ 64 ≤ now + 1)

-- the count never falls, and it rose where the call failed
pub record HasCause {T E : Type 0} (before now : ℕ) (result : Result T E) : Type 0 where
  pub later : before ≤ now
  pub failed : IsErr result → HasRisen before now
