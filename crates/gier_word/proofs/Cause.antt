-- Where a count of faults rose, it has risen from any earlier count too.
use Rattle.std.proofs.Common.{◌≤◌, ℕ, arith, inl, inr}
use Rattle.gier_word.specs.Cause.{HasRisen}

pub risen_from : (before mid now : ℕ) → before ≤ mid → HasRisen mid now → HasRisen before now
risen_from before mid now le (inl lt) = inl (omega arith)
risen_from before mid now le (inr end) = inr end
