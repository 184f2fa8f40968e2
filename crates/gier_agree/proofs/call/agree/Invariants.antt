use Rattle.std.proofs.Common.{ℕ, ◌<◌}
use Rattle.gier_agree.specs.Packed.{kind_in}
use Rattle.gier_agree.specs.Agreement.{PairAgrees}
use Rattle.gier_agree.proofs.call.agree.Given as goal

abbrev pub invariant-loop-at : goal.invariant-loop-at
invariant-loop-at l = (at : ℕ) → at < l.at → PairAgrees (kind_in l.formals at) (kind_in l.actuals at)
