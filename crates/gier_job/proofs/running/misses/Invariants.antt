use Rattle.std.proofs.Common.{◌≡◌, ℕ, List, length}
use Rattle.gier_order.specs.Counts.{StandsFor as Counts}
use Rattle.gier_job.proofs.Misses.{IsFilled}
use Rattle.gier_job.proofs.running.misses.Given as goal

abbrev pub invariant-loop-at : goal.invariant-loop-at
invariant-loop-at l = (length l.misses ≡ 64) × ((tracks : List ℕ) → Counts l.runner.recent tracks → IsFilled tracks l.at l.misses)
