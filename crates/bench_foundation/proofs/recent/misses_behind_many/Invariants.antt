use Rattle.std.proofs.Common.{◌+◌, ◌≡◌}
use Rattle.gier_order.specs.Counts.{references_taken}
use Rattle.bench_foundation.proofs.recent.misses_behind_many.Given as goal

abbrev pub invariant-loop-track : goal.invariant-loop-track
invariant-loop-track l = references_taken l.recent + 1 ≡ l.track
