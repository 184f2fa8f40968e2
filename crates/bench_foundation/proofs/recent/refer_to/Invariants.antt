use Rattle.std.proofs.Common.{◌+◌, ◌≡◌}
use Rattle.gier_order.specs.Counts.{references_taken}
use Rattle.bench_foundation.proofs.recent.refer_to.Given as goal

abbrev pub invariant-loop : goal.invariant-loop
invariant-loop l = references_taken l.recent ≡ references_taken l.fn.recent + l.counter
