use Rattle.std.proofs.Common.{◌≡◌}
use Rattle.gier_order.specs.Counts.{references_taken}
use Rattle.gier_order.proofs.recent.tests.misses_of.Given as goal

abbrev pub invariant-loop-track : goal.invariant-loop-track
invariant-loop-track l = references_taken l.recent ≡ l.track-index
