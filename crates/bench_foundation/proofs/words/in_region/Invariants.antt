use Rattle.std.proofs.Common.{◌<◌, ◌^◌}
use Rattle.bench_foundation.proofs.words.in_region.Given as goal

abbrev pub invariant-loop-turn : goal.invariant-loop-turn
invariant-loop-turn l = l.last < 2 ^ 40
