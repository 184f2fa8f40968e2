use Rattle.std.proofs.Common.{◌+◌, ◌<◌, ◌^◌}
use Rattle.bench_foundation.proofs.places.refer_in_turn.Given as goal

abbrev pub invariant-loop-turn : goal.invariant-loop-turn
invariant-loop-turn g l = (0 < g.D.Drum.room l.drum) × (l.places.transfers < 2 ^ 64 + l.turn)
