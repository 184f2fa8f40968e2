use Rattle.std.proofs.Common.{◌≡◌}
use Rattle.tool_object_run.proofs.stored.store.Given as goal

abbrev pub invariant-loop-at : goal.invariant-loop-at
invariant-loop-at g l = g.D.Drum.room l.drum ≡ g.D.Drum.room l.initial.drum
