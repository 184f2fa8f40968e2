use Rattle.std.proofs.Common.{◌≤◌}
use Rattle.gier_places.proofs.tests.transfers_of.Given as goal

abbrev pub invariant-loop-track : goal.invariant-loop-track
invariant-loop-track g l = 5 ≤ g.D.Drum.room l.drum
