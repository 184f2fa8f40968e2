use Rattle.std.proofs.Common.{◌≤◌, length}
use Rattle.gier_drum.specs.MemDrum.{memory_of}
use Rattle.bench_machine.proofs.runs.written.Given as goal

abbrev pub invariant-loop-track : goal.invariant-loop-track
invariant-loop-track l = 3 ≤ length (memory_of l.drum).tracks
