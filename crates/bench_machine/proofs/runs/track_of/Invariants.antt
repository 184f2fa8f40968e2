use Rattle.std.proofs.Common.{◌<◌, ◌^◌, All}
use Rattle.bench_machine.proofs.runs.track_of.Given as goal

abbrev pub invariant-loop-place : goal.invariant-loop-place
invariant-loop-place l = All (λ word. word < 2 ^ 40) l.found
