use Rattle.std.proofs.Common.{◌-◌, ◌^◌}
use Rattle.bench_machine.proofs.plain.obey.Given as goal

abbrev pub decreases-loop-orders : goal.decreases-loop-orders
decreases-loop-orders l = 2 ^ 64 - l.orders
