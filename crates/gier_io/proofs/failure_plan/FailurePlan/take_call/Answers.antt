use Rattle.std.proofs.Common.{◌^◌, sym}
use Rattle.gier_io.proofs.Lists.{none_above}
use Rattle.gier_io.proofs.failure_plan.FailurePlan.take_call.Goals as goal

pub returns-in-None-clause-due : goal.returns-in-None-clause-due
returns-in-None-clause-due c =
    rw (← c.self.view_is, c.in-None.is) (sym (none_above c.self.inside.fails.items (2 ^ 64) c.self.invariant))
