use Rattle.std.proofs.Common.{◌+◌, ◌<◌, ◌≤◌, length, arith}
use Rattle.gier_exec.specs.Rows.{regs_of}
use Rattle.gier_exec.proofs.RowResults.{halts_does}
use Rattle.gier_exec.proofs.OddOrders.{plain_past}
use Rattle.gier_exec.proofs.execute.go_on.Goals as goal

pub returns-then-behind-from-clause-row : goal.returns-then-behind-from-clause-row
returns-then-behind-from-clause-row c = λ code input there same is.
    let past : length code ≤ c.args.m.now.place + 1 = omega (arith, same, c.behind.ensures.value, c.from.ensures, c.if-behind-from.true) in
    plain_past code (length c.args.frames.now.words) (regs_of c.args.m.now c.args.frames.now input) past c.args.operation c.args.order.level c.args.order.address is

pub returns-in-Err-clause-row : goal.returns-in-Err-clause-row
returns-in-Err-clause-row c = λ code input there same is.
    let next : c.args.m.now.place + 1 < length code = omega (arith, same, c.behind.ensures.value, c.from.ensures, c.if-behind-from.false) in
    halts_does _ _ c.in-Err.stop (c.in-Err.ensures.row code input there is next)
