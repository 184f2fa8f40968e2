use Rattle.std.proofs.Common.{ℕ, length}
use Rattle.gier_order.specs.Flat.Row.{Row}
use Rattle.gier_order.specs.Flat.Rows.{leaves}
use Rattle.gier_exec.specs.Rows.{regs_of}
use Rattle.gier_exec.proofs.RowResults.{refused_halts}
use Rattle.gier_exec.proofs.Leavings.{comes_as}
use Rattle.gier_exec.proofs.activations.leave_evaluation.Goals as goal

pub returns-in-Ok-clause-row : goal.returns-in-Ok-clause-row
returns-in-Ok-clause-row c = λ code input l a entered same.
    let go : ℕ → Row = λ wanted. leaves code (length c.args.frames.now.words) (regs_of c.args.m.now c.args.frames.now input) c.args.m.now.r in
    comes_as _ _ _ c.leave.result (c.in-Ok.ensures.row code input c.args.m.now go entered) (rw c.r-r.ensures.value at c.leave.ensures.row code input entered same)

pub returns-in-Err-clause-row : goal.returns-in-Err-clause-row
returns-in-Err-clause-row c = λ code input l a entered same.
    let go : ℕ → Row = λ wanted. leaves code (length c.args.frames.now.words) (regs_of c.args.m.now c.args.frames.now input) c.args.m.now.r in
    refused_halts _ _ c.in-Err.stop (c.in-Err.ensures.row code input c.args.m.now go entered)
