use Rattle.gier_exec.proofs.Refusings.{unless_none, both_right, lt_of, some_of}
use Rattle.gier_exec.proofs.Entries.{leave_row}
use Rattle.gier_exec.proofs.values.leave_block.Goals as goal

pub returns-in-Ok-clause-row : goal.returns-in-Ok-clause-row
returns-in-Ok-clause-row c = λ code input l a entered next.
    rw c.leave-in-Ok.ensures (rw c.in-Ok.ensures.effect (
    leave_row code input c.args.m.now c.args.frames.now c.requires.kept entered next
    (some_of _ _ c.depth.ensures c.if-depth-eq0.false) (lt_of _ _ (both_right _ _ (unless_none _ c.in-Ok.ensures.refused)))))
