use Rattle.gier_exec.proofs.Refusings.{room_free, both_left, both_right, le_of, not_true}
use Rattle.gier_exec.proofs.Entries.{start_row}
use Rattle.gier_exec.proofs.values.start.Goals as goal

pub returns-in-Ok-clause-row : goal.returns-in-Ok-clause-row
returns-in-Ok-clause-row c = λ code input next.
    let s = c.args.frames.now in
    let free = room_free _ _ _ c.in-Ok.ensures.refused in
    rw c.start-in-Ok.ensures (rw c.in-Ok.ensures.effect (
    start_row code input c.args.m.now s c.args.order.level c.args.order.address c.requires.kept (not_true _ (both_left _ _ free.0)) next (le_of _ _ (both_right _ _ free.0)) free.1))
