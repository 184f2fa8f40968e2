use Rattle.std.proofs.Common.{◌+◌, ◌&&◌, length, nat_le, Some, ap, sym, ◌∙◌}
use Rattle.gier_exec.proofs.Refusings.{room_free, room_alarm, both_right, le_of, some_of}
use Rattle.gier_exec.proofs.Entries.{block_no_step, block_no_room, block_enters}
use Rattle.gier_exec.proofs.values.enter_block.Goals as goal

pub returns-else-order-lt-HEADER-clause-row : goal.returns-else-order-lt-HEADER-clause-row
returns-else-order-lt-HEADER-clause-row c = λ code input entered next.
    block_no_step code input c.args.m.now c.args.frames.now c.args.order.level c.args.order.address c.requires.kept entered next c.if-order-lt-HEADER.false (sym c.steps_left.ensures ∙ c.if-steps_left-eq0.true)

pub returns-in-Ok-clause-row : goal.returns-in-Ok-clause-row
returns-in-Ok-clause-row c = λ code input entered next.
    let s = c.args.frames.now in
    let free = room_free _ _ _ c.in-Ok.ensures.refused in
    rw c.enter.ensures (rw c.in-Ok.ensures.effect (
    block_enters code input c.args.m.now s c.args.order.level c.args.order.address c.requires.kept entered next
    (le_of _ _ (both_right _ _ free.0)) (some_of _ _ c.steps_left.ensures c.if-steps_left-eq0.false) free.1))

pub returns-in-Err-Alarm-clause-row : goal.returns-in-Err-Alarm-clause-row
returns-in-Err-Alarm-clause-row c = λ code input entered next.
    let s = c.args.frames.now in
    let full = room_alarm (s.entered && nat_le 3 c.args.order.address) (s.top + c.args.order.address) (length s.words) c.in-Err-Alarm.alarm (c.in-Err-Alarm.ensures.refused ∙ ap Some c.in-Err-Alarm.field-0-is) in
    rw full.1.1 (rw c.charge.ensures (rw c.in-Err-Alarm.ensures.err (
    block_no_room code input c.args.m.now s c.args.order.level c.args.order.address c.requires.kept entered next
    (le_of _ _ (both_right _ _ full.0)) (some_of _ _ c.steps_left.ensures c.if-steps_left-eq0.false) full.1.0)))
