use Rattle.std.proofs.Common.{sym, ap, Some, ◌∙◌}
use Rattle.gier_exec.proofs.Refusings.{some_of}
use Rattle.gier_exec.proofs.Beginnings.{begin_lost, begin_no_step, begin_goes, begin_alarm, begin_odd}
use Rattle.gier_exec.proofs.activations.enter_evaluation.Goals as goal

pub returns-then-can_enter-clause-row : goal.returns-then-can_enter-clause-row
returns-then-can_enter-clause-row c = λ code input entered.
    begin_no_step code input c.args.m.now c.args.frames.now c.args.found (sym (c.can_enter.ensures entered) ∙ c.if-can_enter.true) (sym c.steps_left.ensures ∙ c.if-steps_left-eq0.true)

pub returns-else-can_enter-clause-row : goal.returns-else-can_enter-clause-row
returns-else-can_enter-clause-row c = λ code input entered.
    begin_lost code input c.args.m.now c.args.frames.now c.args.found (sym (c.can_enter.ensures entered) ∙ c.if-can_enter.false)

pub returns-in-Ok-clause-row : goal.returns-in-Ok-clause-row
returns-in-Ok-clause-row c = λ code input entered.
    rw c.enter.ensures (rw c.begin.ensures.effect (rw c.place-back.ensures (
    begin_goes code input c.args.m.now c.args.frames.now c.args.found c.requires.kept entered c.requires.found.kind (some_of _ _ c.steps_left.ensures c.if-steps_left-eq0.false) c.in-Ok.ensures.refused)))

pub returns-in-Err-Odd-clause-row : goal.returns-in-Err-Odd-clause-row
returns-in-Err-Odd-clause-row c = λ code input entered.
    begin_odd code input c.args.m.now c.args.frames.now c.args.found entered c.requires.found.kind (c.in-Err-Odd.ensures.refused ∙ ap Some c.in-Err-Odd.field-0-is)

pub returns-in-Err-Alarm-clause-row : goal.returns-in-Err-Alarm-clause-row
returns-in-Err-Alarm-clause-row c = λ code input entered.
    rw c.in-Err-Alarm.alarm-is (rw c.begin.ensures.effect (rw c.place-back.ensures (
    begin_alarm code input c.args.m.now c.pay_for.new.m c.args.frames.now c.args.found c.in-Err-Alarm.alarm c.requires.kept entered c.requires.found.kind
    (some_of _ _ c.steps_left.ensures c.if-steps_left-eq0.false) (rw c.in-Err-Alarm.alarm-is at c.pay_for.ensures.entered) (rw c.in-Err-Alarm.alarm-is at c.pay_for.ensures.paid)
    (c.in-Err-Alarm.ensures.refused ∙ ap Some c.in-Err-Alarm.field-0-is))))
