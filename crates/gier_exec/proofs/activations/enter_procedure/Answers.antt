use Rattle.std.proofs.Common.{◌≡◌, ◌+◌, ◌&&◌, true, false, length, Some, ap, sym, subst, ◌∙◌}
use Rattle.gier_frames.specs.Refusals.{is_call}
use Rattle.gier_exec.proofs.Refusings.{room_free, room_alarm, room_odd, both_right, not_left, some_of}
use Rattle.gier_exec.proofs.Callings.{entering_odd, entering_no_step, entering_no_room, entering_goes}
use Rattle.gier_exec.proofs.activations.enter_procedure.Goals as goal

pub returns-then-can_enter-clause-row : goal.returns-then-can_enter-clause-row
returns-then-can_enter-clause-row c = λ code input entered callable.
    let s = c.args.frames.now in
    let e = c.args.entry in
    let can : is_call (length s.words) e.room e.outer (s.base + e.from) e.count ≡ true =
    subst (λ f. is_call (length s.words) e.room e.outer (s.base + f) e.count ≡ true) c.in-Ok.ensures.1 (sym (c.can_enter.ensures entered) ∙ c.if-can_enter.true) in
    entering_no_step code input c.args.m.now s e callable.count can (sym c.steps_left.ensures ∙ c.if-steps_left-eq0.true)

pub returns-else-can_enter-clause-row : goal.returns-else-can_enter-clause-row
returns-else-can_enter-clause-row c = λ code input entered callable.
    let s = c.args.frames.now in
    let e = c.args.entry in
    let can : is_call (length s.words) e.room e.outer (s.base + e.from) e.count ≡ false =
    subst (λ f. is_call (length s.words) e.room e.outer (s.base + f) e.count ≡ false) c.in-Ok.ensures.1 (sym (c.can_enter.ensures entered) ∙ c.if-can_enter.false) in
    entering_odd code _ _ e callable.count can

pub returns-in-Ok-call-clause-row : goal.returns-in-Ok-call-clause-row
returns-in-Ok-call-clause-row c = λ code input entered callable.
    let s = c.args.frames.now in
    let e = c.args.entry in
    let free = room_free _ _ _ c.in-Ok-call.ensures.refused in
    let can : is_call (length s.words) e.room e.outer (s.base + e.from) e.count ≡ true =
    subst (λ f. is_call (length s.words) e.room e.outer (s.base + f) e.count ≡ true) c.in-Ok.ensures.1 (both_right _ _ free.0) in
    rw c.enter.ensures (rw c.in-Ok-call.ensures.effect (rw c.in-Ok.ensures.1 (rw c.place-back.ensures (
    entering_goes code input c.args.m.now s e c.requires.kept entered callable.count can (some_of _ _ c.steps_left.ensures c.if-steps_left-eq0.false) free.1))))

pub returns-in-Err-Odd-clause-row : goal.returns-in-Err-Odd-clause-row
returns-in-Err-Odd-clause-row c = λ code input entered callable.
    let s = c.args.frames.now in
    let e = c.args.entry in
    let no = room_odd (s.entered && is_call (length s.words) e.room e.outer (s.base + c.in-Ok.from) e.count) (s.top + e.room) (length s.words) (c.in-Err-Odd.ensures.refused ∙ ap Some c.in-Err-Odd.field-0-is) in
    let can : is_call (length s.words) e.room e.outer (s.base + e.from) e.count ≡ false =
    subst (λ f. is_call (length s.words) e.room e.outer (s.base + f) e.count ≡ false) c.in-Ok.ensures.1 (not_left _ _ no entered) in
    entering_odd code _ _ e callable.count can

pub returns-in-Err-Alarm-clause-row : goal.returns-in-Err-Alarm-clause-row
returns-in-Err-Alarm-clause-row c = λ code input entered callable.
    let s = c.args.frames.now in
    let e = c.args.entry in
    let full = room_alarm (s.entered && is_call (length s.words) e.room e.outer (s.base + c.in-Ok.from) e.count) (s.top + e.room) (length s.words) c.in-Err-Alarm.alarm (c.in-Err-Alarm.ensures.refused ∙ ap Some c.in-Err-Alarm.field-0-is) in
    let can : is_call (length s.words) e.room e.outer (s.base + e.from) e.count ≡ true =
    subst (λ f. is_call (length s.words) e.room e.outer (s.base + f) e.count ≡ true) c.in-Ok.ensures.1 (both_right _ _ full.0) in
    rw c.in-Err-Alarm.field-0-is (rw full.1.1 (rw c.charge.ensures (rw c.in-Err-Alarm.ensures.err (
    entering_no_room code input c.args.m.now s e callable.count can (some_of _ _ c.steps_left.ensures c.if-steps_left-eq0.false) full.1.0))))
