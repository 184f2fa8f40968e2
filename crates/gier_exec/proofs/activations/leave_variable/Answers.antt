use Rattle.std.proofs.Common.{sym, ◌∙◌}
use Rattle.gier_exec.proofs.Leavings.{return_found, return_lost, give_no, give_halts, give_goes}
use Rattle.gier_exec.proofs.activations.leave_variable.Goals as goal

pub returns-in-Err-clause-row : goal.returns-in-Err-clause-row
returns-in-Err-clause-row c = λ code input l a entered same.
    let lost = return_lost _ _ c.in-Err.stop (sym c.in-Err.is ∙ c.return_to.ensures.found entered) in
    rw lost.1 (give_no code input c.args.m.now c.args.frames.now c.args.words same lost.0)

pub returns-in-Ok-give-clause-row : goal.returns-in-Ok-give-clause-row
returns-in-Ok-give-clause-row c = λ code input l a entered same.
    let found = return_found _ _ c.in-Ok.next (sym c.in-Ok.is ∙ c.return_to.ensures.found entered) in
    rw c.set_r.ensures (rw c.leave.ensures (rw c.in-Ok-give.ensures.effect (rw found.1 (rw c.in-Ok-give.ensures.value (rw c.r.ensures.value (
    give_goes code input c.args.m.now c.args.frames.now c.args.words same entered found.0 (rw (sym c.r.ensures.value) c.in-Ok-give.ensures.refused)))))))

pub returns-in-Err-give-clause-row : goal.returns-in-Err-give-clause-row
returns-in-Err-give-clause-row c = λ code input l a entered same.
    let found = return_found _ _ c.in-Ok.next (sym c.in-Ok.is ∙ c.return_to.ensures.found entered) in
    let odd = give_halts code input c.args.m.now c.args.frames.now c.args.words c.in-Err-give.halt same c.ranges.words.fits entered found.0 (rw (sym c.r.ensures.value) c.in-Err-give.ensures.refused) in
    rw c.from.ensures (rw odd.0 odd.1)
