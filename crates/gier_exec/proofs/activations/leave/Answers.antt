use Rattle.std.proofs.Common.{sym, ◌∙◌}
use Rattle.gier_exec.proofs.Leavings.{return_found, return_lost, leaves_no, leaves_back, leaves_goes}
use Rattle.gier_exec.proofs.activations.leave.Goals as goal

pub returns-in-Err-clause-row : goal.returns-in-Err-clause-row
returns-in-Err-clause-row c = λ code input entered same.
    let lost = return_lost _ _ c.in-Err.stop (sym c.in-Err.is ∙ c.return_to.ensures.found entered) in
    rw lost.1 (leaves_no code input c.args.m.now c.args.frames.now c.args.value c.args.words same lost.0)

pub returns-in-Ok-back-clause-row : goal.returns-in-Ok-back-clause-row
returns-in-Ok-back-clause-row c = λ code input entered same.
    let found = return_found _ _ c.in-Ok.next (sym c.in-Ok.is ∙ c.return_to.ensures.found entered) in
    rw c.set_r.ensures (rw c.leave.ensures (rw c.in-Ok-back.ensures.effect (rw found.1 (
    leaves_goes code input c.args.m.now c.args.frames.now c.args.value c.args.words same entered found.0 c.in-Ok-back.ensures.refused))))

pub returns-in-Err-back-clause-row : goal.returns-in-Err-back-clause-row
returns-in-Err-back-clause-row c = λ code input entered same.
    let found = return_found _ _ c.in-Ok.next (sym c.in-Ok.is ∙ c.return_to.ensures.found entered) in
    let odd = leaves_back code input c.args.m.now c.args.frames.now c.args.value c.args.words c.in-Err-back.halt same c.ranges.words.fits entered found.0 c.in-Err-back.ensures.refused in
    rw c.from.ensures (rw odd.0 odd.1)
