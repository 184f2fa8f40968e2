use Rattle.std.proofs.Common.{◌≡◌, ◌-◌, ◌∙◌, suc, arith}
use Rattle.gier_places.proofs.MoveToFront.{moved_none, swapped}
use Rattle.gier_places.proofs.slots.move_first.Goals as goal

pub loop-at-preserved : goal.loop-at-preserved
loop-at-preserved c =
    let next : c.loop-at.at ≡ suc (c.loop-at.at - 1) = omega arith in
    (omega arith, swapped c.loop-at.slots _ (c.loop-at.at - 1) c.loop-at.at next c.loop-at.invariant.0 c.swap.ensures.after ∙ c.loop-at.invariant.1)

pub returns : goal.returns
returns c = moved_none c.loop-at.slots c.loop-at.at (omega arith) ∙ c.loop-at.invariant.1
