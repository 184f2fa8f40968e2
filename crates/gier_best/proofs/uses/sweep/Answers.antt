use Rattle.std.proofs.Common.{◌≡◌, suc, ◌-◌, ◌<◌, length, slice_index, arith}
use Rattle.std.proofs.lemmas.List.Elements.{All-get_or}
use Rattle.gier_best.proofs.Sweep.{swept_none, swept_one, swept_all}
use Rattle.gier_best.proofs.uses.sweep.Goals as goal

pub loop-at-init : goal.loop-at-init
loop-at-init c = swept_none c.args.changes.now c.args.seen.now c.args.next.now c.requires.even c.requires.unseen

pub loop-at-preserved : goal.loop-at-preserved
loop-at-preserved c =
    let step : suc (c.loop-at.at - 1) ≡ c.loop-at.at = omega arith in
    let inside : c.loop-at.at - 1 < length c.args.changes.now = omega (arith, c.loop-at.invariant.within) in
    let known : slice_index c.args.changes.now (c.loop-at.at - 1) < length c.args.seen.now = All-get_or (λ track. track < length c.args.seen.now) c.args.changes.now (c.loop-at.at - 1) 0 inside c.requires.tracks in
    let track : slice_index c.args.changes.now (c.loop-at.at - 1) < length c.loop-at.seen = omega arith in
    swept_one c.args.changes.now c.loop-at.seen c.loop-at.next (c.loop-at.at - 1) c.loop-at.at step c.loop-at.invariant track

pub returns : goal.returns
returns c = swept_all _ _ _ _ (omega arith) c.loop-at.invariant
