use Rattle.std.proofs.Common.{◌≡◌, ◌<◌, suc, ◌+◌, length, drop, arith}
use Rattle.gier_best.specs.Plan.{farthest}
use Rattle.gier_best.proofs.ReferenceStep.{planned_at}
use Rattle.gier_best.proofs.planner.plan_reads.Goals as goal

pub loop-at-preserved : goal.loop-at-preserved
loop-at-preserved c =
    let next : c.loop-at.at + 1 ≡ suc c.loop-at.at = omega arith in
    let inside : c.loop-at.at < length c.args.changes.now = omega arith in (
      record {
        planned = rw next
            (c.refer.ensures.planned (drop (suc c.loop-at.at) c.args.changes.now) c.loop-at.at (farthest c.args.changes.now c.args.count)
            (c.requires.next.each c.loop-at.at inside)
            (planned_at c.args.changes.now c.args.count c.loop-at.at c.loop-at.places.tracks.items c.loop-at.places.due.items c.loop-at.plan.items (farthest c.args.changes.now c.args.count) inside c.loop-at.invariant.0.planned));
        few = c.refer.ensures.few;
        reads = omega (arith, c.refer.ensures.reads, c.loop-at.invariant.0.reads);
      },
      omega (arith, c.refer.ensures.index, c.loop-at.invariant.1),
      omega (arith, c.refer.ensures.plan_room, c.loop-at.invariant.2),
      omega (arith, c.refer.ensures.index_room, c.loop-at.invariant.3),
    )
