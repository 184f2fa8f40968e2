use Rattle.gier_best.proofs.ReferenceStep.{step_kept}
use Rattle.gier_best.proofs.planner.refer.Goals as goal

pub set_due-requires : goal.set_due-requires
set_due-requires c = (c.in-Some.ensures.index.holds c.args.track c.in-Some.place c.in-Some.ensures.some).0

pub returns-in-Some-clause-planned : goal.returns-in-Some-clause-planned
returns-in-Some-clause-planned c = λ rest at whole when planned.
    rw (c.set_due.ensures.tracks, c.set_due.ensures.due)
    (step_kept c.args.count at c.args.track c.in-Some.place c.args.due rest c.args.places.now.tracks.items c.args.places.now.due.items c.args.places.now.index.items c.args.plan.now.items whole
    c.in-Some.ensures.index c.in-Some.ensures.some when planned)
