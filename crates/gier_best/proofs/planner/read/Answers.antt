use Rattle.std.proofs.Common.{◌≡◌, ◌<◌, suc, ◌+◌, arith}
use Rattle.gier_best.proofs.ReferenceStep.{chosen_within, step_read, put_few}
use Rattle.gier_best.proofs.planner.read.Goals as goal

pub read-requires-clause-place : goal.read-requires-clause-place
read-requires-clause-place c =
    (chosen_within c.args.count c.choose-place.result c.args.places.now.tracks.items c.args.places.now.due.items c.choose-place.ensures.even c.requires.few c.requires.some c.choose-place.ensures.place).0

pub read-requires-clause-few : goal.read-requires-clause-few
read-requires-clause-few c =
    let within : c.choose-place.result < c.args.count = (chosen_within c.args.count c.choose-place.result c.args.places.now.tracks.items c.args.places.now.due.items c.choose-place.ensures.even c.requires.few c.requires.some c.choose-place.ensures.place).1 in
    omega arith

pub overflow_cast-place : goal.overflow_cast-place
overflow_cast-place c =
    let within : c.choose-place.result < c.args.count = (chosen_within c.args.count c.choose-place.result c.args.places.now.tracks.items c.args.places.now.due.items c.choose-place.ensures.even c.requires.few c.requires.some c.choose-place.ensures.place).1 in
    omega arith

pub overflow_add-place : goal.overflow_add-place
overflow_add-place c =
    let within : c.choose-place.result < c.args.count = (chosen_within c.args.count c.choose-place.result c.args.places.now.tracks.items c.args.places.now.due.items c.choose-place.ensures.even c.requires.few c.requires.some c.choose-place.ensures.place).1 in
    omega arith

pub returns-clause-planned : goal.returns-clause-planned
returns-clause-planned c = λ rest at whole when planned.
    let next : c.choose-place.result + 1 ≡ suc c.choose-place.result = omega arith in
    rw (c.read.ensures.tracks, c.read.ensures.due, c.push_reserved.ensures.items, next)
    (step_read c.args.count at c.args.track c.choose-place.result c.args.due rest c.args.places.now.tracks.items c.args.places.now.due.items c.args.places.now.index.items c.args.plan.now.items whole
    c.requires.found c.requires.absent when c.choose-place.ensures.even c.requires.few c.requires.some c.choose-place.ensures.place planned)

pub returns-clause-few : goal.returns-clause-few
returns-clause-few c =
    rw c.read.ensures.tracks
    (put_few c.args.places.now.tracks.items c.choose-place.result c.args.track c.args.count
    (chosen_within c.args.count c.choose-place.result c.args.places.now.tracks.items c.args.places.now.due.items c.choose-place.ensures.even c.requires.few c.requires.some c.choose-place.ensures.place).1
    (chosen_within c.args.count c.choose-place.result c.args.places.now.tracks.items c.args.places.now.due.items c.choose-place.ensures.even c.requires.few c.requires.some c.choose-place.ensures.place).0
    c.requires.few)
