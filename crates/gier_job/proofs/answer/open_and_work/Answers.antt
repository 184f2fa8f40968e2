use Rattle.std.proofs.Common.{refl}
use Rattle.gier_job.specs.Devices.{devices}
use Rattle.gier_job.specs.RunTails.{most_changes}
use Rattle.gier_job.proofs.ToldDrum.{grown_told}
use Rattle.gier_job.proofs.Answering.{answers_from}
use Rattle.gier_job.proofs.answer.open_and_work.Goals as goal

pub returns-clause-answers : goal.returns-clause-answers
returns-clause-answers g c =
    let view = devices g.S.Source.left g.S.Source.faults g.K.Sink.holds g.K.Sink.faults g.D.Drum.room g.D.Drum.tracks g.D.Drum.journal g.D.Drum.faults in
    let tracks = g.D.Drum.tracks in
    answers_from c.args.command.now c.in-Ok-runner_for.runner.trace.limit most_changes c.work.result
    (view c.args.tape.now c.args.out.now c.args.drum.now) (view c.args.tape.now c.args.out.now c.make_room.new.self) (view c.work.new.tape c.work.new.out c.work.new.drum) refl refl
    (grown_told (tracks c.args.drum.now) (tracks c.make_room.new.self) (g.D.Drum.room c.make_room.new.self) c.in-Ok.ensures.tracks)
    (λ best. c.in-Ok-runner_for.ensures.changes best) c.work.ensures.answers
