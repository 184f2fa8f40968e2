use Rattle.std.proofs.Common.{◌∙◌, is_some, sym, ap, true, ◌≡◌, refl}
use Rattle.gier_job.specs.Devices.{devices}
use Rattle.gier_job.specs.Reply.{text_for}
use Rattle.gier_job.proofs.Answering.{answers_told, answers_run, check_run}
use Rattle.gier_job.proofs.Early.{answers_none}
use Rattle.gier_job.proofs.Runs.{has_run}
use Rattle.gier_job.proofs.working.work.Goals as goal

pub returns-then-command-clause-answers : goal.returns-then-command-clause-answers
returns-then-command-clause-answers g c =
    let view = devices g.S.Source.left g.S.Source.faults g.K.Sink.holds g.K.Sink.faults g.D.Drum.room g.D.Drum.tracks g.D.Drum.journal g.D.Drum.faults in
    let command = c.args.command.now in
    let found = c.bring_to_text6-found.ensures in
    answers_told command c.args.runner.now.trace.limit c.told.result (view c.args.tape.now c.args.out.now c.args.drum.now) (view c.bring_to_text6-found.new.tape c.told.new.out c.bring_to_text6-found.new.drum)
    c.told.ensures.prints (c.told.ensures.takes command.sample _ _ found.takes) (λ told. c.told.ensures.sound (found.sound told))
    (λ bytes left told. c.told.ensures.early (text_for command.sample bytes) (found.early bytes left told)) (λ off end. check_run command.check c.if-command.true off)

pub returns-in-Err-clause-answers : goal.returns-in-Err-clause-answers
returns-in-Err-clause-answers g c =
    let view = devices g.S.Source.left g.S.Source.faults g.K.Sink.holds g.K.Sink.faults g.D.Drum.room g.D.Drum.tracks g.D.Drum.journal g.D.Drum.faults in
    let command = c.args.command.now in
    let found = c.in-Err.ensures in
    answers_told command c.args.runner.now.trace.limit c.told-in-Err.result (view c.args.tape.now c.args.out.now c.args.drum.now) (view c.bring_to_text6-found.new.tape c.told-in-Err.new.out c.bring_to_text6-found.new.drum)
    c.told-in-Err.ensures.prints (c.told-in-Err.ensures.takes command.sample _ _ found.takes) (λ told. c.told-in-Err.ensures.sound (found.sound told))
    (λ bytes left told. c.told-in-Err.ensures.early (text_for command.sample bytes) (found.early bytes left told)) (λ off end. c.told-in-Err.ensures.no_run refl end)

pub returns-in-Ok-clause-answers : goal.returns-in-Ok-clause-answers
returns-in-Ok-clause-answers g c =
    let view = devices g.S.Source.left g.S.Source.faults g.K.Sink.holds g.K.Sink.faults g.D.Drum.room g.D.Drum.tracks g.D.Drum.journal g.D.Drum.faults in
    let command = c.args.command.now in
    let tape = g.S.Source.left in
    let held = g.K.Sink.holds in
    answers_run command c.args.runner.now.trace.limit c.run_fronted.result (view c.args.tape.now c.args.out.now c.args.drum.now) (view c.run_fronted.new.tape c.run_fronted.new.out c.run_fronted.new.drum)
    c.if-command.false c.run_fronted.ensures.of_run
    (λ bytes left told. answers_none (text_for command.sample bytes) c.run_fronted.result (held c.args.out.now) (held c.run_fronted.new.out) (c.in-Ok.ensures.early bytes left told) c.run_fronted.ensures.of_run)
    (λ tracks all off told left is.
    let told_first = sym c.bring_to_text6-found.ensures.keeps.same_tracks ∙ sym c.run_fronted.ensures.keeps.same_tracks ∙ ap is_some told in
    has_run tracks command c.args.runner.now.trace.limit c.in-Ok.fronted all
    (tape c.args.tape.now) (tape c.bring_to_text6-found.new.tape) (g.D.Drum.tracks c.bring_to_text6-found.new.drum)
    c.run_fronted.result (held c.args.out.now) (held c.run_fronted.new.out) (g.D.Drum.journal c.run_fronted.new.drum)
    left c.in-Ok.ensures.fronted c.in-Ok.ensures.takes (c.in-Ok.ensures.counted all left) (c.in-Ok.ensures.text6 told_first)
    (λ bytes given. c.run_fronted.ensures.runs tracks bytes told given is))
