use Rattle.std.proofs.Common.{◌≡◌, ℕ, map, subst, sym, refl}
use Rattle.std.specs.String.{string_bytes}
use Rattle.gier_job.specs.Answer.{Answers, Refuses}
use Rattle.gier_job.specs.Devices.{devices}
use Rattle.gier_job.specs.RunTails.{most_changes}
use Rattle.gier_job.specs.declared.command.Command.{Command}
use Rattle.gier_job.proofs.Reading.{not_wrong, wrong_once}
use Rattle.gier_job.proofs.answer.gier.Goals as goal

pub returns-in-Ok-clause-refused : goal.returns-in-Ok-clause-refused
returns-in-Ok-clause-refused g c = λ number wrong. absurd (not_wrong (map string_bytes c.args.words.now) c.in-Ok.command number c.in-Ok.ensures.command wrong)

pub returns-in-Ok-clause-answers : goal.returns-in-Ok-clause-answers
returns-in-Ok-clause-answers g c = λ command is.
    let view = devices g.S.Source.left g.S.Source.faults g.K.Sink.holds g.K.Sink.faults g.D.Drum.room g.D.Drum.tracks g.D.Drum.journal g.D.Drum.faults in
    subst
    (λ (d : Command). Answers d most_changes c.open_and_work.result (view c.args.tape.now c.args.out.now c.args.drum.now) (view c.open_and_work.new.tape c.open_and_work.new.out c.open_and_work.new.drum))
    (sym (c.in-Ok.ensures.only command is)) c.open_and_work.ensures.answers

pub returns-in-Err-clause-refused : goal.returns-in-Err-clause-refused
returns-in-Err-clause-refused g c = λ number wrong.
    let same : number ≡ c.in-Err.number = wrong_once (map string_bytes c.args.words.now) number c.in-Err.number wrong c.in-Err.ensures.wrong in
    (subst (λ (n : ℕ). Refuses n c.refuse.result (g.K.Sink.holds c.args.out.now) (g.K.Sink.holds c.refuse.new.out)) (sym same) c.refuse.ensures.refused, refl, refl)

pub returns-in-Err-clause-accepted : goal.returns-in-Err-clause-accepted
returns-in-Err-clause-accepted g c = λ command is words. absurd (not_wrong (map string_bytes c.args.words.now) command c.in-Err.number is c.in-Err.ensures.wrong)

pub returns-in-Err-clause-answers : goal.returns-in-Err-clause-answers
returns-in-Err-clause-answers g c = λ command is. absurd (not_wrong (map string_bytes c.args.words.now) command c.in-Err.number is c.in-Err.ensures.wrong)
