use Rattle.std.proofs.Common.{◌≡◌, ◌∙◌, ℕ, List, [], map, OnOk, ap, subst, sym}
use Rattle.gier_io.specs.Device.{Puts}
use Rattle.gier_frames.specs.State.{State as Frames}
use Rattle.gier_frames.specs.Stop.{activations}
use Rattle.gier_order.specs.Flat.Live.{Live}
use Rattle.gier_runner.specs.State.{report_of}
use Rattle.gier_runner.specs.Live.{live_of}
use Rattle.gier_job.specs.TailsOfRun.{run_tails}
use Rattle.gier_job.specs.Mortem.{PutsMortem}
use Rattle.gier_job.proofs.TailsAskedFor.{when_printed, stopped_is, tails_with, tails_without}
use Rattle.gier_job.proofs.running.conclude.Goals as goal

pub returns-then-command-clause-put : goal.returns-then-command-clause-put
returns-then-command-clause-put g c = λ tracks notes counts noted.
    let tail : List ℕ = run_tails c.args.ending c.args.command.now (report_of c.args.runner.now) c.args.runner.now.trace.limit tracks notes in
    let lives : List Live = map live_of (activations c.args.runner.now.frames) in
    let same : map live_of (activations c.put_stopped.new.runner.frames) ≡ lives = ap (λ (f : Frames). map live_of (activations f)) c.put_stopped.ensures.frames in
    let put : Puts (g.K.Sink.holds c.args.out.now) tail (g.K.Sink.holds c.put_stopped.new.out) =
    subst (λ xs. Puts (g.K.Sink.holds c.args.out.now) xs (g.K.Sink.holds c.put_stopped.new.out)) (sym (stopped_is c.args.ending c.args.command.now _ _ tracks notes c.in-Alarm.is))
    (when_printed c.put_stopped.result c.in-Ok.field-0 (sym c.of_printer-in-Alarm.ensures ∙ c.in-Ok.is) (c.put_stopped.ensures.put tracks notes counts noted)) in
    tails_with c.put_mortem.result c.args.command.now.mortem c.args.ending tail lives (g.K.Sink.holds c.args.out.now) (g.K.Sink.holds c.put_stopped.new.out) (g.K.Sink.holds c.put_mortem.new.out) c.in-Alarm.is c.if-command.true put
    (subst (λ ls. OnOk c.put_mortem.result (PutsMortem [] ls (g.K.Sink.holds c.put_stopped.new.out) (g.K.Sink.holds c.put_mortem.new.out))) same c.put_mortem.ensures.put)

pub returns-else-command-clause-put : goal.returns-else-command-clause-put
returns-else-command-clause-put g c = λ tracks notes counts noted.
    let tail : List ℕ = run_tails c.args.ending c.args.command.now (report_of c.args.runner.now) c.args.runner.now.trace.limit tracks notes in
    tails_without c.args.command.now.mortem c.args.ending tail (map live_of (activations c.args.runner.now.frames)) (g.K.Sink.holds c.args.out.now) (g.K.Sink.holds c.put_stopped.new.out) c.in-Alarm.is c.if-command.false
    (subst (λ xs. Puts (g.K.Sink.holds c.args.out.now) xs (g.K.Sink.holds c.put_stopped.new.out)) (sym (stopped_is c.args.ending c.args.command.now _ _ tracks notes c.in-Alarm.is))
    (when_printed c.put_stopped.result c.in-Ok.field-0 (sym c.of_printer-in-Alarm.ensures ∙ c.in-Ok.is) (c.put_stopped.ensures.put tracks notes counts noted)))
