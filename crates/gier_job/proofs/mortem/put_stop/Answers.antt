use Rattle.std.proofs.Common.{map}
use Rattle.gier_frames.specs.Stop.{activations}
use Rattle.gier_runner.specs.Live.{live_of}
use Rattle.gier_job.proofs.LiveTails.{mortem_of}
use Rattle.gier_job.proofs.mortem.put_stop.Goals as goal

pub returns-in-Ok-clause-put : goal.returns-in-Ok-clause-put
returns-in-Ok-clause-put g c =
    mortem_of c.put_activations.result c.line.result (map live_of (activations c.args.frames.now)) (g.K.Sink.holds c.args.out.now) (g.K.Sink.holds c.put_line.new.out) (g.K.Sink.holds c.put_activations.new.out)
    c.in-Ok.ensures.put c.put_activations.ensures.put
