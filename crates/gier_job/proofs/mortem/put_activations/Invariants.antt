use Rattle.std.proofs.Common.{◌≤◌, map}
use Rattle.gier_frames.specs.Stop.{activations}
use Rattle.gier_runner.specs.Live.{live_of}
use Rattle.gier_job.proofs.LiveTails.{HasTold}
use Rattle.gier_job.proofs.mortem.put_activations.Given as goal

abbrev pub invariant-loop-at : goal.invariant-loop-at
invariant-loop-at g l = (g.K.Sink.faults l.initial.out ≤ g.K.Sink.faults l.out) × HasTold (map live_of (activations l.frames)) l.at (g.K.Sink.holds l.initial.out) (g.K.Sink.holds l.out)
