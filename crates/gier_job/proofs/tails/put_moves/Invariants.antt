use Rattle.gier_job.specs.Tails.{move_text}
use Rattle.gier_job.proofs.Rows.{HasPut}
use Rattle.gier_job.proofs.tails.put_moves.Given as goal

abbrev pub invariant-loop-at : goal.invariant-loop-at
invariant-loop-at g l = HasPut move_text l.trace.plan l.at (g.K.Sink.holds l.initial.out) (g.K.Sink.holds l.out) (g.K.Sink.faults l.initial.out) (g.K.Sink.faults l.out)
