use Rattle.gier_job.specs.Tails.{number_text}
use Rattle.gier_job.proofs.Rows.{HasPut}
use Rattle.gier_job.proofs.tails.put_numbers.Given as goal

abbrev pub invariant-loop-number : goal.invariant-loop-number
invariant-loop-number g l = HasPut number_text l.numbers l.number-index (g.K.Sink.holds l.initial.out) (g.K.Sink.holds l.out) (g.K.Sink.faults l.initial.out) (g.K.Sink.faults l.out)
