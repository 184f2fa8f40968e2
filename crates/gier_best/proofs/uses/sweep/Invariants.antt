use Rattle.gier_best.proofs.Sweep.{HasSwept}
use Rattle.gier_best.proofs.uses.sweep.Given as goal

abbrev pub invariant-loop-at : goal.invariant-loop-at
invariant-loop-at l = HasSwept l.changes l.seen l.next l.at

abbrev pub decreases-loop-at : goal.decreases-loop-at
decreases-loop-at l = l.at
