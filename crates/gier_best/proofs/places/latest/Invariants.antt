use Rattle.gier_best.proofs.Latest.{IsLatestOf}
use Rattle.gier_best.proofs.places.latest.Given as goal

abbrev pub invariant-loop-at : goal.invariant-loop-at
invariant-loop-at l = IsLatestOf l.due l.most l.place l.at
