use Rattle.gier_placed.proofs.Within.{labels_are_within}
use Rattle.gier_placed.proofs.laws.law_labels_within.Goals as goal

pub returns : goal.returns
returns c = labels_are_within
