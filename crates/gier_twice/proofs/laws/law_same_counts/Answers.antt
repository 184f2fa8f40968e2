use Rattle.gier_twice.proofs.PartsEqual.{counts_equal}
use Rattle.gier_twice.proofs.laws.law_same_counts.Goals as goal

pub returns : goal.returns
returns c = counts_equal
