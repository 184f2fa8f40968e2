use Rattle.gier_fair.proofs.Examples.{are_examples}
use Rattle.gier_fair.proofs.laws.law_fair_examples.Goals as goal

pub returns : goal.returns
returns c = are_examples
