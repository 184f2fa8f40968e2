use Rattle.gier_placed.proofs.Examples.{are_examples}
use Rattle.gier_placed.proofs.laws.law_placed_examples.Goals as goal

pub returns : goal.returns
returns c = are_examples
