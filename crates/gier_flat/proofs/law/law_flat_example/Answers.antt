use Rattle.gier_flat.proofs.Example.{example_premises}
use Rattle.gier_flat.proofs.law.law_flat_example.Goals as goal

pub returns : goal.returns
returns c = example_premises
