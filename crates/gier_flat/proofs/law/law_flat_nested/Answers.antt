use Rattle.gier_flat.proofs.Example.{nested_premises}
use Rattle.gier_flat.proofs.law.law_flat_nested.Goals as goal

pub returns : goal.returns
returns c = nested_premises
