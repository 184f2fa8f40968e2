use Rattle.gier_flat.proofs.Example.{nested_faultless}
use Rattle.gier_flat.proofs.law.law_flat_faultless.Goals as goal

pub returns : goal.returns
returns c = nested_faultless
