use Rattle.gier_flat.proofs.FromPremises.{run_is_meaning}
use Rattle.gier_flat.proofs.law.law_flat.Goals as goal

pub returns : goal.returns
returns c = run_is_meaning
