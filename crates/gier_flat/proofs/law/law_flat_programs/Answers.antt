use Rattle.gier_flat.proofs.PartPrograms.{faultless_runs}
use Rattle.gier_flat.proofs.law.law_flat_programs.Goals as goal

pub returns : goal.returns
returns c = faultless_runs
