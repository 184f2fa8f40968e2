use Rattle.gier_copy.proofs.WholeProgram.{same_meaning}
use Rattle.gier_copy.proofs.law.law_copy.Goals as goal

pub returns : goal.returns
returns c = same_meaning
