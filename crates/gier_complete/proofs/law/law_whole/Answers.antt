use Rattle.gier_complete.proofs.Claims.{are_whole}
use Rattle.gier_complete.proofs.law.law_whole.Goals as goal

pub returns : goal.returns
returns c = are_whole
