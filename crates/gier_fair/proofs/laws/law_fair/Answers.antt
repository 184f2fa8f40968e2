use Rattle.gier_fair.proofs.WholePrograms.{programs_are_fair}
use Rattle.gier_fair.proofs.laws.law_fair.Goals as goal

pub returns : goal.returns
returns c = programs_are_fair
