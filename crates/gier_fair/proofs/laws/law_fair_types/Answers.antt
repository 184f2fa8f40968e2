use Rattle.gier_fair.proofs.FairPrograms.{types_are_fair}
use Rattle.gier_fair.proofs.laws.law_fair_types.Goals as goal

pub returns : goal.returns
returns c = types_are_fair
