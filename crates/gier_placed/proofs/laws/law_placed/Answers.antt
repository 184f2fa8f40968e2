use Rattle.gier_placed.proofs.Numbers.{are_numbered}
use Rattle.gier_placed.proofs.laws.law_placed.Goals as goal

pub returns : goal.returns
returns c = are_numbered
