use Rattle.gier_fair.proofs.FairExpressions.{expressions_are_fair}
use Rattle.gier_fair.proofs.laws.law_fair_expressions.Goals as goal

pub returns : goal.returns
returns c = expressions_are_fair
