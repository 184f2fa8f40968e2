use Rattle.gier_best.proofs.Least.{no_plan_is_cheaper, farthest_is_plan}
use Rattle.gier_best.proofs.law.law_best.Goals as goal

pub returns-clause-plan : goal.returns-clause-plan
returns-clause-plan c = farthest_is_plan

pub returns-clause-least : goal.returns-clause-least
returns-clause-least c = λ refs places moves some. no_plan_is_cheaper refs places moves
