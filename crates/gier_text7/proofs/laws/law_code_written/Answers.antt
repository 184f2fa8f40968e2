use Rattle.gier_text7.proofs.Expressions.{expr, evaluated as evaluated_actual}
use Rattle.gier_text7.proofs.Switches.{switch}
use Rattle.gier_text7.proofs.laws.law_code_written.Goals as goal

pub returns-clause-expressions : goal.returns-clause-expressions
returns-clause-expressions c = λ os p r x. expr os p r x

pub returns-clause-evaluations : goal.returns-clause-evaluations
returns-clause-evaluations c = evaluated_actual

pub returns-clause-switches : goal.returns-clause-switches
returns-clause-switches c = switch
