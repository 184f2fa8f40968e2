use Rattle.gier_text7.proofs.StepRecords.{recorded}
use Rattle.gier_text7.proofs.Switches.{ahead_elements}
use Rattle.gier_text7.proofs.WhileAhead.{is_while, is_step}
use Rattle.gier_text7.proofs.laws.law_seen_ahead.Goals as goal

pub returns-clause-elements : goal.returns-clause-elements
returns-clause-elements c = ahead_elements

pub returns-clause-whiles : goal.returns-clause-whiles
returns-clause-whiles c = is_while

pub returns-clause-steps : goal.returns-clause-steps
returns-clause-steps c = is_step

pub returns-clause-records : goal.returns-clause-records
returns-clause-records c = recorded
