use Rattle.gier_text6.proofs.Assignments.{assignments}
use Rattle.gier_text6.proofs.FittingParts.{fits_lefts}
use Rattle.gier_text6.proofs.laws.law_judged_assignments.Goals as goal

pub returns-clause-judged : goal.returns-clause-judged
returns-clause-judged c = assignments

pub returns-clause-placed : goal.returns-clause-placed
returns-clause-placed c = fits_lefts
