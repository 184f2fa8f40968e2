use Rattle.gier_text6.proofs.Parts.{parts}
use Rattle.gier_text6.proofs.FittingParts.{parts_fit}
use Rattle.gier_text6.proofs.laws.law_judged_parts.Goals as goal

pub returns-clause-judged : goal.returns-clause-judged
returns-clause-judged c = parts

pub returns-clause-placed : goal.returns-clause-placed
returns-clause-placed c = parts_fit
