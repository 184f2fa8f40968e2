use Rattle.gier_placed.proofs.Written.{programs_have_text7}
use Rattle.gier_placed.proofs.laws.law_text7_placed.Goals as goal

pub returns : goal.returns
returns c = programs_have_text7
