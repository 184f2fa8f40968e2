use Rattle.gier_text3.proofs.Programs.{program_text}
use Rattle.gier_text3.proofs.laws.law_text3.Goals as goal

pub returns : goal.returns
returns c = program_text
