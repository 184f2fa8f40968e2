use Rattle.gier_text4.proofs.Programs.{program_text}
use Rattle.gier_text4.proofs.laws.law_text4.Goals as goal

pub returns : goal.returns
returns c = program_text
