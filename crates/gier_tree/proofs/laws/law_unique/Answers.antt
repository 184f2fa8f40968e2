use Rattle.gier_tree.proofs.ProgramsRead.{one_program, written_spelled}
use Rattle.gier_tree.proofs.laws.law_unique.Goals as goal

pub returns : goal.returns
returns c = record { equal = one_program; read = written_spelled }
