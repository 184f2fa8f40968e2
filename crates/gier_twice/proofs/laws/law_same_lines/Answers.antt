use Rattle.gier_twice.proofs.PartsEqual.{lines_equal}
use Rattle.gier_twice.proofs.laws.law_same_lines.Goals as goal

pub returns : goal.returns
returns c = lines_equal
