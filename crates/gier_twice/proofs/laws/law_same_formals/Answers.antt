use Rattle.gier_twice.proofs.PartsEqual.{formals_equal}
use Rattle.gier_twice.proofs.laws.law_same_formals.Goals as goal

pub returns : goal.returns
returns c = formals_equal
