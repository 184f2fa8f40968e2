use Rattle.std.proofs.Common.{refl}
use Rattle.gier_kinds.proofs.laws.law_long.Goals as goal
use Rattle.gier_symbol.specs.Words.{tag_named}

pub returns : goal.returns
unfolding tag_named
returns c = record { most_actuals_told = refl; more_actuals_told = refl; more_wrong_actuals_told = refl; most_formals_told = refl; more_formals_told = refl; formals_of_actual_told = refl; more_formals_of_actual_told = refl }
