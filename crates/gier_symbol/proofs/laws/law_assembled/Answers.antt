use Rattle.std.proofs.Common.{refl}
use Rattle.gier_symbol.proofs.laws.law_assembled.Goals as goal
use Rattle.gier_symbol.specs.Words.{tag_named}

pub returns : goal.returns
unfolding tag_named
returns c = record { names = refl; run_on = refl; number_then_name = refl; large = refl; comma = refl; no_comma = refl; two_commas = refl }
