use Rattle.std.proofs.Common.{refl}
use Rattle.gier_scope.proofs.laws.law_levels.Goals as goal
use Rattle.gier_symbol.specs.Words.{tag_named}

pub returns : goal.returns
unfolding tag_named
returns c = record { greatest_blocks_told = refl; one_block_more_told = refl; two_blocks_more_told = refl; greatest_procedures_told = refl; one_procedure_more_told = refl; procedure_alone_told = refl; with_own_told = refl; fewer_with_own_told = refl; turns_told = refl; turns_more_told = refl }
