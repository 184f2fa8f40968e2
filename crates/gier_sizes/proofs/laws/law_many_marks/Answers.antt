use Rattle.std.proofs.Common.{refl}
use Rattle.gier_sizes.proofs.laws.law_many_marks.Goals as goal
use Rattle.gier_symbol.specs.Words.{tag_named}

pub returns : goal.returns
unfolding tag_named
returns c = record { written = refl; symbols = refl; marked = refl }
