use Rattle.std.proofs.Common.{refl}
use Rattle.gier_tree.proofs.laws.law_spelling.Goals as goal

pub returns : goal.returns
returns c = record { sums = refl; loop = refl; declared = refl }
