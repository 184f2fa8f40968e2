use Rattle.std.proofs.Common.{refl}
use Rattle.gier_text4.proofs.laws.law_text4_examples.Goals as goal

pub returns : goal.returns
returns c = record { sums = refl; labels = refl; arrays = refl; calls = refl; own = refl }
