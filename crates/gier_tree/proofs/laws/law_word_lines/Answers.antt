use Rattle.std.proofs.Common.{refl}
use Rattle.gier_symbol.specs.Words.{tag_named}
use Rattle.gier_agree.specs.Packed.{kinds_word}
use Rattle.gier_tree.proofs.laws.law_word_lines.Goals as goal

pub returns : goal.returns
unfolding tag_named kinds_word
returns c = record { assigned = refl; jumped = refl; counted = refl; start = refl; entry = refl; value = refl; target = refl; behind = refl }
