use Rattle.std.proofs.Common.{refl}
use Rattle.gier_tree.proofs.laws.law_hoisted.Goals as goal

pub returns : goal.returns
returns c = record { no_own_hoisted = refl; one_own_hoisted = refl; own_array_hoisted = refl; own_bracket_below_hoisted = refl; own_hidden_hoisted = refl; own_inner_hoisted = refl; own_places_hoisted = refl }
