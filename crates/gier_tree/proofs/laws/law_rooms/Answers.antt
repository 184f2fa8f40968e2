use Rattle.std.proofs.Common.{refl}
use Rattle.gier_tree.proofs.laws.law_rooms.Goals as goal

pub returns : goal.returns
returns c = record { rooms_simple_told = refl; rooms_procedures_told = refl; rooms_expressions_told = refl; rooms_own_told = refl; rooms_hidden_told = refl }
