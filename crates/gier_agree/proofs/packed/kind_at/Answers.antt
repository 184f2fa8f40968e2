use Rattle.std.proofs.Common.{◌-◌, refl}
use Rattle.gier_agree.specs.Packed.{kind_in}
use Rattle.gier_agree.proofs.PackedKinds.{four_bits}
use Rattle.gier_agree.proofs.packed.kind_at.Goals as goal

pub returns-clause-value : goal.returns-clause-value
unfolding kind_in
returns-clause-value c = rw (four_bits (9 - c.args.at)) refl
