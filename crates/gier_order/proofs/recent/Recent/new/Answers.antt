use Rattle.std.proofs.Common.{refl}
use Rattle.gier_order.proofs.recent.Recent.new.Goals as goal
use Rattle.gier_order.proofs.CountInvariant.{stands_none}

pub returns-clause-stands : goal.returns-clause-stands
returns-clause-stands c = stands_none _ c.new.ensures refl refl
