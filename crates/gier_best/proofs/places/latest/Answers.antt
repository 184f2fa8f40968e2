use Rattle.gier_best.proofs.Latest.{latest_is}
use Rattle.std.proofs.Common.{arith}
use Rattle.gier_best.proofs.places.latest.Goals as goal

pub returns : goal.returns
returns c = latest_is _ _ _ _ c.loop-at.invariant (omega arith)
