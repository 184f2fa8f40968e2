use Rattle.std.proofs.Common.{◌≡◌, take}
use Rattle.gier_mortem.specs.WordLines.{addresses, greatest}
use Rattle.gier_mortem.proofs.lines.last_of.Given as goal

abbrev pub invariant-loop-at : goal.invariant-loop-at
invariant-loop-at l = l.last ≡ greatest (take l.at (addresses l.asked))
