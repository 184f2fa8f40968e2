use Rattle.std.proofs.Common.{◌≡◌}
use Rattle.gier_agree.specs.Packed.{first_kinds}
use Rattle.gier_agree.proofs.packed.pack.Given as goal

abbrev pub invariant-loop-at : goal.invariant-loop-at
invariant-loop-at l = l.word ≡ first_kinds l.at l.kinds
