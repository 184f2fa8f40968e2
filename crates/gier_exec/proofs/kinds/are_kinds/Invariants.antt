use Rattle.std.proofs.Common.{◌≡◌, true}
use Rattle.gier_order.specs.Flat.Kinds.{are_fields}
use Rattle.gier_exec.proofs.kinds.are_kinds.Given as goal

abbrev pub invariant-loop-at : goal.invariant-loop-at
invariant-loop-at l = are_fields l.first l.left l.word l.at ≡ true
