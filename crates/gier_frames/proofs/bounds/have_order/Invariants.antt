use Rattle.std.proofs.Common.{◌≡◌}
use Rattle.gier_frames.specs.Numbers.{are_ordered}
use Rattle.gier_frames.proofs.bounds.have_order.Given as goal

abbrev pub invariant-loop-i : goal.invariant-loop-i
invariant-loop-i l = l.so_far ≡ are_ordered l.words.words l.at l.i
