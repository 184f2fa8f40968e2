use Rattle.std.proofs.Common.{◌≡◌}
use Rattle.gier_frames.specs.Numbers.{are_within}
use Rattle.gier_frames.proofs.bounds.lie_within.Given as goal

abbrev pub invariant-loop-i : goal.invariant-loop-i
invariant-loop-i l = l.so_far ≡ are_within l.words.words l.at l.from l.i
