use Rattle.std.proofs.Common.{◌≡◌}
use Rattle.gier_frames.specs.Numbers.{elements}
use Rattle.gier_frames.proofs.bounds.count_elements.Given as goal

abbrev pub invariant-loop-i : goal.invariant-loop-i
invariant-loop-i l = l.count ≡ elements l.words.words l.at l.i
