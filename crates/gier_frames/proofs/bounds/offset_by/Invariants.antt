use Rattle.std.proofs.Common.{◌≡◌}
use Rattle.gier_frames.specs.Numbers.{offset}
use Rattle.gier_frames.proofs.bounds.offset_by.Given as goal

abbrev pub invariant-loop-i : goal.invariant-loop-i
invariant-loop-i l = l.number ≡ offset l.words.words l.at l.from l.i
