use Rattle.std.proofs.Common.{◌≡◌, ◌<◌, ◌^◌, suc, length}
use Rattle.std.specs.List.{slice_get}
use Rattle.gier_frames.specs.Stop.{activations_from}
use Rattle.gier_frames.proofs.stop.find.Given as goal

abbrev pub invariant-loop-left : goal.invariant-loop-left
invariant-loop-left l = (l.base < length l.words.words) × (l.top < 2 ^ 24) × (slice_get (activations_from (suc l.initial.base) l.words.words l.marks.words l.initial.top l.initial.base) l.initial.left ≡ slice_get (activations_from (suc l.base) l.words.words l.marks.words l.top l.base) l.left)

abbrev pub decreases-loop-left : goal.decreases-loop-left
decreases-loop-left l = l.left
