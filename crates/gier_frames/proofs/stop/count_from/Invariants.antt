use Rattle.std.proofs.Common.{◌≡◌, ◌<◌, ◌≤◌, ◌+◌, suc, length}
use Rattle.gier_frames.specs.Stop.{number_from}
use Rattle.gier_frames.proofs.stop.count_from.Given as goal

abbrev pub invariant-loop-base : goal.invariant-loop-base
invariant-loop-base l = (l.base < length l.words.words) × (l.count + l.base ≤ l.initial.base) × (number_from (suc l.initial.base) l.words.words l.initial.base ≡ l.count + number_from (suc l.base) l.words.words l.base)

abbrev pub decreases-loop-base : goal.decreases-loop-base
decreases-loop-base l = l.base
