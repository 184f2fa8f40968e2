use Rattle.std.proofs.Common.{◌≡◌, ◌+◌, ◌<◌, ◌≤◌, length}
use Rattle.gier_frames.specs.Display.{Building}
use Rattle.gier_frames.proofs.display.Display.build.Given as goal

abbrev pub invariant-loop-base : goal.invariant-loop-base
invariant-loop-base l = (l.base < length l.words.words) × (length l.self.chain + l.base ≤ l.initial.base) × (l.self.size ≡ length l.words.words) × Building l.self l.words.words l.initial.base l.base

abbrev pub decreases-loop-base : goal.decreases-loop-base
decreases-loop-base l = l.base
