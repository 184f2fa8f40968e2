use Rattle.std.proofs.Common.{◌≡◌, ◌<◌, length}
use Rattle.gier_places.specs.HeldTracks.{moved_first}
use Rattle.gier_places.proofs.slots.move_first.Given as goal

-- what is left to move gives what was asked for
abbrev pub invariant-loop-at : goal.invariant-loop-at
invariant-loop-at l = (l.at < length l.slots) × (moved_first l.slots l.at ≡ moved_first l.fn.slots l.fn.place)

abbrev pub decreases-loop-at : goal.decreases-loop-at
decreases-loop-at l = l.at
