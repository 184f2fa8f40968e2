use Rattle.std.proofs.Common.{◌≤◌, ◌<◌, ℕ, length, get_or}
use Rattle.gier_text.specs.declared.fault.Fault.{Fault}
use Rattle.gier_text.proofs.tables.place_behind.Given as goal

abbrev pub invariant-loop-at : goal.invariant-loop-at
invariant-loop-at l = (l.at ≤ length l.faults.items) × ((k : ℕ) (d : Fault) → l.at ≤ k → k < length l.faults.items → l.position < (get_or l.faults.items k d).position)

abbrev pub decreases-loop-at : goal.decreases-loop-at
decreases-loop-at l = l.at
