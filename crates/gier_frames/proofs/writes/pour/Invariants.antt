use Rattle.std.proofs.Common.{◌≡◌, length}
use Rattle.gier_frames.specs.Writes.{with_values}
use Rattle.gier_frames.proofs.writes.pour.Given as goal

abbrev pub invariant-loop-k : goal.invariant-loop-k
invariant-loop-k l = (l.words.words ≡ with_values l.initial.words.words l.at l.values.items l.k) × (length l.words.words ≡ length l.initial.words.words)
