use Rattle.std.proofs.Common.{◌≡◌, length}
use Rattle.gier_frames.specs.Writes.{with_zeros}
use Rattle.gier_frames.proofs.writes.zero.Given as goal

abbrev pub invariant-loop-k : goal.invariant-loop-k
invariant-loop-k l = (l.words.words ≡ with_zeros l.initial.words.words l.at l.k) × (length l.words.words ≡ length l.initial.words.words)
