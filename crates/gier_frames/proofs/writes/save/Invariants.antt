use Rattle.std.proofs.Common.{◌≡◌, ◌<◌, ◌^◌, ℕ, length, slice_index, vec_capacity}
use Rattle.gier_frames.specs.Writes.{words_from}
use Rattle.gier_frames.proofs.writes.save.Given as goal

abbrev pub invariant-loop-k : goal.invariant-loop-k
invariant-loop-k l = (l.saved.items ≡ words_from l.words.words l.from l.k) × (length l.saved.items ≡ l.k) × ((k : ℕ) → slice_index l.saved.items k < 2 ^ 40) × (vec_capacity l.saved ≡ vec_capacity l.initial.saved)
