use Rattle.std.proofs.Common.{◌≡◌, ◌<◌, ◌^◌, ℕ, get_or, length}
use Rattle.gier_drum.specs.FileWords.{word_in}
use Rattle.gier_drum.proofs.file_words.decode.Given as goal

-- the words so far are those of the bytes, and below 2^40
abbrev pub invariant-loop-place : goal.invariant-loop-place
invariant-loop-place l = (length l.into ≡ 40) × ((k : ℕ) → k < l.place → (get_or l.into k 0 < 2 ^ 40) × (get_or l.into k 0 ≡ word_in l.bytes k))
