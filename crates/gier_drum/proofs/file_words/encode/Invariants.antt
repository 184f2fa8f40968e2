use Rattle.std.proofs.Common.{◌≡◌, ◌<◌, ℕ, get_or}
use Rattle.gier_drum.specs.FileWords.{word_in}
use Rattle.gier_drum.proofs.file_words.encode.Given as goal

-- the words so far are in the bytes
abbrev pub invariant-loop-place : goal.invariant-loop-place
invariant-loop-place l = (k : ℕ) → k < l.place → word_in l.bytes k ≡ get_or l.words k 0
