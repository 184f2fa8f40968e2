use Rattle.std.proofs.Common.{◌≡◌, ◌<◌, ◌≤◌, ◌+◌, ◌⊎◌, ℕ, get_or, length}
use Rattle.gier_drum.proofs.file_words.put_word.Given as goal

-- the bytes so far are in their places, and all others are as they were
abbrev pub invariant-loop-byte : goal.invariant-loop-byte
invariant-loop-byte l = (length l.bytes ≡ 320) × (((k : ℕ) → k < l.byte → get_or l.bytes (l.at + k) 0 ≡ get_or l.eight k 0) × ((k : ℕ) → (k < l.at) ⊎ (l.at + 8 ≤ k) → get_or l.bytes k 0 ≡ get_or l.fn.bytes k 0))
