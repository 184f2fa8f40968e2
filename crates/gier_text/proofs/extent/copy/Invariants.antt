use Rattle.std.proofs.Common.{◌≡◌, ◌+◌}
use Rattle.gier_text.proofs.ListExtents.{Copied}
use Rattle.gier_text.proofs.extent.copy.Given as goal

abbrev pub invariant-loop-word : goal.invariant-loop-word
invariant-loop-word l = (l.at ≡ l.initial.at + l.word-index) × Copied l.initial.at l.word-index l.entry l.initial.words.words l.words.words
