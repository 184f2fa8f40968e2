use Rattle.std.proofs.Common.{◌≡◌, false}
use Rattle.tool_symbols.proofs.spelled.text_of.Given as goal

abbrev pub invariant-loop-word : goal.invariant-loop-word
invariant-loop-word l = l.text.rewound ≡ false
