use Rattle.std.proofs.Common.{◌≡◌, true}
use Rattle.tool_symbols.proofs.spelled.reads.Given as goal

abbrev pub invariant-loop-word : goal.invariant-loop-word
invariant-loop-word l = l.text.rewound ≡ true
