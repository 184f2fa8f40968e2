use Rattle.std.proofs.Common.{◌≡◌, ◌≤◌, false}
use Rattle.tool_text_dump.proofs.stage.show.Given as goal

abbrev pub invariant-loop-number : goal.invariant-loop-number
invariant-loop-number l = record {
  writing : l.text.rewound ≡ false;
  bytes : l.bytes ≤ l.tables.limit;
}
