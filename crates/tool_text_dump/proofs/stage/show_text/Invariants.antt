use Rattle.std.proofs.Common.{◌≡◌, true}
use Rattle.tool_text_dump.proofs.stage.show_text.Given as goal

abbrev pub invariant-loop-s : goal.invariant-loop-s
invariant-loop-s l = l.text.rewound ≡ true

abbrev pub decreases-loop-s : goal.decreases-loop-s
decreases-loop-s l = l.text.unread
