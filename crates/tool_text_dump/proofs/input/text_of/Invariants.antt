use Rattle.std.proofs.Common.{◌≡◌, false}
use Rattle.tool_text_dump.proofs.input.text_of.Given as goal

abbrev pub invariant-loop-three : goal.invariant-loop-three
invariant-loop-three l =
    (goal.iterator-loop-three).can_next l.three-iterator ×
    (goal.iterator-loop-three).is_finite l.three-iterator ×
    l.text.rewound ≡ false
