use Rattle.std.proofs.Common.{◌≡◌}
use Rattle.gier_mortem.specs.WordLines.{told_line}
use Rattle.gier_mortem.proofs.GreatestSoFar.{changed_to}
use Rattle.gier_mortem.proofs.lines.tell_all.Given as goal

-- the words so far were told, and the others are as they were
abbrev pub invariant-loop-at : goal.invariant-loop-at
invariant-loop-at l = l.asked ≡ changed_to (told_line l.fn.address l.fn.line) l.at l.fn.asked
