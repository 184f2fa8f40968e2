use Rattle.std.proofs.Common.{◌≡◌, ◌+◌, length}
use Rattle.gier_job.proofs.mortem.asked_lines.Given as goal

-- one was asked for each activation so far, and one for the order that stopped
abbrev pub invariant-loop-at : goal.invariant-loop-at
invariant-loop-at l = length l.lines.asked.items ≡ l.at + 1
