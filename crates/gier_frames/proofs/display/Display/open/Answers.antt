use Rattle.std.proofs.Common.{rules}
use Rattle.gier_frames.proofs.DisplayBuild.{none_at}
use Rattle.gier_frames.proofs.display.Display.open.Goals as goal

pub invariant_of-result : goal.invariant_of-result
invariant_of-result c = ((λ level more. rw c.no_levels.ensures (none_at 256 level)), search rules, search rules, search rules, search rules, search rules)
