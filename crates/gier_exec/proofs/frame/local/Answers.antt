use Rattle.std.proofs.Common.{sym}
use Rattle.gier_exec.proofs.frame.local.Goals as goal

pub returns-in-Ok-clause-row : goal.returns-in-Ok-clause-row
returns-in-Ok-clause-row c = λ code input m go entered. rw (sym c.in-Ok.ensures.place) (c.read.ensures.row code input m go entered)

pub returns-in-Ok-clause-found : goal.returns-in-Ok-clause-found
returns-in-Ok-clause-found c = λ entered. rw (sym c.in-Ok.ensures.place) (c.read.ensures.found entered)
