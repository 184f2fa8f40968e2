use Rattle.gier_exec.proofs.RowResults.{halts_does}
use Rattle.gier_exec.proofs.execute.move_on.Goals as goal

pub returns-in-Err-clause-row : goal.returns-in-Err-clause-row
returns-in-Err-clause-row c = λ code input entered same is. halts_does _ _ c.in-Err.stop (c.in-Err.ensures.row code input entered same is)
