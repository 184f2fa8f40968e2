use Rattle.gier_exec.proofs.activations.leave_procedure.Goals as goal

pub returns-in-0-clause-row : goal.returns-in-0-clause-row
returns-in-0-clause-row c = λ code input l entered same. rw c.in-0.is (rw c.r-r.ensures.value at c.leave.ensures.row code input entered same)
