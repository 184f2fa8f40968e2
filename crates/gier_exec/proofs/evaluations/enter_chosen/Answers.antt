use Rattle.gier_exec.proofs.evaluations.enter_chosen.Goals as goal

pub returns-in-Some-clause-row : goal.returns-in-Some-clause-row
returns-in-Some-clause-row c = λ code input entered same. rw c.in-Some.is (c.enter_evaluation.ensures.row code input entered)

pub returns-in-None-clause-row : goal.returns-in-None-clause-row
returns-in-None-clause-row c = λ code input entered same. rw c.in-None.is (c.choose_none.ensures.row code input c.args.frames.now same)
