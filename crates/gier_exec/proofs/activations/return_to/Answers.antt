use Rattle.std.proofs.Common.{sym, ◌∙◌}
use Rattle.gier_exec.proofs.Refusings.{some_of}
use Rattle.gier_exec.proofs.Leavings.{return_none, return_by, return_err}
use Rattle.gier_exec.proofs.activations.return_to.Goals as goal

pub returns-then-depth-eq0-clause-found : goal.returns-then-depth-eq0-clause-found
returns-then-depth-eq0-clause-found c = λ entered. return_none c.args.words c.args.m.now c.args.frames.now (sym c.depth.ensures ∙ c.if-depth-eq0.true)

pub returns-in-Ok-clause-found : goal.returns-in-Ok-clause-found
returns-in-Ok-clause-found c = λ entered.
    c.address_of.ensures.found ∙ return_by c.in-Ok.word c.args.words c.args.m.now c.args.frames.now (some_of _ _ c.depth.ensures c.if-depth-eq0.false) (c.in-Ok.ensures.found entered)

pub returns-in-Err-clause-found : goal.returns-in-Err-clause-found
returns-in-Err-clause-found c = λ entered. return_err c.args.words c.args.m.now c.args.frames.now c.in-Err.stop (c.in-Err.ensures.found entered)
