use Rattle.gier_exec.proofs.Agreements.{agree_is}
use Rattle.gier_exec.proofs.kinds.fit.Goals as goal

pub returns : goal.returns
returns c = agree_is c.agree.result c.args.formals c.args.actuals c.agree.ensures
