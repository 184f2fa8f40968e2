use Rattle.std.proofs.Common.{length, sym, ◌∙◌}
use Rattle.gier_exec.specs.Rows.{regs_of}
use Rattle.gier_exec.proofs.Evaluatings.{none_goes, none_lost}
use Rattle.gier_exec.proofs.evaluations.choose_none.Goals as goal

pub returns-in-Ok-clause-row : goal.returns-in-Ok-clause-row
returns-in-Ok-clause-row c = λ code input s same.
    rw c.set_q.ensures (rw c.set_r.ensures (none_goes code (length s.words) (regs_of c.args.m.now s input) c.behind.result c.args.words c.in-Ok.next c.behind.ensures.value same (sym c.in-Ok.is ∙ c.ahead.ensures.value)))

pub returns-in-Err-clause-row : goal.returns-in-Err-clause-row
returns-in-Err-clause-row c = λ code input s same.
    none_lost code (length s.words) (regs_of c.args.m.now s input) (regs_of c.args.m.now s input) c.behind.result c.args.words c.in-Err.stop c.behind.ensures.value same (sym c.in-Err.is ∙ c.ahead.ensures.value)
