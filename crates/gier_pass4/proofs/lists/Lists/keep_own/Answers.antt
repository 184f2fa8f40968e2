use Rattle.std.proofs.Common.{arith}
use Rattle.gier_pass4.proofs.lists.Lists.keep_own.Goals as goal

pub returns-clause-entries : goal.returns-clause-entries
returns-clause-entries c = c.shift.ensures.moves.others 1 (λ e. omega arith) (λ e. omega arith)

pub returns-clause-own_entries : goal.returns-clause-own_entries
returns-clause-own_entries c = c.shift.ensures.moves.others 2 (λ e. omega arith) (λ e. omega arith)

pub returns-clause-formals : goal.returns-clause-formals
returns-clause-formals c = c.shift.ensures.moves.others 4 (λ e. omega arith) (λ e. omega arith)
