use Rattle.std.proofs.Common.{arith}
use Rattle.gier_pass4.proofs.lists.Lists.give_formals.Goals as goal

pub returns-clause-out : goal.returns-clause-out
returns-clause-out c = c.shift.ensures.moves.others 0 (λ e. omega arith) (λ e. omega arith)

pub returns-clause-own_entries : goal.returns-clause-own_entries
returns-clause-own_entries c = c.shift.ensures.moves.others 2 (λ e. omega arith) (λ e. omega arith)

pub returns-clause-owns : goal.returns-clause-owns
returns-clause-owns c = c.shift.ensures.moves.others 3 (λ e. omega arith) (λ e. omega arith)
