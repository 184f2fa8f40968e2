use Rattle.std.proofs.Common.{sym, ◌∙◌, arith}
use Rattle.gier_order.specs.Table.{operations}
use Rattle.gier_order.proofs.Table.{operation_at-zero, operation_at-place}
use Rattle.gier_order.proofs.operation.Operation.of.Goals as goal

pub returns-then-number-eq0 : goal.returns-then-number-eq0
returns-then-number-eq0 c = sym (operation_at-zero c.args.number c.if-number-eq0.true)

pub returns : goal.returns
unfolding operations
returns c = c.operation_in.ensures ∙ sym (operation_at-place c.args.number (omega arith))
