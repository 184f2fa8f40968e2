use Rattle.std.proofs.Common.{sym, arith}
use Rattle.gier_order.proofs.Table.{order_at-past, no_order_past}
use Rattle.gier_order.proofs.order.Order.decode.Goals as goal

pub returns-then-number-ge-NUMBERS-clause-value : goal.returns-then-number-ge-NUMBERS-clause-value
returns-then-number-ge-NUMBERS-clause-value c = sym (order_at-past c.args.word (omega arith))

pub returns-then-number-ge-NUMBERS-clause-every : goal.returns-then-number-ge-NUMBERS-clause-every
returns-then-number-ge-NUMBERS-clause-every c = λ order right code. absurd (no_order_past c.args.word (omega arith) order right code)
