use Rattle.std.proofs.Common.{arith}
use Rattle.gier_order.proofs.Table.{operation_at-number}
use Rattle.gier_order.proofs.order.Order.of.Goals as goal

pub returns-clause-order : goal.returns-clause-order
returns-clause-order c = record {
  level_fits = omega arith;
  address_fits = c.requires.address;
  in_table = rw (c.number.ensures, operation_at-number c.args.operation) c.requires.unused;
}
