use Rattle.gier_order.proofs.Table.{slice_get-row, slice_get-no_row}
use Rattle.gier_order.proofs.operation.operation_in.Goals as goal

pub returns-in-Some : goal.returns-in-Some
returns-in-Some c = slice_get-row c.args.rows.now c.args.place c.in-Some.row.now c.in-Some.ensures.lookup.0 c.in-Some.ensures.lookup.1

pub returns-in-None : goal.returns-in-None
returns-in-None c = slice_get-no_row c.args.rows.now c.args.place c.in-None.ensures.lookup.0
