use Rattle.std.proofs.Common.{◌≡◌, ◌==◌, true, false, arith, ◌∙◌}
use Rattle.std.proofs.lemmas.Bool.Decides.{nat_tests}
use Rattle.gier_order.specs.Table.{row_of}
use Rattle.gier_order.specs.Flat.Row.{Row, needs}
use Rattle.gier_order.specs.Flat.Kinds.{is_a}
use Rattle.gier_order.specs.declared.order.Order.{Order}
use Rattle.gier_exec.specs.declared.stop.Stop.TheVariants.{Odd}
use Rattle.gier_exec.proofs.Searches.{search_other, search_found, search_stops, needs_yes, needs_no}
use Rattle.gier_exec.proofs.reading.fetch_only.Goals as goal

pub returns-in-Err-clause-row : goal.returns-in-Err-clause-row
returns-in-Err-clause-row g c = λ tracks size regs go told agrees.
    let next : Order → Row = λ order. needs (is_a c.args.operation order) (go order) in
    search_other _ _ _ _ regs next go c.in-Err.miss (c.in-Err.ensures.row tracks size regs next told agrees)

pub returns-then-order-number-clause-row : goal.returns-then-order-number-clause-row
returns-then-order-number-clause-row g c = λ tracks size regs go told agrees.
    let next : Order → Row = λ order. needs (is_a c.args.operation order) (go order) in
    let same : c.in-Ok.order.op ≡ (row_of c.args.operation).number = c.if-order-number.true ∙ c.number.ensures in
    let yes : (c.in-Ok.order.op == (row_of c.args.operation).number) ≡ true = grind (arith, nat_tests, same) in
    search_found _ _ _ _ regs next c.in-Ok.order go c.in-Ok.order (c.in-Ok.ensures.row tracks size regs next told agrees) (needs_yes _ (go c.in-Ok.order) yes)

pub returns-else-order-number-clause-row : goal.returns-else-order-number-clause-row
returns-else-order-number-clause-row g c = λ tracks size regs go told agrees.
    let next : Order → Row = λ order. needs (is_a c.args.operation order) (go order) in
    let no : (c.in-Ok.order.op == (row_of c.args.operation).number) ≡ false = grind (arith, nat_tests, c.if-order-number.false, c.number.ensures) in
    search_stops _ _ _ _ regs next c.in-Ok.order go Odd (c.in-Ok.ensures.row tracks size regs next told agrees) (needs_no _ (go c.in-Ok.order) no)
