use Rattle.std.proofs.Common.{ℕ, [], ◌∷◌, ap, sym, ◌∙◌}
use Rattle.gier_order.specs.Codes.{order_at}
use Rattle.gier_order.specs.Flat.Row.{Row, behind_ref}
use Rattle.gier_order.specs.Flat.Rows.{on_order}
use Rattle.gier_exec.specs.Rows.{code_in}
use Rattle.gier_exec.proofs.Searches.{finds_missed, order_found, order_none}
use Rattle.gier_exec.proofs.reading.fetch_order.Goals as goal

pub returns-in-Err-clause-row : goal.returns-in-Err-clause-row
returns-in-Err-clause-row g c = λ tracks size regs go told agrees.
    let next : ℕ → Row = λ word. on_order (code_in tracks c.args.object.now) size regs go (order_at word) in
    ([], c.in-Err.ensures.refers, finds_missed _ c.args.address regs next go c.in-Err.miss (c.in-Err.ensures.row tracks told agrees next))

pub returns-in-Some-clause-row : goal.returns-in-Some-clause-row
returns-in-Some-clause-row g c = λ tracks size regs go told agrees.
    let code = code_in tracks c.args.object.now in
    let next : ℕ → Row = λ word. on_order code size regs go (order_at word) in (
      c.args.address ∷ [],
      c.in-Ok.ensures.refers,
      c.in-Ok.ensures.row tracks told agrees next ∙ ap (λ r. behind_ref c.args.address r) (order_found code size regs go c.in-Ok.word c.in-Some.order (sym c.decode.ensures.value ∙ c.in-Some.is)),
    )

pub returns-in-None-clause-row : goal.returns-in-None-clause-row
returns-in-None-clause-row g c = λ tracks size regs go told agrees.
    let code = code_in tracks c.args.object.now in
    let next : ℕ → Row = λ word. on_order code size regs go (order_at word) in (
      c.args.address ∷ [],
      c.in-Ok.ensures.refers,
      c.in-Ok.ensures.row tracks told agrees next ∙ ap (λ r. behind_ref c.args.address r) (order_none code size regs go c.in-Ok.word (sym c.decode.ensures.value ∙ c.in-None.is)),
    )
