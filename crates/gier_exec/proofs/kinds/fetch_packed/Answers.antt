use Rattle.std.proofs.Common.{ℕ, Ok, Err}
use Rattle.gier_order.specs.Flat.Row.{Row, needs}
use Rattle.gier_order.specs.Flat.Kinds.{is_packed}
use Rattle.gier_exec.specs.declared.stop.Stop.TheVariants.{Odd}
use Rattle.std.proofs.Common.{sym, ◌∙◌}
use Rattle.gier_exec.proofs.SearchReach.{search_word}
use Rattle.gier_exec.proofs.Searches.{search_other, search_found, search_stops, needs_yes, needs_no}
use Rattle.gier_exec.proofs.kinds.fetch_packed.Goals as goal

pub returns-in-Err-clause-row : goal.returns-in-Err-clause-row
returns-in-Err-clause-row g c = λ tracks regs go told agrees.
    let next : ℕ → Row = λ word. needs (is_packed c.args.first c.args.left word) (go word) in
    search_other _ _ _ _ regs next go c.in-Err.miss (search_word _ _ _ _ c.args.address regs next (Err c.in-Err.miss) c.in-Err.ensures.refers (c.in-Err.ensures.row tracks told agrees next))

pub returns-then-are_kinds-clause-row : goal.returns-then-are_kinds-clause-row
returns-then-are_kinds-clause-row g c = λ tracks regs go told agrees.
    let next : ℕ → Row = λ word. needs (is_packed c.args.first c.args.left word) (go word) in
    let word = c.in-Ok.word in
    search_found _ _ _ _ regs next word go word (search_word _ _ _ _ c.args.address regs next (Ok word) c.in-Ok.ensures.refers (c.in-Ok.ensures.row tracks told agrees next))
    (needs_yes _ (go word) (sym c.are_kinds.ensures ∙ c.if-are_kinds.true))

pub returns-else-are_kinds-clause-row : goal.returns-else-are_kinds-clause-row
returns-else-are_kinds-clause-row g c = λ tracks regs go told agrees.
    let next : ℕ → Row = λ word. needs (is_packed c.args.first c.args.left word) (go word) in
    let word = c.in-Ok.word in
    search_stops _ _ _ _ regs next word go Odd (search_word _ _ _ _ c.args.address regs next (Ok word) c.in-Ok.ensures.refers (c.in-Ok.ensures.row tracks told agrees next))
    (needs_no _ (go word) (sym c.are_kinds.ensures ∙ c.if-are_kinds.false))
