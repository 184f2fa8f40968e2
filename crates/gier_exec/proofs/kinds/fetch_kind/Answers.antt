use Rattle.std.proofs.Common.{◌%◌, ℕ, refl}
use Rattle.gier_agree.specs.Packed.{kind_in}
use Rattle.gier_order.specs.Flat.Row.{Row}
use Rattle.gier_exec.proofs.Searches.{search_other, search_found}
use Rattle.gier_exec.proofs.kinds.fetch_kind.Goals as goal

pub returns-in-Ok-clause-row : goal.returns-in-Ok-clause-row
returns-in-Ok-clause-row g c = λ tracks regs go told agrees.
    let next : ℕ → Row = λ word. go (kind_in word (c.args.at % 10)) in
    search_found _ _ _ _ regs next c.in-Ok.word go _ (c.in-Ok.ensures.row tracks regs next told agrees) (rw c.kind_at.ensures.value refl)

pub returns-in-Err-clause-row : goal.returns-in-Err-clause-row
returns-in-Err-clause-row g c = λ tracks regs go told agrees.
    let next : ℕ → Row = λ word. go (kind_in word (c.args.at % 10)) in
    search_other _ _ _ _ regs next go c.in-Err.miss (c.in-Err.ensures.row tracks regs next told agrees)
