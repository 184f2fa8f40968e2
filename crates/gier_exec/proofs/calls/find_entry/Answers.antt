use Rattle.std.proofs.Common.{ℕ, ◌≡◌, ◌+◌, ◌&&◌, [], ◌∷◌, true, false, nat_le, nat_lt, length, ap, arith, ◌∙◌}
use Rattle.std.proofs.lemmas.Bool.Decides.{nat_tests}
use Rattle.gier_order.specs.Flat.Row.{Row, needs, behind_ref}
use Rattle.gier_exec.specs.Rows.{code_in}
use Rattle.gier_exec.specs.declared.activations.Entry.{Entry}
use Rattle.gier_exec.proofs.Referrings.{length_code}
use Rattle.gier_exec.proofs.Searches.{finds_missed, needs_yes, needs_no}
use Rattle.gier_exec.proofs.calls.find_entry.Goals.{then-count-from-via-then-count-from, then-count-from-via-else-count-from+then-next-from}
use Rattle.gier_exec.proofs.calls.find_entry.Goals as goal

pub returns-in-Err-clause-row : goal.returns-in-Err-clause-row
returns-in-Err-clause-row g c = λ tracks size regs go told agrees.
    let code = code_in tracks c.args.object.now in
    let next : ℕ → Row = λ count. needs (nat_le count c.args.most && nat_lt (c.args.address + 2) (length code)) (go count) in
    ([], c.in-Err.ensures.refers, finds_missed _ (c.args.address + 1) regs next (λ (e : Entry). go e.count) c.in-Err.miss (c.in-Err.ensures.row tracks told agrees next))

pub returns-clause-row : goal.returns-clause-row
returns-clause-row g c = λ tracks size regs go told agrees.
    let code = code_in tracks c.args.object.now in
    let next : ℕ → Row = λ count. needs (nat_le count c.args.most && nat_lt (c.args.address + 2) (length code)) (go count) in
    let long = length_code tracks c.args.object.now in
    let yes : (nat_le c.in-Ok.count c.args.most && nat_lt (c.args.address + 2) (length code)) ≡ true = grind (arith, nat_tests, long, c.if-count-from.false, c.if-next-from.false, c.from.ensures, c.from-else-count-from.ensures) in
    ((c.args.address + 1) ∷ [], c.in-Ok.ensures.refers, c.in-Ok.ensures.row tracks told agrees next ∙ ap (λ r. behind_ref (c.args.address + 1) r) (needs_yes _ (go c.in-Ok.count) yes))

pub returns-then-count-from-clause-row : goal.returns-then-count-from-clause-row
returns-then-count-from-clause-row g c = λ tracks size regs go told agrees.
    let code = code_in tracks c.args.object.now in
    let next : ℕ → Row = λ count. needs (nat_le count c.args.most && nat_lt (c.args.address + 2) (length code)) (go count) in
    let long = length_code tracks c.args.object.now in
    let no : (nat_le c.in-Ok.count c.args.most && nat_lt (c.args.address + 2) (length code)) ≡ false = elim c.then-count-from.branch [
      | then-count-from-via-then-count-from w ↦ grind (arith, nat_tests, w.if-count-from.true, c.from.ensures)
      | then-count-from-via-else-count-from+then-next-from w ↦ grind (arith, nat_tests, long, w.if-next-from.true, w.from-else-count-from.ensures)
    ] in
    ((c.args.address + 1) ∷ [], c.in-Ok.ensures.refers, c.in-Ok.ensures.row tracks told agrees next ∙ ap (λ r. behind_ref (c.args.address + 1) r) (needs_no _ (go c.in-Ok.count) no))
