use Rattle.std.proofs.Common.{◌≡◌, ◌+◌, Ok, Err, arith, refl}
use Rattle.gier_names.specs.Evaluations.{number_of}
use Rattle.gier_exec.specs.Rows.{code_in}
use Rattle.gier_order.specs.Flat.Row.{odd}
use Rattle.gier_exec.specs.declared.stop.Stop.TheVariants.{Odd}
use Rattle.gier_exec.specs.declared.stop.Miss.TheVariants.{Stop as Stopped}
use Rattle.gier_exec.specs.declared.activations.Evaluation.{Evaluation}
use Rattle.gier_exec.specs.Beginning.{evaluation_row}
use Rattle.gier_exec.proofs.Referrings.{length_code}
use Rattle.gier_exec.proofs.Searches.{search_as, search_other, search_stops, search_found}
use Rattle.gier_exec.proofs.Evaluatings.{thunk_go, thunk_row, thunk_level, thunk_last, thunk_found}
use Rattle.gier_exec.proofs.evaluations.find_thunk.Goals.{then-thunk-gt-LAST_KIND-via-then-thunk-gt-LAST_KIND, then-thunk-gt-LAST_KIND-via-else-thunk-gt-LAST_KIND+then-next-from}
use Rattle.gier_exec.proofs.evaluations.find_thunk.Goals as goal

pub returns-in-Err-clause-row : goal.returns-in-Err-clause-row
returns-in-Err-clause-row g c = λ tracks size regs told agrees.
    let code = code_in tracks c.args.object.now in
    let go = thunk_go code size regs c.args.address c.args.outer (number_of c.args.wanted) in
    search_as _ _ _ _ _ regs (λ found. evaluation_row code size regs found) (Err c.in-Err.miss) (thunk_row code size regs c.args.address c.args.outer (number_of c.args.wanted))
    (search_other _ _ _ _ regs go (λ found. evaluation_row code size regs found) c.in-Err.miss (c.in-Err.ensures.row tracks size regs go told agrees))

pub returns-then-thunk-gt-LAST_KIND-clause-row : goal.returns-then-thunk-gt-LAST_KIND-clause-row
returns-then-thunk-gt-LAST_KIND-clause-row g c = λ tracks size regs told agrees.
    let code = code_in tracks c.args.object.now in
    let wanted = number_of c.args.wanted in
    let go = thunk_go code size regs c.args.address c.args.outer wanted in
    let long = length_code tracks c.args.object.now in
    let none : go c.in-Ok.thunk ≡ odd = elim c.then-thunk-gt-LAST_KIND.branch [
      | then-thunk-gt-LAST_KIND-via-then-thunk-gt-LAST_KIND w ↦ thunk_level code size regs c.args.address c.args.outer wanted c.in-Ok.thunk w.if-thunk-gt-LAST_KIND.true
      | then-thunk-gt-LAST_KIND-via-else-thunk-gt-LAST_KIND+then-next-from w ↦ thunk_last code size regs c.args.address c.args.outer wanted c.in-Ok.thunk (omega (arith, long, w.from.ensures, w.if-next-from.true))
    ] in
    search_as _ _ _ _ _ regs (λ found. evaluation_row code size regs found) (Err (Stopped Odd)) (thunk_row code size regs c.args.address c.args.outer wanted)
    (search_stops _ _ _ _ regs go c.in-Ok.thunk (λ found. evaluation_row code size regs found) Odd (c.in-Ok.ensures.row tracks size regs go told agrees) none)

pub returns-clause-row : goal.returns-clause-row
returns-clause-row g c = λ tracks size regs told agrees.
    let code = code_in tracks c.args.object.now in
    let wanted = number_of c.args.wanted in
    let go = thunk_go code size regs c.args.address c.args.outer wanted in
    let long = length_code tracks c.args.object.now in
    let found : Evaluation = record { thunk = c.in-Ok.thunk; outer = c.args.outer; wanted = c.args.wanted; next = c.args.address + 1 } in
    search_as _ _ _ _ _ regs (λ found. evaluation_row code size regs found) (Ok found) (thunk_row code size regs c.args.address c.args.outer wanted)
    (search_found _ _ _ _ regs go c.in-Ok.thunk (λ found. evaluation_row code size regs found) found (c.in-Ok.ensures.row tracks size regs go told agrees)
    (thunk_found code size regs c.args.address found c.if-thunk-gt-LAST_KIND.false (omega (arith, long, c.from.ensures, c.if-next-from.false)) refl))
