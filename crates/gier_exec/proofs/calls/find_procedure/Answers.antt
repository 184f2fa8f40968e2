use Rattle.std.proofs.Common.{ℕ, ◌+◌, Ok, Err, length, refl, ap, sym, ◌∙◌}
use Rattle.gier_order.specs.Flat.Row.{Row}
use Rattle.gier_order.specs.Flat.Rows.{enters, reads_procedure}
use Rattle.gier_exec.specs.Rows.{regs_of, code_in}
use Rattle.gier_exec.specs.Calling.{entry_row}
use Rattle.gier_exec.specs.declared.stop.Miss.TheVariants.{Stop as Stopped}
use Rattle.gier_exec.specs.declared.activations.Entry.{Entry}
use Rattle.gier_exec.proofs.FrameReads.{led, base_only}
use Rattle.gier_exec.proofs.Searches.{search_as, search_other, search_found, search_stops, refused_stops}
use Rattle.gier_exec.proofs.Callings.{call_go, call_made, call_enters}
use Rattle.gier_exec.proofs.calls.find_procedure.Goals as goal

pub returns-in-Err-clause-row : goal.returns-in-Err-clause-row
returns-in-Err-clause-row g c = λ tracks input told agrees entered.
    let code = code_in tracks c.args.object.now in
    let size = length c.args.frames.now.words in
    let regs = regs_of c.args.m.now c.args.frames.now input in
    let l = c.args.order.level in
    let a = c.args.order.address in
    let at = ap (λ n. reads_procedure code size regs n (call_go code size regs l a)) (sym c.from.ensures) in
    search_as _ _ _ _ _ regs (entry_row code size regs) (Err c.in-Err.miss) at (search_other _ _ _ _ regs (λ (e : Entry). call_made code size regs l a e.level e.room e.count) (entry_row code size regs) c.in-Err.miss
    (c.in-Err.ensures.row tracks size regs (call_go code size regs l a) (call_made code size regs l a) (λ head count. refl) told agrees))

pub returns-in-Ok-place_of-clause-row : goal.returns-in-Ok-place_of-clause-row
returns-in-Ok-place_of-clause-row g c = λ tracks input told agrees entered.
    let code = code_in tracks c.args.object.now in
    let size = length c.args.frames.now.words in
    let m = c.args.m.now in
    let regs = regs_of m c.args.frames.now input in
    let l = c.args.order.level in
    let a = c.args.order.address in
    let e = c.in-Ok.entry in
    let go : ℕ → Row = λ outer. enters code size regs e.level e.room outer (regs.base + regs.r) e.count (a + 2) in
    let made : Entry = record e { outer = c.in-Ok-place_of.outer; from = c.actuals_from.result } in
    let at = ap (λ n. reads_procedure code size regs n (call_go code size regs l a)) (sym c.from.ensures) in
    search_as _ _ _ _ _ regs (entry_row code size regs) (Ok made) at (search_found _ _ _ _ regs (λ (e : Entry). call_made code size regs l a e.level e.room e.count) e (entry_row code size regs) made
    (c.in-Ok.ensures.row tracks size regs (call_go code size regs l a) (call_made code size regs l a) (λ head count. refl) told agrees)
    (base_only code input m c.args.frames.now l go ∙ c.in-Ok-place_of.ensures.row code input m go entered
    ∙ call_enters code size regs e a c.in-Ok-place_of.outer c.actuals_from.result (c.in-Ok.ensures.head.next ∙ ap (λ n. n + 2) c.from.ensures) (rw (sym c.r.ensures.value) c.actuals_from.ensures)))

pub returns-in-Err-place_of-clause-row : goal.returns-in-Err-place_of-clause-row
returns-in-Err-place_of-clause-row g c = λ tracks input told agrees entered.
    let code = code_in tracks c.args.object.now in
    let size = length c.args.frames.now.words in
    let m = c.args.m.now in
    let regs = regs_of m c.args.frames.now input in
    let l = c.args.order.level in
    let a = c.args.order.address in
    let e = c.in-Ok.entry in
    let go : ℕ → Row = λ outer. enters code size regs e.level e.room outer (regs.base + regs.r) e.count (a + 2) in
    let at = ap (λ n. reads_procedure code size regs n (call_go code size regs l a)) (sym c.from.ensures) in
    search_as _ _ _ _ _ regs (entry_row code size regs) (Err (Stopped c.in-Err-place_of.stop)) at (search_stops _ _ _ _ regs (λ (e : Entry). call_made code size regs l a e.level e.room e.count) e (entry_row code size regs) c.in-Err-place_of.stop
    (c.in-Ok.ensures.row tracks size regs (call_go code size regs l a) (call_made code size regs l a) (λ head count. refl) told agrees)
    (refused_stops _ regs c.in-Err-place_of.stop (led _ _ c.in-Err-place_of.stop (base_only code input m c.args.frames.now l go) (c.in-Err-place_of.ensures.row code input m go entered))))
