use Rattle.std.proofs.Common.{◌≡◌, ◌+◌, Ok, Err, refl, ap, sym, arith, ◌∙◌}
use Rattle.gier_order.specs.Flat.Row.{Row}
use Rattle.gier_order.specs.Flat.Rows.{word_at, reads_procedure, calls_kinded}
use Rattle.gier_order.specs.Flat.Kinds.{Kinded, Handed}
use Rattle.gier_order.specs.declared.order.Order.{Order}
use Rattle.gier_exec.specs.declared.stop.Stop.TheVariants.{Odd}
use Rattle.gier_exec.specs.declared.stop.Miss.TheVariants.{Stop as Stopped}
use Rattle.gier_exec.specs.declared.activations.Entry.{Entry}
use Rattle.gier_exec.specs.Rows.{code_in}
use Rattle.gier_exec.specs.Calling.{entry_row}
use Rattle.gier_exec.proofs.Readings.{reads_joined}
use Rattle.gier_exec.proofs.SearchReach.{search_told}
use Rattle.gier_exec.proofs.Searches.{search_as, search_other, search_then, search_found, search_stops}
use Rattle.gier_exec.proofs.Callings.{kinded_go, kinded_made, kinded_is, kinded_other}
use Rattle.gier_exec.proofs.calls.find_kinded.Goals as goal

pub returns-in-Err-clause-row : goal.returns-in-Err-clause-row
returns-in-Err-clause-row g c = λ tracks size regs place told agrees.
    let code = code_in tracks c.args.object.now in
    let found : Entry → Row = λ e. word_at code size regs place (λ outer. entry_row code size regs (record e { outer = outer; from = regs.r })) in
    let go : Order → Handed → Row = λ head what. calls_kinded code size regs place head what in
    search_other _ _ _ _ regs (λ (kinds : Order). go kinds (Kinded kinds.level)) found c.in-Err.miss (c.in-Err.ensures.row tracks size regs go (λ head. refl) (λ head. refl) told agrees)

pub returns-in-Err-find_head-clause-row : goal.returns-in-Err-find_head-clause-row
returns-in-Err-find_head-clause-row g c = λ tracks size regs place told agrees.
    let code = code_in tracks c.args.object.now in
    let kinds = c.in-Ok.kinds in
    let a = kinds.address in
    let found : Entry → Row = λ e. word_at code size regs place (λ outer. entry_row code size regs (record e { outer = outer; from = regs.r })) in
    let go : Order → Handed → Row = λ head what. calls_kinded code size regs place head what in
    let first_go : Order → Row = λ kinds. go kinds (Kinded kinds.level) in
    let first = c.in-Ok.ensures.row tracks size regs go (λ head. refl) (λ head. refl) told agrees in
    let told_then = c.fetch_kinds.ensures.reads.tracks ∙ told in
    let agrees_then = search_told _ _ _ _ regs first_go (Ok kinds) tracks first c.fetch_kinds.ensures.reads.tracks told agrees in
    let made_go : Entry → Row = λ e. kinded_made code size regs place a kinds.level e.level e.room e.count in
    let at : reads_procedure code size regs a (kinded_go code size regs place a kinds.level) ≡ reads_procedure code size regs c.from.result (kinded_go code size regs place a kinds.level) =
    ap (λ n. reads_procedure code size regs n (kinded_go code size regs place a kinds.level)) (sym c.from.ensures) in
    search_then _ _ _ _ _ regs first_go kinds found (Err c.in-Err-find_head.miss) c.fetch_kinds.ensures.reads.places first
    (search_as _ _ _ _ _ regs found (Err c.in-Err-find_head.miss) at (search_other _ _ _ _ regs made_go found c.in-Err-find_head.miss
    (c.in-Err-find_head.ensures.row tracks size regs (kinded_go code size regs place a kinds.level) (kinded_made code size regs place a kinds.level) (λ head count. refl) told_then agrees_then)))

pub returns-then-entry-from-clause-row : goal.returns-then-entry-from-clause-row
returns-then-entry-from-clause-row g c = λ tracks size regs place told agrees.
    let code = code_in tracks c.args.object.now in
    let kinds = c.in-Ok.kinds in
    let a = kinds.address in
    let found : Entry → Row = λ e. word_at code size regs place (λ outer. entry_row code size regs (record e { outer = outer; from = regs.r })) in
    let go : Order → Handed → Row = λ head what. calls_kinded code size regs place head what in
    let first_go : Order → Row = λ kinds. go kinds (Kinded kinds.level) in
    let first = c.in-Ok.ensures.row tracks size regs go (λ head. refl) (λ head. refl) told agrees in
    let told_then = c.fetch_kinds.ensures.reads.tracks ∙ told in
    let agrees_then = search_told _ _ _ _ regs first_go (Ok kinds) tracks first c.fetch_kinds.ensures.reads.tracks told agrees in
    let made_go : Entry → Row = λ e. kinded_made code size regs place a kinds.level e.level e.room e.count in
    let at : reads_procedure code size regs a (kinded_go code size regs place a kinds.level) ≡ reads_procedure code size regs c.from.result (kinded_go code size regs place a kinds.level) =
    ap (λ n. reads_procedure code size regs n (kinded_go code size regs place a kinds.level)) (sym c.from.ensures) in
    let e = c.in-Ok-find_head.entry in
    search_then _ _ _ _ _ regs first_go kinds found (Ok e) c.fetch_kinds.ensures.reads.places first
    (search_as _ _ _ _ _ regs found (Ok e) at (search_found _ _ _ _ regs made_go e found e
    (c.in-Ok-find_head.ensures.row tracks size regs (kinded_go code size regs place a kinds.level) (kinded_made code size regs place a kinds.level) (λ head count. refl) told_then agrees_then)
    (kinded_is code size regs place a kinds.level e (c.in-Ok-find_head.ensures.head.next ∙ ap (λ n. n + 2) c.from.ensures) (c.if-entry-from.true ∙ c.from-2.ensures))))

pub returns-else-entry-from-clause-row : goal.returns-else-entry-from-clause-row
returns-else-entry-from-clause-row g c = λ tracks size regs place told agrees.
    let code = code_in tracks c.args.object.now in
    let kinds = c.in-Ok.kinds in
    let a = kinds.address in
    let found : Entry → Row = λ e. word_at code size regs place (λ outer. entry_row code size regs (record e { outer = outer; from = regs.r })) in
    let go : Order → Handed → Row = λ head what. calls_kinded code size regs place head what in
    let first_go : Order → Row = λ kinds. go kinds (Kinded kinds.level) in
    let first = c.in-Ok.ensures.row tracks size regs go (λ head. refl) (λ head. refl) told agrees in
    let told_then = c.fetch_kinds.ensures.reads.tracks ∙ told in
    let agrees_then = search_told _ _ _ _ regs first_go (Ok kinds) tracks first c.fetch_kinds.ensures.reads.tracks told agrees in
    let made_go : Entry → Row = λ e. kinded_made code size regs place a kinds.level e.level e.room e.count in
    let at : reads_procedure code size regs a (kinded_go code size regs place a kinds.level) ≡ reads_procedure code size regs c.from.result (kinded_go code size regs place a kinds.level) =
    ap (λ n. reads_procedure code size regs n (kinded_go code size regs place a kinds.level)) (sym c.from.ensures) in
    let e = c.in-Ok-find_head.entry in
    search_then _ _ _ _ _ regs first_go kinds found (Err (Stopped Odd)) c.fetch_kinds.ensures.reads.places first
    (search_as _ _ _ _ _ regs found (Err (Stopped Odd)) at (search_stops _ _ _ _ regs made_go e found Odd
    (c.in-Ok-find_head.ensures.row tracks size regs (kinded_go code size regs place a kinds.level) (kinded_made code size regs place a kinds.level) (λ head count. refl) told_then agrees_then)
    (kinded_other code size regs place a kinds.level e (λ same. c.if-entry-from.false (same ∙ sym c.from-2.ensures)))))

pub returns-in-Err-find_head-clause-reads : goal.returns-in-Err-find_head-clause-reads
returns-in-Err-find_head-clause-reads g c = reads_joined 1 2 3 _ _ _ _ c.fetch_kinds.ensures.reads c.find_head.ensures.reads (omega arith)

pub returns-then-entry-from-clause-reads : goal.returns-then-entry-from-clause-reads
returns-then-entry-from-clause-reads g c = reads_joined 1 2 3 _ _ _ _ c.fetch_kinds.ensures.reads c.find_head.ensures.reads (omega arith)

pub returns-else-entry-from-clause-reads : goal.returns-else-entry-from-clause-reads
returns-else-entry-from-clause-reads g c = reads_joined 1 2 3 _ _ _ _ c.fetch_kinds.ensures.reads c.find_head.ensures.reads (omega arith)
