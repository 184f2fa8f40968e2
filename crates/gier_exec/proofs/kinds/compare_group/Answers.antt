use Rattle.std.proofs.Common.{ℕ, Ok, Err, arith, ap, sym, ◌∙◌}
use Rattle.std.specs.Prelude.{if◌then◌else◌}
use Rattle.gier_word.specs.declared.alarm.Alarm.TheVariants.{Parameters}
use Rattle.gier_order.specs.Flat.Row.{Row, Alarmed, Ends, plain, needs, reads}
use Rattle.gier_order.specs.Flat.Kinds.{is_packed, all_fit}
use Rattle.gier_exec.specs.Rows.{code_in}
use Rattle.gier_exec.specs.declared.stop.Stop.TheVariants.{Alarm as AlarmStop}
use Rattle.gier_exec.specs.declared.stop.Miss.TheVariants.{Stop as Stopped}
use Rattle.gier_exec.proofs.Readings.{reads_joined}
use Rattle.gier_exec.proofs.SearchReach.{search_told}
use Rattle.gier_exec.proofs.Searches.{search_other, search_then, search_found, search_stops}
use Rattle.gier_exec.proofs.kinds.compare_group.Goals as goal

pub returns-in-Err-clause-row : goal.returns-in-Err-clause-row
returns-in-Err-clause-row g c = λ tracks regs next told agrees.
    let code = code_in tracks c.args.object.now in
    let after : ℕ → ℕ → Row = λ wanted given. if all_fit wanted given then next else plain (Ends (Alarmed Parameters) regs) in
    let first : ℕ → Row = λ wanted. reads code c.args.actuals (λ given. needs (is_packed 3 c.args.left given) (after wanted given)) in
    search_other _ _ _ _ regs first (λ (done : Unit {0}). next) c.in-Err.miss (c.in-Err.ensures.row tracks regs first told agrees)

pub returns-in-Err-fetch_packed-clause-row : goal.returns-in-Err-fetch_packed-clause-row
returns-in-Err-fetch_packed-clause-row g c = λ tracks regs next told agrees.
    let code = code_in tracks c.args.object.now in
    let after : ℕ → ℕ → Row = λ wanted given. if all_fit wanted given then next else plain (Ends (Alarmed Parameters) regs) in
    let first : ℕ → Row = λ wanted. reads code c.args.actuals (λ given. needs (is_packed 3 c.args.left given) (after wanted given)) in
    let found = c.in-Ok.ensures.row tracks regs first told agrees in
    let agrees_then = search_told _ _ _ _ regs first (Ok c.in-Ok.word) tracks found c.fetch_packed.ensures.reads.tracks told agrees in
    search_then _ _ _ _ _ regs first c.in-Ok.word (λ (done : Unit {0}). next) (Err c.in-Err-fetch_packed.miss) c.fetch_packed.ensures.reads.places found
    (search_other _ _ _ _ regs (after c.in-Ok.word) (λ (done : Unit {0}). next) c.in-Err-fetch_packed.miss (c.in-Err-fetch_packed.ensures.row tracks regs (after c.in-Ok.word) (c.fetch_packed.ensures.reads.tracks ∙ told) agrees_then))

pub returns-then-fit-clause-row : goal.returns-then-fit-clause-row
returns-then-fit-clause-row g c = λ tracks regs next told agrees.
    let code = code_in tracks c.args.object.now in
    let after : ℕ → ℕ → Row = λ wanted given. if all_fit wanted given then next else plain (Ends (Alarmed Parameters) regs) in
    let first : ℕ → Row = λ wanted. reads code c.args.actuals (λ given. needs (is_packed 3 c.args.left given) (after wanted given)) in
    let found = c.in-Ok.ensures.row tracks regs first told agrees in
    let agrees_then = search_told _ _ _ _ regs first (Ok c.in-Ok.word) tracks found c.fetch_packed.ensures.reads.tracks told agrees in
    search_then _ _ _ _ _ regs first c.in-Ok.word (λ (done : Unit {0}). next) (Ok tt) c.fetch_packed.ensures.reads.places found
    (search_found _ _ _ _ regs (after c.in-Ok.word) c.in-Ok-fetch_packed.word (λ (done : Unit {0}). next) tt (c.in-Ok-fetch_packed.ensures.row tracks regs (after c.in-Ok.word) (c.fetch_packed.ensures.reads.tracks ∙ told) agrees_then)
    (ap (λ b. if b then next else plain (Ends (Alarmed Parameters) regs)) (sym c.fit.ensures ∙ c.if-fit.true)))

pub returns-else-fit-clause-row : goal.returns-else-fit-clause-row
returns-else-fit-clause-row g c = λ tracks regs next told agrees.
    let code = code_in tracks c.args.object.now in
    let after : ℕ → ℕ → Row = λ wanted given. if all_fit wanted given then next else plain (Ends (Alarmed Parameters) regs) in
    let first : ℕ → Row = λ wanted. reads code c.args.actuals (λ given. needs (is_packed 3 c.args.left given) (after wanted given)) in
    let found = c.in-Ok.ensures.row tracks regs first told agrees in
    let agrees_then = search_told _ _ _ _ regs first (Ok c.in-Ok.word) tracks found c.fetch_packed.ensures.reads.tracks told agrees in
    search_then _ _ _ _ _ regs first c.in-Ok.word (λ (done : Unit {0}). next) (Err (Stopped (AlarmStop Parameters))) c.fetch_packed.ensures.reads.places found
    (search_stops _ _ _ _ regs (after c.in-Ok.word) c.in-Ok-fetch_packed.word (λ (done : Unit {0}). next) (AlarmStop Parameters) (c.in-Ok-fetch_packed.ensures.row tracks regs (after c.in-Ok.word) (c.fetch_packed.ensures.reads.tracks ∙ told) agrees_then)
    (ap (λ b. if b then next else plain (Ends (Alarmed Parameters) regs)) (sym c.fit.ensures ∙ c.if-fit.false)))

pub returns-in-Err-fetch_packed-clause-reads : goal.returns-in-Err-fetch_packed-clause-reads
returns-in-Err-fetch_packed-clause-reads g c = reads_joined 1 1 2 _ _ _ _ c.fetch_packed.ensures.reads c.fetch_packed-2.ensures.reads (omega arith)

pub returns-then-fit-clause-reads : goal.returns-then-fit-clause-reads
returns-then-fit-clause-reads g c = reads_joined 1 1 2 _ _ _ _ c.fetch_packed.ensures.reads c.fetch_packed-2.ensures.reads (omega arith)

pub returns-else-fit-clause-reads : goal.returns-else-fit-clause-reads
returns-else-fit-clause-reads g c = reads_joined 1 1 2 _ _ _ _ c.fetch_packed.ensures.reads c.fetch_packed-2.ensures.reads (omega arith)
