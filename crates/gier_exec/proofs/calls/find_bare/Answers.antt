use Rattle.std.proofs.Common.{◌≡◌, Ok, ap, sym, arith, ◌∙◌}
use Rattle.gier_order.specs.Flat.Row.{Row}
use Rattle.gier_order.specs.Flat.Rows.{calls_bare}
use Rattle.gier_order.specs.Flat.Kinds.{Bare, formals_handed}
use Rattle.gier_order.specs.declared.order.Order.{Order}
use Rattle.gier_word.specs.declared.alarm.Alarm.TheVariants.{Parameters}
use Rattle.gier_exec.specs.declared.stop.Stop.TheVariants.{Alarm as AlarmStop, Odd}
use Rattle.gier_exec.specs.Rows.{code_in}
use Rattle.gier_exec.proofs.Readings.{reads_joined}
use Rattle.gier_exec.proofs.SearchReach.{search_told}
use Rattle.gier_exec.proofs.Searches.{search_as, search_other, search_then, search_stops}
use Rattle.gier_exec.proofs.Callings.{bare_of, kinded_of, neither_of, bare_go, bare_entering, search_bare}
use Rattle.gier_exec.proofs.calls.find_bare.Goals as goal

pub returns-in-Err-clause-row : goal.returns-in-Err-clause-row
returns-in-Err-clause-row g c = λ tracks size regs place told agrees.
    let code = code_in tracks c.args.object.now in
    let next : Order → Row = λ head. calls_bare code size regs c.args.address place head (formals_handed head) in
    search_other _ _ _ _ regs next (bare_entering code size regs place) c.in-Err.miss (c.in-Err.ensures.row tracks size regs next told agrees)

pub returns-in-Ok-None-clause-row : goal.returns-in-Ok-None-clause-row
returns-in-Ok-None-clause-row g c = λ tracks size regs place told agrees.
    let code = code_in tracks c.args.object.now in
    let head = c.in-Ok.head in
    let k = c.args.address in
    let next : Order → Row = λ head. calls_bare code size regs k place head (formals_handed head) in
    let first = c.in-Ok.ensures.row tracks size regs next told agrees in
    let bare : formals_handed head ≡ Bare = bare_of (formals_handed head) (sym c.formals_of.ensures.value ∙ c.in-Ok-None.is ∙ ap Ok c.in-Ok-None.field-0-is) in
    search_then _ _ _ _ _ regs next head (bare_entering code size regs place) c.find_entry.result c.fetch_order.ensures.reads.places first
    (search_as _ _ _ _ _ regs (bare_entering code size regs place) c.find_entry.result (ap (λ what. calls_bare code size regs k place head what) bare)
    (search_bare _ _ _ code size regs place k head _ c.find_entry.result c.find_entry.ensures.level c.find_entry.ensures.room c.find_entry.ensures.head
    (c.find_entry.ensures.row tracks size regs (bare_go code size regs place k head) (c.fetch_order.ensures.reads.tracks ∙ told) (search_told _ _ _ _ regs next (Ok head) tracks first c.fetch_order.ensures.reads.tracks told agrees))))

pub returns-in-Ok-Some-clause-row : goal.returns-in-Ok-Some-clause-row
returns-in-Ok-Some-clause-row g c = λ tracks size regs place told agrees.
    let code = code_in tracks c.args.object.now in
    let head = c.in-Ok.head in
    let next : Order → Row = λ head. calls_bare code size regs c.args.address place head (formals_handed head) in
    let kinded = kinded_of (formals_handed head) _ (sym c.formals_of.ensures.value ∙ c.in-Ok-Some.is ∙ ap Ok c.in-Ok-Some.field-0-is) in
    search_stops _ _ _ _ regs next head (bare_entering code size regs place) (AlarmStop Parameters) (c.in-Ok.ensures.row tracks size regs next told agrees)
    (ap (λ what. calls_bare code size regs c.args.address place head what) kinded)

pub returns-in-Err-formals_of-clause-row : goal.returns-in-Err-formals_of-clause-row
returns-in-Err-formals_of-clause-row g c = λ tracks size regs place told agrees.
    let code = code_in tracks c.args.object.now in
    let head = c.in-Ok.head in
    let next : Order → Row = λ head. calls_bare code size regs c.args.address place head (formals_handed head) in
    let neither = neither_of (formals_handed head) c.in-Err-formals_of.stop (sym c.formals_of.ensures.value ∙ c.in-Err-formals_of.is) in
    rw neither.1 (search_stops _ _ _ _ regs next head (bare_entering code size regs place) Odd (c.in-Ok.ensures.row tracks size regs next told agrees)
    (ap (λ what. calls_bare code size regs c.args.address place head what) neither.0))

pub returns-in-Ok-None-clause-reads : goal.returns-in-Ok-None-clause-reads
returns-in-Ok-None-clause-reads g c = reads_joined 1 1 2 _ _ _ _ c.fetch_order.ensures.reads c.find_entry.ensures.reads (omega arith)
