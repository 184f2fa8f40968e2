use Rattle.std.proofs.Common.{ℕ, ◌+◌, Ok, Err, length, ◌∙◌}
use Rattle.gier_order.specs.Flat.Row.{Row}
use Rattle.gier_order.specs.Flat.Rows.{word_at, reads_order, calls_bare}
use Rattle.gier_order.specs.Flat.Kinds.{formals_handed}
use Rattle.gier_exec.specs.Rows.{regs_of, code_in}
use Rattle.gier_exec.specs.Calling.{entry_row}
use Rattle.gier_exec.specs.declared.stop.Miss.TheVariants.{Stop as Stopped}
use Rattle.gier_exec.specs.declared.activations.Entry.{Entry}
use Rattle.gier_exec.proofs.FrameReads.{led}
use Rattle.gier_exec.proofs.Searches.{search_as, search_refused, search_other, search_found, search_stops, refused_stops}
use Rattle.gier_exec.proofs.calls.find_formal.Goals as goal

pub returns-in-Err-clause-row : goal.returns-in-Err-clause-row
returns-in-Err-clause-row g c = λ tracks input told agrees entered.
    let code = code_in tracks c.args.object.now in
    let size = length c.args.frames.now.words in
    let m = c.args.m.now in
    let regs = regs_of m c.args.frames.now input in
    let at : ℕ → ℕ → Row = λ place k. reads_order code size regs k (λ head. calls_bare code size regs k (place + 1) head (formals_handed head)) in
    search_refused _ _ _ regs (entry_row code size regs) c.in-Err.stop (c.in-Err.ensures.row code input m (λ place. word_at code size regs place (λ k. at place k)) entered)

pub returns-in-Err-read-clause-row : goal.returns-in-Err-read-clause-row
returns-in-Err-read-clause-row g c = λ tracks input told agrees entered.
    let code = code_in tracks c.args.object.now in
    let size = length c.args.frames.now.words in
    let m = c.args.m.now in
    let regs = regs_of m c.args.frames.now input in
    let at : ℕ → ℕ → Row = λ place k. reads_order code size regs k (λ head. calls_bare code size regs k (place + 1) head (formals_handed head)) in
    search_refused _ _ _ regs (entry_row code size regs) c.in-Err-read.stop
    (led _ _ c.in-Err-read.stop (c.in-Ok.ensures.row code input m (λ place. word_at code size regs place (λ k. at place k)) entered)
    (c.in-Err-read.ensures.row code input m (λ k. at c.in-Ok.place k) entered))

pub returns-in-Err-find_bare-clause-row : goal.returns-in-Err-find_bare-clause-row
returns-in-Err-find_bare-clause-row g c = λ tracks input told agrees entered.
    let code = code_in tracks c.args.object.now in
    let size = length c.args.frames.now.words in
    let m = c.args.m.now in
    let regs = regs_of m c.args.frames.now input in
    let at : ℕ → ℕ → Row = λ place k. reads_order code size regs k (λ head. calls_bare code size regs k (place + 1) head (formals_handed head)) in
    let found : Entry → Row = λ e. word_at code size regs (c.in-Ok.place + 1) (λ outer. entry_row code size regs (record e { outer = outer })) in
    search_as _ _ _ _ _ regs (entry_row code size regs) (Err c.in-Err-find_bare.miss)
    (c.in-Ok.ensures.row code input m (λ place. word_at code size regs place (λ k. at place k)) entered ∙ c.in-Ok-read.ensures.row code input m (λ k. at c.in-Ok.place k) entered)
    (search_other _ _ _ _ regs found (entry_row code size regs) c.in-Err-find_bare.miss (c.in-Err-find_bare.ensures.row tracks size regs (c.in-Ok.place + 1) told agrees))

pub returns-in-Ok-read-2-clause-row : goal.returns-in-Ok-read-2-clause-row
returns-in-Ok-read-2-clause-row g c = λ tracks input told agrees entered.
    let code = code_in tracks c.args.object.now in
    let size = length c.args.frames.now.words in
    let m = c.args.m.now in
    let regs = regs_of m c.args.frames.now input in
    let e = c.in-Ok-find_bare.entry in
    let at : ℕ → ℕ → Row = λ place k. reads_order code size regs k (λ head. calls_bare code size regs k (place + 1) head (formals_handed head)) in
    let found : Entry → Row = λ e. word_at code size regs (c.in-Ok.place + 1) (λ outer. entry_row code size regs (record e { outer = outer })) in
    let made : Entry = record e { outer = c.in-Ok-read-2.outer } in
    search_as _ _ _ _ _ regs (entry_row code size regs) (Ok made)
    (c.in-Ok.ensures.row code input m (λ place. word_at code size regs place (λ k. at place k)) entered ∙ c.in-Ok-read.ensures.row code input m (λ k. at c.in-Ok.place k) entered)
    (search_found _ _ _ _ regs found e (entry_row code size regs) made (c.in-Ok-find_bare.ensures.row tracks size regs (c.in-Ok.place + 1) told agrees)
    (c.in-Ok-read-2.ensures.row code input m (λ outer. entry_row code size regs (record e { outer = outer })) entered))

pub returns-in-Err-read-2-clause-row : goal.returns-in-Err-read-2-clause-row
returns-in-Err-read-2-clause-row g c = λ tracks input told agrees entered.
    let code = code_in tracks c.args.object.now in
    let size = length c.args.frames.now.words in
    let m = c.args.m.now in
    let regs = regs_of m c.args.frames.now input in
    let e = c.in-Ok-find_bare.entry in
    let at : ℕ → ℕ → Row = λ place k. reads_order code size regs k (λ head. calls_bare code size regs k (place + 1) head (formals_handed head)) in
    let found : Entry → Row = λ e. word_at code size regs (c.in-Ok.place + 1) (λ outer. entry_row code size regs (record e { outer = outer })) in
    search_as _ _ _ _ _ regs (entry_row code size regs) (Err (Stopped c.in-Err-read-2.stop))
    (c.in-Ok.ensures.row code input m (λ place. word_at code size regs place (λ k. at place k)) entered ∙ c.in-Ok-read.ensures.row code input m (λ k. at c.in-Ok.place k) entered)
    (search_stops _ _ _ _ regs found e (entry_row code size regs) c.in-Err-read-2.stop (c.in-Ok-find_bare.ensures.row tracks size regs (c.in-Ok.place + 1) told agrees)
    (refused_stops _ regs c.in-Err-read-2.stop (c.in-Err-read-2.ensures.row code input m (λ outer. entry_row code size regs (record e { outer = outer })) entered)))
