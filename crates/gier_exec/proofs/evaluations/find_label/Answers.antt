use Rattle.std.proofs.Common.{arith, ◌∙◌}
use Rattle.gier_order.specs.Flat.Rows.{evaluates}
use Rattle.gier_exec.specs.Rows.{code_in}
use Rattle.gier_exec.specs.Beginning.{evaluation_row}
use Rattle.gier_exec.proofs.Readings.{reads_joined}
use Rattle.gier_exec.proofs.Searches.{search_then}
use Rattle.gier_exec.proofs.Evaluatings.{search_word, search_missed, agrees_behind}
use Rattle.gier_exec.proofs.evaluations.find_label.Goals as goal

pub returns-clause-reads : goal.returns-clause-reads
returns-clause-reads g c = reads_joined 1 1 2 _ _ _ _ c.fetch.ensures.reads c.find_thunk.ensures.reads (omega arith)

pub returns-in-Err-clause-row : goal.returns-in-Err-clause-row
returns-in-Err-clause-row g c = λ tracks size regs told agrees.
    let code = code_in tracks c.args.object.now in
    search_missed _ _ _ _ regs (λ address. evaluates code size regs address c.args.outer 3) (λ found. evaluation_row code size regs found) c.args.entry c.in-Err.miss c.in-Err.ensures.refers
    (c.in-Err.ensures.row tracks told agrees (λ address. evaluates code size regs address c.args.outer 3))

pub returns-clause-row : goal.returns-clause-row
returns-clause-row g c = λ tracks size regs told agrees.
    let code = code_in tracks c.args.object.now in
    search_then _ _ _ _ _ regs (λ address. evaluates code size regs address c.args.outer 3) c.in-Ok.address (λ found. evaluation_row code size regs found) c.find_thunk.result c.in-Ok.ensures.reads.places
    (search_word _ _ _ _ regs (λ address. evaluates code size regs address c.args.outer 3) c.args.entry c.in-Ok.address c.in-Ok.ensures.refers (c.in-Ok.ensures.row tracks told agrees (λ address. evaluates code size regs address c.args.outer 3)))
    (c.find_thunk.ensures.row tracks size regs (c.in-Ok.ensures.reads.tracks ∙ told) (agrees_behind _ _ _ _ tracks c.in-Ok.ensures.refers told c.in-Ok.ensures.reads.tracks agrees))
