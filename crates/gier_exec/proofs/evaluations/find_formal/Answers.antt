use Rattle.std.proofs.Common.{length, ◌∙◌}
use Rattle.gier_names.specs.Evaluations.{number_of}
use Rattle.gier_order.specs.Flat.Rows.{evaluates}
use Rattle.gier_exec.specs.Rows.{regs_of, code_in}
use Rattle.gier_exec.specs.Beginning.{evaluation_row}
use Rattle.gier_exec.proofs.FrameReads.{led}
use Rattle.gier_exec.proofs.Searches.{search_as, search_refused}
use Rattle.gier_exec.proofs.evaluations.find_formal.Goals as goal

pub returns-in-Err-clause-row : goal.returns-in-Err-clause-row
returns-in-Err-clause-row g c = λ tracks m input told agrees entered is.
    let size = length c.args.frames.now.words in
    let regs = regs_of m c.args.frames.now input in
    search_refused _ _ _ regs (λ found. evaluation_row (code_in tracks c.args.object.now) size regs found) c.in-Err.stop
    (c.in-Err.ensures.row (code_in tracks c.args.object.now) input m c.args.order.level c.args.order.address entered is)

pub returns-in-Err-read_pair-clause-row : goal.returns-in-Err-read_pair-clause-row
returns-in-Err-read_pair-clause-row g c = λ tracks m input told agrees entered is.
    let code = code_in tracks c.args.object.now in
    let size = length c.args.frames.now.words in
    let regs = regs_of m c.args.frames.now input in
    search_refused _ _ _ regs (λ found. evaluation_row code size regs found) c.in-Err-read_pair.stop (led _ _ c.in-Err-read_pair.stop
    (c.in-Ok.ensures.row code input m c.args.order.level c.args.order.address entered is)
    (c.in-Err-read_pair.ensures.row code input m (λ k outer. evaluates code size regs k outer (number_of c.in-Ok.wanted)) entered))

pub returns-clause-row : goal.returns-clause-row
returns-clause-row g c = λ tracks m input told agrees entered is.
    let code = code_in tracks c.args.object.now in
    let size = length c.args.frames.now.words in
    let regs = regs_of m c.args.frames.now input in
    search_as _ _ _ _ _ regs (λ found. evaluation_row code size regs found) c.find_thunk.result
    (c.in-Ok.ensures.row code input m c.args.order.level c.args.order.address entered is
    ∙ c.in-Ok-read_pair.ensures.row code input m (λ k outer. evaluates code size regs k outer (number_of c.in-Ok.wanted)) entered)
    (c.find_thunk.ensures.row tracks size regs told agrees)
