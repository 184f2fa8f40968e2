use Rattle.std.proofs.Common.{length}
use Rattle.gier_exec.specs.Rows.{regs_of, code_in}
use Rattle.gier_exec.specs.Calling.{entry_row}
use Rattle.gier_exec.proofs.Searches.{search_acts, search_goes, search_halts}
use Rattle.gier_exec.proofs.calls.call.Goals as goal

pub returns-in-Err-clause-row : goal.returns-in-Err-clause-row
returns-in-Err-clause-row g c = λ tracks input told agrees entered is.
    let code = code_in tracks c.args.object.now in
    let size = length c.args.frames.now.words in
    let regs = regs_of c.args.m.now c.args.frames.now input in
    search_acts _ _ _ _ regs (entry_row code size regs) c.in-Err.miss (c.in-Err.ensures.row tracks input told agrees entered is)

pub returns-in-Ok-enter_procedure-clause-row : goal.returns-in-Ok-enter_procedure-clause-row
returns-in-Ok-enter_procedure-clause-row g c = λ tracks input told agrees entered is.
    let code = code_in tracks c.args.object.now in
    let size = length c.args.frames.now.words in
    let regs = regs_of c.args.m.now c.args.frames.now input in
    search_goes _ _ _ _ regs (regs_of c.enter_procedure.new.m c.enter_procedure.new.frames input) (entry_row code size regs) c.in-Ok.entry c.in-Ok-enter_procedure.next (c.in-Ok.ensures.row tracks input told agrees entered is)
    (c.in-Ok-enter_procedure.ensures.row code input entered c.in-Ok.ensures.callable)

pub returns-in-Err-enter_procedure-clause-row : goal.returns-in-Err-enter_procedure-clause-row
returns-in-Err-enter_procedure-clause-row g c = λ tracks input told agrees entered is.
    let code = code_in tracks c.args.object.now in
    let size = length c.args.frames.now.words in
    let regs = regs_of c.args.m.now c.args.frames.now input in
    search_halts _ _ _ _ regs (regs_of c.enter_procedure.new.m c.enter_procedure.new.frames input) (entry_row code size regs) c.in-Ok.entry c.in-Err-enter_procedure.stop (c.in-Ok.ensures.row tracks input told agrees entered is)
    (c.in-Err-enter_procedure.ensures.row code input entered c.in-Ok.ensures.callable)
