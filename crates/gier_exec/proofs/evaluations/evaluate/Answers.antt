use Rattle.std.proofs.Common.{length}
use Rattle.gier_exec.specs.Rows.{regs_of, code_in}
use Rattle.gier_exec.specs.Beginning.{evaluation_row}
use Rattle.gier_exec.proofs.Searches.{search_acts, search_goes, search_halts}
use Rattle.gier_exec.proofs.evaluations.evaluate.Goals as goal

pub returns-in-Err-clause-row : goal.returns-in-Err-clause-row
returns-in-Err-clause-row g c = λ tracks input told agrees entered is.
    let size = length c.args.frames.now.words in
    let regs = regs_of c.args.m.now c.args.frames.now input in
    search_acts _ _ _ _ regs (λ found. evaluation_row (code_in tracks c.args.object.now) size regs found) c.in-Err.miss (c.in-Err.ensures.row tracks c.args.m.now input told agrees entered is)

pub returns-in-Ok-enter_evaluation-clause-row : goal.returns-in-Ok-enter_evaluation-clause-row
returns-in-Ok-enter_evaluation-clause-row g c = λ tracks input told agrees entered is.
    let size = length c.args.frames.now.words in
    let regs = regs_of c.args.m.now c.args.frames.now input in
    search_goes _ _ _ _ regs (regs_of c.enter_evaluation.new.m c.enter_evaluation.new.frames input) (λ found. evaluation_row (code_in tracks c.args.object.now) size regs found) c.in-Ok.found c.in-Ok-enter_evaluation.next
    (c.in-Ok.ensures.row tracks c.args.m.now input told agrees entered is) (c.in-Ok-enter_evaluation.ensures.row (code_in tracks c.args.object.now) input entered)

pub returns-in-Err-enter_evaluation-clause-row : goal.returns-in-Err-enter_evaluation-clause-row
returns-in-Err-enter_evaluation-clause-row g c = λ tracks input told agrees entered is.
    let size = length c.args.frames.now.words in
    let regs = regs_of c.args.m.now c.args.frames.now input in
    search_halts _ _ _ _ regs (regs_of c.enter_evaluation.new.m c.enter_evaluation.new.frames input) (λ found. evaluation_row (code_in tracks c.args.object.now) size regs found) c.in-Ok.found c.in-Err-enter_evaluation.stop
    (c.in-Ok.ensures.row tracks c.args.m.now input told agrees entered is) (c.in-Err-enter_evaluation.ensures.row (code_in tracks c.args.object.now) input entered)
