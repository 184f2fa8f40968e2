use Rattle.std.proofs.Common.{length}
use Rattle.gier_exec.specs.Rows.{regs_of, code_in}
use Rattle.gier_exec.specs.Beginning.{choice_row}
use Rattle.gier_exec.proofs.Referrings.{length_code}
use Rattle.gier_exec.proofs.Searches.{search_acts, search_goes, search_halts}
use Rattle.gier_exec.proofs.evaluations.choose.Goals as goal

pub returns-in-Err-clause-row : goal.returns-in-Err-clause-row
returns-in-Err-clause-row g c = λ tracks input told agrees entered is.
    let size = length c.args.frames.now.words in
    let regs = regs_of c.args.m.now c.args.frames.now input in
    search_acts _ _ _ _ regs (λ chosen. choice_row (code_in tracks c.args.object.now) size regs chosen) c.in-Err.miss (c.in-Err.ensures.row tracks input told agrees entered is)

pub returns-in-Ok-enter_chosen-clause-row : goal.returns-in-Ok-enter_chosen-clause-row
returns-in-Ok-enter_chosen-clause-row g c = λ tracks input told agrees entered is.
    let size = length c.args.frames.now.words in
    let regs = regs_of c.args.m.now c.args.frames.now input in
    search_goes _ _ _ _ regs (regs_of c.enter_chosen.new.m c.enter_chosen.new.frames input) (λ chosen. choice_row (code_in tracks c.args.object.now) size regs chosen) c.in-Ok.found c.in-Ok-enter_chosen.next
    (c.in-Ok.ensures.row tracks input told agrees entered is) (c.in-Ok-enter_chosen.ensures.row (code_in tracks c.args.object.now) input entered (length_code tracks c.args.object.now))

pub returns-in-Err-enter_chosen-clause-row : goal.returns-in-Err-enter_chosen-clause-row
returns-in-Err-enter_chosen-clause-row g c = λ tracks input told agrees entered is.
    let size = length c.args.frames.now.words in
    let regs = regs_of c.args.m.now c.args.frames.now input in
    search_halts _ _ _ _ regs (regs_of c.enter_chosen.new.m c.enter_chosen.new.frames input) (λ chosen. choice_row (code_in tracks c.args.object.now) size regs chosen) c.in-Ok.found c.in-Err-enter_chosen.stop
    (c.in-Ok.ensures.row tracks input told agrees entered is) (c.in-Err-enter_chosen.ensures.row (code_in tracks c.args.object.now) input entered (length_code tracks c.args.object.now))
