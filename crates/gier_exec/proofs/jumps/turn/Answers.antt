use Rattle.std.proofs.Common.{length, sym, ◌∙◌}
use Rattle.gier_exec.specs.Rows.{regs_of}
use Rattle.gier_exec.proofs.RowResults.{refused_halts, comes_halts}
use Rattle.gier_exec.proofs.Refusings.{some_of}
use Rattle.gier_exec.proofs.TurnRow.{turns, turn_lost, turn_no_step, turn_goes}
use Rattle.gier_exec.proofs.jumps.turn.Goals as goal

pub returns-in-Err-clause-row : goal.returns-in-Err-clause-row
returns-in-Err-clause-row c = λ code input l entered same.
    let regs = regs_of c.args.m.now c.args.frames.now input in
    refused_halts _ _ c.in-Err.stop (c.in-Err.ensures.row code input c.args.m.now (turns code (length c.args.frames.now.words) regs) entered)

pub returns-in-Err-address_of-clause-row : goal.returns-in-Err-address_of-clause-row
returns-in-Err-address_of-clause-row c = λ code input l entered same.
    let regs = regs_of c.args.m.now c.args.frames.now input in
    let size = length c.args.frames.now.words in
    comes_halts _ _ regs c.in-Err-address_of.stop (c.in-Ok.ensures.row code input c.args.m.now (turns code size regs) entered)
    (turn_lost code size regs c.in-Ok.word c.args.words c.in-Err-address_of.stop same (sym c.in-Err-address_of.is ∙ c.address_of.ensures.found))

pub returns-then-steps_left-eq0-clause-row : goal.returns-then-steps_left-eq0-clause-row
returns-then-steps_left-eq0-clause-row c = λ code input l entered same.
    let regs = regs_of c.args.m.now c.args.frames.now input in
    let size = length c.args.frames.now.words in
    c.in-Ok.ensures.row code input c.args.m.now (turns code size regs) entered
    ∙ turn_no_step code size regs c.in-Ok.word c.args.words c.in-Ok-address_of.next same (sym c.in-Ok-address_of.is ∙ c.address_of.ensures.found) (sym c.steps_left.ensures ∙ c.if-steps_left-eq0.true)

pub returns-clause-row : goal.returns-clause-row
returns-clause-row c = λ code input l entered same.
    let regs = regs_of c.args.m.now c.args.frames.now input in
    let size = length c.args.frames.now.words in
    rw c.charge.ensures (c.in-Ok.ensures.row code input c.args.m.now (turns code size regs) entered
    ∙ turn_goes code size regs c.in-Ok.word c.args.words c.in-Ok-address_of.next same (sym c.in-Ok-address_of.is ∙ c.address_of.ensures.found) (some_of _ _ c.steps_left.ensures c.if-steps_left-eq0.false))
