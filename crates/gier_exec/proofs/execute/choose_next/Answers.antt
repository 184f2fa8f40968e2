use Rattle.gier_exec.proofs.WholeOrders.{back_is}
use Rattle.gier_exec.proofs.execute.choose_next.Goals as goal

pub returns-in-Jump-clause-row : goal.returns-in-Jump-clause-row
returns-in-Jump-clause-row c = λ code input entered same is. rw c.in-Jump.is (c.jump.ensures.row code input c.args.frames.now same)

pub returns-in-False-clause-row : goal.returns-in-False-clause-row
returns-in-False-clause-row c = λ code input entered same is. rw c.in-False.is (c.jump_if_false.ensures.row code input c.args.frames.now c.args.order.level same)

pub returns-in-Turn-clause-row : goal.returns-in-Turn-clause-row
returns-in-Turn-clause-row c = λ code input entered same is. rw c.in-Turn.is (c.turn.ensures.row code input c.args.order.level entered same)

pub returns-in-Go-clause-row : goal.returns-in-Go-clause-row
returns-in-Go-clause-row c = λ code input entered same is. rw c.in-Go.is (c.go.ensures.row code input c.args.order.level c.args.order.address entered same)

pub returns-in-Return-clause-row : goal.returns-in-Return-clause-row
returns-in-Return-clause-row c = λ code input entered same is. rw c.in-Return.is (c.leave_procedure.ensures.row code input c.args.order.level entered same)

pub returns-in-Give-clause-row : goal.returns-in-Give-clause-row
returns-in-Give-clause-row c = λ code input entered same is. rw c.in-Give.is (c.leave_variable.ensures.row code input c.args.order.level c.args.order.address entered same)

pub returns-in_default-clause-row : goal.returns-in_default-clause-row
returns-in_default-clause-row c = λ code input entered same is.
    rw (back_is c.args.operation c.in_default.not-Jump c.in_default.not-False c.in_default.not-Turn c.in_default.not-Go c.in_default.not-Return c.in_default.not-Give is)
    (c.leave_evaluation.ensures.row code input c.args.order.level c.args.order.address entered same)
