use Rattle.std.proofs.Common.{[], refl}
use Rattle.gier_exec.proofs.Pagers.{same_pager}
use Rattle.gier_exec.proofs.Readings.{reads_nothing}
use Rattle.gier_exec.proofs.Referrings.{refers_none, length_code}
use Rattle.gier_exec.proofs.WholeOrders.{NotListed, NotEvaluating, plain_of, entered_of, jump_of, evaluation_of, choice_of, head_odd}
use Rattle.gier_exec.proofs.Callings.{call_of}
use Rattle.gier_exec.proofs.execute.dispatch.Goals as goal

pub returns-in-Jump-clause-row : goal.returns-in-Jump-clause-row
returns-in-Jump-clause-row g c = λ tracks input told agrees there.
    let jump = jump_of c.args.operation c.in-Jump.is in
    ([], refers_none _ _, c.move_on.ensures.row _ input (entered_of _ c.args.operation jump.1 there) (length_code tracks c.args.object.now) jump.0)

pub returns-in-Value-clause-row : goal.returns-in-Value-clause-row
returns-in-Value-clause-row g c = λ tracks input told agrees there.
    let evaluation = evaluation_of c.args.operation c.in-Value.is in
    c.evaluate.ensures.row tracks input told agrees (entered_of _ c.args.operation evaluation.1 there) evaluation.0

pub returns-in-Switch-clause-row : goal.returns-in-Switch-clause-row
returns-in-Switch-clause-row g c = λ tracks input told agrees there.
    let choice = choice_of c.args.operation c.in-Switch.is in
    c.choose.ensures.row tracks input told agrees (entered_of _ c.args.operation choice.1 there) choice.0

pub returns-in-Proc-clause-row : goal.returns-in-Proc-clause-row
returns-in-Proc-clause-row g c = λ tracks input told agrees there.
    ([], refers_none _ _, head_odd _ _ _ c.args.operation c.args.order.level c.args.order.address c.in-Proc.is)

pub returns-in-Call-clause-row : goal.returns-in-Call-clause-row
returns-in-Call-clause-row g c = λ tracks input told agrees there.
    let call = call_of c.args.operation c.in-Call.is in
    c.call.ensures.row tracks input told agrees (entered_of _ c.args.operation call.1 there) call.0

pub returns-in-Long-clause-row : goal.returns-in-Long-clause-row
returns-in-Long-clause-row g c = λ tracks input told agrees there.
    rw c.in-Long.is (c.long.ensures.row tracks input c.args.frames.now c.args.order.level c.args.order.address told agrees)

pub returns-in-Agree-clause-row : goal.returns-in-Agree-clause-row
returns-in-Agree-clause-row g c = λ tracks input told agrees there.
    rw c.in-Agree.is (c.compare.ensures.row tracks input told agrees (entered_of _ c.args.operation (rw c.in-Agree.is (λ e. absurd cc)) there))

pub returns-in-ByVal-clause-row : goal.returns-in-ByVal-clause-row
returns-in-ByVal-clause-row g c = λ tracks input told agrees there.
    rw c.in-ByVal.is (c.look_at_kind.ensures.row tracks input told agrees (entered_of _ c.args.operation (rw c.in-ByVal.is (λ e. absurd cc)) there))

pub returns-in-Stop-clause-row : goal.returns-in-Stop-clause-row
returns-in-Stop-clause-row g c = λ tracks input told agrees there. ([], refers_none _ _, rw c.in-Stop.is refl)

pub returns-in_default : goal.returns-in_default
returns-in_default g c =
    let others : NotListed c.args.operation = (c.in_default.not-Long, c.in_default.not-Stop, c.in_default.not-Proc, c.in_default.not-Thunk, c.in_default.not-Kinds, c.in_default.not-Jump, c.in_default.not-False, c.in_default.not-Turn, c.in_default.not-Go, (c.in_default.not-Call, c.in_default.not-Formal, c.in_default.not-CallF, c.in_default.not-Agree, c.in_default.not-ByVal)) in
    let outside : NotEvaluating c.args.operation = (c.in_default.not-Return, c.in_default.not-Back, c.in_default.not-Give, c.in_default.not-Value, c.in_default.not-Place, c.in_default.not-NameL, c.in_default.not-Pass, c.in_default.not-Switch, c.in_default.not-SwForm) in
    record {
      row = λ tracks input told agrees there.
          ([], refers_none _ _, c.go_on.ensures.row _ input there (length_code tracks c.args.object.now) (plain_of c.args.operation others outside c.requires.other));
      obeys = c.go_on.ensures.obeys;
      reads = reads_nothing _ _ _;
      pager = record { same = same_pager _; failed = λ e. absurd (c.go_on.ensures.homely e) };
    }
