use Rattle.gier_exec.proofs.Callings.{call_other}
use Rattle.gier_exec.proofs.calls.find.Goals as goal

pub returns-in-Call-clause-row : goal.returns-in-Call-clause-row
returns-in-Call-clause-row g c = λ tracks input told agrees entered is. rw c.in-Call.is (c.find_procedure.ensures.row tracks input told agrees entered)

pub returns-in-Formal-clause-row : goal.returns-in-Formal-clause-row
returns-in-Formal-clause-row g c = λ tracks input told agrees entered is. rw c.in-Formal.is (c.find_formal.ensures.row tracks input told agrees entered)

pub returns-in_default-clause-row : goal.returns-in_default-clause-row
returns-in_default-clause-row g c = λ tracks input told agrees entered is.
    rw (call_other c.args.operation c.in_default.not-Call c.in_default.not-Formal is) (c.find_compared.ensures.row tracks input told agrees entered)
