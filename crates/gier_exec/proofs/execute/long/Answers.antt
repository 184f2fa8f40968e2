use Rattle.std.proofs.Common.{◌+◌, [], ◌∷◌, length, ap, sym, ◌∙◌}
use Rattle.gier_exec.specs.Rows.{regs_of, code_in}
use Rattle.gier_exec.proofs.Referrings.{length_code}
use Rattle.gier_exec.proofs.Longs.{long_missed, long_lost, long_goes}
use Rattle.gier_exec.proofs.execute.long.Goals as goal

pub returns-in-Err-clause-row : goal.returns-in-Err-clause-row
returns-in-Err-clause-row g c = λ tracks input s l a told agrees.
    ([], c.in-Err.ensures.refers, long_missed (code_in tracks c.args.object.now) (length s.words) (regs_of c.args.m.now s input) l a c.behind.result c.in-Err.miss c.behind.ensures.value (c.in-Err.ensures.row tracks told agrees))

pub returns-in-Err-ahead-clause-row : goal.returns-in-Err-ahead-clause-row
returns-in-Err-ahead-clause-row g c = λ tracks input s l a told agrees. (
  c.behind.result ∷ [],
  c.in-Ok.ensures.refers,
  long_lost (code_in tracks c.args.object.now) (length s.words) (regs_of c.args.m.now s input) l a c.behind.result (c.behind-2.result + 1) c.args.object.now.words c.in-Ok.word c.in-Err-ahead.stop
      c.behind.ensures.value (ap (λ n. n + 1) c.behind-2.ensures.value) (length_code tracks c.args.object.now) (c.in-Ok.ensures.row tracks told agrees) (sym c.in-Err-ahead.is ∙ c.ahead.ensures.value),
)

pub returns-in-Ok-ahead-clause-row : goal.returns-in-Ok-ahead-clause-row
returns-in-Ok-ahead-clause-row g c = λ tracks input s l a told agrees. (
  c.behind.result ∷ [],
  c.in-Ok.ensures.refers,
  rw c.set_r.ensures (long_goes (code_in tracks c.args.object.now) (length s.words) (regs_of c.args.m.now s input) l a c.behind.result (c.behind-2.result + 1) c.args.object.now.words c.in-Ok.word c.in-Ok-ahead.next
      c.behind.ensures.value (ap (λ n. n + 1) c.behind-2.ensures.value) (length_code tracks c.args.object.now) (c.in-Ok.ensures.row tracks told agrees) (sym c.in-Ok-ahead.is ∙ c.ahead.ensures.value)),
)
