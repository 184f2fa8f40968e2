use Rattle.std.proofs.Common.{◌++◌, codes, decimal, OnOk, subst}
use Rattle.gier_io.specs.Device.{Puts}
use Rattle.gier_job.proofs.mortem.put_shape.Goals as goal

pub returns-in-Procedure-clause-put : goal.returns-in-Procedure-clause-put
returns-in-Procedure-clause-put g c =
    rw c.in-Procedure.is (subst (λ n. OnOk c.put_named.result (Puts (g.K.Sink.holds c.args.out.now) (codes "\n*** procedure line " ++ decimal n) (g.K.Sink.holds c.put_named.new.out))) c.from.ensures c.put_named.ensures.put)
