use Rattle.std.proofs.Common.{◌≡◌, true, OnOk, subst}
use Rattle.gier_io.specs.Device.{Puts}
use Rattle.gier_job.specs.Tails.{table_tail}
use Rattle.gier_job.proofs.TailsAskedFor.{ok_asked}
use Rattle.gier_job.proofs.running.put_misses.Goals as goal

pub returns-clause-put : goal.returns-clause-put
returns-clause-put g c = λ tracks counts.
    let asked : c.args.command.now.table ≡ true = c.if-not-command.false in
    ok_asked c.put_table.result c.args.command.now.table _ (g.K.Sink.holds c.args.out.now) (g.K.Sink.holds c.put_table.new.out) asked
    (subst (λ table. OnOk c.put_table.result (Puts (g.K.Sink.holds c.args.out.now) (table_tail table) (g.K.Sink.holds c.put_table.new.out))) (c.misses.ensures tracks counts) c.put_table.ensures.put)
