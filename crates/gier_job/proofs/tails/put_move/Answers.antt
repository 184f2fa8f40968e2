use Rattle.std.proofs.Common.{◌++◌, codes, decimal}
use Rattle.gier_io.specs.View.{sink_view}
use Rattle.gier_io.proofs.Prints.{puts_behind, fails_before}
use Rattle.gier_job.proofs.tails.put_move.Goals as goal

pub returns-in_err-put_named : goal.returns-in_err-put_named
returns-in_err-put_named g c =
    let view = sink_view g.K.Sink.holds g.K.Sink.faults in
    fails_before (codes " " ++ decimal c.args.transfer.0) (codes "/" ++ decimal c.args.transfer.1) (view c.args.out.now) (view c.put_named.new.out) c.in_err-put_named.field-0.0 c.from_residual.result c.from_residual.ensures.0
    (rw c.from.ensures at c.in_err-put_named.ensures)

pub returns : goal.returns
returns g c =
    let view = sink_view g.K.Sink.holds g.K.Sink.faults in
    let first = rw c.from.ensures at c.in_ok-put_named.ensures in
    puts_behind (codes " " ++ decimal c.args.transfer.0) (codes "/" ++ decimal c.args.transfer.1) (view c.args.out.now) (view c.put_named.new.out) (view c.put_named-2.new.out) c.put_named-2.result
    first.put first.cause.later (rw c.from-2.ensures at c.put_named-2.ensures)
