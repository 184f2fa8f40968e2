use Rattle.std.proofs.Common.{◌++◌, codes, decimal}
use Rattle.gier_io.specs.View.{sink_view}
use Rattle.gier_io.proofs.Prints.{puts_behind, fails_before}
use Rattle.gier_job.proofs.printing.put_wrong_word.Goals as goal

pub returns-in_err-put_named : goal.returns-in_err-put_named
returns-in_err-put_named g c =
    let view = sink_view g.K.Sink.holds g.K.Sink.faults in
    fails_before (codes "\n*** word " ++ decimal c.args.number) (codes "\n") (view c.args.out.now) (view c.put_named.new.out) c.in_err-put_named.field-0.0 c.from_residual.result c.from_residual.ensures.0
    (rw c.from.ensures at c.in_err-put_named.ensures)

pub returns : goal.returns
returns g c =
    let view = sink_view g.K.Sink.holds g.K.Sink.faults in
    let first = rw c.from.ensures at c.in_ok-put_named.ensures in
    puts_behind (codes "\n*** word " ++ decimal c.args.number) (codes "\n") (view c.args.out.now) (view c.put_named.new.out) (view c.put.new.self) c.put.result
    first.put first.cause.later (record { put = c.put.ensures.put; part = c.put.ensures.part; cause = c.put.ensures.cause })
