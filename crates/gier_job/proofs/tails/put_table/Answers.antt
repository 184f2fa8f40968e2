use Rattle.std.proofs.Common.{◌++◌, codes}
use Rattle.gier_io.specs.View.{sink_view}
use Rattle.gier_io.proofs.Prints.{puts_behind, fails_before}
use Rattle.gier_job.specs.Tails.{numbers_text}
use Rattle.gier_job.proofs.tails.put_table.Goals as goal

pub returns-in_err-put : goal.returns-in_err-put
returns-in_err-put g c =
    let view = sink_view g.K.Sink.holds g.K.Sink.faults in
    fails_before (codes "\n*** table") (numbers_text c.args.misses.now ++ codes "\n") (view c.args.out.now) (view c.put.new.self) c.in_err-put.field-0.0 c.from_residual.result c.from_residual.ensures.0
    (record { put = tt; part = c.in_err-put.ensures.part; cause = c.in_err-put.ensures.cause })

pub returns : goal.returns
returns g c =
    let view = sink_view g.K.Sink.holds g.K.Sink.faults in
    puts_behind (codes "\n*** table") (numbers_text c.args.misses.now ++ codes "\n") (view c.args.out.now) (view c.put.new.self) (view c.put_row.new.out) c.put_row.result
    c.in_ok-put.ensures.put c.put.ensures.cause.later c.put_row.ensures
