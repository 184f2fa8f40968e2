use Rattle.gier_io.specs.View.{sink_view}
use Rattle.gier_io.proofs.Prints.{puts_behind, fails_before}
use Rattle.gier_io.proofs.pieces.put_both.Goals as goal

pub returns-in_err-put : goal.returns-in_err-put
returns-in_err-put g c =
    let view = sink_view g.K.Sink.holds g.K.Sink.faults in
    fails_before c.args.first.now c.args.second.now (view c.args.out.now) (view c.put.new.self) c.in_err-put.field-0.0 c.from_residual.result c.from_residual.ensures.0
    (record { put = tt; part = c.in_err-put.ensures.part; cause = c.in_err-put.ensures.cause })

pub returns : goal.returns
returns g c =
    let view = sink_view g.K.Sink.holds g.K.Sink.faults in
    puts_behind c.args.first.now c.args.second.now (view c.args.out.now) (view c.put.new.self) (view c.put-2.new.self) c.put-2.result
    c.in_ok-put.ensures.put c.put.ensures.cause.later (record { put = c.put-2.ensures.put; part = c.put-2.ensures.part; cause = c.put-2.ensures.cause })
