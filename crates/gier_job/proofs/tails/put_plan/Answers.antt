use Rattle.std.proofs.Common.{◌++◌, codes}
use Rattle.gier_io.specs.View.{sink_view}
use Rattle.gier_io.proofs.Prints.{puts_behind, fails_before}
use Rattle.gier_job.specs.Tails.{moves_text}
use Rattle.gier_job.proofs.tails.put_plan.Goals as goal

pub returns-in_err-put_moves : goal.returns-in_err-put_moves
returns-in_err-put_moves g c =
    let view = sink_view g.K.Sink.holds g.K.Sink.faults in
    fails_before (moves_text c.args.trace.now.plan) (codes "\n") (view c.args.out.now) (view c.put_moves.new.out) c.in_err-put_moves.field-0.0 c.from_residual.result c.from_residual.ensures.0
    c.in_err-put_moves.ensures

pub returns : goal.returns
returns g c =
    let view = sink_view g.K.Sink.holds g.K.Sink.faults in
    let first = c.in_ok-put_moves.ensures in
    puts_behind (moves_text c.args.trace.now.plan) (codes "\n") (view c.args.out.now) (view c.put_moves.new.out) (view c.put.new.self) c.put.result
    first.put first.cause.later (record { put = c.put.ensures.put; part = c.put.ensures.part; cause = c.put.ensures.cause })
