use Rattle.std.proofs.Common.{◌<◌, arith, length, add-one}
use Rattle.gier_io.specs.View.{sink_view}
use Rattle.gier_io.proofs.Prints.{fails_behind}
use Rattle.gier_job.specs.Tails.{move_text, moves_text}
use Rattle.gier_job.proofs.Rows.{put_told, part_told}
use Rattle.gier_job.proofs.tails.put_moves.Goals as goal

pub returns-in_err-put_move : goal.returns-in_err-put_move
returns-in_err-put_move g c =
    let view = sink_view g.K.Sink.holds g.K.Sink.faults in
    let lt : c.loop-at.at < length c.args.trace.now.plan = omega (arith, c.loop-at-test.true, c.requires) in
    fails_behind (moves_text c.args.trace.now.plan) (view c.args.out.now) (view c.loop-at.out) (view c.put_move.new.out) c.in_err-put_move.field-0.0 c.from_residual.result c.from_residual.ensures.0 c.loop-at.invariant.later
    (part_told move_text c.args.trace.now.plan c.loop-at.at c.entry.result (g.K.Sink.holds c.args.out.now) (g.K.Sink.holds c.loop-at.out) (g.K.Sink.holds c.put_move.new.out) c.entry.ensures lt c.loop-at.invariant.put c.in_err-put_move.ensures.part)
    c.in_err-put_move.ensures.cause

pub loop-at-preserved : goal.loop-at-preserved
loop-at-preserved g c =
    let lt : c.loop-at.at < length c.args.trace.now.plan = omega (arith, c.loop-at-test.true, c.requires) in
    record {
      put = rw add-one (put_told move_text c.args.trace.now.plan c.loop-at.at c.entry.result (g.K.Sink.holds c.args.out.now) (g.K.Sink.holds c.loop-at.out) (g.K.Sink.holds c.put_move.new.out) c.entry.ensures lt c.loop-at.invariant.put c.in_ok-put_move.ensures.put);
      later = omega (arith, c.loop-at.invariant.later, c.put_move.ensures.cause.later);
    }
