use Rattle.std.proofs.Common.{◌<◌, arith, length, add-one}
use Rattle.gier_io.specs.View.{sink_view}
use Rattle.gier_io.proofs.Prints.{fails_behind}
use Rattle.gier_job.specs.Tails.{number_text, numbers_text}
use Rattle.gier_job.proofs.Rows.{put_more, part_of_row}
use Rattle.gier_job.proofs.tails.put_numbers.Goals as goal

pub returns-in_err-put_named : goal.returns-in_err-put_named
returns-in_err-put_named g c =
    let view = sink_view g.K.Sink.holds g.K.Sink.faults in
    let lt : c.loop-number.number-index < length c.args.numbers.now = omega (arith, c.loop-number-test.true, c.loop-number.auto.number-index-end) in
    fails_behind (numbers_text c.args.numbers.now) (view c.args.out.now) (view c.loop-number.out) (view c.put_named.new.out) c.in_err-put_named.field-0.0 c.from_residual.result c.from_residual.ensures.0 c.loop-number.invariant.later
    (part_of_row number_text c.args.numbers.now c.loop-number.number-index _ (g.K.Sink.holds c.args.out.now) (g.K.Sink.holds c.loop-number.out) (g.K.Sink.holds c.put_named.new.out) lt c.loop-number.invariant.put c.in_err-put_named.ensures.part)
    c.in_err-put_named.ensures.cause

pub loop-number-preserved : goal.loop-number-preserved
loop-number-preserved g c =
    let lt : c.loop-number.number-index < length c.args.numbers.now = omega (arith, c.loop-number-test.true, c.loop-number.auto.number-index-end) in
    record {
      put = rw add-one (put_more number_text c.args.numbers.now c.loop-number.number-index _ (g.K.Sink.holds c.args.out.now) (g.K.Sink.holds c.loop-number.out) (g.K.Sink.holds c.put_named.new.out) lt c.loop-number.invariant.put c.in_ok-put_named.ensures.put);
      later = omega (arith, c.loop-number.invariant.later, c.put_named.ensures.cause.later);
    }
