use Rattle.std.proofs.Common.{◌∙◌, length, rules, refl, ap, sym}
use Rattle.gier_library.specs.DataView.{source_of, stand_of}
use Rattle.gier_library.proofs.ReadsInOrder.{takes_nothing}
use Rattle.gier_exec.specs.Reading.{view_of}
use Rattle.gier_runner.specs.RunInvariant.{devices, parts}
use Rattle.gier_runner.proofs.Numbers.{next_counts}
use Rattle.gier_runner.proofs.OrdersTogether.{reads_begin, reads_more, sizes_begin, sizes_more}
use Rattle.gier_runner.proofs.RunSteps.{now}
use Rattle.gier_runner.proofs.WordsOfRun.{goes_first, goes_flat, runs_flat}
use Rattle.gier_runner.proofs.orders.run_orders.Goals as goal

-- src/orders.rt:51:13
pub returns-in-Some-clause-sizes : goal.returns-in-Some-clause-sizes
returns-in-Some-clause-sizes g c = sizes_more c.args.object.now.words _ (parts c.loop-ending.m c.loop-ending.frames c.loop-ending.places c.loop-ending.trace) _ c.loop-ending.invariant.2
    c.step_order-turn.ensures.steps c.step_order-turn.ensures.frames c.step_order-turn.ensures.places c.step_order-turn.ensures.trace c.step_order-turn.ensures.noted

-- src/orders.rt:51:13
pub returns-in-Some-clause-reads : goal.returns-in-Some-clause-reads
returns-in-Some-clause-reads g c = reads_more _ (devices g.D.Drum.room g.D.Drum.tracks g.D.Drum.journal g.D.Drum.faults g.S.Source.faults g.K.Sink.faults c.loop-ending.drum (source_of c.loop-ending.input) c.loop-ending.out) _ c.loop-ending.invariant.3
    c.step_order-turn.ensures.room c.step_order-turn.ensures.tracks c.step_order-turn.ensures.journal
    c.step_order-turn.ensures.drum_later c.step_order-turn.ensures.source_later c.step_order-turn.ensures.sink_later

-- src/orders.rt:46:5
pub loop-ending-preserved : goal.loop-ending-preserved
loop-ending-preserved g c = (
  search rules,
  next_counts c.args.object.now.words c.loop-ending.m c.step_order-turn.new.m c.loop-ending.recent c.step_order-turn.new.recent c.loop-ending.places c.step_order-turn.new.places c.loop-ending.invariant.1
      (search rules) c.step_order-turn.ensures.references c.step_order-turn.ensures.transfers,
  sizes_more c.args.object.now.words _ (parts c.loop-ending.m c.loop-ending.frames c.loop-ending.places c.loop-ending.trace) _ c.loop-ending.invariant.2
      c.step_order-turn.ensures.steps c.step_order-turn.ensures.frames c.step_order-turn.ensures.places c.step_order-turn.ensures.trace c.step_order-turn.ensures.noted,
  reads_more _ (devices g.D.Drum.room g.D.Drum.tracks g.D.Drum.journal g.D.Drum.faults g.S.Source.faults g.K.Sink.faults c.loop-ending.drum (source_of c.loop-ending.input) c.loop-ending.out) _ c.loop-ending.invariant.3
      c.step_order-turn.ensures.room c.step_order-turn.ensures.tracks c.step_order-turn.ensures.journal
      c.step_order-turn.ensures.drum_later c.step_order-turn.ensures.source_later c.step_order-turn.ensures.sink_later,
  search rules,
  goes_flat (length c.args.frames.now.words) c.args.object.now _
      (now (view_of g.D.Drum.room g.D.Drum.tracks g.D.Drum.journal g.D.Drum.faults c.loop-ending.drum c.loop-ending.places c.loop-ending.recent c.loop-ending.trace) (g.K.Sink.holds c.loop-ending.out) (stand_of g.S.Source.left c.loop-ending.input) c.loop-ending.m c.loop-ending.frames)
      _ c.step_order-turn.result c.loop-ending.invariant.5 c.loop-ending.invariant.2.frames c.loop-ending.invariant.3.tracks c.loop-ending.invariant.2.places c.loop-ending.invariant.0
      c.step_order-turn.ensures.row (sym c.ending_of.ensures ∙ c.in_default.is),
)

pub returns-in-Some-clause-flat : goal.returns-in-Some-clause-flat
returns-in-Some-clause-flat g c = runs_flat (length c.args.frames.now.words) c.args.object.now _
    (now (view_of g.D.Drum.room g.D.Drum.tracks g.D.Drum.journal g.D.Drum.faults c.loop-ending.drum c.loop-ending.places c.loop-ending.recent c.loop-ending.trace) (g.K.Sink.holds c.loop-ending.out) (stand_of g.S.Source.left c.loop-ending.input) c.loop-ending.m c.loop-ending.frames)
    _ c.step_order-turn.result c.in-Some.ending c.loop-ending.invariant.5 c.loop-ending.invariant.2.frames c.loop-ending.invariant.3.tracks c.loop-ending.invariant.2.places c.loop-ending.invariant.0
    c.step_order-turn.ensures.row (sym c.ending_of.ensures ∙ c.in-Some.is)
    (λ odd spoilt. let same = c.step_order-turn.ensures.spoilt odd spoilt in (same.0, same.1.0, ap (λ input. stand_of g.S.Source.left input) same.1.1.1))

-- src/orders.rt:57:5
pub loop-ending-init : goal.loop-ending-init
loop-ending-init g c = (
  c.requires.place,
  c.requires.counted,
  sizes_begin c.args.object.now.words _,
  reads_begin _,
  refl,
  goes_first (length c.args.frames.now.words) c.args.object.now _ (takes_nothing (stand_of g.S.Source.left c.args.input.now) c.args.input.now.limited c.args.input.now.below),
)
