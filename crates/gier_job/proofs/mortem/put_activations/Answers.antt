use Rattle.std.proofs.Common.{◌≡◌, ◌<◌, ◌∙◌, Some, slice_get, arith, length, sym}
use Rattle.std.proofs.lemmas.Option.{slice_get_within}
use Rattle.gier_frames.specs.Stop.{activations}
use Rattle.gier_job.proofs.LiveTails.{told_none, told_more, told_all, told_rest}
use Rattle.gier_job.proofs.mortem.put_activations.Goals as goal

pub line-requires : goal.line-requires
line-requires g c =
    let live = activations c.args.frames.now in
    let below : c.loop-at.at < length live = slice_get_within live c.loop-at.at c.in-Some.activation (rw (← c.activation.ensures) c.in-Some.is) in
    c.requires.all c.loop-at.at (omega (arith, c.loop-at-test.true)) below

pub loop-at-init : goal.loop-at-init
loop-at-init g c = (omega arith, told_none _ (g.K.Sink.holds c.args.out.now))

pub loop-at-preserved : goal.loop-at-preserved
loop-at-preserved g c =
    let live = activations c.args.frames.now in
    let stands : slice_get live c.loop-at.at ≡ Some c.in-Some.activation = sym c.activation.ensures ∙ c.in-Some.is in (
      omega (arith, c.loop-at.invariant.0, c.put_activation.ensures.cause.later),
      told_more live c.loop-at.at c.in-Some.activation c.line.result (g.K.Sink.holds c.args.out.now) (g.K.Sink.holds c.loop-at.out) (g.K.Sink.holds c.put_activation.new.out) c.loop-at.invariant.1 stands c.in-Ok.ensures.put,
    )

pub returns-in-None-clause-put : goal.returns-in-None-clause-put
returns-in-None-clause-put g c =
    told_all (activations c.args.frames.now) c.loop-at.at (g.K.Sink.holds c.args.out.now) (g.K.Sink.holds c.loop-at.out) c.loop-at.auto.at-end (sym c.activation.ensures ∙ c.in-None.is) c.loop-at.invariant.1

pub returns-clause-put : goal.returns-clause-put
returns-clause-put g c =
    told_rest c.put_rest.result (activations c.args.frames.now) c.loop-at.at c.count.result (g.K.Sink.holds c.args.out.now) (g.K.Sink.holds c.loop-at.out) (g.K.Sink.holds c.put_rest.new.out)
    (omega (arith, c.loop-at.auto.at-end, c.loop-at-test.false)) c.count.ensures c.loop-at.invariant.1 c.put_rest.ensures.put
