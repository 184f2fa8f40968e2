use Rattle.std.proofs.Common.{rules, ap, sym, subst}
use Rattle.gier_library.specs.DataView.{stand_of}
use Rattle.gier_exec.specs.Reading.{view_of}
use Rattle.gier_exec.specs.Rows.{code_in}
use Rattle.gier_runner.specs.RunInvariant.{Counted}
use Rattle.gier_runner.specs.State.{State, Begun}
use Rattle.gier_runner.proofs.Numbers.{begun_counts}
use Rattle.gier_runner.proofs.RunSteps.{Now, Runs, now}
use Rattle.gier_runner.proofs.WholeRuns.{begins_agreed, unread_so, stack_so, whole_run, told_run}
use Rattle.gier_runner.proofs.runner.Runner.run.Goals as goal

-- src/runner.rt:110:9
pub run_orders-requires-clause-counted : goal.run_orders-requires-clause-counted
run_orders-requires-clause-counted g c =
    let all : Counted c.args.object.now.words c.begin.new.self.machine c.begin.new.self.recent c.begin.new.self.places =
    begun_counts c.args.object.now.words c.args.object.now.start c.args.self.now.settings c.begin.new.self c.begin.ensures.begun c.requires.start c.requires.words (search rules) in
    subst (λ (s : State). Counted c.args.object.now.words s.machine s.recent s.places) (sym c.self.view_is) all

pub returns-clause-flat : goal.returns-clause-flat
returns-clause-flat g c = λ tracks told.
    let object = c.args.object.now in
    let given = c.args.self.now.settings in
    let begun : Begun given object.start (record { settings = c.self.inside.settings; machine = c.self.inside.machine; frames = c.self.inside.frames; places = c.self.inside.places; recent = c.self.inside.recent; trace = c.self.inside.trace }) =
    subst (λ (s : State). Begun given object.start s) (sym c.self.view_is) c.begin.ensures.begun in
    let old : Now = now (view_of g.D.Drum.room g.D.Drum.tracks g.D.Drum.journal g.D.Drum.faults c.args.drum.now c.self.inside.places c.self.inside.recent c.self.inside.trace) (g.K.Sink.holds c.args.out.now) (stand_of g.S.Source.left c.of-data.result) c.self.inside.machine c.self.inside.frames in
    let new : Now = now (view_of g.D.Drum.room g.D.Drum.tracks g.D.Drum.journal g.D.Drum.faults c.run_orders.new.drum c.run_orders.new.places c.run_orders.new.recent c.run_orders.new.trace) (g.K.Sink.holds c.run_orders.new.out) (stand_of g.S.Source.left c.run_orders.new.input) c.run_orders.new.m c.run_orders.new.frames in
    whole_run (code_in tracks object) object c.self.inside.settings given object.start old new (g.S.Source.left c.args.input.now) _ c.run_orders.result begun
    (unread_so old.input (g.S.Source.left c.args.input.now) (ap g.S.Source.left c.of-data.ensures.source) c.of-data.ensures.given c.of-data.ensures.ended)
    (search rules)
    (subst (λ n. Runs (code_in tracks object) n object old new c.run_orders.result) (stack_so given object.start _ begun) (c.run_orders.ensures.flat tracks told (begins_agreed tracks c.self.inside.places begun.empty)))

pub returns-clause-told : goal.returns-clause-told
returns-clause-told g c = λ tracks bytes told left.
    told_run (code_in tracks c.args.object.now) c.args.object.now c.self.inside.settings c.args.self.now.settings c.args.object.now.start
    (now (view_of g.D.Drum.room g.D.Drum.tracks g.D.Drum.journal g.D.Drum.faults c.args.drum.now c.self.inside.places c.self.inside.recent c.self.inside.trace) (g.K.Sink.holds c.args.out.now) (stand_of g.S.Source.left c.of-data.result) c.self.inside.machine c.self.inside.frames)
    (now (view_of g.D.Drum.room g.D.Drum.tracks g.D.Drum.journal g.D.Drum.faults c.run_orders.new.drum c.run_orders.new.places c.run_orders.new.recent c.run_orders.new.trace) (g.K.Sink.holds c.run_orders.new.out) (stand_of g.S.Source.left c.run_orders.new.input) c.run_orders.new.m c.run_orders.new.frames)
    (g.S.Source.left c.args.input.now) _ bytes c.run_orders.result left (returns-clause-flat g c tracks told)
