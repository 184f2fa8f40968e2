use Rattle.std.proofs.Common.{◌≡◌, ◌<◌, length}
use Rattle.gier_library.specs.DataView.{source_of, stand_of}
use Rattle.gier_exec.specs.Registers.{measure}
use Rattle.gier_exec.specs.Reading.{view_of}
use Rattle.gier_runner.specs.RunInvariant.{Counted, OnlyReads, KeepsSizes, devices, parts}
use Rattle.gier_runner.proofs.RunSteps.{now}
use Rattle.gier_runner.proofs.WordsOfRun.{GoesFlat}
use Rattle.gier_runner.proofs.orders.run_orders.Given as goal

abbrev pub invariant-loop-ending : goal.invariant-loop-ending
invariant-loop-ending g l = (l.m.place < l.object.words) × Counted l.object.words l.m l.recent l.places
    × KeepsSizes l.object.words (parts l.initial.m l.initial.frames l.initial.places l.initial.trace) (parts l.m l.frames l.places l.trace)
    × OnlyReads (devices g.D.Drum.room g.D.Drum.tracks g.D.Drum.journal g.D.Drum.faults g.S.Source.faults g.K.Sink.faults l.initial.drum (source_of l.initial.input) l.initial.out)
    (devices g.D.Drum.room g.D.Drum.tracks g.D.Drum.journal g.D.Drum.faults g.S.Source.faults g.K.Sink.faults l.drum (source_of l.input) l.out)
    × (l.input.source.ghost_name ≡ l.initial.input.source.ghost_name)
    × GoesFlat (length l.initial.frames.words) l.object
    (now (view_of g.D.Drum.room g.D.Drum.tracks g.D.Drum.journal g.D.Drum.faults l.initial.drum l.initial.places l.initial.recent l.initial.trace) (g.K.Sink.holds l.initial.out) (stand_of g.S.Source.left l.initial.input) l.initial.m l.initial.frames)
    (now (view_of g.D.Drum.room g.D.Drum.tracks g.D.Drum.journal g.D.Drum.faults l.drum l.places l.recent l.trace) (g.K.Sink.holds l.out) (stand_of g.S.Source.left l.input) l.m l.frames)

abbrev pub decreases-loop-ending : goal.decreases-loop-ending
decreases-loop-ending g l = measure l.object.words l.m
