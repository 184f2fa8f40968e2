use Rattle.std.proofs.Common.{◌≡◌, ◌≤◌, ◌∙◌, arith, ap, sym, subst, take}
use Rattle.gier_library.specs.Data.{limit}
use Rattle.gier_limits.specs.Areas.{first_of, object_first}
use Rattle.gier_text.specs.SymbolsOnTracks.{text_on}
use Rattle.gier_text.specs.Potential.{IsWithinPotential}
use Rattle.gier_exec.specs.Rows.{code_in}
use Rattle.gier_exec.specs.References.{tracks_of, notes_of}
use Rattle.gier_runner.specs.declared.settings.Settings.{Settings}
use Rattle.gier_job.specs.RunAnswer.{IsRunEnd}
use Rattle.gier_job.proofs.RunAnswers.{told_before, told_through, code_kept, answered, answered_so}
use Rattle.gier_job.proofs.DefinedObject.{told_list, is_defined}
use Rattle.gier_job.proofs.running.run_fronted.Goals as goal

pub returns-in-Ok-conclude-clause-runs : goal.returns-in-Ok-conclude-clause-runs
returns-in-Ok-conclude-clause-runs g c = λ tracks bytes told left is.
    let object = c.in-Ok.object in
    let command = c.args.command.now in
    let s = c.run-ending.new.self in
    let run = c.run-ending.ensures in
    let at : object.first_track ≡ object_first = c.in-Ok.ensures.object.place in
    let behind : object_first ≤ object.first_track = omega (arith, at) in
    let before = told_before (first_of 7) object_first (g.D.Drum.tracks c.run-ending.new.drum) (g.D.Drum.tracks c.conclude.new.drum) tracks
    c.conclude.ensures.stops.keeps.same_tracks told in
    let made_on = told_through (g.D.Drum.tracks c.back.new.drum) (g.D.Drum.tracks c.run-ending.new.drum) before.0 run.reads.tracks before.1 in
    let same = code_kept (first_of 7) object_first before.0 tracks object before.2 behind in (
      object,
      c.in-Ok.ensures.object,
      (λ six.
          let text = told_list (IsWithinPotential 6 c.args.fronted.bytes) (text_on (g.D.Drum.tracks c.args.drum.now) 0 c.args.fronted.symbols) six in
          let made = c.in-Ok.ensures.made text.0 text.1 text.2 in
          is_defined (g.D.Drum.tracks c.back.new.drum) before.0 tracks c.args.fronted.bytes command.mortem object made made_on same
          (λ off. told_through (g.D.Drum.tracks c.back.new.drum) (g.D.Drum.tracks c.run-ending.new.drum) tracks run.reads.tracks
          (sym (ap g.D.Drum.tracks (c.conclude.ensures.untouched off)) ∙ told))),
      let ran = run.told before.0 bytes made_on left in
          let places : s.places.places ≡ command.settings.places = run.agrees.places ∙ ap (λ (t : Settings). t.places) (run.settings ∙ c.requires.settings) in
          answered_so command c.args.runner.now.trace.limit s.trace.limit object (code_in tracks object) (code_in before.0 object) c.args.runner.now.settings (take limit bytes) c.of_ending.result c.run-ending.result
          (g.K.Sink.holds c.args.out.now) (g.K.Sink.holds c.conclude.new.out) (g.D.Drum.journal c.conclude.new.drum)
          c.of_ending.ensures same c.requires.settings run.trace_limit
          (answered c.run-ending.result command s.trace.limit s object ran.0 ran.1 ran.3 _ _ _ (g.K.Sink.holds c.args.out.now) (g.K.Sink.holds c.run-ending.new.out) (g.K.Sink.holds c.conclude.new.out)
          (subst IsRunEnd c.of_ending.ensures is) ran.8 ran.4 places ran.5
          (c.in-Ok-conclude.ensures.put (tracks_of object ran.0) (notes_of ran.0) ran.4.recent ran.4.noted)
          (ap (λ (t : Settings). t.places) (run.settings ∙ c.requires.settings)) (g.D.Drum.journal c.conclude.new.drum) (λ off. ap g.D.Drum.journal (c.conclude.ensures.untouched off))),
    )
