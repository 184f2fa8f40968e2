use Rattle.std.proofs.Common.{◌≡◌, ◌∙◌, ◌+◌, ◌*◌, ap, sym, arith, refl, Err}
use Rattle.gier_text.proofs.DriveLoop.{risen_from}
use Rattle.gier_back.specs.Compiled.{IsNoObject}
use Rattle.gier_text.specs.Own.{found_on}
use Rattle.gier_back.proofs.PassSteps.{changes_more, told_on, text_same, err_drum, only_drum, drum_or_as, made_from}
use Rattle.gier_word.proofs.Options.{some_same}
use Rattle.gier_drum.specs.View.{drum_view}
use Rattle.gier_back.proofs.passes.back.Goals as goal

pub returns-in-Err-clause-changes : goal.returns-in-Err-clause-changes
returns-in-Err-clause-changes g c =
    let place6 = c.found_text-text6.ensures.place in
    let place7 = c.blank_text-text7.ensures.place in
    c.run_pass7.ensures.passed.changes 1468015 (omega (arith, place6.0, place6.1, c.requires.symbols, c.requires.bytes)) (omega (arith, place7.0, place7.1, c.requires.bytes))

pub returns-in-Err-run_pass8-clause-changes : goal.returns-in-Err-run_pass8-clause-changes
returns-in-Err-run_pass8-clause-changes g c =
    let view = drum_view g.D.Drum.room g.D.Drum.tracks g.D.Drum.journal g.D.Drum.faults in
    let place6 = c.found_text-text6.ensures.place in
    let place7 = c.blank_text-text7.ensures.place in
    let place8 = c.blank_text-text8.ensures.place in
    let first = c.run_pass7.ensures.passed.changes 1468015 (omega (arith, place6.0, place6.1, c.requires.symbols, c.requires.bytes)) (omega (arith, place7.0, place7.1, c.requires.bytes)) in
    let second = c.run_pass8.ensures.passed.changes 1468015 (omega (arith, c.run_pass7.ensures.passed.place.ends, place7.0, place7.1, c.requires.bytes)) (omega (arith, place8.0, place8.1, c.requires.bytes)) in
    changes_more 1468015 (view c.args.drum.now) (view c.run_pass7.new.store) (view c.run_pass8.new.store) first second

pub returns-in-Ok-run_pass9-clause-changes : goal.returns-in-Ok-run_pass9-clause-changes
returns-in-Ok-run_pass9-clause-changes g c =
    let view = drum_view g.D.Drum.room g.D.Drum.tracks g.D.Drum.journal g.D.Drum.faults in
    let place6 = c.found_text-text6.ensures.place in
    let place7 = c.blank_text-text7.ensures.place in
    let place8 = c.blank_text-text8.ensures.place in
    let first = c.run_pass7.ensures.passed.changes 1468015 (omega (arith, place6.0, place6.1, c.requires.symbols, c.requires.bytes)) (omega (arith, place7.0, place7.1, c.requires.bytes)) in
    let second = c.run_pass8.ensures.passed.changes 1468015 (omega (arith, c.run_pass7.ensures.passed.place.ends, place7.0, place7.1, c.requires.bytes)) (omega (arith, place8.0, place8.1, c.requires.bytes)) in
    let both = changes_more 1468015 (view c.args.drum.now) (view c.run_pass7.new.store) (view c.run_pass8.new.store) first second in
    changes_more 1468015 (view c.args.drum.now) (view c.run_pass8.new.store) (view c.run_pass9.new.drum) both c.run_pass9.ensures.changes

pub returns-in-Err-run_pass9-clause-changes : goal.returns-in-Err-run_pass9-clause-changes
returns-in-Err-run_pass9-clause-changes g c =
    let view = drum_view g.D.Drum.room g.D.Drum.tracks g.D.Drum.journal g.D.Drum.faults in
    let place6 = c.found_text-text6.ensures.place in
    let place7 = c.blank_text-text7.ensures.place in
    let place8 = c.blank_text-text8.ensures.place in
    let first = c.run_pass7.ensures.passed.changes 1468015 (omega (arith, place6.0, place6.1, c.requires.symbols, c.requires.bytes)) (omega (arith, place7.0, place7.1, c.requires.bytes)) in
    let second = c.run_pass8.ensures.passed.changes 1468015 (omega (arith, c.run_pass7.ensures.passed.place.ends, place7.0, place7.1, c.requires.bytes)) (omega (arith, place8.0, place8.1, c.requires.bytes)) in
    let both = changes_more 1468015 (view c.args.drum.now) (view c.run_pass7.new.store) (view c.run_pass8.new.store) first second in
    changes_more 1468015 (view c.args.drum.now) (view c.run_pass8.new.store) (view c.run_pass9.new.drum) both c.run_pass9.ensures.changes

pub returns-in-Ok-run_pass9-clause-in_room : goal.returns-in-Ok-run_pass9-clause-in_room
returns-in-Ok-run_pass9-clause-in_room g c =
    let place6 = c.found_text-text6.ensures.place in
    let place7 = c.blank_text-text7.ensures.place in
    let place8 = c.blank_text-text8.ensures.place in
    let first = c.run_pass7.ensures.passed.changes 1468015 (omega (arith, place6.0, place6.1, c.requires.symbols, c.requires.bytes)) (omega (arith, place7.0, place7.1, c.requires.bytes)) in
    let second = c.run_pass8.ensures.passed.changes 1468015 (omega (arith, c.run_pass7.ensures.passed.place.ends, place7.0, place7.1, c.requires.bytes)) (omega (arith, place8.0, place8.1, c.requires.bytes)) in
    let words = c.in-Ok-run_pass9.ensures.words in
    omega (arith, c.object_track.ensures, words.0, words.1, c.requires.bytes, c.requires.room, first.keeps.same_room, second.keeps.same_room, c.run_pass9.ensures.changes.keeps.same_room)

pub returns-in-Err-run_pass9-clause-drum : goal.returns-in-Err-run_pass9-clause-drum
returns-in-Err-run_pass9-clause-drum g c = λ h.
    let place6 = c.found_text-text6.ensures.place in
    let place7 = c.blank_text-text7.ensures.place in
    let place8 = c.blank_text-text8.ensures.place in
    let first = c.run_pass7.ensures.passed.changes 1468015 (omega (arith, place6.0, place6.1, c.requires.symbols, c.requires.bytes)) (omega (arith, place7.0, place7.1, c.requires.bytes)) in
    let second = c.run_pass8.ensures.passed.changes 1468015 (omega (arith, c.run_pass7.ensures.passed.place.ends, place7.0, place7.1, c.requires.bytes)) (omega (arith, place8.0, place8.1, c.requires.bytes)) in
    let drum = err_drum c.in-Err-run_pass9.stop c.of_pass-in-Err-run_pass9.result c.of_pass-in-Err-run_pass9.ensures h in
    risen_from _ (g.D.Drum.faults c.run_pass8.new.store) _ (omega (arith, first.keeps.later, second.keeps.later)) (c.in-Err-run_pass9.ensures.drum (ap Err drum))

pub returns-in-Err-run_pass8-clause-sound : goal.returns-in-Err-run_pass8-clause-sound
returns-in-Err-run_pass8-clause-sound g c = λ list told light.
    let some = told_on (g.D.Drum.tracks c.args.drum.now) 0 c.args.fronted.symbols list told in
    let wrote = c.in-Ok.ensures.writes list (c.found_text-text6.ensures.held c.args.drum.now ∙ told) (c.blank_text-text7.ensures.told c.args.drum.now some) in
    only_drum c.in-Err-run_pass8.stop c.of_pass-in-Err-run_pass8.result (IsNoObject c.args.fronted.bytes) c.of_pass-in-Err-run_pass8.ensures
    (c.in-Err-run_pass8.ensures.sound refl wrote.written wrote.held wrote.relates (c.blank_text-text8.result.capacity, refl, omega (arith, c.blank_text-text8.ensures.place.1)))

pub returns-in-Err-run_pass9-clause-sound : goal.returns-in-Err-run_pass9-clause-sound
returns-in-Err-run_pass9-clause-sound g c = λ list told light.
    let place6 = c.found_text-text6.ensures.place in
    let place7 = c.blank_text-text7.ensures.place in
    let first = c.run_pass7.ensures.passed.changes 1468015 (omega (arith, place6.0, place6.1, c.requires.symbols, c.requires.bytes)) (omega (arith, place7.0, place7.1, c.requires.bytes)) in
    let some = told_on (g.D.Drum.tracks c.args.drum.now) 0 c.args.fronted.symbols list told in
    let wrote7 = c.in-Ok.ensures.writes list (c.found_text-text6.ensures.held c.args.drum.now ∙ told) (c.blank_text-text7.ensures.told c.args.drum.now some) in
    let wrote8 = c.in-Ok-run_pass8.ensures.writes wrote7.written wrote7.held (c.blank_text-text8.ensures.told c.run_pass7.new.store (first.keeps.same_tracks.told ∙ some)) in
    drum_or_as c.in-Err-run_pass9.stop c.of_pass-in-Err-run_pass9.result _ (IsNoObject c.args.fronted.bytes) c.of_pass-in-Err-run_pass9.ensures
    (λ odd wrong. record { list = wrote8.written; short = wrote8.relates.short; wrong = wrong })
    (c.in-Err-run_pass9.ensures.sound wrote8.written wrote8.held)

pub returns-in-Ok-run_pass9-clause-text7 : goal.returns-in-Ok-run_pass9-clause-text7
returns-in-Ok-run_pass9-clause-text7 g c = λ list told light.
    let tracks = g.D.Drum.tracks in
    let bytes = c.args.fronted.bytes in
    let place7 = c.blank_text-text7.ensures.place in
    let some = told_on (tracks c.args.drum.now) 0 c.args.fronted.symbols list told in
    let wrote = c.in-Ok.ensures.writes list (c.found_text-text6.ensures.held c.args.drum.now ∙ told) (c.blank_text-text7.ensures.told c.args.drum.now some) in
    let stays = c.in-Ok-run_pass8.ensures.stays in
    let t = stays.turned in
    let none : t.loaded ≡ 0 = t.unbegun stays.rewinds.rewound (stays.rewinds.unread ∙ sym stays.rewinds.count) in
    let first : t.first ≡ 629149 = stays.place.begins ∙ c.run_pass7.ensures.passed.place.begins ∙ place7.0 in
    let count : t.count ≡ c.len-symbols7.result = stays.rewinds.count ∙ sym c.len-symbols7.ensures in
    let few : c.run_pass7.new.output.capacity ≡ 24 * bytes + 64 = some_same c.run_pass7.new.output.capacity c.blank_text-text7.result.capacity c.in-Ok.ensures.passed.goes_on.capacity ∙ place7.1 in
    let held = sym (found_on (tracks c.run_pass8.new.store) t.first t.loaded t.buffer t.count none) ∙ stays.rewinds.held ∙ wrote.held in
    let here = rw (first, count) at held in
    record {
      list = wrote.written;
      held = rw c.lengths.ensures.seven (text_same 629149 1258298 c.len-symbols7.result (tracks c.run_pass8.new.store) (tracks c.run_pass9.new.drum) (omega (arith, c.len-symbols7.ensures, c.run_pass7.new.output.limited, few, c.requires.bytes)) c.run_pass9.ensures.area ∙ here);
      short = wrote.relates;
    }

pub returns-in-Ok-run_pass9-clause-made : goal.returns-in-Ok-run_pass9-clause-made
unfolding returns-in-Ok-run_pass9-clause-text7
returns-in-Ok-run_pass9-clause-made g c = λ list told light.
    let place6 = c.found_text-text6.ensures.place in
    let place7 = c.blank_text-text7.ensures.place in
    let first = c.run_pass7.ensures.passed.changes 1468015 (omega (arith, place6.0, place6.1, c.requires.symbols, c.requires.bytes))
    (omega (arith, place7.0, place7.1, c.requires.bytes)) in
    let some = told_on (g.D.Drum.tracks c.args.drum.now) 0 c.args.fronted.symbols list told in
    let wrote7 = c.in-Ok.ensures.writes list (c.found_text-text6.ensures.held c.args.drum.now ∙ told)
    (c.blank_text-text7.ensures.told c.args.drum.now some) in
    let wrote8 = c.in-Ok-run_pass8.ensures.writes wrote7.written wrote7.held
    (c.blank_text-text8.ensures.told c.run_pass7.new.store (first.keeps.same_tracks.told ∙ some)) in
    let limit = c.run_pass8.ensures.limit ∙ c.run_pass7.ensures.limit ∙ c.requires.limit in
    let made = rw limit at (c.in-Ok-run_pass9.ensures.made wrote8.written wrote8.held) in
    record {
      list = wrote8.written;
      short = wrote8.relates.short;
      count = made.0;
      holds = rw c.object_track.ensures made.1;
      seven = returns-in-Ok-run_pass9-clause-text7 g c list told light;
      defined = made_from c.args.fronted.bytes wrote7.written wrote8.written wrote8.relates.exact;
    }
