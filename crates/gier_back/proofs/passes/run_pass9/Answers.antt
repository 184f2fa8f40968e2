use Rattle.std.proofs.Common.{◌∙◌, arith, reverse}
use Rattle.gier_limits.specs.Areas.{words_of}
use Rattle.gier_pass9.specs.PassOutput.{IsWrong}
use Rattle.gier_text.specs.TablesModel.{tables_model}
use Rattle.gier_drum.specs.View.{drum_view}
use Rattle.gier_back.proofs.PassSteps.{changes_of, changes_more, drum_or, left_back, made_of, same_behind, same_before, same_both}
use Rattle.gier_back.proofs.passes.run_pass9.Goals as goal

pub returns-clause-changes : goal.returns-clause-changes
returns-clause-changes g c =
    let view = drum_view g.D.Drum.room g.D.Drum.tracks g.D.Drum.journal g.D.Drum.faults in
    let turned = c.rewind.ensures.logged in
    let wrote = c.write.ensures.logged.2 in
    changes_more 1468015 (view c.args.drum.now) (view c.rewind.new.store) (view c.write.new.drum)
    (changes_of _ _ 1468015 turned.entries (view c.args.drum.now) (view c.rewind.new.store) (omega (arith, c.requires.placed)) c.rewind.ensures.room c.rewind.ensures.tracks turned.journal c.rewind.ensures.later)
    (changes_of _ _ 1468015 wrote.entries (view c.rewind.new.store) (view c.write.new.drum) (omega (arith, c.object_track.ensures, c.object_words.ensures, c.requires.bytes)) c.write.ensures.room c.write.ensures.tracks wrote.journal c.write.ensures.later)

pub returns-clause-sound : goal.returns-clause-sound
returns-clause-sound g c = λ list held.
    let spoilt = c.write.ensures.spoilt (reverse list) (left_back _ list _ held c.in-Ok.ensures.rewound.left) in
    drum_or c.write.result (IsWrong (words_of c.args.bytes) (reverse list)) (λ h. let wrong = c.write.ensures.memory h in absurd (cc)) c.write.ensures.full (rw c.object_words.ensures at spoilt)

pub returns-clause-made : goal.returns-clause-made
returns-clause-made g c = λ list held.
    let left = left_back _ list _ held c.in-Ok.ensures.rewound.left in
    made_of _ (tables_model c.args.tables.now).limit 1258298 (g.D.Drum.tracks c.write.new.drum) (reverse list) c.write.result left (rw c.object_track.ensures at c.write.ensures.made)

pub returns-clause-area : goal.returns-clause-area
returns-clause-area g c =
    let tracks = g.D.Drum.tracks in
    same_both 629149 1258298 (tracks c.args.drum.now) (tracks c.rewind.new.store) (tracks c.write.new.drum)
    (same_behind _ _ 629149 1258298 (tracks c.args.drum.now) (tracks c.rewind.new.store) c.requires.placed c.rewind.ensures.tracks)
    (same_before _ _ 629149 1258298 (tracks c.rewind.new.store) (tracks c.write.new.drum) (omega (arith, c.object_track.ensures)) c.write.ensures.tracks)
