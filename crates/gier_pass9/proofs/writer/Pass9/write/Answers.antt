use Rattle.std.proofs.Common.{◌≡◌, ◌++◌, ◌∷◌, [], ◌+◌, ◌/◌, ap, ◌∙◌, ℕ, List, sym, refl, subst, arith, inl}
use Rattle.std.proofs.lemmas.List.Elements.{All-append}
use Rattle.std.specs.Prelude.{IsTrue}
use Rattle.gier_symbol.specs.declared.symbol.Symbol.{Symbol}
use Rattle.gier_symbol.specs.Texts.{stands_in}
use Rattle.gier_text.specs.TablesModel.{tables_model}
use Rattle.gier_text.specs.View.{View}
use Rattle.gier_text.proofs.DriveLoop.{OnOk-map, reads_end}
use Rattle.gier_text.proofs.DriveLoop.{reads_none, reads_more, apart_as, tracks_more, tracks_none, next_told, place_more}
use Rattle.gier_pass9.specs.Object.{tracks_of}
use Rattle.gier_pass9.specs.ObjectOfText.{no_marks, mark_in, marks_of, marks_behind, words_with, HasWords}
use Rattle.gier_pass9.specs.Words.{room_of}
use Rattle.gier_pass9.specs.PassOutput.{IsWrong, word_log, words_for}
use Rattle.gier_pass9.proofs.WordsMade.{words_same, marks_same, made_more, makes_end, read_end}
use Rattle.gier_pass9.proofs.PassSteps.{fills_none, fills_more, fills_read, fills_end, fills_whole, wrote_word, words_more, wrong_next, right_text, stop_as, stop_never, one_letter}
use Rattle.gier_pass9.proofs.writer.Pass9.write.Goals as goal

pub loop-s-init : goal.loop-s-init
loop-s-init g c =
    let view = g.T.Text.view in
    let place = c.at-object.ensures.place in
    record {
      read = [];
      reads = reads_none (view c.args.text.now c.args.drum.now);
      letters = λ k d below. absurd (omega arith);
      counted = c.at-object.ensures.empty;
      number_is = refl;
      reading = c.requires.unread.rewound;
      text_place = record { begins = refl; ends = refl };
      placed = c.requires.placed;
      object_first_is = place.0;
      object_most_is = place.1;
      are_apart = rw (place.0, place.1) c.requires.apart;
      in_room = rw (place.0, place.1) c.requires.in_room;
      same_room = refl;
      same_tracks = tracks_none _ _ (g.D.Drum.tracks c.args.drum.now);
      later = omega arith;
      labelled = c.open.ensures.labels;
      same_limit = refl;
      same_faults = refl;
      marks = no_marks;
      words = [];
      known = λ label. ap mark_in (c.open.ensures.none label);
      made = λ rest. rw c.at-object.ensures.empty refl;
      has = c.at-object.ensures.made (g.D.Drum.tracks c.args.drum.now);
      filled = rw c.at-object.ensures.empty (fills_none (view c.args.text.now c.args.drum.now) c.args.first_track (g.D.Drum.journal c.args.drum.now));
    }

pub loop-s-preserved : goal.loop-s-preserved
loop-s-preserved g c =
    let now = c.loop-s.invariant in
    let view = g.T.Text.view in
    let s = c.in-Ok-Some.s in
    let same = c.requires.same in
    let given = rw c.in-Ok-Some.field-0-is at c.in-Ok-Some.ensures.given in
    let place = c.read_next.ensures.place in
    let object_place = c.take.ensures.place in
    let ends : c.take.new.object.first + tracks_of c.take.new.object.most ≡ c.loop-s.object.first + tracks_of c.loop-s.object.most = rw (object_place.0, object_place.1) refl in
    let all_ends : c.loop-s.object.first + tracks_of c.loop-s.object.most ≡ c.args.first_track + tracks_of c.args.most = rw (now.object_first_is, now.object_most_is) refl in
    let room = sym (same.same_room c.read_next.new.store) ∙ c.read_next.ensures.room ∙ same.same_room c.loop-s.drum in
    let tracks = sym (same.same_tracks c.read_next.new.store) ∙ c.read_next.ensures.tracks ∙ same.same_tracks c.loop-s.drum in
    let logged = rw (same.same_journal c.loop-s.drum, same.same_journal c.read_next.new.store) at c.read_next.ensures.logged in
    let wrote = rw now.object_first_is at c.in-Ok.ensures.logged in
    record {
      read = now.read ++ s ∷ [];
      reads = rw c.take.ensures.text (reads_more (view c.args.text.now c.args.drum.now) now.read (s ∷ []) (view c.loop-s.text c.loop-s.drum) (view c.read_next.new.self c.read_next.new.store) now.reads given.read);
      letters = All-append (λ (x : Symbol). IsTrue (stands_in 8 x.tag)) now.read (s ∷ []) now.letters (one_letter s c.in-Ok.ensures.letter);
      counted = omega (arith, c.in-Ok.ensures.count, now.counted, words_more now.read s);
      number_is = place_more now.read s c.loop-s.place _ now.number_is c.saturating_add-place.ensures;
      reading = ap (λ (v : View). v.rewound) c.take.ensures.text ∙ given.read.rewound ∙ now.reading;
      text_place = record { begins = place.begins ∙ now.text_place.begins; ends = place.ends ∙ now.text_place.ends };
      placed = omega (arith, place.ends, same.same_room c.take.new.drum, c.take.ensures.room, same.same_room c.read_next.new.store, c.read_next.ensures.room, now.placed);
      object_first_is = object_place.0 ∙ now.object_first_is;
      object_most_is = object_place.1 ∙ now.object_most_is;
      are_apart = apart_as _ _ _ _ _ _ _ _ now.are_apart place.begins place.ends object_place.0 ends;
      in_room = omega (arith, ends, now.in_room, c.take.ensures.room, room);
      same_room = c.take.ensures.room ∙ room ∙ now.same_room;
      same_tracks = tracks_more _ _ _ _ _ _ _ now.same_tracks now.object_first_is all_ends (rw tracks at c.take.ensures.tracks);
      later = omega (arith, now.later, same.same_faults c.loop-s.drum, same.same_faults c.read_next.new.store, c.read_next.ensures.later, c.take.ensures.later);
      labelled = c.take.ensures.labels.labels;
      same_limit = c.take.ensures.labels.limit ∙ now.same_limit;
      same_faults = c.take.ensures.labels.faults ∙ now.same_faults;
      marks = marks_behind c.room-labels.result c.loop-s.object.count s now.marks;
      words = now.words ++ words_with now.marks s;
      known = λ label. c.in-Ok.ensures.marks label
          ∙ marks_same c.room-labels.result c.loop-s.object.count s (marks_of (tables_model c.loop-s.tables)) now.marks now.known label;
      made = made_more c.room-labels.result now.read s now.words now.marks c.loop-s.object.count c.take.new.object.count now.made
          c.in-Ok.ensures.count;
      has = subst (λ (ws : List ℕ). HasWords c.take.new.object (g.D.Drum.tracks c.take.new.drum) (now.words ++ ws))
          (words_same (marks_of (tables_model c.loop-s.tables)) now.marks now.known s) (c.in-Ok.ensures.made now.words (rw tracks now.has));
      filled = rw (c.take.ensures.text, c.in-Ok.ensures.count) (fills_more (view c.args.text.now c.args.drum.now) (view c.loop-s.text c.loop-s.drum) (view c.read_next.new.self c.read_next.new.store) c.args.first_track (c.loop-s.object.count / 40) ((c.loop-s.object.count + words_for s) / 40) (word_log s c.args.first_track c.loop-s.object.count) (g.D.Drum.journal c.args.drum.now) (g.D.Drum.journal c.loop-s.drum) (g.D.Drum.journal c.read_next.new.store) (g.D.Drum.journal c.take.new.drum) now.filled logged wrote (wrote_word s c.args.first_track c.loop-s.object.count));
    }

pub returns-in-Err-clause-logged : goal.returns-in-Err-clause-logged
returns-in-Err-clause-logged g c =
    let now = c.loop-s.invariant in
    let view = g.T.Text.view in
    let same = c.requires.same in
    let logged = rw (same.same_journal c.loop-s.drum, same.same_journal c.read_next.new.store) at c.read_next.ensures.logged in
    (c.loop-s.object.count / 40, omega (arith, c.loop-s.object.within, now.object_most_is), fills_read (view c.args.text.now c.args.drum.now) (view c.loop-s.text c.loop-s.drum) (view c.read_next.new.self c.read_next.new.store) c.args.first_track (c.loop-s.object.count / 40) (g.D.Drum.journal c.args.drum.now) (g.D.Drum.journal c.loop-s.drum) (g.D.Drum.journal c.read_next.new.store) (g.D.Drum.journal c.read_next.new.store) now.filled logged refl)

pub returns-in-Err-take-clause-logged : goal.returns-in-Err-take-clause-logged
returns-in-Err-take-clause-logged g c =
    let now = c.loop-s.invariant in
    let view = g.T.Text.view in
    let same = c.requires.same in
    let logged = rw (same.same_journal c.loop-s.drum, same.same_journal c.read_next.new.store) at c.read_next.ensures.logged in
    (c.loop-s.object.count / 40, omega (arith, c.loop-s.object.within, now.object_most_is), rw c.take.ensures.text (fills_read (view c.args.text.now c.args.drum.now) (view c.loop-s.text c.loop-s.drum) (view c.read_next.new.self c.read_next.new.store) c.args.first_track (c.loop-s.object.count / 40) (g.D.Drum.journal c.args.drum.now) (g.D.Drum.journal c.loop-s.drum) (g.D.Drum.journal c.read_next.new.store) (g.D.Drum.journal c.take.new.drum) now.filled logged c.in-Err-take.ensures.unlogged))

pub returns-in-Err-take-clause-spoilt : goal.returns-in-Err-take-clause-spoilt
returns-in-Err-take-clause-spoilt g c = λ all told.
    let now = c.loop-s.invariant in
    let view = g.T.Text.view in
    let given = rw c.in-Ok-Some.field-0-is at c.in-Ok-Some.ensures.given in
    let next = next_told (view c.args.text.now c.args.drum.now).left (view c.loop-s.text c.loop-s.drum).left all now.read c.in-Ok-Some.s (view c.read_next.new.self c.read_next.new.store).left now.reads.left told given.read.left in
    stop_as c.in-Err-take.stop _ (IsWrong c.args.most all) (λ odd h. inl (wrong_next c.args.most all now.read c.in-Ok-Some.s next.0 odd c.loop-s.place c.loop-s.object.count c.loop-s.object.most next.1 now.letters now.number_is now.counted now.object_most_is h)) c.in-Err-take.ensures.spoilt

pub returns-in-Err-take-clause-sound : goal.returns-in-Err-take-clause-sound
returns-in-Err-take-clause-sound g c = λ all told good.
    let now = c.loop-s.invariant in
    let view = g.T.Text.view in
    let given = rw c.in-Ok-Some.field-0-is at c.in-Ok-Some.ensures.given in
    let next = next_told (view c.args.text.now c.args.drum.now).left (view c.loop-s.text c.loop-s.drum).left all now.read c.in-Ok-Some.s (view c.read_next.new.self c.read_next.new.store).left now.reads.left told given.read.left in
    stop_never c.in-Err-take.stop _ (λ odd h. right_text c.args.most all odd good (inl (wrong_next c.args.most all now.read c.in-Ok-Some.s next.0 odd c.loop-s.place c.loop-s.object.count c.loop-s.object.most next.1 now.letters now.number_is now.counted now.object_most_is h))) c.in-Err-take.ensures.spoilt

pub returns-clause-read : goal.returns-clause-read
returns-clause-read g c =
    let now = c.loop-s.invariant in
    let text = g.T.Text.view c.args.text.now c.args.drum.now in
    let given = rw c.in-Ok-None.field-0-is at c.in-Ok-None.ensures.given in
    let left = reads_end text now.read (g.T.Text.view c.loop-s.text c.loop-s.drum) now.reads given.ends in
    read_end text now.read c.loop-s.object.count c.finish.result left now.letters now.counted c.finish.ensures.words

pub returns-clause-made : goal.returns-clause-made
returns-clause-made g c =
    let now = c.loop-s.invariant in
    let text = g.T.Text.view c.args.text.now c.args.drum.now in
    let same = c.requires.same in
    let given = rw c.in-Ok-None.field-0-is at c.in-Ok-None.ensures.given in
    let left = reads_end text now.read (g.T.Text.view c.loop-s.text c.loop-s.drum) now.reads given.ends in
    let tracks = sym (same.same_tracks c.read_next.new.store) ∙ c.read_next.ensures.tracks ∙ same.same_tracks c.loop-s.drum in
    let holds = OnOk-map c.finish.result _ _
    (λ made. rw now.object_first_is at (made now.words (rw tracks now.has))) c.finish.ensures.made in
    let room = c.room-labels.ensures ∙ ap room_of c.limit.ensures.limit in
    makes_end text c.args.tables.now.limit c.args.first_track c.room-labels.result now.read now.words now.marks c.loop-s.object.count
    (g.D.Drum.tracks c.finish.new.drum) c.finish.result left room now.made now.has.count c.finish.ensures.words holds

pub returns-clause-wrote : goal.returns-clause-wrote
returns-clause-wrote g c =
    let now = c.loop-s.invariant in
    let view = g.T.Text.view in
    let same = c.requires.same in
    let logged = rw (same.same_journal c.loop-s.drum, same.same_journal c.read_next.new.store) at c.read_next.ensures.logged in
    rw c.finish.ensures.text (fills_whole (view c.args.text.now c.args.drum.now) (view c.loop-s.text c.loop-s.drum) (view c.read_next.new.self c.read_next.new.store) c.args.first_track c.loop-s.object.count (g.D.Drum.journal c.args.drum.now) (g.D.Drum.journal c.loop-s.drum) (g.D.Drum.journal c.read_next.new.store) (g.D.Drum.journal c.finish.new.drum) c.finish.result now.filled logged c.finish.ensures.words (rw now.object_first_is at c.finish.ensures.logged))

pub returns-clause-logged : goal.returns-clause-logged
returns-clause-logged g c =
    let now = c.loop-s.invariant in
    let view = g.T.Text.view in
    let same = c.requires.same in
    let logged = rw (same.same_journal c.loop-s.drum, same.same_journal c.read_next.new.store) at c.read_next.ensures.logged in
    rw c.finish.ensures.text (fills_end (view c.args.text.now c.args.drum.now) (view c.loop-s.text c.loop-s.drum) (view c.read_next.new.self c.read_next.new.store) c.args.first_track c.loop-s.object.count c.args.most (g.D.Drum.journal c.args.drum.now) (g.D.Drum.journal c.loop-s.drum) (g.D.Drum.journal c.read_next.new.store) (g.D.Drum.journal c.finish.new.drum) c.finish.result now.filled logged (omega (arith, c.loop-s.object.within, now.object_most_is)) (rw now.object_first_is at c.finish.ensures.logged) c.finish.ensures.unlogged)
