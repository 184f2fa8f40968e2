use Rattle.std.proofs.Common.{◌++◌, ◌∷◌, [], ap, ◌∙◌, sym, subst, refl, arith, List, Err, IsTrue}
use Rattle.gier_symbol.specs.declared.symbol.Symbol.{Symbol}
use Rattle.gier_text.specs.Log.{Logged}
use Rattle.gier_text.specs.Passes.{Expected}
use Rattle.gier_text.specs.View.{WritesAll, View}
use Rattle.gier_text.proofs.DriveLoop.{reads_none, writes_none, reads_more, writes_more, reads_end, logs_both_none, logs_both_more, logs_both_read, apart_as, apart_back, tracks_more, tracks_none, next_told, element_has, less_as, take_spoilt, take_named, names_more, place_more, first_word}
use Rattle.gier_text.proofs.driver.drive.Goals as goal

pub loop-s-init : goal.loop-s-init
loop-s-init g c =
    let view = g.T.Text.view in
    record {
      read = [];
      written = [];
      reads = reads_none (view c.args.input.now c.args.store.now);
      writes = writes_none (view c.args.output.now c.args.store.now);
      so_far = c.requires.stands;
      place_is = refl;
      named = (refl, refl);
      counted = c.requires.empty.count;
      reading = c.requires.unread.rewound;
      writing = c.requires.empty.writing;
      input_placed = c.requires.input_placed;
      output_placed = c.requires.output_placed;
      are_apart = c.requires.apart;
      input_place = record { begins = refl; ends = refl };
      output_place = record { begins = refl; ends = refl };
      same_room = refl;
      same_tracks = tracks_none _ _ (g.T.Text.tracks c.args.store.now);
      same_others = λ other apart. refl;
      later = omega arith;
      still_most = refl;
      same_limit = refl;
      still_expects = λ list h. h;
      logged = logs_both_none (view c.args.input.now c.args.store.now) (view c.args.output.now c.args.store.now) (g.T.Text.journal c.args.store.now);
    }

pub loop-s-preserved : goal.loop-s-preserved
loop-s-preserved g c =
    let now = c.loop-s.invariant in
    let view = g.T.Text.view in
    let out_kept = c.read_next.ensures.kept c.loop-s.output in
    let in_place = c.read_next.ensures.place in
    let out_place = c.take.ensures.place in
    let input_apart = apart_as _ _ _ _ _ _ _ _ (apart_back _ _ _ _ now.are_apart) refl refl in_place.begins in_place.ends in
    let input_kept = c.take.ensures.kept c.read_next.new.self input_apart in
    let given = rw c.in-Ok-Some.field-0-is at c.in-Ok-Some.ensures.given in
    let wrote = c.in-Ok.ensures.ok in
    let reads = reads_more (view c.args.input.now c.args.store.now) now.read (c.in-Ok-Some.s ∷ []) (view c.loop-s.input c.loop-s.store) (view c.read_next.new.self c.read_next.new.store) now.reads given.read in
    let writes = writes_more (view c.args.output.now c.args.store.now) now.written wrote.0 (view c.loop-s.output c.loop-s.store) (view c.take.new.out c.take.new.store) now.writes (subst (λ (v : View). WritesAll v wrote.0 (view c.take.new.out c.take.new.store)) out_kept wrote.1) in
    let took = subst (λ (v : View). Logged v (view c.take.new.out c.take.new.store) (g.T.Text.journal c.read_next.new.store) (g.T.Text.journal c.take.new.store)) out_kept c.take.ensures.logged in
    record {
      read = now.read ++ c.in-Ok-Some.s ∷ [];
      written = now.written ++ wrote.0;
      reads = rw input_kept reads;
      writes = writes;
      so_far = subst (λ (s : Symbol). g.P.Pass.stands c.take.new.self c.take.new.tables (now.read ++ s ∷ []) (now.written ++ wrote.0)) c.in-Some.ensures.back (wrote.2 now.read now.written now.so_far);
      place_is = place_more now.read c.in-Ok-Some.s c.loop-s.place _ now.place_is c.saturating_add-place.ensures;
      named = names_more now.read c.in-Ok-Some.s _ now.place_is (first_word c.code.result c.in-Ok-Some.s c.code.ensures);
      counted = omega (arith, writes.count, c.requires.empty.count);
      reading = ap (λ (v : View). v.rewound) input_kept ∙ given.read.rewound ∙ now.reading;
      writing = wrote.1.rewound ∙ ap (λ (v : View). v.rewound) out_kept ∙ now.writing;
      input_placed = omega (arith, in_place.ends, c.take.ensures.room, c.read_next.ensures.room, now.input_placed);
      output_placed = omega (arith, out_place.ends, c.take.ensures.room, c.read_next.ensures.room, now.output_placed);
      are_apart = apart_as _ _ _ _ _ _ _ _ now.are_apart in_place.begins in_place.ends out_place.begins out_place.ends;
      input_place = record { begins = in_place.begins ∙ now.input_place.begins; ends = in_place.ends ∙ now.input_place.ends };
      output_place = record { begins = out_place.begins ∙ now.output_place.begins; ends = out_place.ends ∙ now.output_place.ends };
      same_room = c.take.ensures.room ∙ c.read_next.ensures.room ∙ now.same_room;
      same_tracks = tracks_more _ _ _ _ _ _ _ now.same_tracks now.output_place.begins now.output_place.ends (rw c.read_next.ensures.tracks at c.take.ensures.tracks);
      same_others = λ other apart. c.take.ensures.kept other (apart_as _ _ _ _ _ _ _ _ apart now.output_place.begins now.output_place.ends refl refl) ∙ c.read_next.ensures.kept other ∙ now.same_others other apart;
      later = omega (arith, now.later, c.read_next.ensures.later, c.take.ensures.later);
      still_most = c.take.ensures.still_most ∙ now.still_most;
      same_limit = c.take.ensures.limit ∙ now.same_limit;
      still_expects = λ list h. c.take.ensures.still_expects list (now.still_expects list h);
      logged = rw input_kept (logs_both_more (view c.args.input.now c.args.store.now) (view c.loop-s.input c.loop-s.store) (view c.read_next.new.self c.read_next.new.store) (view c.args.output.now c.args.store.now) (view c.loop-s.output c.loop-s.store) (view c.take.new.out c.take.new.store) (g.T.Text.journal c.args.store.now) (g.T.Text.journal c.loop-s.store) (g.T.Text.journal c.read_next.new.store) (g.T.Text.journal c.take.new.store) now.logged c.read_next.ensures.logged took);
    }

pub returns-in-None-clause-spoilt : goal.returns-in-None-clause-spoilt
returns-in-None-clause-spoilt g c = λ all told expected.
    let now = c.loop-s.invariant in
    let view = g.T.Text.view in
    let given = rw c.in-Ok-Some.field-0-is at c.in-Ok-Some.ensures.given in
    let next = next_told (view c.args.input.now c.args.store.now).left (view c.loop-s.input c.loop-s.store).left all now.read c.in-Ok-Some.s (view c.read_next.new.self c.read_next.new.store).left now.reads.left told given.read.left in
    let letter = element_has (λ (x : Symbol). IsTrue (g.P.In.Alphabet.has x)) all now.read next.0 c.in-Ok-Some.s next.1 (g.met.P.Pass.letters c.args.pass.now all expected) in
    let wrong = c.in-None.ensures.some.1 letter in
    absurd (cc)

pub returns-in-Err-take-clause-spoilt : goal.returns-in-Err-take-clause-spoilt
returns-in-Err-take-clause-spoilt g c = λ all told expected.
    let now = c.loop-s.invariant in
    let view = g.T.Text.view in
    let out_kept = c.read_next.ensures.kept c.loop-s.output in
    let given = rw c.in-Ok-Some.field-0-is at c.in-Ok-Some.ensures.given in
    let next = next_told (view c.args.input.now c.args.store.now).left (view c.loop-s.input c.loop-s.store).left all now.read c.in-Ok-Some.s (view c.read_next.new.self c.read_next.new.store).left now.reads.left told given.read.left in
    let ready : Expected (g.P.Pass.stands c.loop-s.pass c.loop-s.tables) (g.P.Pass.expects c.loop-s.pass) (view c.loop-s.output c.read_next.new.store) (g.P.In.Alphabet.symbol_of c.in-Some.letter ∷ []) = record {
      read = now.read;
      written = now.written;
      rest = next.0;
      so_far = now.so_far;
      counted = ap (λ (v : View). v.count) out_kept ∙ now.counted;
      expected = subst (λ (s : Symbol). g.P.Pass.expects c.loop-s.pass ((now.read ++ s ∷ []) ++ next.0)) (sym c.in-Some.ensures.back) (subst (λ (l : List Symbol). g.P.Pass.expects c.loop-s.pass l) next.1 (now.still_expects all expected));
    } in
    rw c.stop_at.ensures (take_spoilt c.in-Err-take.stop _ _ (c.in-Err-take.ensures.sound ready) (λ full.
    less_as (view c.args.output.now c.args.store.now) (view c.loop-s.output c.read_next.new.store) (g.P.Pass.most c.args.pass.now) (g.P.Pass.most c.loop-s.pass) (c.in-Err-take.ensures.roomy ready (ap Err full)) (ap (λ (v : View). v.capacity) out_kept ∙ now.writes.capacity) now.still_most))

pub returns-in-Ok-end-clause-relates : goal.returns-in-Ok-end-clause-relates
returns-in-Ok-end-clause-relates g c =
    let now = c.loop-s.invariant in
    let view = g.T.Text.view in
    let out_kept = c.read_next.ensures.kept c.loop-s.output in
    let given = rw c.in-Ok-None.field-0-is at c.in-Ok-None.ensures.given in
    let left = reads_end (view c.args.input.now c.args.store.now) now.read (view c.loop-s.input c.loop-s.store) now.reads given.ends in
    let wrote = c.in-Ok-end.ensures.ok in
    let writes = writes_more (view c.args.output.now c.args.store.now) now.written wrote.0 (view c.loop-s.output c.loop-s.store) (view c.end.new.out c.end.new.store) now.writes (subst (λ (v : View). WritesAll v wrote.0 (view c.end.new.out c.end.new.store)) out_kept wrote.1) in
    (now.read, now.written ++ wrote.0, left, writes, wrote.2 now.read now.written now.so_far)

pub returns-in-Ok-end-clause-logged : goal.returns-in-Ok-end-clause-logged
returns-in-Ok-end-clause-logged g c =
    let now = c.loop-s.invariant in
    let view = g.T.Text.view in
    let out_kept = c.read_next.ensures.kept c.loop-s.output in
    let in_place = c.read_next.ensures.place in
    let input_apart = apart_as _ _ _ _ _ _ _ _ (apart_back _ _ _ _ now.are_apart) refl refl in_place.begins in_place.ends in
    let input_kept = c.end.ensures.kept c.read_next.new.self input_apart in
    let ended = subst (λ (v : View). Logged v (view c.end.new.out c.end.new.store) (g.T.Text.journal c.read_next.new.store) (g.T.Text.journal c.end.new.store)) out_kept c.end.ensures.logged in
    rw input_kept (logs_both_more (view c.args.input.now c.args.store.now) (view c.loop-s.input c.loop-s.store) (view c.read_next.new.self c.read_next.new.store) (view c.args.output.now c.args.store.now) (view c.loop-s.output c.loop-s.store) (view c.end.new.out c.end.new.store) (g.T.Text.journal c.args.store.now) (g.T.Text.journal c.loop-s.store) (g.T.Text.journal c.read_next.new.store) (g.T.Text.journal c.end.new.store) now.logged c.read_next.ensures.logged ended)

pub returns-in-Err-clause-logged : goal.returns-in-Err-clause-logged
returns-in-Err-clause-logged g c =
    let view = g.T.Text.view in
    logs_both_read (view c.args.input.now c.args.store.now) (view c.loop-s.input c.loop-s.store) (view c.read_next.new.self c.read_next.new.store) (view c.args.output.now c.args.store.now) (view c.loop-s.output c.loop-s.store) (view c.loop-s.output c.read_next.new.store) (g.T.Text.journal c.args.store.now) (g.T.Text.journal c.loop-s.store) (g.T.Text.journal c.read_next.new.store) c.loop-s.invariant.logged c.read_next.ensures.logged (c.read_next.ensures.kept c.loop-s.output)

pub returns-in-None-clause-logged : goal.returns-in-None-clause-logged
returns-in-None-clause-logged g c =
    let view = g.T.Text.view in
    logs_both_read (view c.args.input.now c.args.store.now) (view c.loop-s.input c.loop-s.store) (view c.read_next.new.self c.read_next.new.store) (view c.args.output.now c.args.store.now) (view c.loop-s.output c.loop-s.store) (view c.loop-s.output c.read_next.new.store) (g.T.Text.journal c.args.store.now) (g.T.Text.journal c.loop-s.store) (g.T.Text.journal c.read_next.new.store) c.loop-s.invariant.logged c.read_next.ensures.logged (c.read_next.ensures.kept c.loop-s.output)

pub returns-in-Err-take-clause-logged : goal.returns-in-Err-take-clause-logged
returns-in-Err-take-clause-logged g c =
    let now = c.loop-s.invariant in
    let view = g.T.Text.view in
    let out_kept = c.read_next.ensures.kept c.loop-s.output in
    let in_place = c.read_next.ensures.place in
    let input_apart = apart_as _ _ _ _ _ _ _ _ (apart_back _ _ _ _ now.are_apart) refl refl in_place.begins in_place.ends in
    let input_kept = c.take.ensures.kept c.read_next.new.self input_apart in
    let stopped = subst (λ (v : View). Logged v (view c.take.new.out c.take.new.store) (g.T.Text.journal c.read_next.new.store) (g.T.Text.journal c.take.new.store)) out_kept c.take.ensures.logged in
    rw input_kept (logs_both_more (view c.args.input.now c.args.store.now) (view c.loop-s.input c.loop-s.store) (view c.read_next.new.self c.read_next.new.store) (view c.args.output.now c.args.store.now) (view c.loop-s.output c.loop-s.store) (view c.take.new.out c.take.new.store) (g.T.Text.journal c.args.store.now) (g.T.Text.journal c.loop-s.store) (g.T.Text.journal c.read_next.new.store) (g.T.Text.journal c.take.new.store) now.logged c.read_next.ensures.logged stopped)

pub returns-in-Err-end-clause-logged : goal.returns-in-Err-end-clause-logged
returns-in-Err-end-clause-logged g c =
    let now = c.loop-s.invariant in
    let view = g.T.Text.view in
    let out_kept = c.read_next.ensures.kept c.loop-s.output in
    let in_place = c.read_next.ensures.place in
    let input_apart = apart_as _ _ _ _ _ _ _ _ (apart_back _ _ _ _ now.are_apart) refl refl in_place.begins in_place.ends in
    let input_kept = c.end.ensures.kept c.read_next.new.self input_apart in
    let stopped = subst (λ (v : View). Logged v (view c.end.new.out c.end.new.store) (g.T.Text.journal c.read_next.new.store) (g.T.Text.journal c.end.new.store)) out_kept c.end.ensures.logged in
    rw input_kept (logs_both_more (view c.args.input.now c.args.store.now) (view c.loop-s.input c.loop-s.store) (view c.read_next.new.self c.read_next.new.store) (view c.args.output.now c.args.store.now) (view c.loop-s.output c.loop-s.store) (view c.end.new.out c.end.new.store) (g.T.Text.journal c.args.store.now) (g.T.Text.journal c.loop-s.store) (g.T.Text.journal c.read_next.new.store) (g.T.Text.journal c.end.new.store) now.logged c.read_next.ensures.logged stopped)

pub returns-in-None-clause-last : goal.returns-in-None-clause-last
returns-in-None-clause-last g c = λ all told expected.
    let now = c.loop-s.invariant in
    let view = g.T.Text.view in
    let given = rw c.in-Ok-Some.field-0-is at c.in-Ok-Some.ensures.given in
    let next = next_told (view c.args.input.now c.args.store.now).left (view c.loop-s.input c.loop-s.store).left all now.read c.in-Ok-Some.s (view c.read_next.new.self c.read_next.new.store).left now.reads.left told given.read.left in
    let letter = element_has (λ (x : Symbol). IsTrue (g.P.In.Alphabet.has x)) all now.read next.0 c.in-Ok-Some.s next.1 (g.met.P.Pass.letters c.args.pass.now all expected) in
    let wrong = c.in-None.ensures.some.1 letter in
    absurd (cc)

pub returns-in-Err-take-clause-last : goal.returns-in-Err-take-clause-last
returns-in-Err-take-clause-last g c = λ all told expected.
    let now = c.loop-s.invariant in
    let view = g.T.Text.view in
    let out_kept = c.read_next.ensures.kept c.loop-s.output in
    let in_place = c.read_next.ensures.place in
    let input_apart = apart_as _ _ _ _ _ _ _ _ (apart_back _ _ _ _ now.are_apart) refl refl in_place.begins in_place.ends in
    let input_kept = c.take.ensures.kept c.read_next.new.self input_apart in
    let given = rw c.in-Ok-Some.field-0-is at c.in-Ok-Some.ensures.given in
    let next = next_told (view c.args.input.now c.args.store.now).left (view c.loop-s.input c.loop-s.store).left all now.read c.in-Ok-Some.s (view c.read_next.new.self c.read_next.new.store).left now.reads.left told given.read.left in
    let ready : Expected (g.P.Pass.stands c.loop-s.pass c.loop-s.tables) (g.P.Pass.expects c.loop-s.pass) (view c.loop-s.output c.read_next.new.store) (g.P.In.Alphabet.symbol_of c.in-Some.letter ∷ []) = record {
      read = now.read;
      written = now.written;
      rest = next.0;
      so_far = now.so_far;
      counted = ap (λ (v : View). v.count) out_kept ∙ now.counted;
      expected = subst (λ (s : Symbol). g.P.Pass.expects c.loop-s.pass ((now.read ++ s ∷ []) ++ next.0)) (sym c.in-Some.ensures.back) (subst (λ (l : List Symbol). g.P.Pass.expects c.loop-s.pass l) next.1 (now.still_expects all expected));
    } in
    let reads = reads_more (view c.args.input.now c.args.store.now) now.read (c.in-Ok-Some.s ∷ []) (view c.loop-s.input c.loop-s.store) (view c.read_next.new.self c.read_next.new.store) now.reads given.read in
    rw c.stop_at.ensures (take_named c.in-Err-take.stop _ _ (c.in-Err-take.ensures.sound ready) (record {
      read = now.read ++ c.in-Ok-Some.s ∷ [];
      reads = rw input_kept reads;
      named = names_more now.read c.in-Ok-Some.s _ now.place_is (first_word c.code.result c.in-Ok-Some.s c.code.ensures);
    }))
