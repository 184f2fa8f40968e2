use Rattle.std.proofs.Common.{◌∙◌, ◌++◌, arith, refl, []}
use Rattle.gier_text.proofs.DriveLoop.{writes_more, writes_none, logged_more, logged_none, tracks_more, tracks_none}
use Rattle.gier_text.specs.Outbox.{if_any}
use Rattle.gier_text.specs.declared.pass.PassStop.TheVariants.{Full}
use Rattle.gier_pass7.proofs.SendLoop.{other_ok, no_letters, letters_more, spent_more, less_room}
use Rattle.gier_pass7.proofs.send.send.Goals as goal

pub returns-in-Err-clause-roomy : goal.returns-in-Err-clause-roomy
returns-in-Err-clause-roomy g c = λ full.
    let view = g.T.Text.view in
    let now = c.loop-at.invariant in
    let both = c.in-Err.ensures.full_before (other_ok c.in-Err.stop Full full) in
    less_room (view c.args.out.now c.args.store.now) (view c.loop-at.out c.loop-at.store) now.list c.waiting_at-symbol.result c.args.left c.loop-at.rest now.wrote.writes now.spent c.waiting_at-symbol.ensures.few both

pub returns-in-Err-clause-logged : goal.returns-in-Err-clause-logged
returns-in-Err-clause-logged g c =
    let view = g.T.Text.view in
    logged_more (view c.args.out.now c.args.store.now) (view c.loop-at.out c.loop-at.store) (view c.write_any.new.out c.write_any.new.store) _ _ _ c.loop-at.invariant.wrote.logged c.in-Err.ensures.logged

pub loop-at-init : goal.loop-at-init
loop-at-init g c =
    let view = g.T.Text.view in
    record {
      list = [];
      letters = no_letters;
      spent = omega arith;
      wrote = record {
        writes = writes_none (view c.args.out.now c.args.store.now);
        logged = logged_none (view c.args.out.now c.args.store.now) (g.T.Text.journal c.args.store.now);
        writing = c.requires.writing;
        placed = c.requires.placed;
        place = record { begins = refl; ends = refl };
        same_room = refl;
        same_tracks = tracks_none _ _ _;
        same_others = λ other apart. refl;
        later = omega arith;
      };
    }

pub loop-at-preserved : goal.loop-at-preserved
loop-at-preserved g c =
    let view = g.T.Text.view in
    let now = c.loop-at.invariant in
    let wrote = now.wrote in
    let xs = if_any c.waiting_at-symbol.result in
    let all = writes_more (view c.args.out.now c.args.store.now) now.list xs (view c.loop-at.out c.loop-at.store) (view c.write_any.new.out c.write_any.new.store) wrote.writes c.in-Ok.ensures.written in
    record {
      list = now.list ++ xs;
      letters = letters_more now.list c.waiting_at-symbol.result now.letters c.waiting_at-symbol.ensures.letter;
      spent = spent_more now.list c.waiting_at-symbol.result c.args.left c.loop-at.rest c.less-rest.result now.spent c.less-rest.ensures;
      wrote = record {
        writes = all;
        logged = logged_more (view c.args.out.now c.args.store.now) (view c.loop-at.out c.loop-at.store) (view c.write_any.new.out c.write_any.new.store) _ _ _ wrote.logged c.write_any.ensures.logged;
        writing = all.rewound ∙ c.requires.writing;
        placed = omega (arith, wrote.placed, c.write_any.ensures.place.ends, c.write_any.ensures.room);
        place = record { begins = c.write_any.ensures.place.begins ∙ wrote.place.begins; ends = c.write_any.ensures.place.ends ∙ wrote.place.ends };
        same_room = c.write_any.ensures.room ∙ wrote.same_room;
        same_tracks = tracks_more _ _ _ _ _ _ _ wrote.same_tracks wrote.place.begins wrote.place.ends c.write_any.ensures.tracks;
        same_others = λ other apart. c.write_any.ensures.kept other (rw (wrote.place.begins, wrote.place.ends) apart) ∙ wrote.same_others other apart;
        later = omega (arith, wrote.later, c.write_any.ensures.later);
      };
    }
