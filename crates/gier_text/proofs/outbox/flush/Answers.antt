use Rattle.std.proofs.Common.{◌<◌, ◌∙◌, arith, length, sym}
use Rattle.gier_text.specs.TablesModel.{tables_model}
use Rattle.gier_text.specs.Lists.{list_at}
use Rattle.gier_text.specs.Outbox.{outbox_symbols_until, if_any, symbol_at}
use Rattle.gier_text.proofs.DriveLoop.{writes_more, logged_more, tracks_more}
use Rattle.gier_text.proofs.OutboxSymbols.{until_more, less_room}
use Rattle.gier_text.proofs.outbox.flush.Goals as goal

pub returns-in-Err-clause-roomy : goal.returns-in-Err-clause-roomy
returns-in-Err-clause-roomy g c = λ full.
    let list = list_at (tables_model c.args.tables.now).lists c.args.list in
    let view = g.T.Text.view in
    let before = c.in-Err.ensures.full_before full in
    let any : 0 < length (if_any (symbol_at list c.loop-at.at)) = rw (sym c.waiting_at.ensures.value) before.1 in
    less_room (view c.args.out.now c.args.store.now) (view c.loop-at.out c.loop-at.store) list c.loop-at.at c.loop-at.invariant.writes (omega (arith, c.loop-at-test.true, c.len-at-end.ensures)) (before.0, any)

pub loop-at-preserved : goal.loop-at-preserved
loop-at-preserved g c =
    let list = list_at (tables_model c.args.tables.now).lists c.args.list in
    let view = g.T.Text.view in
    let now = c.loop-at.invariant in
    let ensures = c.in-Ok.ensures in
    let xs = if_any c.waiting_at.result in
    let all = writes_more (view c.args.out.now c.args.store.now) (outbox_symbols_until list c.loop-at.at) xs (view c.loop-at.out c.loop-at.store) (view c.write_any.new.out c.write_any.new.store) now.writes ensures.written in
    record {
      writes = rw (until_more list c.loop-at.at, sym c.waiting_at.ensures.value) all;
      logged = logged_more (view c.args.out.now c.args.store.now) (view c.loop-at.out c.loop-at.store) (view c.write_any.new.out c.write_any.new.store) _ _ _ now.logged c.write_any.ensures.logged;
      writing = all.rewound ∙ c.requires.writing;
      placed = omega (arith, now.placed, c.write_any.ensures.place.ends, c.write_any.ensures.room);
      place = record { begins = c.write_any.ensures.place.begins ∙ now.place.begins; ends = c.write_any.ensures.place.ends ∙ now.place.ends };
      same_room = c.write_any.ensures.room ∙ now.same_room;
      same_tracks = tracks_more _ _ _ _ _ _ _ now.same_tracks now.place.begins now.place.ends c.write_any.ensures.tracks;
      same_others = λ other apart. c.write_any.ensures.kept other (rw (now.place.begins, now.place.ends) apart) ∙ now.same_others other apart;
      later = omega (arith, now.later, c.write_any.ensures.later);
    }
