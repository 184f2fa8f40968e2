use Rattle.std.proofs.Common.{◌∙◌, ap, arith, length, List, length-append, ◌++◌}
use Rattle.gier_symbol.specs.declared.symbol.Symbol.{Symbol}
use Rattle.gier_text.specs.TablesModel.{tables_model}
use Rattle.gier_text.specs.Outbox.{symbol_at, if_any, outbox_symbols_until}
use Rattle.gier_pass3.specs.Lists.{lookahead_in, ready_by}
use Rattle.gier_pass3.proofs.LookaheadReady.{still_fewer, ready_more, keeps_more}
use Rattle.gier_pass3.proofs.lookahead.ready_lookahead.Goals as goal

pub ready_at-requires-clause-room : goal.ready_at-requires-clause-room
ready_at-requires-clause-room c =
    let inv = c.loop-at.invariant in
    let list = lookahead_in (tables_model c.args.tables.now) in
    rw inv.lookahead (omega (arith, inv.same_lists.ready_room, ap (λ (l : List Symbol). length l) inv.ready, length-append (ready_by (tables_model c.args.tables.now)) (outbox_symbols_until list c.loop-at.at), still_fewer list c.loop-at.at list.count (omega (arith, c.loop-at-test.true, c.len-at-end.ensures)), c.requires.room))

pub loop-at-preserved : goal.loop-at-preserved
loop-at-preserved c =
    let inv = c.loop-at.invariant in
    let list = lookahead_in (tables_model c.args.tables.now) in
    record {
      same_lists = keeps_more (tables_model c.args.tables.now) (tables_model c.loop-at.tables) (tables_model c.ready_at.new.tables) inv.same_lists c.ready_at.ensures.lists;
      stack = c.ready_at.ensures.stack ∙ inv.stack;
      lookahead = c.ready_at.ensures.lookahead ∙ inv.lookahead;
      ready = ready_more (ready_by (tables_model c.args.tables.now)) (ready_by (tables_model c.loop-at.tables)) (ready_by (tables_model c.ready_at.new.tables)) list c.loop-at.at inv.ready (c.ready_at.ensures.ready ∙ ap (λ l. ready_by (tables_model c.loop-at.tables) ++ if_any (symbol_at l c.loop-at.at)) inv.lookahead);
    }
