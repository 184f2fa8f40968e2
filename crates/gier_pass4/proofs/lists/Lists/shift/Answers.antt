use Rattle.std.proofs.Common.{◌≡◌, ◌+◌, ◌∙◌, ℕ, ap, arith}
use Rattle.gier_text.specs.Potential.{potential}
use Rattle.gier_text.specs.TablesModel.{tables_model}
use Rattle.gier_text.specs.Lists.{TableList, list_at, cut_to}
use Rattle.gier_text.specs.Outbox.{symbol_at, if_any, outbox_symbols_until}
use Rattle.gier_pass4.specs.Lists.{room_of}
use Rattle.gier_pass4.proofs.ListReplacement.{with_queue, queue_cut, cut_moves}
use Rattle.gier_pass4.proofs.Weights.{until_next, until_weight}
use Rattle.gier_pass4.proofs.lists.Lists.shift.Goals as goal

pub copy-requires-clause-room : goal.copy-requires-clause-room
copy-requires-clause-room c =
    let list = list_at (tables_model c.args.tables.now).lists c.args.from in
    let here : potential 4 (if_any (symbol_at (list_at (tables_model c.loop-at.tables).lists c.args.from) c.loop-at.at)) ≡ potential 4 (if_any (symbol_at list c.loop-at.at)) = ap (λ (l : TableList). potential 4 (if_any (symbol_at l c.loop-at.at))) c.loop-at.invariant.source in
    omega (arith, here, until_next list c.loop-at.at, until_weight list (c.loop-at.at + 1) list.count (omega (arith, c.loop-at-test.true, c.len-at-end.ensures)), c.loop-at.invariant.moved, c.requires.room)

pub loop-at-preserved : goal.loop-at-preserved
loop-at-preserved c =
    let list = list_at (tables_model c.args.tables.now).lists c.args.from in
    let here : potential 4 (if_any (symbol_at (list_at (tables_model c.loop-at.tables).lists c.args.from) c.loop-at.at)) ≡ potential 4 (if_any (symbol_at list c.loop-at.at)) = ap (λ (l : TableList). potential 4 (if_any (symbol_at l c.loop-at.at))) c.loop-at.invariant.source in
    record {
      lists = c.copy.ensures.lists;
      source = c.copy.ensures.copies.source ∙ c.loop-at.invariant.source;
      moved = omega (arith, here, until_next list c.loop-at.at, c.loop-at.invariant.moved, c.copy.ensures.copies.more);
      others = λ k ne. c.copy.ensures.copies.others k ne ∙ c.loop-at.invariant.others k ne;
      limit = c.copy.ensures.copies.limit ∙ c.loop-at.invariant.limit;
    }

pub returns-clause-lists : goal.returns-clause-lists
returns-clause-lists c =
    let list = list_at (tables_model c.loop-at.tables).lists c.args.from in
    let count : list.count ≡ (list_at (tables_model c.args.tables.now).lists c.args.from).count = ap (λ (l : TableList). l.count) c.loop-at.invariant.source in
    let queue = queue_cut c.args.self.bytes (room_of c.args.self.bytes c.args.from) list c.args.base (c.loop-at.invariant.lists.queues c.args.from c.requires.from) (omega (arith, count, c.requires.base)) in
    rw c.cut.ensures (with_queue c.args.self.bytes (tables_model c.loop-at.tables) c.args.from (cut_to list c.args.base) c.loop-at.invariant.lists c.requires.from queue)

pub returns-clause-moves : goal.returns-clause-moves
returns-clause-moves c =
    let list = list_at (tables_model c.args.tables.now).lists c.args.from in
    let at_end : c.loop-at.at ≡ list.count = omega (arith, c.len-at-end.ensures, c.requires.base, c.loop-at.auto.at-end, c.loop-at-test.false) in
    let all : potential 4 (outbox_symbols_until list c.loop-at.at) ≡ potential 4 (outbox_symbols_until list list.count) = ap (λ (n : ℕ). potential 4 (outbox_symbols_until list n)) at_end in
    cut_moves (tables_model c.args.tables.now) (tables_model c.loop-at.tables) (tables_model c.cut.new.self) c.args.from c.args.to c.args.base (omega (arith, c.loop-at.invariant.lists.number, c.requires.from)) c.requires.apart (c.requires.lists.queues c.args.from c.requires.from).width c.loop-at.invariant.source c.requires.base (omega (arith, c.loop-at.invariant.moved, all)) c.loop-at.invariant.others c.loop-at.invariant.limit c.cut.ensures
