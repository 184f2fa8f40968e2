use Rattle.std.proofs.Common.{sym}
use Rattle.gier_text.specs.TablesModel.{tables_model}
use Rattle.gier_text.specs.Lists.{list_at}
use Rattle.gier_pass4.specs.Lists.{IsLetter}
use Rattle.gier_pass4.proofs.Weights.{entry_all, copies_some}
use Rattle.gier_pass4.proofs.lists.Lists.copy.Goals as goal

pub completed-symbol-requires-clause-letter : goal.completed-symbol-requires-clause-letter
completed-symbol-requires-clause-letter c =
    let list = list_at (tables_model c.args.tables.now).lists c.args.from in
    entry_all (IsLetter c.args.self.bytes) list c.args.at list.count c.in-Some.symbol c.requires.entry (sym c.in-Some.ensures.value) (c.requires.lists.queues c.args.from c.requires.from).letters

pub returns-in-Some-clause-copies : goal.returns-in-Some-clause-copies
returns-in-Some-clause-copies c = copies_some (tables_model c.args.tables.now) (tables_model c.put.new.tables) c.args.from c.args.to c.args.at c.in-Some.symbol c.completed-symbol.result c.put.ensures.adds c.completed-symbol.ensures.tag c.requires.apart (sym c.in-Some.ensures.value)
