use Rattle.std.proofs.Common.{arith}
use Rattle.gier_text.specs.TablesModel.{tables_model}
use Rattle.gier_pass4.proofs.OpenedLists.{opened_lists, opened_load}
use Rattle.gier_pass4.proofs.lists.Lists.open.Goals as goal

pub returns-clause-lists : goal.returns-clause-lists
returns-clause-lists c = opened_lists c.args.bytes (tables_model c.open_tables.new.tables) (tables_model c.fill.new.tables) (omega arith) c.open_tables.ensures.lists c.fill.ensures

pub returns-clause-out : goal.returns-clause-out
returns-clause-out c = opened_load c.args.bytes (tables_model c.open_tables.new.tables) (tables_model c.fill.new.tables) 0 c.open_tables.ensures.lists c.fill.ensures (omega arith)

pub returns-clause-entries : goal.returns-clause-entries
returns-clause-entries c = opened_load c.args.bytes (tables_model c.open_tables.new.tables) (tables_model c.fill.new.tables) 1 c.open_tables.ensures.lists c.fill.ensures (omega arith)

pub returns-clause-own_entries : goal.returns-clause-own_entries
returns-clause-own_entries c = opened_load c.args.bytes (tables_model c.open_tables.new.tables) (tables_model c.fill.new.tables) 2 c.open_tables.ensures.lists c.fill.ensures (omega arith)

pub returns-clause-owns : goal.returns-clause-owns
returns-clause-owns c = opened_load c.args.bytes (tables_model c.open_tables.new.tables) (tables_model c.fill.new.tables) 3 c.open_tables.ensures.lists c.fill.ensures (omega arith)

pub returns-clause-formals : goal.returns-clause-formals
returns-clause-formals c = opened_load c.args.bytes (tables_model c.open_tables.new.tables) (tables_model c.fill.new.tables) 4 c.open_tables.ensures.lists c.fill.ensures (omega arith)
