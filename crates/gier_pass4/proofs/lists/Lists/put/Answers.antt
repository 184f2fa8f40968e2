use Rattle.std.proofs.Common.{arith, refl}
use Rattle.gier_text.specs.TablesModel.{tables_model}
use Rattle.gier_text.specs.Lists.{list_at}
use Rattle.gier_text.specs.Outbox.{outbox_symbols}
use Rattle.gier_pass4.proofs.Weights.{length_weight}
use Rattle.gier_pass4.proofs.ListReplacement.{put_lists, put_adds}
use Rattle.gier_pass4.proofs.lists.Lists.put.Goals as goal

pub returns-clause-lists : goal.returns-clause-lists
returns-clause-lists c = put_lists c.args.self.bytes (tables_model c.args.tables.now) (tables_model c.put.new.tables) c.args.list _ c.args.s c.requires.lists c.requires.list refl c.put.ensures.put c.put.ensures.waits c.requires.letter

pub returns-clause-adds : goal.returns-clause-adds
returns-clause-adds c = put_adds (tables_model c.args.tables.now) (tables_model c.put.new.tables) c.args.list _ c.args.s c.put.ensures.put c.put.ensures.waits

pub put-requires-clause-room : goal.put-requires-clause-room
put-requires-clause-room c =
    let list = list_at (tables_model c.args.tables.now).lists c.args.list in
    let queue = c.requires.lists.queues c.args.list c.requires.list in
    omega (arith, queue.capacity, queue.whole, length_weight (outbox_symbols list), c.requires.room)
