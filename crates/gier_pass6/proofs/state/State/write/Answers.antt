use Rattle.gier_text.specs.TablesModel.{tables_model}
use Rattle.gier_pass6.proofs.ListChanges.{put_goes}
use Rattle.gier_pass6.proofs.state.State.write.Goals as goal

pub returns-then-is_writable : goal.returns-then-is_writable
returns-then-is_writable c =
    let work = c.args.self.now in
    put_goes work.bytes work.potential_left (tables_model c.args.tables.now) (tables_model c.put.new.tables) c.args.s c.requires.ready (c.is_writable.ensures c.if-is_writable.true) c.if-self-gt0.true c.put.ensures.put c.put.ensures.waits
