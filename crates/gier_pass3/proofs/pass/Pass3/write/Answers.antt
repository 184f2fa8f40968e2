use Rattle.std.proofs.Common.{arith}
use Rattle.gier_text.specs.TablesModel.{tables_model}
use Rattle.gier_pass3.specs.Lists.{ready_by}
use Rattle.gier_pass3.proofs.Potentials.{preserves_ready, length_weight, some_weight}
use Rattle.gier_pass3.proofs.pass.Pass3.write.Goals as goal

pub ready-requires-clause-room : goal.ready-requires-clause-room
ready-requires-clause-room c = omega (arith, c.requires.room.total_potential, c.requires.room.holds.ready_room, length_weight (ready_by (tables_model c.args.tables.now)), some_weight c.args.s.tag)

pub returns-clause-preserves : goal.returns-clause-preserves
returns-clause-preserves c = preserves_ready c.args.self.now (tables_model c.args.tables.now) (tables_model c.ready.new.tables) c.args.s c.requires.room.holds c.ready.ensures c.requires.fit
