use Rattle.std.proofs.Common.{arith}
use Rattle.gier_text.specs.TablesModel.{tables_model}
use Rattle.gier_text3.specs.PurePass.{name_symbols}
use Rattle.gier_pass3.specs.Lists.{lookahead_by, ready_by}
use Rattle.gier_pass3.proofs.Potentials.{preserves_all, length_weight, name_light}
use Rattle.gier_pass3.proofs.pass.Pass3.write_lookahead.Goals as goal

pub ready_all-requires-clause-room : goal.ready_all-requires-clause-room
ready_all-requires-clause-room c = omega (arith, c.requires.room.total_potential, c.requires.room.holds.ready_room, length_weight (ready_by (tables_model c.args.tables.now)), length_weight (lookahead_by (tables_model c.args.tables.now)), length_weight (name_symbols c.args.self.now.name), name_light c.args.self.now.name)

pub returns-clause-preserves : goal.returns-clause-preserves
returns-clause-preserves c = preserves_all c.args.self.now (tables_model c.args.tables.now) (tables_model c.ready_all.new.tables) c.requires.room.holds c.ready_all.ensures
