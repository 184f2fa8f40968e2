use Rattle.std.proofs.Common.{arith}
use Rattle.gier_text.specs.TablesModel.{tables_model}
use Rattle.gier_pass3.specs.Lists.{lookahead_by}
use Rattle.gier_pass3.proofs.Potentials.{preserves_lookahead, length_weight, some_weight}
use Rattle.gier_pass3.proofs.pass.Pass3.add_lookahead.Goals as goal

pub add_lookahead-requires-clause-room : goal.add_lookahead-requires-clause-room
add_lookahead-requires-clause-room c = omega (arith, c.requires.room.total_potential, c.requires.room.holds.lookahead_room, length_weight (lookahead_by (tables_model c.args.tables.now)), some_weight c.args.s.tag)

pub returns-clause-preserves : goal.returns-clause-preserves
returns-clause-preserves c = preserves_lookahead c.args.self.now (tables_model c.args.tables.now) (tables_model c.add_lookahead.new.tables) c.args.s c.requires.room.holds c.add_lookahead.ensures c.requires.fit
