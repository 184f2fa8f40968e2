use Rattle.std.proofs.Common.{◌+◌}
use Rattle.gier_text.specs.TablesModel.{tables_model}
use Rattle.gier_pass2.proofs.Standard.{planted}
use Rattle.gier_pass2.proofs.names.plant.Goals as goal

pub returns-clause-spells : goal.returns-clause-spells
returns-clause-spells c = planted (tables_model c.args.tables.now) (tables_model c.list.new.self) (tables_model c.push.new.self)
    (c.args.bytes + 64) c.requires.cleared c.list.ensures.opened c.push.ensures
