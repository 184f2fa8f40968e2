use Rattle.gier_text.specs.TablesModel.{tables_model}
use Rattle.gier_pass5.specs.Uses.{symbols_of}
use Rattle.gier_pass5.proofs.InvariantSteps.{takes_emitted}
use Rattle.gier_pass5.proofs.pass.Pass5.take_use.Goals as goal

pub returns : goal.returns
returns c = (c.meant-meant.result, takes_emitted c.args.self.now (tables_model c.args.tables.now) (tables_model c.meant-meant.new.tables) (tables_model c.put_use.new.tables) (symbols_of c.meant-meant.result c.args.s.line) c.requires.taking c.requires.empty c.meant-meant.ensures c.put_use.ensures)
