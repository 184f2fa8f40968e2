use Rattle.gier_text.specs.TablesModel.{tables_model}
use Rattle.gier_pass4.proofs.ListReplacement.{grows_own}
use Rattle.gier_pass4.proofs.lists.Lists.put_own.Goals as goal

pub returns-clause-grows : goal.returns-clause-grows
returns-clause-grows c = grows_own (tables_model c.args.tables.now) (tables_model c.put.new.tables) _ c.put.ensures.adds
