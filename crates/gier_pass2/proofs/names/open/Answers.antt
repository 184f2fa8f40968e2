use Rattle.gier_text.specs.TablesModel.{tables_model}
use Rattle.gier_pass2.proofs.Standard.{spells_all}
use Rattle.gier_pass2.proofs.names.open.Goals as goal

pub returns-clause-standard : goal.returns-clause-standard
returns-clause-standard c = spells_all (tables_model c.loop-byte.tables) c.loop-byte.names c.loop-byte.node c.loop-byte.byte-index
    c.loop-byte-test.false c.loop-byte.invariant.spells
