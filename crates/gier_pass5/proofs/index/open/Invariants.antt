use Rattle.gier_text.specs.TablesModel.{tables_model}
use Rattle.gier_pass5.specs.Index.{OpensIndex}
use Rattle.gier_pass5.proofs.index.open.Given as goal

abbrev pub invariant-loop : goal.invariant-loop
invariant-loop l = OpensIndex l.rows l.counter (tables_model l.fn.tables) (tables_model l.tables)
