use Rattle.gier_text.specs.TablesModel.{tables_model}
use Rattle.gier_pass5.specs.Entries.{AddsMore}
use Rattle.gier_pass5.proofs.pass.add_standard.Given as goal

abbrev pub invariant-loop-number : goal.invariant-loop-number
invariant-loop-number l = AddsMore l.number (tables_model l.initial.tables) (tables_model l.tables)
