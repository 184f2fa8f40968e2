use Rattle.std.proofs.Common.{◌≤◌}
use Rattle.gier_text.specs.TablesModel.{tables_model}
use Rattle.gier_pass5.specs.Lists.{Keeps, entry_count}
use Rattle.gier_pass5.proofs.entries.cut.Given as goal

abbrev pub invariant-loop-at : goal.invariant-loop-at
invariant-loop-at l = Keeps (tables_model l.initial.tables) (tables_model l.tables) × (l.at ≤ entry_count (tables_model l.tables))

abbrev pub decreases-loop-at : goal.decreases-loop-at
decreases-loop-at l = l.at
