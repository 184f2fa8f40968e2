use Rattle.std.proofs.Common.{◌≡◌}
use Rattle.gier_text.specs.TablesModel.{tables_model}
use Rattle.gier_text.specs.Lists.{list_at}
use Rattle.gier_pass4.specs.Lists.{Fills}
use Rattle.gier_pass4.proofs.names.fill.Given as goal

abbrev pub invariant-loop-at : goal.invariant-loop-at
invariant-loop-at l = record {
  fills : Fills 7 (tables_model l.initial.tables) (tables_model l.tables);
  count : (list_at (tables_model l.tables).lists 7).count ≡ l._at;
}
