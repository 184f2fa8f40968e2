use Rattle.std.proofs.Common.{◌≡◌}
use Rattle.gier_text.specs.TablesModel.{tables_model}
use Rattle.gier_text.specs.Lists.{list_at}
use Rattle.gier_pass4.specs.Lists.{HasLists, Grows}
use Rattle.gier_pass4.proofs.lists.Lists.give_kind_from.Given as goal

abbrev pub invariant-loop-at : goal.invariant-loop-at
invariant-loop-at l = record {
  lists : HasLists l.self.bytes (tables_model l.tables);
  grows : Grows (tables_model l.initial.tables) (tables_model l.tables) 0 0 0 0 0;
  count : (list_at (tables_model l.tables).lists l.list).count ≡ (list_at (tables_model l.initial.tables).lists l.list).count;
}
