use Rattle.std.proofs.Common.{◌≡◌}
use Rattle.gier_text.specs.TablesModel.{tables_model}
use Rattle.gier_text.specs.Lists.{list_at}
use Rattle.gier_pass6.specs.StateInvariants.{HasLists}
use Rattle.gier_pass6.proofs.pass.Pass6.open.Given as goal

abbrev pub invariant-loop-turn : goal.invariant-loop-turn
invariant-loop-turn l = record {
  lists : HasLists l.fn.bytes (tables_model l.tables);
  empty : (list_at (tables_model l.tables).lists 0).count ≡ 0;
  filled : (list_at (tables_model l.tables).lists 2).count ≡ l._turn;
  limit : (tables_model l.tables).limit ≡ (tables_model l.fn.tables).limit;
  faults : (tables_model l.tables).faults ≡ (tables_model l.fn.tables).faults;
}
