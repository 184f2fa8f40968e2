use Rattle.std.proofs.Common.{◌<◌, ◌≤◌, ◌≡◌, ◌+◌, drop}
use Rattle.gier_text.specs.TablesModel.{tables_model}
use Rattle.gier_text.specs.Lists.{list_at}
use Rattle.gier_pass2.specs.Names.{HasNodes, node_count}
use Rattle.gier_pass2.specs.Standard.{Spells, standard_bytes}
use Rattle.gier_pass2.proofs.names.open.Given as goal

abbrev pub invariant-loop-byte : goal.invariant-loop-byte
invariant-loop-byte l = record {
  nodes : HasNodes (tables_model l.tables);
  node : l.node < node_count (tables_model l.tables);
  capacity : (list_at (tables_model l.tables).lists 0).capacity ≡ l.fn.bytes + 64;
  few : node_count (tables_model l.tables) ≤ 1 + l.byte-index;
  names : l.names ≤ l.byte-index;
  limit : (tables_model l.tables).limit ≡ (tables_model l.fn.tables).limit;
  faults : (tables_model l.tables).faults ≡ (tables_model l.fn.tables).faults;
  spells : Spells (tables_model l.tables) l.names l.node (drop l.byte-index standard_bytes);
}
