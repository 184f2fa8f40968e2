use Rattle.std.proofs.Common.{◌<◌}
use Rattle.gier_text.specs.TablesModel.{tables_model}
use Rattle.gier_pass2.specs.Names.{node_count}
use Rattle.gier_pass2.specs.Tree.{Tree, IsTree, nodes_of}
use Rattle.gier_pass2.proofs.ChildSearch.{IsSearched}
use Rattle.gier_pass2.proofs.names.child.Given as goal

abbrev pub invariant-loop-at : goal.invariant-loop-at
invariant-loop-at l = record {
  node : l.at < node_count (tables_model l.tables);
  searched : (tree : Tree) → IsTree (nodes_of (tables_model l.tables)) tree → IsSearched (nodes_of (tables_model l.tables)) tree l.node l.s l.at;
}

abbrev pub decreases-loop-at : goal.decreases-loop-at
decreases-loop-at l = l.at
