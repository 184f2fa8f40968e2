use Rattle.std.proofs.Common.{◌≡◌, ◌≤◌, ◌<◌, ◌+◌, ◌^◌, length, drop}
use Rattle.gier_text.specs.TablesModel.{tables_model}
use Rattle.gier_grammar.specs.GrammarSymbols.{credits}
use Rattle.gier_grammar.specs.Productions.{right_side_of}
use Rattle.gier_pass3.specs.Grammar.{StackInvariant, AreAbove, all_above, wanted_in}
use Rattle.gier_pass3.specs.Lists.{PreservesLists, lookahead_in, ready_in, depth, credit}
use Rattle.gier_grammar.specs.StackEntries.{above}
use Rattle.gier_pass3.specs.Refinement.{entries_in}
use Rattle.gier_pass3.proofs.stack.push_right_side.Given as goal

abbrev pub invariant-loop-at : goal.invariant-loop-at
invariant-loop-at l = record {
  items : l.items ≡ right_side_of l.fn.production;
  within : l.at ≤ length l.items;
  left : l.left-2 < 2 ^ 32;
  same_lists : PreservesLists (tables_model l.fn.tables) (tables_model l.tables);
  lookahead : lookahead_in (tables_model l.tables) ≡ lookahead_in (tables_model l.fn.tables);
  ready : ready_in (tables_model l.tables) ≡ ready_in (tables_model l.fn.tables);
  deep : depth (tables_model l.tables) + l.at ≡ depth (tables_model l.fn.tables) + length l.items;
  read : wanted_in (tables_model l.tables) ≡ all_above (drop l.at l.items) l.left (wanted_in (tables_model l.fn.tables));
  stacked : entries_in (tables_model l.tables) ≡ above (drop l.at l.items) l.left (entries_in (tables_model l.fn.tables));
  entries : StackInvariant (tables_model l.fn.tables) → AreAbove (drop l.at l.items) l.left (wanted_in (tables_model l.fn.tables)) → StackInvariant (tables_model l.tables);
  paid : credit (tables_model l.tables) ≡ credit (tables_model l.fn.tables) + credits (drop l.at l.items);
}

abbrev pub decreases-loop-at : goal.decreases-loop-at
decreases-loop-at l = l.at
