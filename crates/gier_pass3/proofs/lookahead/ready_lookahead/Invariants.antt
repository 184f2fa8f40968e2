use Rattle.std.proofs.Common.{◌≡◌, ◌++◌}
use Rattle.gier_text.specs.TablesModel.{tables_model}
use Rattle.gier_text.specs.Outbox.{outbox_symbols_until}
use Rattle.gier_pass3.specs.Lists.{PreservesLists, stack_in, lookahead_in, ready_by}
use Rattle.gier_pass3.proofs.lookahead.ready_lookahead.Given as goal

abbrev pub invariant-loop-at : goal.invariant-loop-at
invariant-loop-at l = record {
  same_lists : PreservesLists (tables_model l.fn.tables) (tables_model l.tables);
  stack : stack_in (tables_model l.tables) ≡ stack_in (tables_model l.fn.tables);
  lookahead : lookahead_in (tables_model l.tables) ≡ lookahead_in (tables_model l.fn.tables);
  ready : ready_by (tables_model l.tables) ≡ ready_by (tables_model l.fn.tables) ++ outbox_symbols_until (lookahead_in (tables_model l.fn.tables)) l.at;
}
