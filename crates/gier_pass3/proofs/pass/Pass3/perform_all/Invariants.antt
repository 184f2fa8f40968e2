use Rattle.std.proofs.Common.{◌≡◌, ◌≤◌, ◌+◌, ◌++◌, drop}
use Rattle.gier_text.specs.TablesModel.{tables_model}
use Rattle.gier_pass3.specs.Costs.{costs}
use Rattle.gier_pass3.specs.Lists.{depth, ready_by, stack_in}
use Rattle.gier_text3.specs.PurePass.{Continuation, actions_on}
use Rattle.gier_pass3.specs.Refinement.{writer_state_in}
use Rattle.gier_pass3.specs.Invariant.{StateInvariant, total_potential}
use Rattle.gier_pass3.proofs.pass.Pass3.perform_all.Given as goal

abbrev pub invariant-loop-action : goal.invariant-loop-action
invariant-loop-action l = record {
  holds : StateInvariant l.self (tables_model l.tables);
  light : total_potential l.self (tables_model l.tables) + costs (drop l.action-index l.fn.actions) ≤ total_potential l.fn.self (tables_model l.fn.tables) + costs l.fn.actions;
  grown : l.fn.self.owns ≤ l.self.owns;
  owned : l.self.owns + costs (drop l.action-index l.fn.actions) ≤ l.fn.self.owns + costs l.fn.actions;
  wrote : (next : Continuation) → ready_by (tables_model l.fn.tables) ++ actions_on l.fn.actions l.fn.s (writer_state_in l.fn.self (tables_model l.fn.tables)) next ≡ ready_by (tables_model l.tables) ++ actions_on (drop l.action-index l.fn.actions) l.fn.s (writer_state_in l.self (tables_model l.tables)) next;
  deep : depth (tables_model l.tables) ≤ depth (tables_model l.fn.tables);
  stack : stack_in (tables_model l.tables) ≡ stack_in (tables_model l.fn.tables);
  bytes : l.self.bytes ≡ l.fn.self.bytes;
  read : l.self.read ≡ l.fn.self.read;
  stopped : l.self.stopped ≡ l.fn.self.stopped;
  limit : (tables_model l.tables).limit ≡ (tables_model l.fn.tables).limit;
  faults : (tables_model l.tables).faults ≡ (tables_model l.fn.tables).faults;
}
