use Rattle.std.proofs.Common.{◌≡◌, ◌≤◌, ◌++◌, false}
use Rattle.gier_text.specs.TablesModel.{tables_model}
use Rattle.gier_pass3.specs.Lists.{depth, ready_by}
use Rattle.gier_text3.specs.PurePass.{StackContinuation, meet}
use Rattle.gier_pass3.specs.Refinement.{entries_in, writer_state_in}
use Rattle.gier_pass3.specs.Grammar.{StackInvariant}
use Rattle.gier_pass3.specs.Found.{Passes}
use Rattle.gier_pass3.specs.Invariant.{StateInvariant, total_potential}
use Rattle.gier_pass3.proofs.pass.Pass3.meet.Given as goal

abbrev pub invariant-loop-wanted : goal.invariant-loop-wanted
invariant-loop-wanted l = record {
  holds : StateInvariant l.self (tables_model l.tables);
  light : total_potential l.self (tables_model l.tables) ≤ total_potential l.fn.self (tables_model l.fn.tables);
  deep : depth (tables_model l.tables) ≤ depth (tables_model l.fn.tables);
  passed : StackInvariant (tables_model l.fn.tables) → Passes l.fn.kind (tables_model l.fn.tables) (tables_model l.tables);
  owned : l.self.owns ≡ l.fn.self.owns;
  wrote : StackInvariant (tables_model l.fn.tables) → (next : StackContinuation) → ready_by (tables_model l.fn.tables) ++ meet l.fn.kind l.fn.s next (entries_in (tables_model l.fn.tables)) false (writer_state_in l.fn.self (tables_model l.fn.tables)) ≡ ready_by (tables_model l.tables) ++ meet l.fn.kind l.fn.s next (entries_in (tables_model l.tables)) l.opened (writer_state_in l.self (tables_model l.tables));
  bytes : l.self.bytes ≡ l.fn.self.bytes;
  read : l.self.read ≡ l.fn.self.read;
  stopped : l.self.stopped ≡ l.fn.self.stopped;
  limit : (tables_model l.tables).limit ≡ (tables_model l.fn.tables).limit;
  faults : (tables_model l.tables).faults ≡ (tables_model l.fn.tables).faults;
}

abbrev pub decreases-loop-wanted : goal.decreases-loop-wanted
decreases-loop-wanted l = depth (tables_model l.tables)
