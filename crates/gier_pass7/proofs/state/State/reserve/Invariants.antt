use Rattle.gier_text.specs.TablesModel.{tables_model}
use Rattle.gier_pass7.specs.StateInvariants.{PreservesTables}
use Rattle.gier_pass7.proofs.state.State.reserve.Given as goal

abbrev pub invariant-loop-turn : goal.invariant-loop-turn
invariant-loop-turn l = PreservesTables l.fn.self.bytes (tables_model l.initial.tables) l.fn.self.bytes (tables_model l.tables)
