use Rattle.gier_text.specs.TablesModel.{tables_model}
use Rattle.gier_pass7.specs.StateInvariants.{PreservesState}
use Rattle.gier_pass7.proofs.state.State.switch_ends.Given as goal

abbrev pub invariant-loop-element : goal.invariant-loop-element
invariant-loop-element l = PreservesState l.initial.self (tables_model l.initial.tables) l.self (tables_model l.tables)
