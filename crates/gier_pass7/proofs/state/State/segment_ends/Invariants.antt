use Rattle.gier_text.specs.TablesModel.{tables_model}
use Rattle.gier_pass7.specs.StateInvariants.{PreservesState}
use Rattle.gier_pass7.proofs.state.State.segment_ends.Given as goal

abbrev pub invariant-loop-turn : goal.invariant-loop-turn
invariant-loop-turn l = PreservesState l.initial.self (tables_model l.initial.tables) l.self (tables_model l.tables)
