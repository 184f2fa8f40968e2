use Rattle.gier_text.specs.TablesModel.{tables_model}
use Rattle.gier_pass5.specs.Faults.{Judges}
use Rattle.gier_pass5.specs.Invariant.{PreservesState}
use Rattle.gier_pass5.proofs.pass.Pass5.heed_semicolon.Given as goal

-- no symbol is written, and no entry or scope is added
abbrev pub invariant-loop-entry : goal.invariant-loop-entry
invariant-loop-entry l = PreservesState l.initial.self (tables_model l.initial.tables) l.self (tables_model l.tables) × Judges l.initial.self.bytes (tables_model l.initial.tables) (tables_model l.tables)
