use Rattle.gier_faults.proofs.Inserts.{insert_past}
use Rattle.gier_faults.proofs.Orders.{any_rising, swap, tables_insert}
use Rattle.gier_faults.proofs.laws.law_insertion.Goals as goal

pub returns-clause-any_order : goal.returns-clause-any_order
returns-clause-any_order c = λ low high found listed r o. any_rising low high listed found r o

pub returns-clause-commutes : goal.returns-clause-commutes
returns-clause-commutes c = swap

pub returns-clause-late : goal.returns-clause-late
returns-clause-late c = insert_past

pub returns-clause-tables : goal.returns-clause-tables
returns-clause-tables c = tables_insert
