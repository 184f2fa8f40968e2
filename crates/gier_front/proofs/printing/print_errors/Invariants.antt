use Rattle.gier_text.specs.TablesModel.{tables_model}
use Rattle.gier_front.proofs.Errors.{HasPrinted}
use Rattle.gier_front.proofs.printing.print_errors.Given as goal

abbrev pub invariant-loop-at : goal.invariant-loop-at
invariant-loop-at g l = HasPrinted (tables_model l.tables).faults l.at (g.K.Sink.holds l.initial.out) (g.K.Sink.holds l.out) (g.K.Sink.faults l.initial.out) (g.K.Sink.faults l.out)
