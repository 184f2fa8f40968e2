use Rattle.std.proofs.Common.{take}
use Rattle.gier_pass2.proofs.WriteLoop.{Wrote}
use Rattle.gier_pass2.proofs.writing.write_all.Given as goal

abbrev pub invariant-loop-symbol : goal.invariant-loop-symbol
invariant-loop-symbol g l = Wrote g.T.Text.view g.T.Text.first_track g.T.Text.end_track g.T.Text.room g.T.Text.tracks g.T.Text.journal g.T.Text.faults l.initial.out l.initial.store l.out l.store (take l.symbol-index l.symbols)
