use Rattle.gier_text.specs.TablesModel.{tables_model}
use Rattle.gier_text.specs.Lists.{list_at}
use Rattle.gier_text.specs.Outbox.{outbox_symbols_until}
use Rattle.gier_text.proofs.WriteLoop.{Wrote}
use Rattle.gier_text.proofs.outbox.flush.Given as goal

abbrev pub invariant-loop-at : goal.invariant-loop-at
invariant-loop-at g l = Wrote g.T.Text.view g.T.Text.first_track g.T.Text.end_track g.T.Text.room g.T.Text.tracks g.T.Text.journal g.T.Text.faults l.initial.out l.initial.store l.out l.store (outbox_symbols_until (list_at (tables_model l.tables).lists l.list) l.at)
