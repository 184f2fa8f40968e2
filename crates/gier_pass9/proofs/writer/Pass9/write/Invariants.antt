use Rattle.gier_text.specs.TablesModel.{tables_model}
use Rattle.gier_pass9.proofs.PassSteps.{Filling}
use Rattle.gier_pass9.proofs.writer.Pass9.write.Given as goal

abbrev pub invariant-loop-s : goal.invariant-loop-s
invariant-loop-s g l = Filling g.T.Text.view g.T.Text.first_track g.T.Text.end_track g.T.Text.room g.D.Drum.room g.D.Drum.tracks g.D.Drum.journal g.D.Drum.faults l.initial.text l.initial.drum l.text l.drum l.initial.first_track l.initial.most l.object l.labels (tables_model l.initial.tables) (tables_model l.tables) l.place

abbrev pub decreases-loop-s : goal.decreases-loop-s
decreases-loop-s g l = (g.T.Text.view l.text l.drum).unread
