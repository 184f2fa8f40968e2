use Rattle.gier_text.specs.TablesModel.{tables_model}
use Rattle.gier_text.proofs.DriveLoop.{Driven}
use Rattle.gier_text.proofs.driver.drive.Given as goal

abbrev pub invariant-loop-s : goal.invariant-loop-s
invariant-loop-s g l = Driven g.T.Text.view g.T.Text.first_track g.T.Text.end_track g.T.Text.room g.T.Text.tracks g.T.Text.journal g.T.Text.faults (g.P.Pass.stands l.pass l.tables) (g.P.Pass.expects l.initial.pass) (g.P.Pass.expects l.pass) (g.P.Pass.most l.initial.pass) (g.P.Pass.most l.pass) (tables_model l.initial.tables).limit (tables_model l.tables).limit l.initial.input l.initial.output l.initial.store l.input l.output l.store l.place l.last

abbrev pub decreases-loop-s : goal.decreases-loop-s
decreases-loop-s g l = (g.T.Text.view l.input l.store).unread
