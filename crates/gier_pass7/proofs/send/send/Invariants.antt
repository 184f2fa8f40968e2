use Rattle.gier_pass7.proofs.SendLoop.{IsSending}
use Rattle.gier_pass7.proofs.send.send.Given as goal

abbrev pub invariant-loop-at : goal.invariant-loop-at
invariant-loop-at g l = IsSending g.T.Text.view g.T.Text.first_track g.T.Text.end_track g.T.Text.room g.T.Text.tracks g.T.Text.journal g.T.Text.faults l.initial.out l.initial.store l.out l.store l.left l.rest
