use Rattle.gier_sample.proofs.LastPiece.{tail_left}
use Rattle.gier_sample.proofs.piece.Pieces.take_piece.Goals as goal

pub returns-then-self-eq0 : goal.returns-then-self-eq0
returns-then-self-eq0 c = rw (← c.self.view_is, c.if-self.false, c.if-self-eq0.true) (tail_left c.self.inside.next)
