use Rattle.gier_text7.proofs.OutboxAnswers.{put_behind, hole_behind, filled}
use Rattle.gier_text7.proofs.laws.law_outbox.Goals as goal

pub returns-clause-put : goal.returns-clause-put
returns-clause-put c = put_behind

pub returns-clause-hole : goal.returns-clause-hole
returns-clause-hole c = hole_behind

pub returns-clause-fill : goal.returns-clause-fill
returns-clause-fill c = filled
