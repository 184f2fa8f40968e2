use Rattle.gier_written.proofs.FramedPrograms.{framed_text}
use Rattle.gier_written.proofs.laws.law_written_text4.Goals as goal

pub returns : goal.returns
returns c = framed_text
