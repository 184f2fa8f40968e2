use Rattle.gier_front.proofs.Blank.{blank_told}
use Rattle.gier_front.proofs.passes.blank_text.Goals as goal

pub returns-clause-told : goal.returns-clause-told
returns-clause-told g c = λ drum told. blank_told (g.D.Drum.tracks drum) c.at.result.first c.at.result.loaded c.at.result.buffer c.at.result.count c.at.ensures.empty.0 told
