use Rattle.gier_back.proofs.PassSteps.{blank_on}
use Rattle.gier_back.proofs.passes.blank_text.Goals as goal

pub returns-clause-told : goal.returns-clause-told
returns-clause-told g c = λ drum told. blank_on (g.D.Drum.tracks drum) c.at.result.first c.at.result.loaded c.at.result.buffer c.at.result.count c.at.ensures.empty.0 told
