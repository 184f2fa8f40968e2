use Rattle.gier_sizes.proofs.MarkedPrograms.{text3_fits, text3_short}
use Rattle.gier_sizes.proofs.laws.law_text3.Goals as goal

pub returns-clause-symbols : goal.returns-clause-symbols
returns-clause-symbols c = text3_short

pub returns-clause-bytes : goal.returns-clause-bytes
returns-clause-bytes c = text3_fits
