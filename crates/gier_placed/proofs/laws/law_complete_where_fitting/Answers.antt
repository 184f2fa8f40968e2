use Rattle.gier_placed.proofs.Completing.{fitting_are_complete}
use Rattle.gier_placed.proofs.laws.law_complete_where_fitting.Goals as goal

pub returns : goal.returns
returns c = fitting_are_complete
