use Rattle.gier_fair.proofs.HoistedScopes.{scopes_are_fair}
use Rattle.gier_fair.proofs.laws.law_fair_scopes.Goals as goal

pub returns : goal.returns
returns c = scopes_are_fair
