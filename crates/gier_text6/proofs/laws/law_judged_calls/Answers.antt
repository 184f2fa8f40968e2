use Rattle.gier_text6.proofs.Calls.{heads, heads_fit}
use Rattle.gier_text6.proofs.laws.law_judged_calls.Goals as goal

pub returns-clause-judged : goal.returns-clause-judged
returns-clause-judged c = heads

pub returns-clause-placed : goal.returns-clause-placed
returns-clause-placed c = heads_fit
