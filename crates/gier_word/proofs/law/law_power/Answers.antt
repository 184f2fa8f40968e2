use Rattle.gier_word.proofs.SmallExponents.{power_is_whole}
use Rattle.gier_word.proofs.law.law_power.Goals as goal

-- src/law.rt:5:1
pub returns-clause-whole : goal.returns-clause-whole
returns-clause-whole c = power_is_whole
