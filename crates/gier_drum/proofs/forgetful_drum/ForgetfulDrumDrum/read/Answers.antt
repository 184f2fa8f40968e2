use Rattle.gier_drum.proofs.Stored.{zero_words}
use Rattle.gier_drum.proofs.forgetful_drum.ForgetfulDrumDrum.read.Goals as goal

pub returns-then-self-eq0-clause-words : goal.returns-then-self-eq0-clause-words
returns-then-self-eq0-clause-words c = zero_words
