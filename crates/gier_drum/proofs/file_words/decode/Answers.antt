use Rattle.std.proofs.Common.{arith}
use Rattle.std.proofs.lemmas.Grind.{get_or_default_zero}
use Rattle.gier_drum.proofs.file_words.decode.Goals as goal

pub returns-clause-words : goal.returns-clause-words
returns-clause-words c = λ k d within. rw (get_or_default_zero c.loop-place.into k d within) ((c.loop-place.invariant.1 k (omega (arith, c.loop-place.invariant.0))).0)

pub returns-clause-exact : goal.returns-clause-exact
returns-clause-exact c = λ k below. (c.loop-place.invariant.1 k (omega (arith, c.loop-place.invariant.0))).1
