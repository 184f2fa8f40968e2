use Rattle.std.proofs.Common.{lit<}
use Rattle.std.proofs.lemmas.List.{get_or-replicate}
use Rattle.gier_text.proofs.Tabulation.{zeros}
use Rattle.gier_pass9.proofs.object.zeros.Goals as goal

pub returns-clause-zero : goal.returns-clause-zero
returns-clause-zero c = λ k. zeros 40 k

pub returns-clause-small : goal.returns-clause-small
returns-clause-small c = λ k d below. rw (get_or-replicate 40 k 0 d below) (lit< tt)
