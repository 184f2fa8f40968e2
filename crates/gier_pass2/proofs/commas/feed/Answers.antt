use Rattle.std.proofs.Common.{sym}
use Rattle.std.proofs.lemmas.List.{append-nil}
use Rattle.gier_pass2.specs.TokensGiven.{buffered}
use Rattle.gier_pass2.proofs.commas.feed.Goals as goal

pub returns-in-Some-clause-given : goal.returns-in-Some-clause-given
returns-in-Some-clause-given c = rw c.in-Some.ensures.given (sym (append-nil (buffered c.args.ready.now)))
