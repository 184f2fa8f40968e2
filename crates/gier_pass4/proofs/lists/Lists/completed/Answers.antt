use Rattle.std.proofs.Common.{refl}
use Rattle.gier_pass4.proofs.Weights.{renumbered}
use Rattle.gier_pass4.proofs.lists.Lists.completed.Goals as goal

pub returns-in-Some-clause-letter : goal.returns-in-Some-clause-letter
returns-in-Some-clause-letter c = record {
  symbol = record { tag = c.requires.letter.symbol.tag; value = c.requires.letter.symbol.value; line = rw c.in-Some.is at c.requires.line };
  letter = c.requires.letter.letter;
  numbered = renumbered c.args.self.bytes c.args.s c.args.s.value c.in-Some.line c.requires.letter.numbered (λ e. refl);
}
