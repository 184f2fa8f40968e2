-- The examples are fair, or not.
use Rattle.std.proofs.Common.{refl}
use Rattle.gier_fair.specs.Examples.{AreExamples, with, choosing}
use Rattle.gier_fair.specs.Fair.{IsFair}
use Rattle.gier_fair.proofs.FairPrograms.{types_are_fair}

is_fair : IsFair (with choosing)
is_fair = types_are_fair (with choosing) ((refl, tt), (((λ e. cc), tt), ((tt, ((λ e. cc), tt), ((λ e. cc), tt)), tt))) refl

pub are_examples : AreExamples
are_examples = record {
  fair = is_fair;
  number = λ h. let wrong = h.uses.1.0.0 in cc;
  undeclared = λ h. let wrong = h.uses.1.0.0 in cc;
  twice = λ h. let wrong = h.scopes.0.0 in cc;
}
