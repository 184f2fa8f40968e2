use Rattle.gier_text6.proofs.Fitting.{fits_expr}
use Rattle.gier_text6.proofs.Closing.{closes_semicolon}
use Rattle.gier_text6.proofs.Ladder.{expr}
use Rattle.gier_text6.specs.PassState.{AtOperand}
use Rattle.gier_text6.proofs.laws.law_judged_expressions.Goals as goal
use Rattle.std.proofs.Common.{[], refl}

pub returns : goal.returns
returns c = λ W os p tells e i k v F n l. record {
  fits = fits_expr p e n;
  goes_on = expr W os p tells e _ AtOperand refl [] v F n l (λ m g v F. refl) (closes_semicolon W i k) (λ h.
      (closes_semicolon W i k).held);
}
