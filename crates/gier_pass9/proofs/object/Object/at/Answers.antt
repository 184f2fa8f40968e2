use Rattle.std.proofs.Common.{[], arith, refl}
use Rattle.gier_pass9.proofs.Pages.{blank_page, holds_none}
use Rattle.gier_pass9.proofs.object.Object.at.Goals as goal

pub returns-clause-made : goal.returns-clause-made
returns-clause-made c = λ tracks. record {
  count = refl;
  full = holds_none tracks c.args.first [];
  rest = blank_page c.zeros.result [] 0 c.zeros.ensures.sized c.zeros.ensures.zero (omega arith);
}
