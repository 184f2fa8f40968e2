use Rattle.std.proofs.Common.{◌≡◌, ◌==◌, false, arith}
use Rattle.std.proofs.lemmas.Bool.Decides.{nat_tests}
use Rattle.gier_exec.proofs.FrameReads.{led_on, base_only}
use Rattle.gier_exec.proofs.values.base.Goals as goal

pub returns-then-level-gt0-clause-row : goal.returns-then-level-gt0-clause-row
returns-then-level-gt0-clause-row c = λ code input m go entered.
    let other : (c.args.level == 0) ≡ false = grind (arith, nat_tests, c.if-level-gt0.true) in
    rw other (led_on _ _ go c.place_of.result (base_only code input m c.args.frames.now c.args.level go) (c.place_of.ensures.row code input m go entered))
