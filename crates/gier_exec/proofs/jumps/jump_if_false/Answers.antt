use Rattle.std.proofs.Common.{◌≡◌, ◌==◌, true, sym, arith, ◌∙◌}
use Rattle.std.proofs.lemmas.Bool.Decides.{nat_tests}
use Rattle.gier_exec.proofs.jumps.jump_if_false.Goals as goal

pub returns-then-r-eq0-clause-row : goal.returns-then-r-eq0-clause-row
returns-then-r-eq0-clause-row c = λ code input s l same.
    let none : c.args.m.now.r ≡ 0 = sym c.r.ensures.value ∙ c.if-r-eq0.true in
    let yes : (c.args.m.now.r == 0) ≡ true = grind (arith, nat_tests, none) in
    rw yes (c.jump.ensures.row code input s same)
