use Rattle.std.proofs.Common.{◌≡◌, ◌<◌, ◌+◌, ◌∙◌, ℕ, suc, List, length, get_or, set, ap, arith}
use Rattle.gier_mortem.specs.declared.lines.Asked.{Asked}
use Rattle.gier_mortem.specs.WordLines.{told_line}
use Rattle.gier_mortem.proofs.GreatestSoFar.{none, changed_to, changed_next}
use Rattle.gier_mortem.proofs.lines.tell_all.Goals as goal

pub loop-at-preserved : goal.loop-at-preserved
loop-at-preserved c =
    let told = told_line c.args.address c.args.line in
    let at = c.loop-at.at in
    let old = c.args.asked.now in
    let lt : at < length old = omega arith in
    let next : suc at ≡ at + 1 = omega arith in
    ap (λ (a : Asked). set c.loop-at.asked at a) c.told_line.ensures
    ∙ ap (λ (xs : List Asked). set xs at (told (get_or xs at none))) c.loop-at.invariant
    ∙ changed_next told at old none lt
    ∙ ap (λ (n : ℕ). changed_to told n old) next
