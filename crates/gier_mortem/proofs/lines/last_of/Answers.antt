use Rattle.std.proofs.Common.{◌≡◌, ◌<◌, ◌+◌, ◌∙◌, ℕ, suc, length, take, get_or, max, ap, sym, arith}
use Rattle.std.proofs.lemmas.List.{length-map}
use Rattle.gier_mortem.specs.declared.lines.Asked.{Asked}
use Rattle.gier_mortem.specs.WordLines.{addresses, greatest}
use Rattle.gier_mortem.proofs.GreatestSoFar.{none, greatest_next, address_at}
use Rattle.gier_mortem.proofs.lines.last_of.Goals as goal

pub loop-at-preserved : goal.loop-at-preserved
loop-at-preserved c =
    let at = c.loop-at.at in
    let asked = c.args.asked.now in
    let lt : at < length asked = omega arith in
    let next : suc at ≡ at + 1 = omega arith in
    let within : at < length (addresses asked) = omega (arith, lt, length-map asked (λ (a : Asked). a.address)) in
    c.greater-last.ensures
    ∙ ap (λ (n : ℕ). max n (get_or asked at none).address) c.loop-at.invariant
    ∙ ap (λ (n : ℕ). max (greatest (take at (addresses asked))) n) (sym (address_at asked at none lt))
    ∙ sym (greatest_next at (addresses asked) within)
    ∙ ap (λ (n : ℕ). greatest (take n (addresses asked))) next
