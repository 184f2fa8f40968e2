use Rattle.std.proofs.Common.{◌≤◌, arith, length}
use Rattle.std.proofs.lemmas.Bool.Decides.{nat_tests}
use Rattle.std.proofs.lemmas.Grind.{common_steps}
use Rattle.std.proofs.lemmas.List.{take_all}
use Rattle.gier_order.proofs.recent.put_first.Goals as goal
use Rattle.gier_order.proofs.recent.put_first.Goals.{then-is_full, else-is_full}

pub returns : goal.returns
returns c = elim c.if-is_full.branch [
  | then-is_full w ↦ grind (arith, common_steps)
  | else-is_full w ↦
      let fits : length c.args.tracks.now.items ≤ 63 = grind (arith, nat_tests, w.if-is_full.ensures.value, w.if-is_full.ensures.fits) in
      grind (arith, common_steps, take_all 63 c.args.tracks.now.items fits)
]
