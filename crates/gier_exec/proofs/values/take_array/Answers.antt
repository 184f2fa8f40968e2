use Rattle.std.proofs.Common.{◌≡◌, ◌+◌, length, sym, ap, subst, ◌∙◌}
use Rattle.gier_order.specs.Flat.Rows.{array}
use Rattle.gier_exec.specs.Rows.{regs_of}
use Rattle.gier_exec.specs.Following.{RefinesStop, stop_of}
use Rattle.gier_exec.proofs.ArrayRows.{array_taken, array_halts}
use Rattle.gier_exec.proofs.values.take_array.Goals as goal

pub returns-in-Ok-array-clause-row : goal.returns-in-Ok-array-clause-row
returns-in-Ok-array-clause-row c = λ code input entered next.
    let s = c.args.frames.now in
    let m = c.args.m.now in
    let from : c.in-Ok.from ≡ m.r = c.in-Ok.ensures.1 ∙ c.r.ensures.value in
    ap (λ r. array code (length s.words) (regs_of m s input) c.args.order.level (s.base + c.args.order.address) (s.base + r)) (sym from)
    ∙ rw c.in-Ok-array.ensures.effect (array_taken code input m s c.args.order.level c.args.order.address c.in-Ok.from next c.in-Ok-array.ensures.refused)

pub returns-in-Err-clause-row : goal.returns-in-Err-clause-row
returns-in-Err-clause-row c = λ code input entered next.
    let s = c.args.frames.now in
    let m = c.args.m.now in
    let from : c.in-Ok.from ≡ m.r = c.in-Ok.ensures.1 ∙ c.r.ensures.value in
    rw c.from.ensures (rw c.in-Err.ensures.err (
    subst (λ r. RefinesStop (array code (length s.words) (regs_of m s input) c.args.order.level (s.base + c.args.order.address) (s.base + r)) (regs_of m s input) (stop_of c.in-Err.halt)) from
    (array_halts code input m s c.args.order.level c.args.order.address c.in-Ok.from c.in-Err.halt next entered c.in-Err.ensures.refused)))
