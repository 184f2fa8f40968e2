use Rattle.std.proofs.Common.{◌≡◌, ap, arith, sym, ◌∙◌}
use Rattle.gier_order.specs.Flat.Kinds.{are_fields}
use Rattle.gier_exec.proofs.Agreements.{fields_no}
use Rattle.gier_exec.proofs.kinds.are_kinds.Goals as goal

pub returns-then-not-is_right : goal.returns-then-not-is_right
returns-then-not-is_right c = sym (fields_no c.args.first c.args.left c.args.word 10 c.loop-at.at c.loop-at-test.true (sym c.is_right.ensures ∙ c.if-not-is_right.true))

pub returns : goal.returns
returns c =
    let end : c.loop-at.at ≡ 10 = omega (arith, c.loop-at.auto.at-end, c.loop-at-test.false) in
    sym (ap (λ n. are_fields c.args.first c.args.left c.args.word n) (sym end) ∙ c.loop-at.invariant)
