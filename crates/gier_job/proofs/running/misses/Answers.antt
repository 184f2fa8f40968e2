use Rattle.std.proofs.Common.{◌≡◌, ◌<◌, ◌∙◌, length, arith, refl, subst}
use Rattle.std.proofs.lemmas.List.{length-set}
use Rattle.gier_job.proofs.Misses.{IsFilled, filled_none, filled_more, table_is}
use Rattle.gier_job.proofs.running.misses.Goals as goal

pub loop-at-init : goal.loop-at-init
loop-at-init c = (refl, λ tracks counts. filled_none tracks _)

pub loop-at-preserved : goal.loop-at-preserved
loop-at-preserved c =
    let all : length c.loop-at.misses ≡ 64 = c.loop-at.invariant.0 in
    let lt : c.loop-at.at < length c.loop-at.misses = omega (arith, all, c.loop-at-test.true) in (
      length-set c.loop-at.misses c.loop-at.at c.misses.result ∙ all,
      λ tracks counts. filled_more tracks c.loop-at.misses c.loop-at.at c.misses.result lt (c.loop-at.invariant.1 tracks counts) (c.misses.ensures tracks counts),
    )

pub returns : goal.returns
returns c = λ tracks counts.
    let end : c.loop-at.at ≡ 64 = omega (arith, c.loop-at.auto.at-end, c.loop-at-test.false) in
    table_is tracks c.loop-at.misses c.loop-at.invariant.0 (subst (λ n. IsFilled tracks n c.loop-at.misses) end (c.loop-at.invariant.1 tracks counts))
