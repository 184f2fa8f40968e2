use Rattle.std.proofs.Common.{◌≡◌, ◌≤◌, false, length, ap, ◌∙◌, arith}
use Rattle.gier_best.specs.Plan.{farthest}
use Rattle.gier_best.specs.Changes.{changes_of}
use Rattle.gier_best.proofs.Notes.{keeps_all}
use Rattle.gier_best.proofs.Decide.{changes_decide}
use Rattle.gier_best.proofs.Least.{no_plan_is_cheaper}
use Rattle.gier_best.proofs.trace.Trace.best.Goals as goal

pub returns-clause-plan : goal.returns-clause-plan
returns-clause-plan c = λ refs noted.
    let short : c.args.self.now.too_long ≡ false = cc in
    let all : c.args.self.now.kept ≡ changes_of refs = keeps_all c.args.self.now refs short noted in
    let kept : c.self.inside.changes.items ≡ c.args.self.now.kept = cc in
    c.plan_reads.ensures.plan
    ∙ ap (λ changes. farthest changes c.args.places) (c.deref-2.ensures.value ∙ kept ∙ all)
    ∙ changes_decide refs c.args.places c.requires.some

pub returns-clause-least : goal.returns-clause-least
returns-clause-least c = λ refs noted moves is_plan.
    let plan : c.plan_reads.new.plan.items ≡ farthest refs c.args.places = returns-clause-plan c refs noted in
    let bound : length (farthest refs c.args.places) ≤ length moves = no_plan_is_cheaper refs c.args.places moves is_plan in
    omega (arith, c.len.ensures, ap length plan, c.plan_reads.new.plan.ok.0)
