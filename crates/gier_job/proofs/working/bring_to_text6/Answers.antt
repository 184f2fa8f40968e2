use Rattle.std.proofs.Common.{◌≡◌, ◌≤◌, ◌∙◌, ℕ, List, Option, Some, IfOk, length, ap, sym, subst}
use Rattle.gier_text.specs.TablesModel.{tables_model}
use Rattle.gier_front.specs.Early.{early_faults, FindsEarly}
use Rattle.gier_sample.specs.Sample.{sample_text}
use Rattle.gier_job.specs.Command.{IsFew}
use Rattle.gier_job.specs.Reply.{text_for}
use Rattle.gier_job.proofs.Early.{sample_program}
use Rattle.gier_job.proofs.working.bring_to_text6.Goals as goal

pub returns-in-Some-clause-early : goal.returns-in-Some-clause-early
returns-in-Some-clause-early g c = λ bytes left told.
    let calls = c.in-Some.calls in
    let few : calls ≤ 2000 = subst IsFew c.in-Some.is c.requires.few in
    let text : text_for c.args.command.now.sample bytes ≡ sample_text calls = ap (λ (s : Option ℕ). text_for s bytes) c.in-Some.is in
    subst (λ (t : List ℕ). FindsEarly c.front.result (early_faults t) (tables_model c.front.new.tables).faults) (sample_program calls few ∙ sym text)
    (c.front.ensures.early (sample_text calls) (ap (λ (t : List ℕ). Some t) c.of.ensures) told)

pub returns-in-Some-clause-counted : goal.returns-in-Some-clause-counted
returns-in-Some-clause-counted g c = λ bytes left.
    let calls = c.in-Some.calls in
    let few : calls ≤ 2000 = subst IsFew c.in-Some.is c.requires.few in
    let text : text_for c.args.command.now.sample bytes ≡ sample_text calls = ap (λ (s : Option ℕ). text_for s bytes) c.in-Some.is in
    subst (λ (t : List ℕ). IfOk c.front.result (λ fronted. fronted.bytes ≡ length t)) (sample_program calls few ∙ sym text)
    (c.front.ensures.counted (sample_text calls) (ap (λ (t : List ℕ). Some t) c.of.ensures))
