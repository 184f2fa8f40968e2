use Rattle.std.proofs.Common.{sym, ap, ◌∙◌, ◌≢◌, ◌≡◌, true, false}
use Rattle.gier_symbol.specs.declared.word.Spelling.{Spelling}
use Rattle.gier_strop.specs.Reading.{behind}
use Rattle.gier_pass1.specs.declared.state.Mode.{Mode}
use Rattle.gier_pass1.specs.declared.state.Mode.TheVariants.{Start}
use Rattle.gier_pass1.specs.declared.state.Step.{Step}
use Rattle.gier_pass1.specs.Scan.{is_start}
use Rattle.gier_pass1.proofs.Spelled.{taken_keeps}
use Rattle.gier_pass1.proofs.scanner.Scanner.begun.Goals as goal

pub returns-else-is_start-clause-told : goal.returns-else-is_start-clause-told
returns-else-is_start-clause-told c = λ letters is first.
    let not_so : is_start c.args.ended.state.mode ≡ false = sym c.is_start.ensures ∙ c.if-is_start.false in
    let other : c.args.ended.state.mode ≢ Start = λ start. let so : is_start c.args.ended.state.mode ≡ true = ap
    (λ (m : Mode). is_start m) start in absurd (cc) in
    let same = ap (λ (step : Step). step.state.spelling) c.taken_step-step.ensures.step
    ∙ taken_keeps c.args.ended.state c.args.byte other in
    is ∙ ap (λ (s : Spelling). behind s letters) (sym same)
