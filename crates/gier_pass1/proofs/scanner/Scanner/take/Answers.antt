use Rattle.std.proofs.Common.{sym, ap, ◌∙◌, Some}
use Rattle.gier_strop.specs.Reading.{behind}
use Rattle.gier_pass1.specs.declared.state.State.{State}
use Rattle.gier_pass1.specs.declared.state.Step.{Step}
use Rattle.gier_pass1.specs.Scan.{at_next_byte}
use Rattle.gier_pass1.specs.Scanning.{begun_step, letters_behind}
use Rattle.gier_pass1.proofs.SpellingKept.{ended_reader, ended_start}
use Rattle.gier_pass1.proofs.scanner.Scanner.take.Goals as goal

pub returns-clause-told : goal.returns-clause-told
returns-clause-told c = λ letters reads.
    let s = c.args.self.now.state in
    let byte = c.args.byte in
    let ended = c.ended-ended.ensures.told letters reads in
    let begun = c.begun-begun.ensures.step ∙ ap (λ (t : Step). begun_step t byte) ended.is_step in
    let reader = c.begun-begun.ensures.told (letters_behind s letters (Some byte))
    (ended_reader s letters (Some byte) c.ended-ended.result c.ended-ended.new.self.reader ended)
    (ended_start s letters (Some byte) c.ended-ended.result c.ended-ended.new.self.reader ended) in
    record {
      ended = ap (λ (t : Step). t.found) ended.is_step;
      begun = ap (λ (t : Step). t.found) begun;
      state = c.passed-self.ensures ∙ ap (λ (t : Step). at_next_byte t.state byte) begun;
      reader = reader ∙ ap (λ (t : State). behind t.spelling (letters_behind s letters (Some byte))) (sym c.passed-self.ensures);
    }
