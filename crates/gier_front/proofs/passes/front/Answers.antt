use Rattle.std.proofs.Common.{◌≡◌, ◌∙◌, ℕ, List, IfOk, sym, subst}
use Rattle.gier_symbol.specs.Listing.{FaultAt}
use Rattle.gier_symbol.specs.Reading.{symbols_of}
use Rattle.gier_symbol.specs.Tape.{program_of}
use Rattle.gier_text.specs.declared.fault.FaultKind.{FaultKind}
use Rattle.gier_front.specs.Early.{FindsEarly}
use Rattle.gier_front.proofs.Plain.{plain_symbols}
use Rattle.gier_front.proofs.passes.front.Goals as goal

pub returns-in-Ok-clause-early : goal.returns-in-Ok-clause-early
returns-in-Ok-clause-early g c = λ tape is told.
    let blank = c.blank_text-text1.ensures.told c.args.drum.now told in
    let first = c.in-Ok.ensures.early tape is blank in
    let later = c.run_passes.ensures.early (symbols_of (program_of tape)).symbols first.1 (plain_symbols (program_of tape)) (c.read_tape.ensures.keeps.same_tracks ∙ told) in
    subst (λ (early : List (FaultAt FaultKind)). FindsEarly c.run_passes.result early c.run_passes.new.tables.faults.items) (sym first.0) later

pub returns-in-Ok-clause-text6 : goal.returns-in-Ok-clause-text6
returns-in-Ok-clause-text6 g c = λ told.
    let blank = c.blank_text-text1.ensures.told c.args.drum.now told in
    c.run_passes.ensures.text6 (c.read_tape.ensures.keeps.same_tracks ∙ told) (c.in-Ok.ensures.gives blank)

pub returns-in-Ok-clause-counted : goal.returns-in-Ok-clause-counted
returns-in-Ok-clause-counted g c = λ tape is.
    subst (λ (n : ℕ). IfOk c.run_passes.result (λ fronted. fronted.bytes ≡ n)) (c.in-Ok.ensures.counted tape is) c.run_passes.ensures.bytes
