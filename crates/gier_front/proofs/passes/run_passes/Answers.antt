use Rattle.std.proofs.Common.{◌∙◌, List, sym, subst}
use Rattle.std.specs.Prelude.{⊤}
use Rattle.gier_symbol.specs.Listing.{FaultAt}
use Rattle.gier_text.specs.declared.fronted.Fronted.{Fronted}
use Rattle.gier_symbol.specs.declared.symbol.Symbol.{Symbol}
use Rattle.gier_limits.specs.Areas.{first_of}
use Rattle.gier_text.specs.Potential.{IsWithinPotential}
use Rattle.gier_text.specs.TablesModel.{tables_model}
use Rattle.gier_text.specs.declared.fault.FaultKind.{FaultKind}
use Rattle.gier_front.specs.Early.{AreEarly}
use Rattle.gier_front.proofs.Plain.{AreBare, all_spelled, assembled_bare, all_bare}
use Rattle.gier_front.proofs.Early.{one_goes_on, one_finds, two_goes_on, two_finds, finds_none, finds_on}
use Rattle.gier_front.proofs.Six.{told_on}
use Rattle.gier_front.proofs.passes.run_passes.Goals as goal

pub returns-in_err-run_pass-clause-early : goal.returns-in_err-run_pass-clause-early
returns-in_err-run_pass-clause-early g c = λ list is plain told.
    let blank = c.blank_text-text2.ensures.told c.args.drum.now told in
    finds_on ⊤ Fronted c.from_residual.result _ c.in_err-run_pass.field-0.0 _ _ c.run_pass.new.tables.faults.items c.from_residual.ensures.1 (λ e is. is) (c.in_err-run_pass.ensures.driven list is blank) c.in_err-run_pass.ensures.errors
    (λ one some. one_finds (tables_model c.run_pass.new.tables) list one.written (one.related.exact (all_spelled list plain)) some)

pub returns-in_err-run_pass-2-clause-early : goal.returns-in_err-run_pass-2-clause-early
returns-in_err-run_pass-2-clause-early g c = λ list is plain told.
    let blank = c.blank_text-text2.ensures.told c.args.drum.now told in
    let one = c.in_ok-run_pass.ensures.driven list is blank in
    let exact = one.related.exact (all_spelled list plain) in
    let assembled = one_goes_on (tables_model c.run_pass.new.tables) list one.written exact c.in_ok-run_pass.ensures.clean.faults in
    let bare = subst (λ (l : List Symbol). AreBare l) (sym exact.symbols) (assembled_bare list plain) in
    let next = c.blank_text-text3.ensures.told c.run_pass.new.store (c.run_pass.ensures.keeps.same_tracks ∙ told) in
    finds_on ⊤ Fronted c.from_residual-in_err-run_pass-2.result _ c.in_err-run_pass-2.field-0.0 _ _ c.run_pass-2.new.tables.faults.items c.from_residual-in_err-run_pass-2.ensures.1 (λ e is. is) (c.in_err-run_pass-2.ensures.driven one.written one.there next) c.in_err-run_pass-2.ensures.errors
    (λ two some. subst (λ (early : List (FaultAt FaultKind)). AreEarly early c.run_pass-2.new.tables.faults.items) (sym assembled) (two_finds (tables_model c.run_pass-2.new.tables) one.written (two.related.found (all_bare one.written bare)) some))

pub returns-in_err-run_pass-3-clause-early : goal.returns-in_err-run_pass-3-clause-early
returns-in_err-run_pass-3-clause-early g c = λ list is plain told.
    let blank = c.blank_text-text2.ensures.told c.args.drum.now told in
    let one = c.in_ok-run_pass.ensures.driven list is blank in
    let exact = one.related.exact (all_spelled list plain) in
    let assembled = one_goes_on (tables_model c.run_pass.new.tables) list one.written exact c.in_ok-run_pass.ensures.clean.faults in
    let bare = subst (λ (l : List Symbol). AreBare l) (sym exact.symbols) (assembled_bare list plain) in
    let next = c.blank_text-text3.ensures.told c.run_pass.new.store (c.run_pass.ensures.keeps.same_tracks ∙ told) in
    let two = c.in_ok-run_pass-2.ensures.driven one.written one.there next in
    let none = assembled ∙ two_goes_on (tables_model c.run_pass-2.new.tables) one.written (two.related.found (all_bare one.written bare)) c.in_ok-run_pass-2.ensures.clean.faults in
    finds_none c.from_residual-in_err-run_pass-3.result _ c.run_pass-3.new.tables.faults.items none

pub returns-in_err-run_pass-4-clause-early : goal.returns-in_err-run_pass-4-clause-early
returns-in_err-run_pass-4-clause-early g c = λ list is plain told.
    let blank = c.blank_text-text2.ensures.told c.args.drum.now told in
    let one = c.in_ok-run_pass.ensures.driven list is blank in
    let exact = one.related.exact (all_spelled list plain) in
    let assembled = one_goes_on (tables_model c.run_pass.new.tables) list one.written exact c.in_ok-run_pass.ensures.clean.faults in
    let bare = subst (λ (l : List Symbol). AreBare l) (sym exact.symbols) (assembled_bare list plain) in
    let next = c.blank_text-text3.ensures.told c.run_pass.new.store (c.run_pass.ensures.keeps.same_tracks ∙ told) in
    let two = c.in_ok-run_pass-2.ensures.driven one.written one.there next in
    let none = assembled ∙ two_goes_on (tables_model c.run_pass-2.new.tables) one.written (two.related.found (all_bare one.written bare)) c.in_ok-run_pass-2.ensures.clean.faults in
    finds_none c.from_residual-in_err-run_pass-4.result _ c.run_pass-4.new.tables.faults.items none

pub returns-in_err-run_pass-5-clause-early : goal.returns-in_err-run_pass-5-clause-early
returns-in_err-run_pass-5-clause-early g c = λ list is plain told.
    let blank = c.blank_text-text2.ensures.told c.args.drum.now told in
    let one = c.in_ok-run_pass.ensures.driven list is blank in
    let exact = one.related.exact (all_spelled list plain) in
    let assembled = one_goes_on (tables_model c.run_pass.new.tables) list one.written exact c.in_ok-run_pass.ensures.clean.faults in
    let bare = subst (λ (l : List Symbol). AreBare l) (sym exact.symbols) (assembled_bare list plain) in
    let next = c.blank_text-text3.ensures.told c.run_pass.new.store (c.run_pass.ensures.keeps.same_tracks ∙ told) in
    let two = c.in_ok-run_pass-2.ensures.driven one.written one.there next in
    let none = assembled ∙ two_goes_on (tables_model c.run_pass-2.new.tables) one.written (two.related.found (all_bare one.written bare)) c.in_ok-run_pass-2.ensures.clean.faults in
    finds_none c.from_residual-in_err-run_pass-5.result _ c.run_pass-5.new.tables.faults.items none

pub returns-clause-early : goal.returns-clause-early
returns-clause-early g c = λ list is plain told.
    let blank = c.blank_text-text2.ensures.told c.args.drum.now told in
    let one = c.in_ok-run_pass.ensures.driven list is blank in
    let exact = one.related.exact (all_spelled list plain) in
    let assembled = one_goes_on (tables_model c.run_pass.new.tables) list one.written exact c.in_ok-run_pass.ensures.clean.faults in
    let bare = subst (λ (l : List Symbol). AreBare l) (sym exact.symbols) (assembled_bare list plain) in
    let next = c.blank_text-text3.ensures.told c.run_pass.new.store (c.run_pass.ensures.keeps.same_tracks ∙ told) in
    let two = c.in_ok-run_pass-2.ensures.driven one.written one.there next in
    let none = assembled ∙ two_goes_on (tables_model c.run_pass-2.new.tables) one.written (two.related.found (all_bare one.written bare)) c.in_ok-run_pass-2.ensures.clean.faults in
    none

pub returns-clause-text6 : goal.returns-clause-text6
returns-clause-text6 g c = λ told one.
    let told2 = c.run_pass.ensures.keeps.same_tracks ∙ told in
    let told3 = c.run_pass-2.ensures.keeps.same_tracks ∙ told2 in
    let told4 = c.run_pass-3.ensures.keeps.same_tracks ∙ told3 in
    let told5 = c.run_pass-4.ensures.keeps.same_tracks ∙ told4 in
    let two = c.in_ok-run_pass.ensures.gives one (c.blank_text-text2.ensures.told c.args.drum.now told) in
    let three = c.in_ok-run_pass-2.ensures.gives two (c.blank_text-text3.ensures.told c.run_pass.new.store told2) in
    let four = c.in_ok-run_pass-3.ensures.gives three (c.blank_text-text4.ensures.told c.run_pass-2.new.store told3) in
    let five = c.in_ok-run_pass-4.ensures.gives four (c.blank_text-text5.ensures.told c.run_pass-3.new.store told4) in
    let six = c.in_ok-run_pass-5.ensures.gives five (c.blank_text-text6.ensures.told c.run_pass-4.new.store told5) in
    let t = c.close.new.text in
    let turned = c.in_ok-close.ensures.rewinds in
    told_on (IsWithinPotential 6 c.args.bytes) (g.D.Drum.tracks c.close.new.store) t.first t.loaded t.buffer t.count (first_of 6) c.len.result _
    turned.held (t.unbegun turned.rewound (turned.unread ∙ sym turned.count))
    (c.close.ensures.place.begins ∙ c.run_pass-5.ensures.output_place.begins ∙ c.blank_text-text6.ensures.place.0) c.len.ensures six
