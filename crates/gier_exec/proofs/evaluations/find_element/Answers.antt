use Rattle.std.proofs.Common.{ℕ, None, Some, Ok, Err, length, arith, refl, ap, sym, ◌∙◌}
use Rattle.gier_word.specs.Words.{int_of_word}
use Rattle.gier_names.specs.Evaluations.{picked}
use Rattle.gier_order.specs.Flat.Row.{Row}
use Rattle.gier_order.specs.Flat.Rows.{chooses, element_index}
use Rattle.gier_exec.specs.declared.activations.Evaluation.{Evaluation}
use Rattle.gier_exec.specs.Rows.{regs_of, code_in}
use Rattle.gier_exec.specs.Beginning.{evaluation_row, choice_row}
use Rattle.gier_exec.proofs.Readings.{reads_joined}
use Rattle.gier_exec.proofs.Searches.{search_as, search_refused, search_found, search_other, search_then}
use Rattle.gier_exec.proofs.Evaluatings.{search_word, search_missed, agrees_behind, chosen_none, element_row}
use Rattle.gier_exec.proofs.evaluations.find_element.Goals as goal

pub returns-in-Ok-find_label-clause-reads : goal.returns-in-Ok-find_label-clause-reads
returns-in-Ok-find_label-clause-reads g c = reads_joined 1 2 3 _ _ _ _ c.fetch.ensures.reads c.find_label.ensures.reads (omega arith)

pub returns-in-Err-find_label-clause-reads : goal.returns-in-Err-find_label-clause-reads
returns-in-Err-find_label-clause-reads g c = reads_joined 1 2 3 _ _ _ _ c.fetch.ensures.reads c.find_label.ensures.reads (omega arith)

pub returns-in-Err-clause-row : goal.returns-in-Err-clause-row
returns-in-Err-clause-row g c = λ tracks input told agrees entered is.
    let code = code_in tracks c.args.object.now in
    let size = length c.args.frames.now.words in
    let regs = regs_of c.args.m.now c.args.frames.now input in
    search_refused _ _ _ regs (λ found. choice_row code size regs found) c.in-Err.stop (c.in-Err.ensures.row code input c.args.m.now entered is)

pub returns-in-Err-fetch-clause-row : goal.returns-in-Err-fetch-clause-row
returns-in-Err-fetch-clause-row g c = λ tracks input told agrees entered is.
    let code = code_in tracks c.args.object.now in
    let size = length c.args.frames.now.words in
    let regs = regs_of c.args.m.now c.args.frames.now input in
    let go : ℕ → Row = λ count. chooses code size regs c.in-Ok.pair.0 c.in-Ok.pair.1 (element_index (int_of_word c.args.m.now.r) count) in
    search_as _ _ _ _ _ regs (λ found. choice_row code size regs found) (Err c.in-Err-fetch.miss) (c.in-Ok.ensures.row code input c.args.m.now entered is)
    (search_missed _ _ _ _ regs go (λ found. choice_row code size regs found) c.in-Ok.pair.0 c.in-Err-fetch.miss c.in-Err-fetch.ensures.refers (c.in-Err-fetch.ensures.row tracks told agrees go))

pub returns-in-None-clause-row : goal.returns-in-None-clause-row
returns-in-None-clause-row g c = λ tracks input told agrees entered is.
    let code = code_in tracks c.args.object.now in
    let size = length c.args.frames.now.words in
    let regs = regs_of c.args.m.now c.args.frames.now input in
    let go : ℕ → Row = λ count. chooses code size regs c.in-Ok.pair.0 c.in-Ok.pair.1 (element_index (int_of_word c.args.m.now.r) count) in
    let none = chosen_none (int_of_word c.args.m.now.r) c.in-Ok-fetch.count (sym c.in-None.is ∙ c.pick.ensures ∙ ap (λ z. picked z c.in-Ok-fetch.count) (c.number_of.ensures ∙ ap int_of_word c.r.ensures.value)) in
    search_as _ _ _ _ _ regs (λ found. choice_row code size regs found) (Ok None) (c.in-Ok.ensures.row code input c.args.m.now entered is)
    (search_found _ _ _ _ regs go c.in-Ok-fetch.count (λ found. choice_row code size regs found) None
    (search_word _ _ _ _ regs go c.in-Ok.pair.0 c.in-Ok-fetch.count c.in-Ok-fetch.ensures.refers (c.in-Ok-fetch.ensures.row tracks told agrees go))
    (ap (λ x. chooses code size regs c.in-Ok.pair.0 c.in-Ok.pair.1 x) none))

pub returns-in-Ok-find_label-clause-row : goal.returns-in-Ok-find_label-clause-row
returns-in-Ok-find_label-clause-row g c = λ tracks input told agrees entered is.
    let code = code_in tracks c.args.object.now in
    let size = length c.args.frames.now.words in
    let regs = regs_of c.args.m.now c.args.frames.now input in
    let go : ℕ → Row = λ count. chooses code size regs c.in-Ok.pair.0 c.in-Ok.pair.1 (element_index (int_of_word c.args.m.now.r) count) in
    let begins : Evaluation → Row = λ found. evaluation_row code size regs found in
    let at_is = sym c.in-Some.is ∙ c.pick.ensures ∙ ap (λ z. picked z c.in-Ok-fetch.count) (c.number_of.ensures ∙ ap int_of_word c.r.ensures.value) in
    search_found _ _ _ _ regs begins c.in-Ok-find_label.found (λ element_index. choice_row code size regs element_index) (Some c.in-Ok-find_label.found)
    (search_as _ _ _ _ _ regs begins (Ok c.in-Ok-find_label.found) (c.in-Ok.ensures.row code input c.args.m.now entered is)
    (search_then _ _ _ _ _ regs go c.in-Ok-fetch.count begins (Ok c.in-Ok-find_label.found) c.in-Ok-fetch.ensures.reads.places
    (search_word _ _ _ _ regs go c.in-Ok.pair.0 c.in-Ok-fetch.count c.in-Ok-fetch.ensures.refers (c.in-Ok-fetch.ensures.row tracks told agrees go))
    (search_as _ _ _ _ _ regs begins (Ok c.in-Ok-find_label.found) (element_row code size regs c.in-Ok.pair.0 c.in-Ok.pair.1 c.in-Ok-fetch.count c.in-Some.at (int_of_word c.args.m.now.r) at_is)
    (c.in-Ok-find_label.ensures.row tracks size regs (c.in-Ok-fetch.ensures.reads.tracks ∙ told) (agrees_behind _ _ _ _ tracks c.in-Ok-fetch.ensures.refers told c.in-Ok-fetch.ensures.reads.tracks agrees))))) refl

pub returns-in-Err-find_label-clause-row : goal.returns-in-Err-find_label-clause-row
returns-in-Err-find_label-clause-row g c = λ tracks input told agrees entered is.
    let code = code_in tracks c.args.object.now in
    let size = length c.args.frames.now.words in
    let regs = regs_of c.args.m.now c.args.frames.now input in
    let go : ℕ → Row = λ count. chooses code size regs c.in-Ok.pair.0 c.in-Ok.pair.1 (element_index (int_of_word c.args.m.now.r) count) in
    let begins : Evaluation → Row = λ found. evaluation_row code size regs found in
    let at_is = sym c.in-Some.is ∙ c.pick.ensures ∙ ap (λ z. picked z c.in-Ok-fetch.count) (c.number_of.ensures ∙ ap int_of_word c.r.ensures.value) in
    search_other _ _ _ _ regs begins (λ element_index. choice_row code size regs element_index) c.in-Err-find_label.miss
    (search_as _ _ _ _ _ regs begins (Err c.in-Err-find_label.miss) (c.in-Ok.ensures.row code input c.args.m.now entered is)
    (search_then _ _ _ _ _ regs go c.in-Ok-fetch.count begins (Err c.in-Err-find_label.miss) c.in-Ok-fetch.ensures.reads.places
    (search_word _ _ _ _ regs go c.in-Ok.pair.0 c.in-Ok-fetch.count c.in-Ok-fetch.ensures.refers (c.in-Ok-fetch.ensures.row tracks told agrees go))
    (search_as _ _ _ _ _ regs begins (Err c.in-Err-find_label.miss) (element_row code size regs c.in-Ok.pair.0 c.in-Ok.pair.1 c.in-Ok-fetch.count c.in-Some.at (int_of_word c.args.m.now.r) at_is)
    (c.in-Err-find_label.ensures.row tracks size regs (c.in-Ok-fetch.ensures.reads.tracks ∙ told) (agrees_behind _ _ _ _ tracks c.in-Ok-fetch.ensures.refers told c.in-Ok-fetch.ensures.reads.tracks agrees)))))
