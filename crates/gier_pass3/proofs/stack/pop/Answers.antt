use Rattle.std.proofs.Common.{◌≡◌, ◌+◌, ◌-◌, ◌*◌, ◌∙◌, ◌++◌, ◌∷◌, [], ◌%◌, ap, arith, sym, length, take, get_or}
use Rattle.std.proofs.lemmas.List.{get_or-set_same}
use Rattle.gier_text.specs.TablesModel.{TablesModel, tables_model}
use Rattle.gier_text.specs.Lists.{TableList, list_at, no_list, cut_to}
use Rattle.gier_grammar.specs.GrammarSymbols.{credit_at}
use Rattle.gier_pass3.specs.Lists.{credit_in}
use Rattle.gier_pass3.specs.Lists.{stack_in}
use Rattle.gier_pass3.proofs.Credits.{credit_cut, paid_from}
use Rattle.gier_pass3.proofs.StackWords.{stack_words}
use Rattle.gier_pass3.proofs.EntryWords.{popped, with_last}
use Rattle.gier_pass3.proofs.Steps.{entry_popped}
use Rattle.gier_pass3.proofs.stack.pop.Goals as goal

pub returns-clause-paid : goal.returns-clause-paid
returns-clause-paid c =
    let t = c.args.tables.now in
    let list = stack_in (tables_model t) in
    let n = c.len-depth.result - 1 in
    let is = ap (λ (k : TablesModel). list_at k.lists 0) c.cut.ensures ∙ get_or-set_same (tables_model t).lists 0 (cut_to list n) no_list (omega (arith, c.requires.lists.lists)) in
    let cut = credit_cut list n c.requires.lists.stack (omega (arith, c.len-depth.ensures, c.if-depth-eq0.false)) in
    let less : credit_in (stack_in (tables_model c.cut.new.self)) + credit_at (c.word-word.result % 256) ≡ credit_in list = rw (is, c.word-word.ensures.word) cut in
    paid_from c.unfold.result _ _ _ less c.unfold.ensures.credit

pub returns-clause-credit : goal.returns-clause-credit
returns-clause-credit c =
    let t = c.args.tables.now in
    let list = stack_in (tables_model t) in
    let n = c.len-depth.result - 1 in
    let is = ap (λ (k : TablesModel). list_at k.lists 0) c.cut.ensures ∙ get_or-set_same (tables_model t).lists 0 (cut_to list n) no_list (omega (arith, c.requires.lists.lists)) in
    let cut = credit_cut list n c.requires.lists.stack (omega (arith, c.len-depth.ensures, c.if-depth-eq0.false)) in
    omega (arith, ap credit_in is, cut)

pub returns-clause-read : goal.returns-clause-read
returns-clause-read c =
    let t = c.args.tables.now in
    let list = stack_in (tables_model t) in
    let n = c.len-depth.result - 1 in
    let word = c.word-word.result in
    let long : length list.words ≡ n + 1 = omega (arith, stack_words t c.requires.lists, c.len-depth.ensures, c.if-depth-eq0.false) in
    let cut = ap (λ (k : TablesModel). list_at k.lists 0) c.cut.ensures ∙ get_or-set_same (tables_model t).lists 0 (cut_to list n) no_list (omega (arith, c.requires.lists.lists)) in
    let place : list.width * n ≡ n = rw c.requires.lists.stack (omega arith) in
    let left = ap (λ (l : TableList). l.words) cut ∙ ap (λ k. take k list.words) place in
    let last : get_or list.words n 0 ≡ word = sym (c.word-word.ensures.word ∙ ap (λ k. get_or list.words (k + 0) 0) place ∙ ap (λ k. get_or list.words k 0) (omega arith)) in
    let whole = sym (with_last list.words n 0 long) ∙ ap (λ w. take n list.words ++ w ∷ []) last in
    popped (tables_model c.cut.new.self) (take n list.words) list.words word c.unfold.result whole c.unfold.ensures.wanted left

pub returns-clause-entries : goal.returns-clause-entries
returns-clause-entries c =
    let t = c.args.tables.now in
    let list = stack_in (tables_model t) in
    let n = c.len-depth.result - 1 in
    let word = c.word-word.result in
    let long : length list.words ≡ n + 1 = omega (arith, stack_words t c.requires.lists, c.len-depth.ensures, c.if-depth-eq0.false) in
    let cut = ap (λ (k : TablesModel). list_at k.lists 0) c.cut.ensures ∙ get_or-set_same (tables_model t).lists 0 (cut_to list n) no_list (omega (arith, c.requires.lists.lists)) in
    let place : list.width * n ≡ n = rw c.requires.lists.stack (omega arith) in
    let left = ap (λ (l : TableList). l.words) cut ∙ ap (λ k. take k list.words) place in
    let last : get_or list.words n 0 ≡ word = sym (c.word-word.ensures.word ∙ ap (λ k. get_or list.words (k + 0) 0) place ∙ ap (λ k. get_or list.words k 0) (omega arith)) in
    let whole = sym (with_last list.words n 0 long) ∙ ap (λ w. take n list.words ++ w ∷ []) last in
    entry_popped (tables_model c.cut.new.self) (take n list.words) list.words word c.unfold.result whole c.unfold.ensures.wanted left
