use Rattle.std.proofs.Common.{◌+◌, ◌∙◌, [], ◌∷◌, ap, arith}
use Rattle.std.proofs.lemmas.List.{get_or-set_same}
use Rattle.gier_text.specs.TablesModel.{TablesModel, tables_model}
use Rattle.gier_text.specs.Lists.{TableList, list_at, no_list, with_entry}
use Rattle.gier_pass3.specs.Lists.{credit_in}
use Rattle.gier_pass3.specs.Lists.{stack_in}
use Rattle.gier_pass3.proofs.Credits.{credit_pushed}
use Rattle.gier_pass3.proofs.StackWords.{stack_words}
use Rattle.gier_pass3.proofs.EntryWords.{read_pushed, items_pushed}
use Rattle.gier_pass3.proofs.Steps.{entries_pushed}
use Rattle.gier_pass3.proofs.stack.push.Goals as goal

pub returns-clause-credit : goal.returns-clause-credit
returns-clause-credit c =
    let t = c.args.tables.now in
    let list = stack_in (tables_model t) in
    let is = ap (λ (k : TablesModel). list_at k.lists 0) c.push.ensures ∙ get_or-set_same (tables_model t).lists 0 (with_entry list (c.fold-word.result ∷ [])) no_list (omega (arith, c.requires.lists.lists)) in
    ap credit_in is ∙ credit_pushed list c.fold-word.result c.requires.lists.stack (stack_words t c.requires.lists) ∙ ap (λ n. credit_in list + n) c.fold-word.ensures.credit

pub returns-clause-read : goal.returns-clause-read
returns-clause-read c =
    let t = c.args.tables.now in
    let list = stack_in (tables_model t) in
    let is = ap (λ (k : TablesModel). (list_at k.lists 0).words) c.push.ensures ∙ ap (λ (l : TableList). l.words) (get_or-set_same (tables_model t).lists 0 (with_entry list (c.fold-word.result ∷ [])) no_list (omega (arith, c.requires.lists.lists))) in
    read_pushed list.words (stack_in (tables_model c.push.new.self)).words c.fold-word.result c.args.item c.args.left is c.fold-word.ensures.word

pub returns-clause-items : goal.returns-clause-items
returns-clause-items c =
    let t = c.args.tables.now in
    let list = stack_in (tables_model t) in
    let is = ap (λ (k : TablesModel). (list_at k.lists 0).words) c.push.ensures ∙ ap (λ (l : TableList). l.words) (get_or-set_same (tables_model t).lists 0 (with_entry list (c.fold-word.result ∷ [])) no_list (omega (arith, c.requires.lists.lists))) in
    items_pushed list.words (stack_in (tables_model c.push.new.self)).words c.fold-word.result c.args.item c.args.left is c.fold-word.ensures.word

pub returns-clause-entries : goal.returns-clause-entries
returns-clause-entries c =
    let t = c.args.tables.now in
    let list = stack_in (tables_model t) in
    let is = ap (λ (k : TablesModel). (list_at k.lists 0).words) c.push.ensures ∙ ap (λ (l : TableList). l.words) (get_or-set_same (tables_model t).lists 0 (with_entry list (c.fold-word.result ∷ [])) no_list (omega (arith, c.requires.lists.lists))) in
    entries_pushed list.words (stack_in (tables_model c.push.new.self)).words c.fold-word.result c.args.item c.args.left is c.fold-word.ensures.word
