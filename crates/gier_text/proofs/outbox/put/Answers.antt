use Rattle.std.proofs.Common.{◌≡◌, ◌<◌, ◌*◌, ◌∙◌, ap, arith, length, set}
use Rattle.std.proofs.lemmas.List.{length-map, get_or-set_same}
use Rattle.gier_symbol.specs.Symbols.{code_of}
use Rattle.gier_text.specs.Lists.{list_in, list_at, no_list, with_entry}
use Rattle.gier_text.specs.TablesModel.{TablesModel, tables_model}
use Rattle.gier_text.specs.Outbox.{outbox_symbols}
use Rattle.gier_text.proofs.ListExtents.{list_at-map}
use Rattle.gier_text.proofs.OutboxSymbols.{waiting_pushed, listed_words}
use Rattle.gier_text.proofs.outbox.put.Goals as goal

pub returns-clause-waits : goal.returns-clause-waits
returns-clause-waits c =
    let t = c.args.tables.now in
    let list = list_at (tables_model t).lists c.args.list in
    let il : c.args.list < length t.lists.items = omega (arith, c.requires.open, length-map t.lists.items (list_in t.words.words)) in
    let there = list_at-map t.words.words t.lists.items c.args.list in
    let words : length list.words ≡ list.width * list.count = rw there (listed_words t.lists.items t.used c.args.list t.words.words t.laid (omega (arith, t.sized, t.fits)) il) in
    let long : length list.words ≡ 2 * list.count = words ∙ ap (λ w. w * list.count) c.requires.width in
    let is = ap (λ (k : TablesModel). list_at k.lists c.args.list) c.push.ensures ∙ ap (λ code. list_at (set (tables_model t).lists c.args.list (with_entry list code)) c.args.list) c.code.ensures ∙ get_or-set_same (tables_model t).lists c.args.list (with_entry list (code_of c.args.s)) no_list c.requires.open in
    ap outbox_symbols is ∙ waiting_pushed list c.args.s c.requires.width long c.requires.symbol
