-- The words of the stack are as many as its entries.
use Rattle.std.proofs.Common.{◌≡◌, ◌<◌, ◌*◌, ◌∙◌, ap, arith, length}
use Rattle.std.proofs.lemmas.List.{length-map}
use Rattle.gier_text.specs.declared.tables.Tables.{Tables}
use Rattle.gier_text.specs.TablesModel.{tables_model}
use Rattle.gier_text.specs.Lists.{list_in}
use Rattle.gier_text.proofs.ListExtents.{list_at-map}
use Rattle.gier_text.proofs.OutboxSymbols.{listed_words}
use Rattle.gier_pass3.specs.Lists.{ListsInvariant, stack_in}

pub stack_words : (t : Tables) → ListsInvariant (tables_model t) → length (stack_in (tables_model t)).words ≡ (stack_in (tables_model t)).count
stack_words t lists =
    let list = stack_in (tables_model t) in
    let il : 0 < length t.lists.items = omega (arith, lists.lists, length-map t.lists.items (list_in t.words.words)) in
    let there = list_at-map t.words.words t.lists.items 0 in
    let words : length list.words ≡ list.width * list.count = rw there (listed_words t.lists.items t.used 0 t.words.words t.laid (omega (arith, t.sized, t.fits)) il) in
    let one : length list.words ≡ 1 * list.count = words ∙ ap (λ w. w * list.count) lists.stack in
    omega (arith, one)
