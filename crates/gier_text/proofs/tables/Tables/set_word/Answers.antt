use Rattle.std.proofs.Common.{◌≡◌, ◌<◌, ◌+◌, ◌*◌, ◌∙◌, ℕ, arith, ap, length, List, set, map}
use Rattle.std.proofs.lemmas.List.{length-map}
use Rattle.gier_region.specs.Contents.{Contents}
use Rattle.gier_text.specs.declared.extent.Extent.{Extent}
use Rattle.gier_text.specs.Lists.{TableList, list_in, nth_extent}
use Rattle.gier_text.specs.TablesModel.{TablesModel}
use Rattle.gier_text.proofs.ListExtents.{lists_word, list_at-map}
use Rattle.gier_text.proofs.tables.Tables.set_word.Goals as goal

pub returns : goal.returns
returns c =
    let t = c.args.self.now in
    let e = nth_extent t.lists.items c.args.list in
    let there = list_at-map t.words.words t.lists.items c.args.list in
    let il : c.args.list < length t.lists.items = omega (arith, c.requires.open, length-map t.lists.items (list_in t.words.words)) in
    let al : c.args.at < e.count = omega (arith, c.requires.entry, ap (λ (l : TableList). l.count) there) in
    let pl : c.args.part < e.width = omega (arith, c.requires.part, ap (λ (l : TableList). l.width) there) in
    let place : c.word_place.result ≡ e.base + (e.width * c.args.at + c.args.part) = c.word_place.ensures ∙ ap (λ (x : Extent). x.base + (x.width * c.from.result + c.from-2.result)) c.extent_at-extent.ensures ∙ ap (λ (n : ℕ). e.base + (e.width * n + c.from-2.result)) c.from.ensures ∙ ap (λ (n : ℕ). e.base + (e.width * c.args.at + n)) c.from-2.ensures in
    let is : c.set.new.self.words ≡ set t.words.words c.word_place.result c.args.word = ap (λ (r : Contents). r.words) c.set.ensures.written in
    let make : List TableList → TablesModel = λ l. record { limit = t.limit; used = t.used; lists = l; faults = t.faults.items } in
    ap make (ap (λ (w : List ℕ). map (list_in w) t.lists.items) (is ∙ ap (λ (p : ℕ). set t.words.words p c.args.word) place) ∙ lists_word t.lists.items t.used c.args.list c.args.at c.args.part c.args.word t.words.words t.laid (omega (arith, t.sized, t.fits)) il al pl)
