use Rattle.std.proofs.Common.{◌≡◌, ◌≤◌, ◌<◌, ◌⊎◌, ◌+◌, ◌*◌, ◌∙◌, ℕ, arith, ap, subst, length, List, set, get_or, map}
use Rattle.std.proofs.lemmas.List.{length-map}
use Rattle.gier_text.specs.declared.extent.Extent.{Extent}
use Rattle.gier_text.specs.Lists.{TableList, list_in, nth_extent}
use Rattle.gier_text.specs.TablesModel.{TablesModel}
use Rattle.gier_text.proofs.ListExtents.{laid_counted, lists_pushed, list_at-map, counted}
use Rattle.gier_text.proofs.tables.Tables.push.Goals as goal

pub invariant_of-self-clause-laid : goal.invariant_of-self-clause-laid
invariant_of-self-clause-laid c =
    let t = c.args.self.now in
    let e = nth_extent t.lists.items c.args.list in
    let there = list_at-map t.words.words t.lists.items c.args.list in
    let il : c.args.list < length t.lists.items = omega (arith, c.requires.open, length-map t.lists.items (list_in t.words.words)) in
    let room : e.count < e.capacity = omega (arith, c.requires.room, ap (λ (l : TableList). l.count) there, ap (λ (l : TableList). l.capacity) there) in
    let is : c.set_count.new.extents.items ≡ set t.lists.items c.args.list (counted e (e.count + 1)) = c.set_count.ensures.set ∙ ap (λ (x : Extent). set t.lists.items c.args.list (counted e (x.count + 1))) c.extent_at-extent.ensures in
    rw is (laid_counted t.lists.items t.used c.args.list (e.count + 1) t.laid il (omega arith))

pub returns : goal.returns
returns c =
    let t = c.args.self.now in
    let e = nth_extent t.lists.items c.args.list in
    let there = list_at-map t.words.words t.lists.items c.args.list in
    let il : c.args.list < length t.lists.items = omega (arith, c.requires.open, length-map t.lists.items (list_in t.words.words)) in
    let room : e.count < e.capacity = omega (arith, c.requires.room, ap (λ (l : TableList). l.count) there, ap (λ (l : TableList). l.capacity) there) in
    let wide : length c.args.entry.now ≡ e.width = c.requires.width ∙ ap (λ (l : TableList). l.width) there in
    let is : c.set_count.new.extents.items ≡ set t.lists.items c.args.list (counted e (e.count + 1)) = c.set_count.ensures.set ∙ ap (λ (x : Extent). set t.lists.items c.args.list (counted e (x.count + 1))) c.extent_at-extent.ensures in
    let place : c.word_place.result ≡ e.base + (e.width * e.count + 0) = c.word_place.ensures ∙ ap (λ (x : Extent). x.base + (x.width * x.count + 0)) c.extent_at-extent.ensures in
    let entry = c.args.entry.now in
    let old = t.words.words in
    let new = c.copy.new.words.words in
    let written = subst (λ (p : ℕ). (k : ℕ) → k < length entry → get_or new (p + k) 0 ≡ get_or entry k 0) place c.copy.ensures.written in
    let others = subst (λ (p : ℕ). (k : ℕ) → (k < p) ⊎ (p + length entry ≤ k) → get_or new k 0 ≡ get_or old k 0) place c.copy.ensures.kept in
    let make : List TableList → TablesModel = λ l. record { limit = t.limit; used = t.used; lists = l; faults = t.faults.items } in
    ap make (ap (λ (x : List Extent). map (list_in new) x) is ∙ lists_pushed t.lists.items t.used c.args.list old new entry t.laid (omega (arith, t.sized, t.fits)) il room wide c.copy.ensures.size written others)
