use Rattle.std.proofs.Common.{◌≡◌, ◌≤◌, ◌<◌, ◌∙◌, arith, ap, length, List, set, map}
use Rattle.std.proofs.lemmas.List.{length-map}
use Rattle.gier_text.specs.declared.extent.Extent.{Extent}
use Rattle.gier_text.specs.Lists.{TableList, list_in, nth_extent}
use Rattle.gier_text.specs.TablesModel.{TablesModel}
use Rattle.gier_text.proofs.ListExtents.{laid_counted, lists_cut, list_at-map, counted}
use Rattle.gier_text.proofs.tables.Tables.cut.Goals as goal

pub invariant_of-self-clause-laid : goal.invariant_of-self-clause-laid
invariant_of-self-clause-laid c =
    let t = c.args.self.now in
    let il : c.args.list < length t.lists.items = omega (arith, c.requires.open, length-map t.lists.items (list_in t.words.words)) in
    let le : c.args.len ≤ (nth_extent t.lists.items c.args.list).count = omega (arith, c.requires.within, ap (λ (l : TableList). l.count) (list_at-map t.words.words t.lists.items c.args.list)) in
    let is : c.set_count.new.extents.items ≡ set t.lists.items c.args.list (counted (nth_extent t.lists.items c.args.list) c.args.len) = c.set_count.ensures.set ∙ ap (λ n. set t.lists.items c.args.list (counted (nth_extent t.lists.items c.args.list) n)) c.from.ensures in
    rw is (laid_counted t.lists.items t.used c.args.list c.args.len t.laid il (omega (arith, t.laid.room c.args.list il)))

pub returns : goal.returns
returns c =
    let t = c.args.self.now in
    let il : c.args.list < length t.lists.items = omega (arith, c.requires.open, length-map t.lists.items (list_in t.words.words)) in
    let le : c.args.len ≤ (nth_extent t.lists.items c.args.list).count = omega (arith, c.requires.within, ap (λ (l : TableList). l.count) (list_at-map t.words.words t.lists.items c.args.list)) in
    let is : c.set_count.new.extents.items ≡ set t.lists.items c.args.list (counted (nth_extent t.lists.items c.args.list) c.args.len) = c.set_count.ensures.set ∙ ap (λ n. set t.lists.items c.args.list (counted (nth_extent t.lists.items c.args.list) n)) c.from.ensures in
    let make : List TableList → TablesModel = λ l. record { limit = t.limit; used = t.used; lists = l; faults = t.faults.items } in
    ap make (ap (λ (x : List Extent). map (list_in t.words.words) x) is ∙ lists_cut t.lists.items t.used c.args.list c.args.len t.words.words t.laid (omega (arith, t.sized, t.fits)) il le)
