use Rattle.std.proofs.Common.{arith, ap, ◌<◌}
use Rattle.gier_region.specs.Packing.{Extent}
use Rattle.gier_region.proofs.Entries.{entries-set}
use Rattle.gier_region.proofs.table.Table.set.Goals as goal

pub returns-clause-entries : goal.returns-clause-entries
returns-clause-entries g c =
    let inside = c.self.inside in
    let table : Extent = record { base = inside.base; capacity = inside.capacity; len = inside.len } in
    let only = rw c.WORDS.ensures at c.pack.ensures.only in
    let packed = rw c.WORDS.ensures at c.pack.ensures.packed in
    let lt : c.args.at < inside.len = omega (arith, ap (λ (t : Extent). t.len) c.self.view_is) in
    rw (← c.self.view_is) (entries-set g.T.Packed.value_of g.T.Packed.WORDS table c.args.region.now.words c.pack.new.region.words _ c.args.at lt only packed)
