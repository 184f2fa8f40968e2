use Rattle.gier_region.specs.Packing.{Extent}
use Rattle.gier_region.proofs.Entries.{entries-pushed}
use Rattle.gier_region.proofs.table.Table.try_push.Goals as goal

pub returns-clause-entries : goal.returns-clause-entries
returns-clause-entries g c =
    let inside = c.self.inside in
    let table : Extent = record { base = inside.base; capacity = inside.capacity; len = inside.len } in
    let only = rw c.WORDS.ensures at c.pack.ensures.only in
    let packed = rw c.WORDS.ensures at c.pack.ensures.packed in
    rw (← c.self.view_is) (entries-pushed g.T.Packed.value_of g.T.Packed.WORDS table c.args.region.now.words c.pack.new.region.words _ only packed)
