use Rattle.std.proofs.Common.{arith, ap, sym}
use Rattle.gier_region.specs.Packing.{Extent, entry}
use Rattle.gier_region.proofs.Entries.{take-tabulated}
use Rattle.gier_region.proofs.table.Table.truncate.Goals as goal

pub returns-clause-entries : goal.returns-clause-entries
returns-clause-entries g c = λ words.
    let inside = c.self.inside in
    let table : Extent = record { base = inside.base; capacity = inside.capacity; len = inside.len } in
    rw (← c.self.view_is) (sym (take-tabulated (entry g.T.Packed.value_of g.T.Packed.WORDS table words) c.args.len inside.len (omega (arith, ap (λ (t : Extent). t.len) c.self.view_is))))
