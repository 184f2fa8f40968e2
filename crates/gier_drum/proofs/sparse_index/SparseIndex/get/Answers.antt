use Rattle.std.proofs.Common.{◌<◌, length, sym, ◌∙◌, arith}
use Rattle.gier_drum.specs.Pages.{entries}
use Rattle.gier_drum.proofs.Chunks.{length-entries, get_or-entries}
use Rattle.gier_drum.proofs.sparse_index.SparseIndex.get.Goals as goal

pub entry-requires-clause-within : goal.entry-requires-clause-within
entry-requires-clause-within c =
    let inside = c.self.inside in
    let within : c.args.place < length (entries inside.count inside.directory.items inside.chunks.items) = rw c.self.view_is c.requires in
    omega (arith, length-entries inside.count inside.directory.items inside.chunks.items, c.self.invariant.enough)

pub returns : goal.returns
returns c =
    let inside = c.self.inside in
    let within : c.args.place < length (entries inside.count inside.directory.items inside.chunks.items) = rw c.self.view_is c.requires in
    let lt : c.args.place < inside.count = omega (arith, length-entries inside.count inside.directory.items inside.chunks.items) in
    rw (← c.self.view_is) (c.entry.ensures ∙ sym (get_or-entries inside.count inside.directory.items inside.chunks.items c.args.place lt))
