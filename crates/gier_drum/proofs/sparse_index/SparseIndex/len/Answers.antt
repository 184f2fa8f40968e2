use Rattle.std.proofs.Common.{sym}
use Rattle.gier_drum.proofs.Chunks.{length-entries}
use Rattle.gier_drum.proofs.sparse_index.SparseIndex.len.Goals as goal

pub returns : goal.returns
returns c =
    let inside = c.self.inside in
    rw (← c.self.view_is) (sym (length-entries inside.count inside.directory.items inside.chunks.items))
