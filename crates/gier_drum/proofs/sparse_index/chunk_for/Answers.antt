use Rattle.std.proofs.Common.{◌<◌, ◌≡◌, suc, length, get_or, arith}
use Rattle.gier_drum.specs.Pages.{slots_in_use}
use Rattle.gier_drum.proofs.Pages.{taken_lt}
use Rattle.gier_drum.proofs.Chunks.{AreChunks-new, entry_at-new}
use Rattle.gier_drum.proofs.sparse_index.chunk_for.Goals as goal

pub push_reserved-requires : goal.push_reserved-requires
push_reserved-requires c =
    let was : get_or c.args.directory.now.items c.args.at 0 ≡ 0 = omega arith in
    let fewer : slots_in_use c.args.directory.now.items < length c.args.directory.now.items = taken_lt c.args.directory.now.items c.args.at c.requires.within was in
    omega (arith, c.requires.chunks.indexed.count, c.requires.chunks.reserved, c.args.chunks.now.ok.0)

pub overflow_cast-len : goal.overflow_cast-len
overflow_cast-len c =
    let was : get_or c.args.directory.now.items c.args.at 0 ≡ 0 = omega arith in
    let fewer : slots_in_use c.args.directory.now.items < length c.args.directory.now.items = taken_lt c.args.directory.now.items c.args.at c.requires.within was in
    omega (arith, c.requires.chunks.indexed.count, c.requires.chunks.few, c.args.chunks.now.ok.0)

pub returns-clause-chunks : goal.returns-clause-chunks
returns-clause-chunks c =
    let was : get_or c.args.directory.now.items c.args.at 0 ≡ 0 = omega arith in
    let is : c.len.result ≡ suc (length c.args.chunks.now.items) = omega (arith, c.args.chunks.now.ok.0) in
    rw (c.push_reserved.ensures.items, is) (AreChunks-new c.args.directory.now.items c.args.chunks.now.items c.args.at _ _ c.blank.result c.requires.chunks c.requires.within was c.blank.ensures.long c.push_reserved.ensures.capacity)

pub returns-clause-entries : goal.returns-clause-entries
returns-clause-entries c =
    let was : get_or c.args.directory.now.items c.args.at 0 ≡ 0 = omega arith in
    let is : c.len.result ≡ suc (length c.args.chunks.now.items) = omega (arith, c.args.chunks.now.ok.0) in
    rw (c.push_reserved.ensures.items, is) (entry_at-new c.args.directory.now.items c.args.chunks.now.items c.args.at c.blank.result c.requires.chunks.indexed c.requires.within was c.blank.ensures.zeros)
