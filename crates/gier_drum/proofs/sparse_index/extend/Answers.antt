use Rattle.std.proofs.Common.{◌≡◌, ◌≤◌, ◌-◌, ◌++◌, ◌∙◌, length, replicate, arith, refl}
use Rattle.std.proofs.lemmas.List.{take_all}
use Rattle.gier_drum.proofs.Pages.{taken_le}
use Rattle.gier_drum.proofs.Chunks.{AreChunks-grown}
use Rattle.gier_drum.proofs.sparse_index.extend.Goals as goal

pub reserve-requires : goal.reserve-requires
reserve-requires c = omega (arith, c.requires.chunks.indexed.count, taken_le c.args.directory.now.items, c.args.directory.now.ok.0)

pub returns-in-Ok-clause-chunks : goal.returns-in-Ok-clause-chunks
returns-in-Ok-clause-chunks c =
    let old = c.args.directory.now in
    let le : length old.items ≤ c.args.wanted = omega (arith, old.ok.0) in
    let grown : c.resize.new.self.items ≡ old.items ++ replicate (c.args.wanted - length old.items) 0 =
    c.in-Ok.ensures.items ∙ (rw (take_all c.args.wanted old.items le, old.ok.0) refl) in
    rw (c.reserve.ensures.items, grown) (AreChunks-grown old.items c.args.chunks.now.items _ _ c.args.wanted c.requires.chunks c.requires.few le c.in_ok-reserve.ensures.room)
