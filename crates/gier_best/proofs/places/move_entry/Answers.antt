use Rattle.std.proofs.Common.{◌≡◌, suc, ◌+◌, arith}
use Rattle.gier_best.proofs.Index.{moved}
use Rattle.gier_best.proofs.places.move_entry.Goals as goal

pub returns : goal.returns
returns c =
    let next : c.args.place + 1 ≡ suc c.args.place = omega arith in
    rw next (moved c.args.index.now c.args.tracks.now c.args.place c.args.track c.requires.found c.requires.place c.requires.track c.requires.absent)
