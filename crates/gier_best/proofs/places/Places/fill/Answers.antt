use Rattle.std.proofs.Common.{◌≡◌, suc, ◌+◌, length, arith}
use Rattle.gier_best.proofs.Index.{filled_as}
use Rattle.gier_best.proofs.places.Places.fill.Goals as goal

pub invariant_of-self-clause-found : goal.invariant_of-self-clause-found
invariant_of-self-clause-found c =
    let place : c.len.result + 1 ≡ suc (length c.args.self.now.tracks.items) = omega (arith, c.len.ensures, c.args.self.now.tracks.ok.0) in
    filled_as c.args.self.now.index.items c.args.self.now.tracks.items c.push_reserved.new.self.items c.args.track (c.len.result + 1)
    c.args.self.now.found c.requires.track c.requires.absent c.push_reserved.ensures.items place
