use Rattle.std.proofs.Common.{◌<◌, ◌^◌, arith}
use Rattle.gier_text.proofs.ListExtents.{laid_opened}
use Rattle.gier_text.proofs.tables.Tables.list.Goals as goal

pub invariant_of-self-clause-laid : goal.invariant_of-self-clause-laid
invariant_of-self-clause-laid c =
    let t = c.args.self.now in
    let small : c.args.capacity < 2 ^ 32 = omega (arith, c.ranges.capacity.fits) in
    rw (c.push_reserved.ensures.items, c.from.ensures, c.from-2.ensures, c.from-3.ensures, c.from-4.ensures) (laid_opened t.lists.items t.used c.args.width c.args.capacity t.laid small)

pub invariant_of-self-clause-fits : goal.invariant_of-self-clause-fits
invariant_of-self-clause-fits c = rw (c.from-3.ensures, c.from-4.ensures) c.requires.fits
