use Rattle.std.proofs.Common.{arith}
use Rattle.std.proofs.lemmas.List.{take_rest}
use Rattle.gier_order.proofs.recent.total_from.Goals as goal
use Rattle.gier_order.proofs.CountInvariant.{sum_drop_le}

pub total-requires : goal.total-requires
total-requires c = rw (take_rest c.args.hits.now c.args.place) (omega (arith, c.requires.fits, sum_drop_le c.args.place c.args.hits.now))

pub returns-clause-bound : goal.returns-clause-bound
returns-clause-bound c = rw (c.total.ensures, take_rest c.args.hits.now c.args.place) (sum_drop_le c.args.place c.args.hits.now)
