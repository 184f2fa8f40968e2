use Rattle.std.proofs.Common.{arith, ap, ◌+◌, List, ℕ}
use Rattle.gier_region.specs.Contents.{Contents}
use Rattle.gier_region.proofs.Padded.{zero_filled-cleared}
use Rattle.gier_region.proofs.region.Region.take.Goals as goal

pub returns-clause-taken : goal.returns-clause-taken
returns-clause-taken c =
    let inside = c.self.inside in
    let make : List ℕ → Contents = λ l. record { words = l; used = inside.used + c.args.n } in
    rw (← c.self.view_is) (ap make (zero_filled-cleared inside.touched.items c.clear.new.touched.items inside.size inside.used c.args.n (omega arith) (omega arith) c.clear.ensures.length c.clear.ensures.kept c.clear.ensures.zero))
