use Rattle.std.proofs.Common.{arith, ap, ◌≤◌, ◌<◌, length, refl, ℕ, List}
use Rattle.gier_region.specs.Contents.{Contents}
use Rattle.gier_region.proofs.Padded.{zero_filled-set, zero_filled-reached, length-zero_filled}
use Rattle.gier_region.proofs.region.Region.set.Goals as goal

pub returns-then-place-len-clause-written : goal.returns-then-place-len-clause-written
returns-then-place-len-clause-written c =
    let inside = c.self.inside in
    let lt : c.args.place < length inside.touched.items = omega (arith, inside.touched.ok.0) in
    rw (← c.self.view_is, zero_filled-set inside.touched.items inside.size c.args.place c.args.word lt) refl

pub returns-else-place-len-clause-written : goal.returns-else-place-len-clause-written
returns-else-place-len-clause-written c =
    let items = c.self.inside.touched.items in
    let size = c.self.inside.size in
    let le : length items ≤ c.args.place = omega (arith, c.self.inside.touched.ok.0) in
    let lt : c.args.place < size = omega (arith, ap (λ (r : Contents). length r.words) c.self.view_is, length-zero_filled items size (omega arith)) in
    let make : List ℕ → Contents = λ l. record { words = l; used = c.self.inside.used } in
    rw (← c.self.view_is) (ap make (zero_filled-reached items c.reach.new.touched.items size c.args.place c.args.word le lt c.reach.ensures.length c.reach.ensures.written c.reach.ensures.kept))
