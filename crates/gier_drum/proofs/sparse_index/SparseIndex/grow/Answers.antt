use Rattle.std.proofs.Common.{◌≡◌, ◌≤◌, ◌∙◌, length, arith}
use Rattle.gier_drum.proofs.Chunks.{length-entries, entries-grown}
use Rattle.gier_drum.proofs.sparse_index.SparseIndex.grow.Goals as goal

pub invariant_of-self-2 : goal.invariant_of-self-2
invariant_of-self-2 c =
    let inside = c.self.inside in
    let le : inside.count ≤ c.args.wanted = omega (arith, rw (← c.self.view_is) at c.requires.more, length-entries inside.count inside.directory.items inside.chunks.items) in
    record {
      chunked = c.extend.ensures.chunks;
      enough = omega (arith, c.in_ok-extend.ensures.enough, c.div_ceil.ensures);
      rest = λ place past. c.extend.ensures.entries place ∙ c.self.invariant.rest place (omega arith);
    }

pub returns-clause-grown : goal.returns-clause-grown
returns-clause-grown c =
    let inside = c.self.inside in
    let long : length c.args.self.now ≡ inside.count = rw (← c.self.view_is) (length-entries inside.count inside.directory.items inside.chunks.items) in
    rw (long, ← c.self.view_is) (entries-grown inside.count c.args.wanted inside.directory.items c.extend.new.directory.items inside.chunks.items c.extend.new.chunks.items (omega (arith, long, c.requires.more)) c.extend.ensures.entries c.self.invariant.rest)
