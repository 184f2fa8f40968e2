use Rattle.std.proofs.Common.{◌<◌, ◌≡◌, ◌/◌, ◌%◌, ◌∙◌, length, set, ap, sym, arith}
use Rattle.gier_drum.specs.Pages.{entries}
use Rattle.gier_drum.proofs.Pages.{within_anywhere}
use Rattle.gier_drum.proofs.Chunks.{length-entries, entries-put, entries-eq, AreChunks-put, entry_at-put_other, get_or-entries}
use Rattle.gier_drum.proofs.sparse_index.SparseIndex.set.Goals as goal

pub chunk_for-chunk-requires-clause-within : goal.chunk_for-chunk-requires-clause-within
chunk_for-chunk-requires-clause-within c =
    let inside = c.self.inside in
    omega (arith, rw (← c.self.view_is) at c.requires, length-entries inside.count inside.directory.items inside.chunks.items, c.self.invariant.enough)

pub invariant_of-self : goal.invariant_of-self
invariant_of-self c =
    let inside = c.self.inside in
    let made = c.chunk_for-chunk in
    let lt : c.args.place < inside.count = omega (arith, rw (← c.self.view_is) at c.requires, length-entries inside.count inside.directory.items inside.chunks.items) in
    let in_directory : c.args.place / 256 < length made.new.directory.items = omega (arith, made.ensures.length, c.self.invariant.enough) in
    let there : made.result < length made.new.chunks.items = omega (arith, within_anywhere made.new.directory.items made.new.chunks.items made.ensures.chunks.indexed (c.args.place / 256), made.ensures.here) in
    rw c.put.ensures.chunks (record {
      chunked = AreChunks-put made.new.directory.items made.new.chunks.items _ _ made.result (c.args.place % 256) c.args.number made.ensures.chunks there c.put.ensures.capacity;
      enough = omega (arith, made.ensures.length, c.self.invariant.enough);
      rest = λ place past.
          entry_at-put_other made.new.directory.items made.new.chunks.items _ made.result c.args.place c.args.number place made.ensures.chunks there made.ensures.here in_directory (omega arith)
          ∙ made.ensures.entries place ∙ c.self.invariant.rest place past;
    })

pub returns : goal.returns
returns c =
    let inside = c.self.inside in
    let made = c.chunk_for-chunk in
    let lt : c.args.place < inside.count = omega (arith, rw (← c.self.view_is) at c.requires, length-entries inside.count inside.directory.items inside.chunks.items) in
    let in_directory : c.args.place / 256 < length made.new.directory.items = omega (arith, made.ensures.length, c.self.invariant.enough) in
    let there : made.result < length made.new.chunks.items = omega (arith, within_anywhere made.new.directory.items made.new.chunks.items made.ensures.chunks.indexed (c.args.place / 256), made.ensures.here) in
    let same : entries inside.count made.new.directory.items made.new.chunks.items ≡ c.args.self.now =
    entries-eq inside.count made.new.directory.items made.new.chunks.items c.args.self.now
    (rw (← c.self.view_is) (length-entries inside.count inside.directory.items inside.chunks.items))
    (λ place below. made.ensures.entries place ∙ rw (← c.self.view_is) (sym (get_or-entries inside.count inside.directory.items inside.chunks.items place below))) in
    rw c.put.ensures.chunks (entries-put inside.count made.new.directory.items made.new.chunks.items _ made.result c.args.place c.args.number made.ensures.chunks there made.ensures.here in_directory lt
    ∙ ap (λ list. set list c.args.place c.args.number) same)
