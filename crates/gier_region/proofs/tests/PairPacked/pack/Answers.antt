use Rattle.std.proofs.Common.{lit<, ◌≡◌, ◌+◌, ◌≤◌, refl, ℕ, List, ap, ◌∙◌, arith, set, get_or, length}
use Rattle.std.proofs.lemmas.Grind.{common_steps}
use Rattle.gier_region.specs.Contents.{Contents}
use Rattle.gier_region.specs.Packing.{words_at}
use Rattle.gier_region.proofs.Entries.{get_or-words_at}
use Rattle.gier_region.proofs.tests.PairPacked.pack.Goals as goal

first_read : (old : List ℕ) (place a b : ℕ) → place + 2 ≤ length old → get_or (words_at (set (set old place a) (place + 1) b) place 2) 0 0 ≡ a
first_read old place a b fits =
    let words : List ℕ = set (set old place a) (place + 1) b in
    let read : get_or words (place + 0) 0 ≡ a = grind (arith, common_steps) in
    get_or-words_at words place 2 0 (lit< tt) ∙ read

second_read : (old : List ℕ) (place a b : ℕ) → place + 2 ≤ length old → get_or (words_at (set (set old place a) (place + 1) b) place 2) 1 0 ≡ b
second_read old place a b fits =
    let words : List ℕ = set (set old place a) (place + 1) b in
    let read : get_or words (place + 1) 0 ≡ b = grind (arith, common_steps) in
    get_or-words_at words place 2 1 (lit< tt) ∙ read

pub returns-clause-packed : goal.returns-clause-packed
returns-clause-packed c =
    let old = c.args.region.now.words in
    let place = c.args.place in
    let is : c.set-2.new.self.words ≡ set (set old place c.bits.result) (place + 1) c.bits-2.result =
    ap (λ (r : Contents). r.words) c.set-2.ensures.written ∙ ap (λ (r : Contents). set r.words (place + 1) c.bits-2.result) c.set.ensures.written in
    rw (is, first_read old place c.bits.result c.bits-2.result c.requires, second_read old place c.bits.result c.bits-2.result c.requires, c.bits.ensures.value, c.bits-2.ensures.value) refl
