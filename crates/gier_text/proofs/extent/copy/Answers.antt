use Rattle.std.proofs.Common.{◌≡◌, ◌+◌, ◌<◌, arith, refl, ap, length, get_or, set}
use Rattle.gier_region.specs.Contents.{Contents}
use Rattle.gier_text.proofs.ListExtents.{copied_none, copied_more}
use Rattle.gier_text.proofs.extent.copy.Goals as goal

pub loop-word-init : goal.loop-word-init
loop-word-init c = (omega arith, copied_none c.args.place c.args.entry.now c.args.words.now.words)

pub loop-word-preserved : goal.loop-word-preserved
loop-word-preserved c =
    let i = c.loop-word.word-index in
    let word = get_or c.args.entry.now i 0 in
    let is : c.set.new.self.words ≡ set c.loop-word.words.words c.loop-word.at word = ap (λ (r : Contents). r.words) c.set.ensures.written in
    let here : c.loop-word.at ≡ c.args.place + i = c.loop-word.invariant.0 in
    let fits : c.args.place + i < length c.loop-word.words.words = omega (arith, c.loop-word.invariant.1.size, c.requires.within, c.loop-word-test.true) in
    (omega arith, rw (is, here) (copied_more c.args.place i c.args.entry.now c.args.words.now.words c.loop-word.words.words word c.loop-word.invariant.1 fits refl))
