use Rattle.std.proofs.Common.{◌≡◌, ◌<◌, ◌^◌, ap, ◌∙◌, arith}
use Rattle.gier_agree.specs.Packed.{first_kinds, kinds_word, kind_in}
use Rattle.gier_agree.proofs.PackedKinds.{all_digits, fits_word, kinds_back}
use Rattle.gier_agree.proofs.packed.pack.Goals as goal

pub overflow_mul-word : goal.overflow_mul-word
overflow_mul-word c =
    let below : first_kinds c.loop-at.at c.args.kinds.now < 2 ^ 40 = fits_word c.args.kinds.now (all_digits c.args.kinds.now c.requires.bits) c.loop-at.at (omega arith) in
    omega arith

pub overflow_add-word : goal.overflow_add-word
overflow_add-word c =
    let below : first_kinds c.loop-at.at c.args.kinds.now < 2 ^ 40 = fits_word c.args.kinds.now (all_digits c.args.kinds.now c.requires.bits) c.loop-at.at (omega arith) in
    omega arith

pub returns-clause-value : goal.returns-clause-value
unfolding kinds_word
returns-clause-value c =
    let end : c.loop-at.at ≡ 10 = omega arith in
    c.loop-at.invariant ∙ ap (λ n. first_kinds n c.args.kinds.now) end

pub returns-clause-range : goal.returns-clause-range
returns-clause-range c =
    let below : first_kinds c.loop-at.at c.args.kinds.now < 2 ^ 40 = fits_word c.args.kinds.now (all_digits c.args.kinds.now c.requires.bits) c.loop-at.at (omega arith) in
    omega arith

pub returns-clause-back : goal.returns-clause-back
returns-clause-back c = λ at lt.
    ap (λ word. kind_in word at) (returns-clause-value c) ∙ kinds_back c.args.kinds.now (all_digits c.args.kinds.now c.requires.bits) at lt
