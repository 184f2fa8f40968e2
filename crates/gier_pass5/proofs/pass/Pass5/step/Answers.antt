use Rattle.std.proofs.Common.{◌≡◌, ◌+◌, ◌∙◌, arith, ap, sym, true}
use Rattle.gier_symbol.specs.declared.tag.Tag.TheVariants.{Description}
use Rattle.gier_symbol.specs.Texts.{is_tag_of}
use Rattle.gier_pass5.proofs.Weights.{described_letters, described_weight, described_numbered}
use Rattle.gier_pass5.proofs.pass.Pass5.step.Goals as goal

pub returns-then-is-3 : goal.returns-then-is-3
returns-then-is-3 c =
    let p = c.args.self.now in
    let s = c.args.s in
    let done = c.take_description.ensures in
    let is : is_tag_of Description s.tag ≡ true = sym c.is-3.ensures ∙ c.if-is-3.true in
    record {
      ready = done.takes.ready;
      limit = done.takes.limit;
      bytes = done.takes.bytes;
      taken = done.takes.taken ∙ ap (λ n. p.taken + n) c.potential_of.ensures;
      letters = rw done.takes.waits (described_letters p.entry s c.requires.ready.entry c.requires.symbol is);
      light = rw (done.takes.waits, done.entry) (omega (arith, described_weight p.entry s c.requires.ready.entry is));
      numbered = λ numbered holds. rw (done.takes.waits, done.entry) (described_numbered p.bytes p.entry s numbered holds, tt);
    }
