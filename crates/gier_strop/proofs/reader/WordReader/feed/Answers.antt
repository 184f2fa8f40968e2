use Rattle.std.proofs.Common.{◌≡◌, false, ap, refl}
use Rattle.gier_symbol.specs.Words.{is_next_letter}
use Rattle.gier_strop.specs.Reading.{Reading}
use Rattle.gier_strop.proofs.Letters.{feeds-letter, feeds-end, false_if}
use Rattle.gier_strop.proofs.reader.WordReader.feed.Goals as goal

pub returns-in-Some : goal.returns-in-Some
returns-in-Some c = λ letters stands.
    let old = c.args.self.now in
    let spelling_is : c.self.inside.spelling ≡ old.spelling = ap (λ (r : Reading). r.spelling) c.self.view_is in
    let follows = rw spelling_is at (c.in-Some.ensures.some.0 refl) in
    let lower_is = rw spelling_is at c.in-Some.ensures.letter in
    rw c.keep.ensures (feeds-letter old.spelling old.name letters c.args.byte c.in-Some.letter follows lower_is (ap (λ (r : Reading). r.name) stands))

pub returns-in-None : goal.returns-in-None
returns-in-None c = λ letters stands.
    let old = c.args.self.now in
    let spelling_is : c.self.inside.spelling ≡ old.spelling = ap (λ (r : Reading). r.spelling) c.self.view_is in
    let follows : is_next_letter old.spelling c.args.byte ≡ false = false_if (is_next_letter old.spelling c.args.byte) (λ h. let lost = c.in-None.ensures.some.1 (rw spelling_is h) in cc) in
    rw c.ended.ensures (feeds-end old.spelling old.name letters c.args.byte old follows (ap (λ (r : Reading). r.name) stands))
