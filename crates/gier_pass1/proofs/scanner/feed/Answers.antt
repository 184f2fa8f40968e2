use Rattle.std.proofs.Common.{sym, subst, refl}
use Rattle.gier_strop.specs.declared.reader.Fed.{Fed}
use Rattle.gier_strop.specs.Reading.{Reading, with_letter}
use Rattle.gier_pass1.specs.StepCounts.{IsKnown}
use Rattle.gier_pass1.specs.Scanning.{HasLetters}
use Rattle.gier_pass1.proofs.Letters.{fed_known}
use Rattle.gier_pass1.proofs.scanner.feed.Goals as goal

pub returns-clause-known : goal.returns-clause-known
returns-clause-known c =
    let had = c.requires in
    let fed = c.feed.ensures had.0 had.1 in
    subst (λ (f : Fed). IsKnown f) (sym fed.answered) (fed_known c.args.reader.now.spelling had.0 c.args.byte)

pub returns-clause-more : goal.returns-clause-more
returns-clause-more c = λ more.
    let had = c.requires in
    let fed = c.feed.ensures had.0 had.1 in
    let new = fed.goes_on more in
    subst (λ (r : Reading). HasLetters r) (sym new) (with_letter had.0 c.args.byte, refl)
