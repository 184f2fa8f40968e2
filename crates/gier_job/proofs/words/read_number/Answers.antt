use Rattle.std.proofs.Common.{◌≡◌, Ok, true, decimal, sym, ◌∙◌, ap}
use Rattle.std.proofs.lemmas.Fmt.{parse-decimal}
use Rattle.std.proofs.lemmas.Slice.Eq.{bytes_eq-Decides}
use Rattle.std.specs.Str.{bytes_eq}
use Rattle.gier_job.proofs.words.read_number.Goals as goal

pub returns-in-Err-clause-only : goal.returns-in-Err-clause-only
returns-in-Err-clause-only c = λ n small e.
    let told : c.parse.result ≡ Ok n = parse-decimal 64 n c.args.text.now c.parse.result small small e c.parse.ensures.value.0 in
    cc

pub returns-then-eq-clause-only : goal.returns-then-eq-clause-only
returns-then-eq-clause-only c = λ n small e.
    let told : c.parse.result ≡ Ok n = parse-decimal 64 n c.args.text.now c.parse.result small small e c.parse.ensures.value.0 in
    cc

pub returns-else-eq-clause-only : goal.returns-else-eq-clause-only
returns-else-eq-clause-only c = λ n small e.
    let told : c.parse.result ≡ Ok n = parse-decimal 64 n c.args.text.now c.parse.result small small e c.parse.ensures.value.0 in
    let same : c.in-Ok.n ≡ n = cc in
    let written : c.format.result.now ≡ c.args.text.now = c.format.ensures.text ∙ ap decimal same ∙ sym e in
    let equal : bytes_eq c.format.result.now c.args.text.now ≡ true = (bytes_eq-Decides c.format.result.now c.args.text.now).1 written in
    cc
