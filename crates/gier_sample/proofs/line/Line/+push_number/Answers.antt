use Rattle.std.proofs.Common.{◌≡◌, ◌+◌, ◌/◌, ap, ◌∙◌, length, length-append, append_assoc, refl, arith}
use Rattle.std.specs.Fmt.{decimal}
use Rattle.gier_sample.proofs.Digits.{decimal_more, length-decimal_more}
use Rattle.gier_sample.proofs.line.Line.+push_number.Goals as goal

pub push-requires-2 : goal.push-requires-2
push-requires-2 t c =
    let more = length-decimal_more c.args.number c.if-number-lt10.false (omega arith) in
    let begun : length c.push_number.new.self ≡ length c.args.self.now + length (decimal (c.args.number / 10)) = ap length c.push_number.ensures ∙ length-append c.args.self.now (decimal (c.args.number / 10)) in
    omega (arith, more, begun, c.requires)

pub returns : goal.returns
returns t c =
    rw (c.push-2.ensures, c.push_number.ensures, decimal_more c.args.number c.if-number-lt10.false (omega arith), append_assoc) refl
