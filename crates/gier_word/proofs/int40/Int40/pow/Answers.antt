use Rattle.std.proofs.Common.{rules, ◌≡◌, ◌∙◌, sym}
use Rattle.gier_word.specs.Powers.{whole_power}
use Rattle.gier_word.proofs.SmallExponents.{power_is_whole}
use Rattle.gier_word.proofs.int40.Int40.pow.Goals as goal

-- src/int40.rt:124:5
pub returns : goal.returns
returns c =
    let whole : c.raised.result ≡ whole_power c.args.self c.args.b = search rules in
    whole ∙ sym (power_is_whole c.args.self c.args.b)
