use Rattle.std.proofs.Common.{ap, ◌∙◌}
use Rattle.gier_text.specs.TablesModel.{tables_model}
use Rattle.gier_pass2.proofs.Standard.{space_at, letter_at, letter}
use Rattle.gier_pass2.proofs.names.spell.Goals as goal

pub returns-then-byte-eq32-clause-spells : goal.returns-then-byte-eq32-clause-spells
returns-then-byte-eq32-clause-spells c = λ i. space_at (tables_model c.args.tables.now)
    (tables_model c.number.new.tables) c.args.names.now c.number.new.names c.args.node c.args.byte c.number.result i c.if-byte-eq32.true
    c.number.ensures.number

pub returns-clause-spells : goal.returns-clause-spells
returns-clause-spells c = λ i. letter_at (tables_model c.args.tables.now)
    (tables_model c.step.new.tables) c.args.names.now c.args.node c.step.result c.args.byte i c.new.result c.if-byte-eq32.false
    (c.new.ensures.fields ∙ ap letter c.from.ensures) c.step.ensures.names
