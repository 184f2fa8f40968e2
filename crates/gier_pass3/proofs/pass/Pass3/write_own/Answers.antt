use Rattle.std.proofs.Common.{◌∙◌, ap, arith}
use Rattle.gier_symbol.specs.ByTag.{sym}
use Rattle.gier_symbol.specs.declared.tag.Tag.TheVariants.{OwnNumber}
use Rattle.gier_text.specs.TablesModel.{tables_model}
use Rattle.gier_pass3.proofs.Steps.{wrote_own}
use Rattle.gier_pass3.proofs.pass.Pass3.write_own.Goals as goal

pub returns-clause-wrote : goal.returns-clause-wrote
returns-clause-wrote c = λ next.
    wrote_own next c.args.self.now c.write.new.self (tables_model c.args.tables.now) (tables_model c.write.new.tables) c.new.result (sym OwnNumber c.args.self.now.owns c.args.line) c.saturating_add-self.result
    (c.new.ensures.fields ∙ ap (λ v. sym OwnNumber v c.args.line) c.from.ensures)
    (grind (arith, c.saturating_add-self.ensures, c.requires.owns, c.write.ensures.preserves.owned, c.write.ensures.preserves.counted))
    c.write.ensures.wrote
