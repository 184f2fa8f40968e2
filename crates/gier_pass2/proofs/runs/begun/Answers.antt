use Rattle.std.proofs.Common.{sym, ◌∙◌, ◌≡◌, true}
use Rattle.gier_symbol.specs.declared.tag.Tag.TheVariants.{Letter}
use Rattle.gier_symbol.specs.Assembly.{is}
use Rattle.gier_text.specs.TablesModel.{tables_model}
use Rattle.gier_pass2.proofs.RunSteps.{begins_name}
use Rattle.gier_pass2.proofs.runs.begun.Goals as goal

pub returns-then-is-clause-reads : goal.returns-then-is-clause-reads
returns-then-is-clause-reads c = λ known done reading spelled.
    let letter : is Letter c.args.s ≡ true = sym c.is.ensures ∙ c.if-is.true in
    begins_name (tables_model c.args.tables.now) (tables_model c.first.new.tables) known c.first.result c.args.position done c.args.s
    c.first.ensures.kept.faults letter spelled c.first.ensures.names reading
