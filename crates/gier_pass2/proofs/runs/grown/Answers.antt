use Rattle.std.proofs.Common.{ap, sym, ◌∙◌, ◌≡◌, Bool}
use Rattle.std.specs.Prelude.{◌&&◌}
use Rattle.gier_symbol.specs.declared.tag.Tag.TheVariants.{Letter}
use Rattle.gier_symbol.specs.Assembly.{is}
use Rattle.gier_text.specs.TablesModel.{tables_model}
use Rattle.gier_pass2.proofs.RunSteps.{grown_name, grown_number}
use Rattle.gier_pass2.proofs.runs.grown.Goals as goal

pub returns-then-plain-clause-reads : goal.returns-then-plain-clause-reads
returns-then-plain-clause-reads c = λ known read done pending reading spelled.
    let now : c.is.result ≡ (c.in-Name.plain && is Letter c.args.s) = c.is.ensures ∙ ap (λ (b : Bool). b && is Letter c.args.s)
    (sym c.if-plain.true) in
    grown_name (tables_model c.args.tables.now) (tables_model c.step.new.tables) c.args.run known c.in-Name.node c.step.result c.in-Name.line read
    c.in-Name.plain c.is.result done pending c.args.s c.in-Name.is c.requires.goes_on now c.step.ensures.kept.faults spelled
    c.step.ensures.names reading

pub returns-else-plain-clause-reads : goal.returns-else-plain-clause-reads
returns-else-plain-clause-reads c = λ known read done pending reading spelled.
    let now : c.in-Name.plain ≡ (c.in-Name.plain && is Letter c.args.s) = c.if-plain.false ∙ ap (λ (b : Bool). b && is Letter c.args.s)
    (sym c.if-plain.false) in
    grown_name (tables_model c.args.tables.now) (tables_model c.step.new.tables) c.args.run known c.in-Name.node c.step.result c.in-Name.line read
    c.in-Name.plain c.in-Name.plain done pending c.args.s c.in-Name.is c.requires.goes_on now c.step.ensures.kept.faults spelled
    c.step.ensures.names reading

pub returns-in-Number-clause-reads : goal.returns-in-Number-clause-reads
returns-in-Number-clause-reads c = λ known read done pending reading spelled.
    grown_number (tables_model c.args.tables.now) c.args.run known c.in-Number.value c.in-Number.line c.in-Number.position read c.with_digit.result
    done pending c.args.s c.in-Number.is c.requires.goes_on c.with_digit.ensures reading
