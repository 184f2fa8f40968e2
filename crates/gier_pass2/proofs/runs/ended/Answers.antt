use Rattle.std.proofs.Common.{ap, false}
use Rattle.gier_symbol.specs.declared.symbol.Symbol.{Symbol}
use Rattle.gier_text.specs.TablesModel.{tables_model}
use Rattle.gier_pass2.proofs.RunEnds.{ends_name, ends_number}
use Rattle.gier_pass2.proofs.runs.ended.Goals as goal

pub returns-in-Name-clause-reads : goal.returns-in-Name-clause-reads
returns-in-Name-clause-reads c = λ read done pending reading.
    ends_name (tables_model c.args.tables.now) (tables_model c.number-number.new.tables) c.args.known.now c.number-number.new.names read c.in-Name.node
    c.in-Name.line c.number-number.result c.in-Name.plain c.args.run done pending
    (record { symbol = c.new.result; plain = c.in-Name.plain }) c.in-Name.is c.number-number.ensures.kept.faults
    c.number-number.ensures.number (ap (λ (s : Symbol). record { symbol = s; plain = c.in-Name.plain }) c.new.ensures.fields) reading

pub returns-in-Number-clause-reads : goal.returns-in-Number-clause-reads
returns-in-Number-clause-reads c = λ read done pending reading.
    ends_number (tables_model c.args.tables.now) (tables_model c.valued-value.new.tables) c.args.known.now read c.in-Number.value c.in-Number.line
    c.in-Number.position c.valued-value.result c.args.run done pending
    (record { symbol = c.new-in-Number.result; plain = false }) c.in-Number.is c.valued-value.ensures.valued
    (ap (λ (s : Symbol). record { symbol = s; plain = false }) c.new-in-Number.ensures.fields) reading
