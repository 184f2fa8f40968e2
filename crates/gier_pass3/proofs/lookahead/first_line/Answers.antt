use Rattle.std.proofs.Common.{arith, sym}
use Rattle.gier_text.specs.TablesModel.{tables_model}
use Rattle.gier_pass3.specs.Lists.{lookahead_in}
use Rattle.gier_pass3.proofs.Steps.{first_line_is, fewer_lookahead}
use Rattle.gier_pass3.proofs.lookahead.first_line.Goals as goal

pub returns-in-Some-clause-value : goal.returns-in-Some-clause-value
returns-in-Some-clause-value c = let list = lookahead_in (tables_model c.args.tables.now) in first_line_is list list.count c.in-Some.symbol c.args.name c.args.other (omega (arith, c.len.ensures, c.if-len-eq0.false)) (sym c.in-Some.ensures.value)

pub returns-in-None-clause-value : goal.returns-in-None-clause-value
returns-in-None-clause-value c = let list = lookahead_in (tables_model c.args.tables.now) in absurd (omega (arith, fewer_lookahead list list.count (omega (arith, c.len.ensures, c.if-len-eq0.false)) (sym c.in-None.ensures.value), c.requires.lists.all_lookahead))
