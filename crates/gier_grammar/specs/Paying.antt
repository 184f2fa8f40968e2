-- What a grammar symbol pays for beyond the symbol that it takes.
use Rattle.std.specs.Prelude.{◌≡◌, ◌≤◌}
use Rattle.gier_grammar.specs.declared.grammar_symbol.GrammarSymbol.{GrammarSymbol}
use Rattle.gier_grammar.specs.declared.parse_table.ParseAction.{ParseAction}
use Rattle.gier_grammar.specs.declared.parse_table.ParseAction.TheVariants.{Error, Epsilon, Expand}
use Rattle.gier_grammar.specs.GrammarSymbols.{credit_of}
use Rattle.gier_grammar.specs.Productions.{needs}

-- the symbol alone pays for the production
abbrev pub IsFree : ParseAction → Type 0
IsFree Error = Unit {0}
IsFree Epsilon = Unit {0}
IsFree (Expand production) = needs production ≡ 0

-- the symbol and the grammar symbol pay for the production
abbrev pub IsPaidBy : GrammarSymbol → ParseAction → Type 0
IsPaidBy item Error = Unit {0}
IsPaidBy item Epsilon = Unit {0}
IsPaidBy item (Expand production) = needs production ≤ credit_of item
