-- What actions and productions add at most to the potential of what is written, looked ahead and wanted.
use Rattle.std.specs.Prelude.{◌+◌, ℕ, List, [], ◌∷◌}
use Rattle.gier_symbol.specs.Tags.{number_of}
use Rattle.gier_text.specs.Potential.{potential_of}
use Rattle.gier_grammar.specs.declared.production.Action.{Action}
use Rattle.gier_grammar.specs.declared.production.Action.TheVariants.{Open, WriteLookahead, Write, WriteAs, WriteOwn, WriteEnd}
use Rattle.gier_grammar.specs.declared.production.Action.TheVariants.{Lookahead, LookaheadName, LookaheadLabel}
use Rattle.gier_grammar.specs.declared.production.Production.{Production}
use Rattle.gier_grammar.specs.GrammarSymbols.{credits}
use Rattle.gier_grammar.specs.Productions.{actions_of, right_side_of, tag_of}

-- what an action adds at most to the potential of what is written and looked ahead
abbrev pub cost_of : Action → ℕ
cost_of (Open construct) = 1
cost_of WriteLookahead = 0
cost_of Write = 5
cost_of (WriteAs role) = potential_of 3 (number_of (tag_of role))
cost_of WriteOwn = 1
cost_of WriteEnd = 5
cost_of Lookahead = 5
cost_of LookaheadName = 6
cost_of LookaheadLabel = 1

abbrev pub costs : List Action → ℕ
costs [] = 0
costs (action ∷ actions) = cost_of action + costs actions

-- what a production costs, with what it wants
abbrev pub price : Production → ℕ
price production = costs (actions_of production) + credits (right_side_of production)
