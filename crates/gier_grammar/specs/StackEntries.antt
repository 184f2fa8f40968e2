-- What a production puts on the stack: its right side, the next symbol on top.
use Rattle.std.specs.Prelude.{ℕ, List, [], ◌∷◌}
use Rattle.gier_grammar.specs.declared.grammar_symbol.GrammarSymbol.{GrammarSymbol}
use Rattle.gier_grammar.specs.declared.grammar_symbol.GrammarSymbol.TheVariants.{MorePairs as GMorePairs}
use Rattle.gier_grammar.specs.declared.stack_entry.StackEntry.{StackEntry}

-- how many pairs of constants may follow is told beside one grammar symbol only
abbrev pub beside : GrammarSymbol → (left : ℕ) → ℕ
beside GMorePairs left = left
beside _ left = 0

-- the right side of a production, above what was wanted
abbrev pub entry : GrammarSymbol → (left : ℕ) → StackEntry
entry item left = record { symbol = item; left = beside item left }

abbrev pub above : List GrammarSymbol → (left : ℕ) → List StackEntry → List StackEntry
above [] left st = st
above (item ∷ items) left st = entry item left ∷ above items left st
