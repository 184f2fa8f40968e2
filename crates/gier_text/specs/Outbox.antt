-- The symbols that wait in a list of the tables: each entry is the code of one.
use Rattle.std.specs.Prelude.{ℕ, zero, suc, ◌∷◌, ◌++◌, List, [], Option, None, Some}
use Rattle.gier_symbol.specs.declared.symbol.Symbol.{Symbol}
use Rattle.gier_symbol.specs.Symbols.{symbol_of_code}
use Rattle.gier_text.specs.Lists.{TableList, word_at}

-- the symbol whose code is an entry
abbrev pub symbol_at : TableList → ℕ → Option Symbol
symbol_at list at = symbol_of_code (word_at list at 0) (word_at list at 1)

abbrev pub if_any : Option Symbol → List Symbol
if_any None = []
if_any (Some s) = s ∷ []

-- the symbols of the first so many entries
abbrev pub outbox_symbols_until : TableList → ℕ → List Symbol
outbox_symbols_until list zero = []
outbox_symbols_until list (suc at) = outbox_symbols_until list at ++ if_any (symbol_at list at)

-- the symbols of all entries, in order
abbrev pub outbox_symbols : TableList → List Symbol
outbox_symbols list = outbox_symbols_until list list.count
