-- How many symbols a program text gives, and how great the numbers of its identifiers are.
use Rattle.std.specs.Prelude.{◌≡◌, ◌+◌, ◌<◌, ◌≤◌, ℕ, List, length, All}
use Rattle.gier_symbol.specs.declared.symbol.Symbol.{Symbol}
use Rattle.gier_symbol.specs.declared.tag.Tag.TheVariants.{Identifier}
use Rattle.gier_symbol.specs.Assembly.{assembly, standard_names}
use Rattle.gier_symbol.specs.Reading.{symbols_of}
use Rattle.gier_symbol.specs.Tags.{number_of}

-- one symbol for each byte, and the end of the text
abbrev pub most_symbols : (text : List ℕ) → ℕ
most_symbols text = length text + 1

-- the standard names, and one for each symbol
abbrev pub most_names : (text : List ℕ) → ℕ
most_names text = length standard_names + most_symbols text

-- an identifier has a number below the bound; of other symbols nothing is said
abbrev pub IsNumberedBelow : (bound : ℕ) → Symbol → Type 0
IsNumberedBelow bound s = s.tag ≡ number_of Identifier → s.value < bound

-- the symbols of a text
abbrev pub ReadSymbolsAreFew : Type 0
ReadSymbolsAreFew = (text : List ℕ) → length (symbols_of text).symbols ≤ most_symbols text

-- what is assembled of them
abbrev pub AssembledSymbolsAreFew : Type 0
AssembledSymbolsAreFew = (text : List ℕ) → length (assembly (symbols_of text).symbols).symbols ≤ most_symbols text

abbrev pub NumbersAreSmall : Type 0
NumbersAreSmall = (text : List ℕ) → All (IsNumberedBelow (most_names text)) (assembly (symbols_of text).symbols).symbols
