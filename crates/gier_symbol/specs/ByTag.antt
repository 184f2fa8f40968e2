-- Symbols by their tags.
use Rattle.std.specs.Prelude.{ℕ}
use Rattle.gier_symbol.specs.declared.symbol.Symbol.{Symbol}
use Rattle.gier_symbol.specs.declared.tag.Tag.{Tag}
use Rattle.gier_symbol.specs.Tags.{number_of}

-- a symbol with a value
abbrev pub sym : Tag → (value line : ℕ) → Symbol
sym kind value line = record { tag = number_of kind; value = value; line = line }

-- a symbol without one
abbrev pub word : Tag → (line : ℕ) → Symbol
word kind line = sym kind 0 line
