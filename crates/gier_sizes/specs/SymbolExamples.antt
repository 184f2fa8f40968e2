-- Texts that give as many symbols as may be, or fewer; and one whose identifier has the greatest number but one.
use Rattle.std.specs.Prelude.{◌≡◌, ℕ, List, [], ◌∷◌, codes, length}
use Rattle.gier_symbol.specs.ReadExamples.{row}
use Rattle.gier_symbol.specs.Assembly.{assembly}
use Rattle.gier_symbol.specs.Reading.{symbols_of}
use Rattle.gier_sizes.specs.Symbols.{most_symbols, most_names}

-- signs, a name and a number of one byte each, and a string: each byte gives a symbol
abbrev pub full_text : List ℕ
full_text = codes "a(1,{b})"

-- `)`, a name, a colon and `(` are one symbol when they are assembled
abbrev pub shorter_text : List ℕ
shorter_text = codes "a(1)b:({c})"

-- the first name that isn't a standard one
abbrev pub named_text : List ℕ
named_text = codes "a"

pub record AreAsMany : Type 0 where
  pub full_read : length (symbols_of full_text).symbols ≡ most_symbols full_text
  pub full_assembled : length (assembly (symbols_of full_text).symbols).symbols ≡ most_symbols full_text
  pub shorter_read : length (symbols_of shorter_text).symbols ≡ most_symbols shorter_text
  pub shorter_assembled : length (assembly (symbols_of shorter_text).symbols).symbols ≡ 9
  pub named : (assembly (symbols_of named_text).symbols).symbols ≡ row 3 8 1 ∷ row 8 0 1 ∷ []
  pub names : most_names named_text ≡ 10
