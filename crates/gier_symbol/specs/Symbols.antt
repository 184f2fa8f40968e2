-- Symbols and their code in two words.
use Rattle.std.specs.Prelude.{◌&&◌, ◌+◌, ◌*◌, ◌/◌, ◌%◌, ◌^◌, ◌<◌, ℕ, IsTrue, nat_lt, if◌then◌else◌, List, [], ◌∷◌, Option, None}
use Rattle.std.specs.Prelude.{Some}
use Rattle.gier_symbol.specs.declared.symbol.Symbol.{Symbol}
use Rattle.gier_symbol.specs.Texts.{is_tag}

-- the tag is one, the value is a word, and the line is in its range
pub record IsSymbol (s : Symbol) : Type 0 where
  pub tag : IsTrue (is_tag s.tag)
  pub value : s.value < 2 ^ 40
  pub line : s.line < 2 ^ 24

-- the first word holds tag and line, the second one the value
abbrev pub code_of : Symbol → List ℕ
code_of s = (s.tag * 2 ^ 24 + s.line) ∷ s.value ∷ []

-- the symbol with this code, where there is one
abbrev pub symbol_of_code : ℕ → ℕ → Option Symbol
symbol_of_code head value =
    if is_tag (head / 2 ^ 24) && nat_lt value (2 ^ 40)
    then Some (record { tag = head / 2 ^ 24; value = value; line = head % 2 ^ 24 })
    else None
