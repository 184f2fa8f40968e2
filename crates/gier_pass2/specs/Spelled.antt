-- Letters and digits as they are spelled: the letters of the alphabet, and the digits below ten.
use Rattle.std.specs.Prelude.{◌≡◌, ◌<◌, ℕ, true, List, All}
use Rattle.gier_symbol.specs.declared.symbol.Symbol.{Symbol}
use Rattle.gier_symbol.specs.declared.tag.Tag.TheVariants.{Letter, Digit}
use Rattle.gier_symbol.specs.Assembly.{is, is_letter_or_digit}
use Rattle.gier_symbol.specs.Bytes.{is_letter}
use Rattle.gier_symbol.specs.Reading.{symbols_of}

-- where the symbol is a letter or a digit, its value is one of those
pub record IsSpelled (s : Symbol) : Type 0 where
  pub letter : is Letter s ≡ true → is_letter s.value ≡ true
  pub digit : is Digit s ≡ true → s.value < 10

-- it is a letter or a digit
pub record IsSign (s : Symbol) : Type 0 where
  pub kind : is_letter_or_digit s ≡ true
  pub spelled : IsSpelled s

-- the symbols are the same, apart from their lines
pub record IsSame (a b : Symbol) : Type 0 where
  pub tag : a.tag ≡ b.tag
  pub value : a.value ≡ b.value

-- whatever the bytes of a program text are, the symbols that are read of them are spelled
abbrev pub ReadsSpelled : Type 0
ReadsSpelled = (text : List ℕ) → All IsSpelled (symbols_of text).symbols
