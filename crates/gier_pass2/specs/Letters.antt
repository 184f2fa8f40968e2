-- The symbols that the pass takes and writes, and the end among them.
use Rattle.std.specs.Prelude.{◌≡◌, ◌==◌, ◌+◌, ℕ, Bool, true, false, IsTrue, List, [], ◌∷◌}
use Rattle.gier_symbol.specs.declared.symbol.Symbol.{Symbol}
use Rattle.gier_symbol.specs.declared.tag.Tag.TheVariants.{TextEnd}
use Rattle.gier_symbol.specs.Symbols.{IsSymbol}
use Rattle.gier_symbol.specs.Tags.{number_of}
use Rattle.gier_symbol.specs.Texts.{stands_in}
use Rattle.gier_text.specs.Potential.{is_numbered}

-- a symbol of text 2 of a program of so many bytes
pub record IsWritable (bytes : ℕ) (s : Symbol) : Type 0 where
  pub symbol : IsSymbol s
  pub letter : IsTrue (stands_in 2 s.tag)
  pub numbered : IsTrue (is_numbered 2 bytes s)

-- the end of the text
abbrev pub is_end : Symbol → Bool
is_end s = s.tag == number_of TextEnd

abbrev pub end_in : Bool → ℕ
end_in true = 1
end_in false = 0

-- how many ends a list has
abbrev pub ends : List Symbol → ℕ
ends [] = 0
ends (s ∷ list) = end_in (is_end s) + ends list

-- whether the last symbol is the end; of no symbol it is as told
abbrev pub ends_with : Bool → List Symbol → Bool
ends_with before [] = before
ends_with before (s ∷ list) = ends_with (is_end s) list

-- the end is last and nowhere else
pub record IsEnded (list : List Symbol) : Type 0 where
  pub once : ends list ≡ 1
  pub last : ends_with false list ≡ true
