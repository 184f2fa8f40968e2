-- What is written of what waits.
use Rattle.std.specs.Prelude.{◌≡◌, ◌+◌, ℕ, List, All, IsTrue, length}
use Rattle.gier_symbol.specs.declared.symbol.Symbol.{Symbol}
use Rattle.gier_symbol.specs.Texts.{stands_in}
use Rattle.gier_text.specs.View.{View, WritesAll}

abbrev pub IsLetter : Symbol → Type 0
IsLetter s = IsTrue (stands_in 7 s.tag)

-- letters of text 7 are written, and the number of those that may still be written falls by theirs
pub record Sends (before : ℕ) (old new : View) (after : ℕ) : Type 0 where
  pub list : List Symbol
  pub writes : WritesAll old list new
  pub letters : All IsLetter list
  pub spent : after + length list ≡ before
