-- Why a call on a text was refused.
use Rattle.std.specs.Prelude.{ℕ, ◌≡◌, ◌+◌, ◌<◌, Result, Ok, Err, Option, None, Some}
use Rattle.gier_word.specs.declared.refusal.Odd.{Odd}
use Rattle.gier_symbol.specs.Symbols.{symbol_of_code, IsSymbol}
use Rattle.gier_symbol.specs.declared.symbol.Symbol.{Symbol}
use Rattle.gier_text.specs.declared.text.TextStop.{TextStop}
use Rattle.gier_text.specs.declared.text.TextStop.TheVariants.{Failed, Memory, Full, Spoilt}
use Rattle.gier_text.specs.View.{View}

-- the answer is no Spoilt
abbrev pub NotSpoilt : {T : Type 0} → Result T TextStop → Type 0
NotSpoilt (Ok x) = Unit {0}
NotSpoilt (Err Failed) = Unit {0}
NotSpoilt (Err Memory) = Unit {0}
NotSpoilt (Err Full) = Unit {0}
NotSpoilt (Err (Spoilt odd)) = ⊥

-- what is left isn't told, the place is the number of the symbol in reading order, and its two words are no code
pub record IsNoCode (text : View) (odd : Odd) : Type 0 where
  pub untold : text.left ≡ None
  pub place : odd.place + text.unread ≡ text.count
  pub some : 0 < text.unread
  pub word : (value : ℕ) × (symbol_of_code odd.word value ≡ None)

-- a read answers Spoilt only where it must
abbrev pub SpoiltOnly : {T : Type 0} → View → Result T TextStop → Type 0
SpoiltOnly text (Ok x) = Unit {0}
SpoiltOnly text (Err Failed) = Unit {0}
SpoiltOnly text (Err Memory) = Unit {0}
SpoiltOnly text (Err Full) = Unit {0}
SpoiltOnly text (Err (Spoilt odd)) = IsNoCode text odd

-- what a read gives is a symbol
abbrev pub IsSymbolOrEnd : Option Symbol → Type 0
IsSymbolOrEnd None = Unit {0}
IsSymbolOrEnd (Some s) = IsSymbol s
