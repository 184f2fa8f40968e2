-- The symbols that the pass writes.
use Rattle.std.specs.Prelude.{IsTrue}
use Rattle.gier_symbol.specs.declared.symbol.Symbol.{Symbol}
use Rattle.gier_symbol.specs.Symbols.{IsSymbol}
use Rattle.gier_symbol.specs.Texts.{stands_in}

-- a symbol of text 5
pub record IsWritable (s : Symbol) : Type 0 where
  pub symbol : IsSymbol s
  pub letter : IsTrue (stands_in 5 s.tag)
