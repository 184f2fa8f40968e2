-- What is read of a program before its structure: symbols in order, and faults in order. A fault has its line.
use Rattle.std.specs.Prelude.{ℕ, List, ◌++◌}
use Rattle.gier_symbol.specs.declared.symbol.Symbol.{Symbol}

-- a fault of some kind on a line
pub record FaultAt (Kind : Type 0) : Type 0 where
  pub kind : Kind
  pub line : ℕ

-- what may be wrong with bytes, and with the symbols that are assembled: `character`, `word`, `string`; `number`
pub data SymbolFault : Type 0 where
  WrongByte : SymbolFault
  WrongWord : SymbolFault
  OpenString : SymbolFault
  LargeNumber : SymbolFault

pub record Listing : Type 0 where
  pub symbols : List Symbol
  pub faults : List (FaultAt SymbolFault)

-- one listing behind another
abbrev pub listings_joined : Listing → Listing → Listing
listings_joined a b = record { symbols = a.symbols ++ b.symbols; faults = a.faults ++ b.faults }
