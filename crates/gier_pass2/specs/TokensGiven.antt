-- The symbols that one step gives.
use Rattle.std.specs.Prelude.{List, take}
use Rattle.gier_symbol.specs.declared.symbol.Symbol.{Symbol}
use Rattle.gier_pass2.specs.declared.token_buffer.TokenBuffer.{TokenBuffer}

abbrev pub buffered : TokenBuffer → List Symbol
buffered few = take few.count few.symbols
