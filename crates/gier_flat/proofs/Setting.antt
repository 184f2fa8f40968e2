-- What every lemma on a run is said of: a text 7, the words of the stack, and what is known of both.
use Rattle.std.proofs.Common.{◌<◌, ℕ, List, length}
use Rattle.std.specs.Prelude.{◌^◌}
use Rattle.gier_symbol.specs.declared.symbol.Symbol.{Symbol}
use Rattle.gier_tree.specs.Words.{HasStop, PlacesAreAddresses}
use Rattle.gier_flat.proofs.OrderRows.{object}

pub record Setting : Type 0 where
  pub text : List Symbol
  pub size : ℕ
  pub ends : HasStop text
  pub small : size < 2 ^ 24
  pub right : PlacesAreAddresses text
  pub short : length (object text) < 2 ^ 24
