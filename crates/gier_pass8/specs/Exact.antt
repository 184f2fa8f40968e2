-- Which texts 7 the pass is meant for: it writes text 8 of each of them.
use Rattle.std.specs.Prelude.{◌≡◌, ℕ, List, reverse}
use Rattle.gier_symbol.specs.declared.symbol.Symbol.{Symbol}
use Rattle.gier_tree.specs.Complete.{IsComplete}
use Rattle.gier_tree.specs.Object.{text8_of}

-- a text that is read and written from its end becomes text 8, where it is one of those
pub record WritesText8 (bytes : ℕ) (read written : List Symbol) : Type 0 where
  pub text : IsComplete bytes (reverse read) → reverse written ≡ text8_of (reverse read)
