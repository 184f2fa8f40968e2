-- What the pass keeps while it takes symbols.
use Rattle.std.specs.Prelude.{◌≡◌, ◌≤◌, ◌+◌, ◌*◌, ℕ, List, All, IsTrue, length, reverse}
use Rattle.gier_symbol.specs.declared.symbol.Symbol.{Symbol}
use Rattle.gier_symbol.specs.Texts.{stands_in}
use Rattle.gier_text.specs.Potential.{IsShort}
use Rattle.gier_text.specs.TablesModel.{TablesModel}
use Rattle.gier_pass8.specs.declared.pass.Pass8.{Pass8}
use Rattle.gier_pass8.specs.Lists.{HasLists}
use Rattle.gier_pass8.specs.Exact.{WritesText8}
use Rattle.gier_pass8.specs.FromTheEnd.{WritesFromTheEnd}

-- no more was written than was taken, and that is text 8 from the last symbol taken on
pub record PassInvariant (pass : Pass8) (t : TablesModel) (read written : List Symbol) : Type 0 where
  pub lists : HasLists pass.work.bytes t
  pub taken : pass.taken ≡ length read
  pub within : pass.taken ≤ 24 * pass.work.bytes + 64
  pub spent : length written ≤ pass.taken
  pub letters : All (λ s. IsTrue (stands_in 8 s.tag)) written
  pub settles : WritesFromTheEnd pass.work.bytes pass.work.place t (reverse read) written

-- letters of text 8, as many at most as were read, and text 8 itself
pub record Relates (bytes : ℕ) (read written : List Symbol) : Type 0 where
  pub short : IsShort 8 bytes written
  pub exact : WritesText8 bytes read written
