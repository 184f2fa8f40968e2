-- What the pass keeps while it takes symbols.
use Rattle.std.specs.Prelude.{◌≡◌, ◌≤◌, ◌+◌, List, All, length}
use Rattle.gier_symbol.specs.declared.symbol.Symbol.{Symbol}
use Rattle.gier_text.specs.Potential.{potential}
use Rattle.gier_text.specs.TablesModel.{TablesModel}
use Rattle.gier_text.specs.Lists.{list_at}
use Rattle.gier_pass6.specs.declared.pass.Pass6.{Pass6}
use Rattle.gier_pass6.specs.StateInvariants.{HasLists, IsWritable, most}

-- nothing waits, and what was taken weighs at least as much as what was written and what may still be written
pub record PassInvariant (pass : Pass6) (t : TablesModel) (read written : List Symbol) : Type 0 where
  pub lists : HasLists pass.work.bytes t
  pub empty : (list_at t.lists 0).count ≡ 0
  pub weighed : pass.potential ≡ potential 5 read
  pub within : pass.potential ≤ most pass.work.bytes
  pub spent : length written + pass.work.potential_left ≤ pass.potential
  pub writable : All (IsWritable pass.work.bytes) written
