-- What the pass keeps while it takes symbols.
use Rattle.std.specs.Prelude.{◌≤◌, ◌+◌, ◌*◌, List, All, length}
use Rattle.gier_symbol.specs.declared.symbol.Symbol.{Symbol}
use Rattle.gier_text.specs.TablesModel.{TablesModel}
use Rattle.gier_pass7.specs.declared.pass.Pass7.{Pass7}
use Rattle.gier_pass7.specs.StateInvariants.{HasLists}
use Rattle.gier_pass7.specs.SendProgress.{IsLetter}

-- what was written and what may still be written come to the greatest length of a text
pub record PassInvariant (pass : Pass7) (t : TablesModel) (read written : List Symbol) : Type 0 where
  pub lists : HasLists pass.work.bytes t
  pub spent : length written + pass.left ≤ 24 * pass.work.bytes + 64
  pub letters : All IsLetter written
