-- The same of a program as it was written: one without faults of scopes, whose identifiers are numbered below the fresh ones.
use Rattle.std.specs.Prelude.{◌≡◌, ℕ, []}
use Rattle.gier_tree.specs.Complete.{IsComplete}
use Rattle.gier_tree.specs.Hoist.{hoist}
use Rattle.gier_tree.specs.Text7.{text7}
use Rattle.gier_tree.specs.Trees.{Program}
use Rattle.gier_tree.specs.Words.{PlacesAreAddresses}
use Rattle.gier_scope.specs.ScopeFaults.{scope_faults}
use Rattle.gier_fair.specs.FewNames.{HasFewNames}
use Rattle.gier_placed.specs.Fitting.{AllFit, HasSizes}
use Rattle.gier_placed.specs.Laws.{HasFewLabels}

pub record HasText7 (bytes : ℕ) (t : Program) : Type 0 where
  pub addresses : PlacesAreAddresses (text7 t)
  pub complete : HasSizes bytes (text7 t) → AllFit (text7 t) (text7 t) → IsComplete bytes (text7 t)

abbrev pub ProgramsHaveText7 : Type 0
ProgramsHaveText7 = (t : Program) (bytes : ℕ) → HasFewNames t → scope_faults t ≡ [] → HasFewLabels (hoist t) → HasText7 bytes t
