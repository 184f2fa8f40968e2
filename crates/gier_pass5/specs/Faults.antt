-- What a fault changes.
use Rattle.std.specs.Prelude.{◌≡◌, ◌≤◌, ◌<◌, ◌+◌, ℕ, length}
use Rattle.gier_text.specs.declared.fault.Fault.{Fault}
use Rattle.gier_text.specs.TablesModel.{TablesModel, AddsFault}
use Rattle.gier_pass5.specs.Lists.{Fits, entry_count, scope_count}

-- the fault is added where there are at most so many
pub record AddsWhereRoom (bytes : ℕ) (old : TablesModel) (f : Fault) (new : TablesModel) : Type 0 where
  pub room : length old.faults ≤ bytes → AddsFault old f new
  pub full : bytes < length old.faults → new ≡ old

-- as many entries and scopes as before, and no more faults than so many and one
pub record Judges (bytes : ℕ) (old new : TablesModel) : Type 0 where
  pub fits : Fits old new
  pub entries : entry_count new ≡ entry_count old
  pub scopes : scope_count new ≡ scope_count old
  pub faults : length old.faults ≤ bytes + 1 → length new.faults ≤ bytes + 1
