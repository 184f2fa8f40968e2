-- What the calls of scopes change.
use Rattle.std.specs.Prelude.{◌≡◌, ◌≤◌, ◌+◌, ◌*◌, ℕ, length}
use Rattle.gier_text.specs.TablesModel.{TablesModel}
use Rattle.gier_text.specs.Lists.{list_at}
use Rattle.gier_pass5.specs.Lists.{Fits, entry_count, scope_count}

-- one scope more
pub record Enters (old new : TablesModel) : Type 0 where
  pub fits : Fits old new
  pub faults : new.faults ≡ old.faults
  pub entries : entry_count new ≡ entry_count old
  pub scopes : scope_count new ≡ scope_count old + 1

-- no more scopes and entries
pub record Leaves (old new : TablesModel) : Type 0 where
  pub fits : Fits old new
  pub faults : new.faults ≡ old.faults
  pub entries : entry_count new ≤ entry_count old
  pub scopes : scope_count new ≤ scope_count old

-- a third list, with one scope
pub record OpensScopes (bytes : ℕ) (old new : TablesModel) : Type 0 where
  pub lists : length new.lists ≡ 3
  pub first : list_at new.lists 0 ≡ list_at old.lists 0
  pub second : list_at new.lists 1 ≡ list_at old.lists 1
  pub width : (list_at new.lists 2).width ≡ 3
  pub capacity : (list_at new.lists 2).capacity ≡ 8 * bytes + 65
  pub one : (list_at new.lists 2).count ≡ 1
  pub used : new.used ≡ old.used + 3 * (8 * bytes + 65)
  pub limit : new.limit ≡ old.limit
  pub faults : new.faults ≡ old.faults
