-- The entries, and what their calls change.
use Rattle.std.specs.Prelude.{◌≡◌, ◌+◌, ℕ}
use Rattle.gier_text.specs.TablesModel.{TablesModel}
use Rattle.gier_pass5.specs.Lists.{Fits, entry_count, scope_count}
use Rattle.gier_pass5.specs.declared.entries.Field.{Field}
use Rattle.gier_pass5.specs.declared.entries.Field.TheVariants.{Kind, Place, Count, Own, Valued, Specified, Line}

-- which word of an entry a part is
abbrev pub part_at : Field → ℕ
part_at Kind = 2
part_at Place = 3
part_at Count = 4
part_at Own = 5
part_at Valued = 6
part_at Specified = 7
part_at Line = 8

-- one entry more
pub record Adds (old new : TablesModel) : Type 0 where
  pub fits : Fits old new
  pub faults : new.faults ≡ old.faults
  pub entries : entry_count new ≡ entry_count old + 1
  pub scopes : scope_count new ≡ scope_count old

-- so many entries more
pub record AddsMore (count : ℕ) (old new : TablesModel) : Type 0 where
  pub fits : Fits old new
  pub faults : new.faults ≡ old.faults
  pub entries : entry_count new ≡ entry_count old + count
  pub scopes : scope_count new ≡ scope_count old

-- so many entries are left
pub record Cuts (old : TablesModel) (first : ℕ) (new : TablesModel) : Type 0 where
  pub fits : Fits old new
  pub faults : new.faults ≡ old.faults
  pub entries : entry_count new ≡ first
  pub scopes : scope_count new ≡ scope_count old
