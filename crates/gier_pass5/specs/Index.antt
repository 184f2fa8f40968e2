-- The rows of the index.
use Rattle.std.specs.Prelude.{◌≡◌, ◌+◌, ◌-◌, ◌&&◌, ◌^◌, ℕ, nat_lt, nat_le, if◌then◌else◌, Option, None, Some, length}
use Rattle.gier_text.specs.TablesModel.{TablesModel}
use Rattle.gier_text.specs.Lists.{list_at}

-- the identifiers of the program and the standard ones first, then the fresh identifiers of own quantities
abbrev pub row_at : ℕ → ℕ → Option ℕ
row_at number bytes =
    if nat_lt number (bytes + 64) then Some number
    else (if nat_le (2 ^ 32) number && nat_le (number - 2 ^ 32) bytes then Some (bytes + 64 + (number - 2 ^ 32))
    else None)

-- a fourth list, with so many rows and room for so many
pub record OpensIndex (room filled : ℕ) (old new : TablesModel) : Type 0 where
  pub lists : length new.lists ≡ 4
  pub first : list_at new.lists 0 ≡ list_at old.lists 0
  pub second : list_at new.lists 1 ≡ list_at old.lists 1
  pub third : list_at new.lists 2 ≡ list_at old.lists 2
  pub width : (list_at new.lists 3).width ≡ 1
  pub capacity : (list_at new.lists 3).capacity ≡ room
  pub rows : (list_at new.lists 3).count ≡ filled
  pub limit : new.limit ≡ old.limit
  pub faults : new.faults ≡ old.faults
