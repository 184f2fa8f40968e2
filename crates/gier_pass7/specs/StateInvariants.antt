-- The lists of the pass, and what each part of a step keeps.
use Rattle.std.specs.Prelude.{◌≡◌, ◌≤◌, ◌+◌, ◌*◌, ℕ, length}
use Rattle.gier_text.specs.TablesModel.{TablesModel}
use Rattle.gier_text.specs.Lists.{TableList, list_at}
use Rattle.gier_pass7.specs.declared.state.State.{State}

pub record IsList (words room : ℕ) (list : TableList) : Type 0 where
  pub width : list.width ≡ words
  pub capacity : list.capacity ≡ room

-- the lists: what waits to be written, the symbols of a step expression, what is open, the places of kept operands, the numbered
-- places, and the descriptions
pub record HasLists (bytes : ℕ) (t : TablesModel) : Type 0 where
  pub count : length t.lists ≡ 6
  pub outbox : IsList 2 (19 * bytes + 512) (list_at t.lists 0)
  pub recorded : IsList 2 (4 * bytes + 64) (list_at t.lists 1)
  pub stack : IsList 12 (bytes + 64) (list_at t.lists 2)
  pub keeps : IsList 1 (bytes + 64) (list_at t.lists 3)
  pub numbered : IsList 1 (bytes + 64) (list_at t.lists 4)
  pub descriptions : IsList 1 (bytes + 64) (list_at t.lists 5)
  pub within : bytes ≤ t.limit
  pub small : t.limit ≤ 524288

-- the lists stay as they are, but for their entries
pub record PreservesTables (bytes : ℕ) (t : TablesModel) (new_bytes : ℕ) (u : TablesModel) : Type 0 where
  pub same : new_bytes ≡ bytes
  pub lists : HasLists new_bytes u
  pub limit : u.limit ≡ t.limit

abbrev pub StateInvariant : State → TablesModel → Type 0
StateInvariant work t = HasLists work.bytes t

abbrev pub PreservesState : State → TablesModel → State → TablesModel → Type 0
PreservesState old t new u = PreservesTables old.bytes t new.bytes u
