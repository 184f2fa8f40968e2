-- The four lists of the tables: the symbols that wait, the entries, the scopes, and the index.
use Rattle.std.specs.Prelude.{◌≡◌, ◌<◌, ◌+◌, ◌++◌, ℕ, List, length}
use Rattle.gier_symbol.specs.declared.symbol.Symbol.{Symbol}
use Rattle.gier_text.specs.TablesModel.{TablesModel}
use Rattle.gier_text.specs.Lists.{TableList, list_at}
use Rattle.gier_text.specs.Outbox.{outbox_symbols}

abbrev pub out_of : TablesModel → TableList
out_of t = list_at t.lists 0

abbrev pub entry_count : TablesModel → ℕ
entry_count t = (list_at t.lists 1).count

abbrev pub entry_room : TablesModel → ℕ
entry_room t = (list_at t.lists 1).capacity

abbrev pub scope_count : TablesModel → ℕ
scope_count t = (list_at t.lists 2).count

abbrev pub scope_room : TablesModel → ℕ
scope_room t = (list_at t.lists 2).capacity

abbrev pub row_count : TablesModel → ℕ
row_count t = (list_at t.lists 3).count

-- the lists have their widths, and there is a scope
pub record HasLists (t : TablesModel) : Type 0 where
  pub lists : length t.lists ≡ 4
  pub out_width : (list_at t.lists 0).width ≡ 2
  pub entry_width : (list_at t.lists 1).width ≡ 9
  pub scope_width : (list_at t.lists 2).width ≡ 3
  pub row_width : (list_at t.lists 3).width ≡ 1
  -- the scope of the standard identifiers is never shut
  pub outermost : 0 < scope_count t

-- nothing changes but how many entries, scopes and faults there are, and the words of entries, scopes and rows
pub record Fits (old new : TablesModel) : Type 0 where
  pub lists : HasLists new
  pub limit : new.limit ≡ old.limit
  pub out : out_of new ≡ out_of old
  pub entry_room : entry_room new ≡ entry_room old
  pub scope_room : scope_room new ≡ scope_room old
  pub rows : row_count new ≡ row_count old

-- nothing changes but the words of entries, scopes and rows
pub record Keeps (old new : TablesModel) : Type 0 where
  pub fits : Fits old new
  pub faults : new.faults ≡ old.faults
  pub entries : entry_count new ≡ entry_count old
  pub scopes : scope_count new ≡ scope_count old

-- these symbols more wait, and nothing else changes
pub record Emits (old : TablesModel) (symbols : List Symbol) (new : TablesModel) : Type 0 where
  pub lists : HasLists new
  pub limit : new.limit ≡ old.limit
  pub faults : new.faults ≡ old.faults
  pub waits : outbox_symbols (out_of new) ≡ outbox_symbols (out_of old) ++ symbols
  pub count : (out_of new).count ≡ (out_of old).count + length symbols
  pub out_room : (out_of new).capacity ≡ (out_of old).capacity
  pub entries : entry_count new ≡ entry_count old
  pub entry_room : entry_room new ≡ entry_room old
  pub scopes : scope_count new ≡ scope_count old
  pub scope_room : scope_room new ≡ scope_room old
  pub rows : row_count new ≡ row_count old
