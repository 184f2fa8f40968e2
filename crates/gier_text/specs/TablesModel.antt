-- What tables hold, and what their calls do to that.
use Rattle.std.specs.Prelude.{◌≡◌, ◌<◌, ◌≤◌, ◌+◌, ◌-◌, ◌*◌, ◌++◌, ℕ, List, [], ◌∷◌, length, map, insert, slice_index_or, slice_set}
use Rattle.gier_text.specs.declared.fault.Fault.{Fault}
use Rattle.gier_text.specs.declared.tables.Tables.{Tables}
use Rattle.gier_text.specs.Lists.{TableList, list_in}

pub record TablesModel : Type 0 where
  -- the bytes of the longest program
  pub limit : ℕ
  -- how many words the opened lists have room for
  pub used : ℕ
  pub lists : List TableList
  pub faults : List Fault

abbrev pub tables_model : Tables → TablesModel
tables_model t = record {
  limit = t.limit;
  used = t.used;
  lists = map (list_in t.words.words) t.lists.items;
  faults = t.faults.items;
}

-- no lists and no faults
abbrev pub fresh : ℕ → TablesModel
fresh limit = record { limit = limit; used = 0; lists = []; faults = [] }

-- one more list, which is empty
abbrev pub with_list : TablesModel → ℕ → ℕ → TablesModel
with_list t width capacity = record t {
  used = t.used + width * capacity;
  lists = t.lists ++ record { width = width; capacity = capacity; count = 0; words = [] } ∷ [];
}

-- another list in place of one
abbrev pub with_at : TablesModel → ℕ → TableList → TablesModel
with_at t number list = record t { lists = slice_set t.lists number list }

-- the fault is put behind all that have no later position, and nothing else changes
pub record AddsFault (old : TablesModel) (f : Fault) (new : TablesModel) : Type 0 where
  pub at : ℕ
  pub within : at ≤ length old.faults
  pub inserted : new ≡ record old { faults = insert old.faults at f }
  pub later : (k : ℕ) (d : Fault) → at ≤ k → k < length old.faults → f.position < (slice_index_or old.faults k d).position
  pub last : (d : Fault) → 0 < at → (slice_index_or old.faults (at - 1) d).position ≤ f.position
