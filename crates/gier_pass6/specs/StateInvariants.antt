-- What the pass keeps in its tables, and what each part of a step keeps.
use Rattle.std.specs.Prelude.{◌≡◌, ◌≤◌, ◌+◌, ◌*◌, ℕ, All, IsTrue, length}
use Rattle.gier_symbol.specs.declared.symbol.Symbol.{Symbol}
use Rattle.gier_symbol.specs.Symbols.{IsSymbol}
use Rattle.gier_symbol.specs.Texts.{stands_in}
use Rattle.gier_text.specs.Potential.{is_numbered}
use Rattle.gier_text.specs.TablesModel.{TablesModel}
use Rattle.gier_text.specs.Lists.{TableList, list_at}
use Rattle.gier_text.specs.Outbox.{outbox_symbols}
use Rattle.gier_pass6.specs.declared.state.State.{State}

-- a symbol of text 6
pub record IsWritable (bytes : ℕ) (s : Symbol) : Type 0 where
  pub symbol : IsSymbol s
  pub letter : IsTrue (stands_in 6 s.tag)
  pub numbered : IsTrue (is_numbered 6 bytes s)

-- the greatest weight of a text of a program of so many bytes
abbrev pub most : ℕ → ℕ
most bytes = 8 * bytes + 64

pub record IsList (words room : ℕ) (list : TableList) : Type 0 where
  pub width : list.width ≡ words
  pub capacity : list.capacity ≡ room

-- the lists: what waits to be written, what is open, the kinds by identifiers, the numbered places, and the descriptions
pub record HasLists (bytes : ℕ) (t : TablesModel) : Type 0 where
  pub count : length t.lists ≡ 5
  pub outbox : IsList 2 (most bytes) (list_at t.lists 0)
  pub stack : IsList 4 (most bytes) (list_at t.lists 1)
  pub names : IsList 1 (bytes + 64) (list_at t.lists 2)
  pub numbered : IsList 1 (4 * bytes + 32) (list_at t.lists 3)
  pub descriptions : IsList 1 (most bytes) (list_at t.lists 4)
  pub within : bytes ≤ t.limit
  pub small : t.limit ≤ 524288

-- what waits may be written, and with what may still be written it fits the list
pub record TablesInvariant (bytes potential_left : ℕ) (t : TablesModel) : Type 0 where
  pub lists : HasLists bytes t
  pub writable : All (IsWritable bytes) (outbox_symbols (list_at t.lists 0))
  pub room : (list_at t.lists 0).count + potential_left ≤ most bytes

-- as much was written as the credit has sunk
pub record PreservesTables (bytes potential_left : ℕ) (t : TablesModel) (new_bytes new_credit : ℕ) (u : TablesModel) : Type 0 where
  pub same : new_bytes ≡ bytes
  pub ready : TablesInvariant new_bytes new_credit u
  pub total : (list_at u.lists 0).count + new_credit ≡ (list_at t.lists 0).count + potential_left
  pub limit : u.limit ≡ t.limit

abbrev pub StateInvariant : State → TablesModel → Type 0
StateInvariant work t = TablesInvariant work.bytes work.potential_left t

abbrev pub PreservesState : State → TablesModel → State → TablesModel → Type 0
PreservesState old t new u = PreservesTables old.bytes old.potential_left t new.bytes new.potential_left u
