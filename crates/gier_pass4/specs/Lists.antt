-- The lists of the pass: how many entries they have room for, what they may hold, and how heavy that is.
-- Symbols wait in the lists 0 to 4: those to be written, entries, entries of own quantities, own declarations, and descriptions of
-- formals. The lists 5 to 7 are those of scopes, kinds of specifications, and rows of identifiers.
use Rattle.std.specs.Prelude.{◌≡◌, ◌≢◌, ◌<◌, ◌≤◌, ◌+◌, ◌*◌, ◌==◌, ℕ, List, [], ◌∷◌, ◌++◌, All, IsTrue, length, if◌then◌else◌}
use Rattle.gier_symbol.specs.declared.symbol.Symbol.{Symbol}
use Rattle.gier_symbol.specs.Symbols.{IsSymbol}
use Rattle.gier_symbol.specs.Texts.{stands_in}
use Rattle.gier_text.specs.Potential.{is_numbered, potential}
use Rattle.gier_text.specs.TablesModel.{TablesModel}
use Rattle.gier_text.specs.Lists.{TableList, list_at}
use Rattle.gier_text.specs.Outbox.{outbox_symbols, outbox_symbols_until}

-- a symbol of text 4; where it is an identifier's, the number is small
pub record IsLetter (bytes : ℕ) (s : Symbol) : Type 0 where
  pub symbol : IsSymbol s
  pub letter : IsTrue (stands_in 4 s.tag)
  pub numbered : IsTrue (is_numbered 4 bytes s)

-- how many symbols each of the first five lists has room for
abbrev pub room_of : ℕ → ℕ → ℕ
room_of bytes list =
    if list == 0 then 8 * bytes + 64
    else (if list == 1 then 6 * bytes + 48
    else (if list == 2 then 4 * bytes + 32
    else (if list == 3 then 8 * bytes + 64 else 2 * bytes + 16)))

-- a list in which letters wait
pub record IsQueue (bytes : ℕ) (list : TableList) (room : ℕ) : Type 0 where
  pub width : list.width ≡ 2
  pub capacity : list.capacity ≡ room
  pub words : length list.words ≡ 2 * list.count
  pub whole : length (outbox_symbols list) ≡ list.count
  pub letters : All (IsLetter bytes) (outbox_symbols list)

pub record IsTable (list : TableList) (words room : ℕ) : Type 0 where
  pub width : list.width ≡ words
  pub capacity : list.capacity ≡ room

-- there are these lists
pub record HasLists (bytes : ℕ) (t : TablesModel) : Type 0 where
  pub number : length t.lists ≡ 8
  pub small : bytes ≤ 524288
  pub queues : (k : ℕ) → k < 5 → IsQueue bytes (list_at t.lists k) (room_of bytes k)
  pub scopes : IsTable (list_at t.lists 5) 1 (bytes + 2)
  pub specifications : IsTable (list_at t.lists 6) 1 (bytes + 2)
  pub rows : IsTable (list_at t.lists 7) 3 (bytes + 64)

-- what the symbols weigh that wait in a list
abbrev pub potential_stored : TablesModel → ℕ → ℕ
potential_stored t list = potential 4 (outbox_symbols (list_at t.lists list))

-- one list becomes so much heavier, and no other changes
pub record Adds (list w : ℕ) (old new : TablesModel) : Type 0 where
  pub more : potential_stored new list ≡ potential_stored old list + w
  pub others : (k : ℕ) → k ≢ list → list_at new.lists k ≡ list_at old.lists k
  pub limit : new.limit ≡ old.limit

-- what waits at a place of one list is put into another too, which becomes so much heavier
pub record Copies (from to w : ℕ) (old new : TablesModel) : Type 0 where
  pub more : potential_stored new to ≡ potential_stored old to + w
  pub source : list_at new.lists from ≡ list_at old.lists from
  pub others : (k : ℕ) → k ≢ to → potential_stored new k ≡ potential_stored old k
  pub limit : new.limit ≡ old.limit

-- a list of scopes, specifications or rows gets entries, and nothing else changes
pub record Fills (list : ℕ) (old new : TablesModel) : Type 0 where
  pub number : length new.lists ≡ length old.lists
  pub width : (list_at new.lists list).width ≡ (list_at old.lists list).width
  pub capacity : (list_at new.lists list).capacity ≡ (list_at old.lists list).capacity
  pub others : (k : ℕ) → k ≢ list → list_at new.lists k ≡ list_at old.lists k
  pub limit : new.limit ≡ old.limit
  pub faults : new.faults ≡ old.faults

abbrev pub empty_list : ℕ → ℕ → TableList
empty_list width capacity = record { width = width; capacity = capacity; count = 0; words = [] }

-- the lists before anything is put into them
abbrev pub queues : ℕ → List TableList
queues bytes = empty_list 2 (8 * bytes + 64) ∷ empty_list 2 (6 * bytes + 48) ∷ empty_list 2 (4 * bytes + 32)
    ∷ empty_list 2 (8 * bytes + 64) ∷ empty_list 2 (2 * bytes + 16) ∷ []

abbrev pub lists_when_opened : ℕ → List TableList
lists_when_opened bytes = queues bytes ++ empty_list 1 (bytes + 2) ∷ empty_list 1 (bytes + 2) ∷ empty_list 3 (bytes + 64) ∷ []

-- the symbols behind the first `base` entries of a list move to another, and no other list changes its weight
pub record Moves (from to base : ℕ) (old new : TablesModel) : Type 0 where
  pub both : potential_stored new from + potential_stored new to ≡ potential_stored old from + potential_stored old to
  pub less : potential_stored new from ≤ potential_stored old from
  pub rest : outbox_symbols (list_at new.lists from) ≡ outbox_symbols_until (list_at old.lists from) base
  pub others : (k : ℕ) → k ≢ from → k ≢ to → potential_stored new k ≡ potential_stored old k
  pub limit : new.limit ≡ old.limit

-- how much heavier each list becomes
pub record Grows (old new : TablesModel) (a b c d e : ℕ) : Type 0 where
  pub out : potential_stored new 0 ≡ potential_stored old 0 + a
  pub entries : potential_stored new 1 ≡ potential_stored old 1 + b
  pub own_entries : potential_stored new 2 ≡ potential_stored old 2 + c
  pub owns : potential_stored new 3 ≡ potential_stored old 3 + d
  pub formals : potential_stored new 4 ≡ potential_stored old 4 + e
  pub limit : new.limit ≡ old.limit
