-- The words of labels in the first list of the tables.
use Rattle.std.specs.Prelude.{◌≡◌, ◌≤◌, ◌^◌, ℕ, nat_lt, if◌then◌else◌, length}
use Rattle.gier_text.specs.TablesModel.{TablesModel}
use Rattle.gier_text.specs.Lists.{list_at, word_at}
use Rattle.gier_tree.specs.Complete.{place_of}

-- declared labels have the first word of an entry, and all others, which are numbered from 2^23 up, the second
abbrev pub part_of : ℕ → ℕ
part_of number = if nat_lt number (2 ^ 23) then 0 else 1

-- the word of a label, and 0 where none was set
abbrev pub word_of : TablesModel → ℕ → ℕ
word_of t number = if nat_lt (place_of number) (list_at t.lists 0).count
    then word_at (list_at t.lists 0) (place_of number) (part_of number) else 0

-- the list of words, with room for so many entries
pub record HasLabels (room : ℕ) (t : TablesModel) : Type 0 where
  pub lists : 1 ≤ length t.lists
  pub width : (list_at t.lists 0).width ≡ 2
  pub capacity : (list_at t.lists 0).capacity ≡ room
  pub fits : (list_at t.lists 0).count ≤ room

-- all lists behind that one stay, and so do the faults
pub record KeepsOthers (old new : TablesModel) : Type 0 where
  pub lists : length new.lists ≡ length old.lists
  pub others : (k : ℕ) → 1 ≤ k → list_at new.lists k ≡ list_at old.lists k
  pub used : new.used ≡ old.used
  pub limit : new.limit ≡ old.limit
  pub faults : new.faults ≡ old.faults
