-- The lists of a pass: what they hold, and how they lie one behind the other in the words of the tables.
use Rattle.std.specs.Prelude.{◌<◌, ◌≤◌, ◌+◌, ◌*◌, ◌^◌, ◌++◌, ℕ, List, [], length, take, drop, slice_index, slice_index_or}
use Rattle.std.specs.Prelude.{slice_set}
use Rattle.gier_text.specs.declared.extent.Extent.{Extent}

-- a list whose entries have so many words each; the words of all its entries stand one behind the other
pub record TableList : Type 0 where
  pub width : ℕ
  pub capacity : ℕ
  pub count : ℕ
  pub words : List ℕ

abbrev pub no_list : TableList
no_list = record { width = 0; capacity = 0; count = 0; words = [] }

-- the list with this number
abbrev pub list_at : List TableList → ℕ → TableList
list_at lists k = slice_index_or lists k no_list

-- the words of an entry
abbrev pub entry_at : TableList → ℕ → List ℕ
entry_at list at = take list.width (drop (list.width * at) list.words)

-- one word of an entry
abbrev pub word_at : TableList → ℕ → ℕ → ℕ
word_at list at part = slice_index list.words (list.width * at + part)

-- the list with one more entry
abbrev pub with_entry : TableList → List ℕ → TableList
with_entry list entry = record list { count = list.count + 1; words = list.words ++ entry }

-- the list's first entries
abbrev pub cut_to : TableList → ℕ → TableList
cut_to list count = record list { count = count; words = take (list.width * count) list.words }

-- the list with another word in an entry
abbrev pub with_word : TableList → ℕ → ℕ → ℕ → TableList
with_word list at part word = record list { words = slice_set list.words (list.width * at + part) word }

abbrev pub no_extent : Extent
no_extent = record { base = 0; width = 0; capacity = 0; count = 0 }

abbrev pub nth_extent : List Extent → ℕ → Extent
nth_extent extents k = slice_index_or extents k no_extent

-- the place behind the last word that a list has room for
abbrev pub end_of : Extent → ℕ
end_of extent = extent.base + extent.width * extent.capacity

-- the words from a place on
abbrev pub segment : List ℕ → ℕ → ℕ → List ℕ
segment words from n = take n (drop from words)

-- the list that lies there
abbrev pub list_in : List ℕ → Extent → TableList
list_in words extent = record {
  width = extent.width;
  capacity = extent.capacity;
  count = extent.count;
  words = segment words extent.base (extent.width * extent.count);
}

-- no two lists share a word, all lie below the words that are used, and none has more entries than it has room for
pub record IsLaid (extents : List Extent) (used : ℕ) : Type 0 where
  pub below : (k : ℕ) → k < length extents → end_of (nth_extent extents k) ≤ used
  pub disjoint : (j k : ℕ) → j < k → k < length extents → end_of (nth_extent extents j) ≤ (nth_extent extents k).base
  pub room : (k : ℕ) → k < length extents → (nth_extent extents k).count ≤ (nth_extent extents k).capacity
  pub narrow : (k : ℕ) → k < length extents → (nth_extent extents k).capacity < 2 ^ 32
