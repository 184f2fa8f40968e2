-- Pages that are kept in slots: a place of the index has 0, or one more than the number of its slot.
use Rattle.std.specs.Prelude.{◌<◌, ◌≡◌, ◌*◌, ◌/◌, ◌%◌, ℕ, zero, suc, ◌≤◌, ◌^◌, List, [], ◌∷◌, length, map, All, slice_index}
use Rattle.std.specs.Prelude.{slice_index_or}
use Rattle.std.specs.List.{range_with_len}
use Rattle.gier_drum.specs.Drum.{IsTrack}

-- the page that an entry of the index stands for; a place without a slot has the blank page
abbrev pub page_at : List ℕ → List (List ℕ) → ℕ → List ℕ
page_at blank slots zero = blank
page_at blank slots (suc n) = slice_index_or slots n blank

abbrev pub pages : List ℕ → List ℕ → List (List ℕ) → List (List ℕ)
pages blank index slots = map (page_at blank slots) index

-- how many places have a slot
abbrev pub slots_in_use : List ℕ → ℕ
slots_in_use [] = 0
slots_in_use (zero ∷ index) = slots_in_use index
slots_in_use (suc n ∷ index) = suc (slots_in_use index)

-- no two places have one slot, and no slot is left over
pub record IsIndex (index : List ℕ) (slots : List (List ℕ)) : Type 0 where
  pub within : (t : ℕ) → t < length index → slice_index index t ≤ length slots
  pub apart : (t u : ℕ) → t < length index → u < length index → slice_index index t ≡ slice_index index u
      → 0 < slice_index index t → t ≡ u
  pub count : length slots ≡ slots_in_use index

-- the tracks of a drum in memory
pub record IsStored (index : List ℕ) (slots : List (List ℕ)) (capacity : ℕ) : Type 0 where
  pub indexed : IsIndex index slots
  pub few : length index < 2 ^ 32
  pub reserved : length index ≤ capacity
  pub shaped : All IsTrack slots

-- an entry of a list that is kept in chunks of 256 entries; it is 0 where there is no chunk
abbrev pub entry_at : List ℕ → List (List ℕ) → ℕ → ℕ
entry_at directory chunks place = slice_index (page_at [] chunks (slice_index directory (place / 256))) (place % 256)

abbrev pub entries : ℕ → List ℕ → List (List ℕ) → List ℕ
entries count directory chunks = map (entry_at directory chunks) (range_with_len 0 count)

-- chunks and their directory, with room for each chunk that the directory may still get
pub record AreChunks (directory : List ℕ) (chunks : List (List ℕ)) (capacity : ℕ) : Type 0 where
  pub indexed : IsIndex directory chunks
  pub few : length directory < 2 ^ 32
  pub reserved : length directory ≤ capacity
  pub long : All (λ chunk. length chunk ≡ 256) chunks

-- a list of so many entries in chunks
pub record IsSparse (count : ℕ) (directory : List ℕ) (chunks : List (List ℕ)) (capacity : ℕ) : Type 0 where
  pub chunked : AreChunks directory chunks capacity
  pub enough : count ≤ 256 * length directory
  pub rest : (place : ℕ) → count ≤ place → entry_at directory chunks place ≡ 0
