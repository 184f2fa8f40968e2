-- Which texts 7 are complete: what passes 8 and 9 ask of a text 7 so that text 8 and the object can be made of it.
use Rattle.std.specs.Prelude.{◌≡◌, ◌<◌, ◌≤◌, ◌+◌, ◌-◌, ◌*◌, ◌/◌, ◌^◌, ◌==◌, ⊤, ℕ, Bool, true, false, nat_lt, List, [], ◌∷◌}
use Rattle.std.specs.Prelude.{length, drop, if◌then◌else◌}
use Rattle.std.specs.List.{list_any}
use Rattle.gier_symbol.specs.declared.symbol.Symbol.{Symbol}
use Rattle.gier_symbol.specs.Texts.{last_order}
use Rattle.gier_tree.specs.Object.{Piece, APlace, AUse, AWordUse, ARoom, ANeed, ACount, AWord, AnOrder, piece_of, need_behind}
use Rattle.gier_tree.specs.Words.{words_in}

-- whether the label stands here
abbrev pub is_place : (label : ℕ) → Piece → Bool
is_place label (APlace found) = found == label
is_place label piece = false

-- and whether it stands in these symbols
abbrev pub is_placed : (label : ℕ) → List Symbol → Bool
is_placed label text = list_any (λ s. is_place label (piece_of s)) text

-- Declared labels are numbered from 0, and all others from 2^23: which one of its sort a label is.
abbrev pub place_of : ℕ → ℕ
place_of number = if nat_lt number (2 ^ 23) then number else number - 2 ^ 23

-- what those activations need whose rooms stand before these symbols, the innermost first
abbrev pub needs_at : Piece → List ℕ → List ℕ
needs_at (ANeed need) needs = need ∷ needs
needs_at (ARoom head words) needs = drop 1 needs
needs_at piece needs = needs

abbrev pub open_needs : List Symbol → List ℕ
open_needs [] = []
open_needs (s ∷ behind) = needs_at (piece_of s) (open_needs behind)

pub record IsOrderNumber (op : ℕ) : Type 0 where
  pub least : 1 ≤ op
  pub most : op ≤ last_order

-- a label that there is room for, and that stands in the text
pub record IsKnown (room label : ℕ) (text : List Symbol) : Type 0 where
  pub fits : place_of label < room
  pub stands : is_placed label text ≡ true

-- Labels that are used stand in the text, and once; orders and rooms are such; no more needs are open than there is room for; and
-- the number of words stands at the end.
abbrev pub Suits : (room : ℕ) → (text : List Symbol) → (value : ℕ) → Piece → (behind : List Symbol) → Type 0
Suits room text value (APlace label) behind = (place_of label < room) × (is_placed label behind ≡ false) × (0 < length behind)
Suits room text value (AUse head label) behind = IsKnown room label text × IsOrderNumber (head / 256) × (0 < length behind)
Suits room text value (AWordUse label) behind = IsKnown room label text × (0 < length behind)
Suits room text value (ARoom head words) behind = (words + need_behind behind 0 < 2 ^ 24) × IsOrderNumber (head / 256)
    × (0 < length behind)
Suits room text value (ANeed need) behind = (length (open_needs behind) < room) × (0 < length behind)
Suits room text value ACount behind = (behind ≡ []) × (value ≡ words_in text)
Suits room text value (AWord word) behind = 0 < length behind
Suits room text value (AnOrder op address) behind = IsOrderNumber op × (0 < length behind)

abbrev pub AllSuit : (room : ℕ) → (text : List Symbol) → List Symbol → Type 0
AllSuit room text [] = ⊤
AllSuit room text (s ∷ behind) = Suits room text s.value (piece_of s) behind × AllSuit room text behind

-- a text 7 of which all is known by its end, of a program of so many bytes
pub record IsComplete (bytes : ℕ) (text : List Symbol) : Type 0 where
  pub few : words_in text < 2 ^ 24
  pub suits : AllSuit (20 * bytes + 64) text text
