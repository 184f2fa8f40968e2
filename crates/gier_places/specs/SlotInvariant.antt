-- How the places keep tracks: each slot has words of its own.
use Rattle.std.specs.Prelude.{◌≡◌, ◌≢◌, ◌^◌, ◌<◌, ◌≤◌, ℕ, List, [], ◌∷◌, All, length, map}
use Rattle.gier_places.specs.declared.slots.Slot.{Slot}

-- where the words of the slots are
abbrev pub ats : List Slot → List ℕ
ats slots = map (λ (slot : Slot). slot.at) slots

abbrev pub IsAbsent : (at : ℕ) → List ℕ → Type 0
IsAbsent at [] = Unit {0}
IsAbsent at (other ∷ others) = (other ≢ at) × IsAbsent at others

abbrev pub AreApart : List ℕ → Type 0
AreApart [] = Unit {0}
AreApart (at ∷ others) = IsAbsent at others × AreApart others

abbrev pub AreBelow : (limit : ℕ) → List ℕ → Type 0
AreBelow limit [] = Unit {0}
AreBelow limit (at ∷ others) = (at < limit) × AreBelow limit others

-- each slot has words, and none has those of another
pub record IsPlaced (slots : List Slot) (words : List (List ℕ)) : Type 0 where
  pub apart : AreApart (ats slots)
  pub below : AreBelow (length words) (ats slots)
  pub as_many : length words ≡ length slots
  pub small : All (λ track. All (λ word. word < 2 ^ 40) track) words

-- from 1 to 64 places, as much memory, and no more tracks than places
pub record IsKept (places : ℕ) (slots : List Slot) (words : List (List ℕ)) (slot_room word_room : ℕ) : Type 0 where
  pub least : 1 ≤ places
  pub most : places ≤ 64
  pub fits : length slots ≤ places
  pub slots_reserved : places ≤ slot_room
  pub words_reserved : places ≤ word_room
  pub placed : IsPlaced slots words
