-- The tracks that are held and their words, as the slots and the lists of words stand for them.
use Rattle.std.specs.Prelude.{ℕ, zero, suc, List, [], ◌∷◌, map, get_or}
use Rattle.gier_places.specs.declared.slots.Slot.{Slot}

pub record HeldTrack : Type 0 where
  pub track : ℕ
  pub words : List ℕ

abbrev pub held_at : List (List ℕ) → Slot → HeldTrack
held_at words slot = record { track = slot.track; words = get_or words slot.at [] }

abbrev pub held_in : (words : List (List ℕ)) → (slots : List Slot) → List HeldTrack
held_in words slots = map (held_at words) slots

-- the words of the track referred to last
abbrev pub latest_words : List HeldTrack → List ℕ
latest_words [] = []
latest_words (h ∷ held) = h.words

abbrev pub behind : {T : Type 0} → T → List T → List T
behind h [] = h ∷ []
behind h (first ∷ others) = first ∷ h ∷ others

-- the list with the element at this place moved to the front
abbrev pub moved_first : {T : Type 0} → List T → ℕ → List T
moved_first [] place = []
moved_first (h ∷ held) zero = h ∷ held
moved_first (h ∷ held) (suc place) = behind h (moved_first held place)
