-- Which texts 7 have an object, and that their text 8 makes just that object.
use Rattle.std.specs.Prelude.{◌≡◌, ◌<◌, ◌+◌, ◌^◌, ⊤, ℕ, false, List, [], ◌∷◌, All, IsTrue, length}
use Rattle.gier_symbol.specs.declared.symbol.Symbol.{Symbol}
use Rattle.gier_symbol.specs.Texts.{stands_in}
use Rattle.gier_tree.specs.Complete.{place_of}
use Rattle.gier_tree.specs.Complete.{is_placed}
use Rattle.gier_tree.specs.Object.{Piece, APlace, ARoom, AnOrder, piece_of, need_behind, text8_of}
use Rattle.gier_tree.specs.Object.{text8, object_of, code}
use Rattle.gier_tree.specs.Text7.{text7}
use Rattle.gier_tree.specs.Trees.{Program}
use Rattle.gier_pass9.specs.ObjectOfText.{object_words}
use Rattle.gier_pass9.specs.Words.{room_of}

-- a label has room and stands nowhere behind, a room is an address, and level and address of an order take 32 bits
abbrev pub Fits : (room : ℕ) → Piece → (behind : List Symbol) → Type 0
Fits room (APlace label) behind = (place_of label < room) × (is_placed label behind ≡ false)
Fits room (ARoom head words) behind = words + need_behind behind 0 < 2 ^ 24
Fits room (AnOrder op value) behind = value < 2 ^ 32
Fits room piece behind = ⊤

abbrev pub AllFit : (room : ℕ) → List Symbol → Type 0
AllFit room [] = ⊤
AllFit room (s ∷ behind) = Fits room (piece_of s) behind × AllFit room behind

-- a text 7 whose rooms and addresses are known, where the longest program has so many bytes
pub record IsText7 (limit : ℕ) (text : List Symbol) : Type 0 where
  pub letters : All (λ s. IsTrue (stands_in 7 s.tag)) text
  pub fits : AllFit (room_of limit) text
  pub few : length (object_of text) < 2 ^ 24

-- text 8 makes the object, of each text 7 and so of each program
pub record AreObjects : Type 0 where
  pub texts : (limit : ℕ) (text : List Symbol) → IsText7 limit text → object_words limit (text8_of text) ≡ object_of text
  pub programs : (limit : ℕ) (written : Program) → IsText7 limit (text7 written) → object_words limit (text8 written) ≡ code written
