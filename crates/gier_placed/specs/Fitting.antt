-- What is left to ask of a text 7 so that it is complete: that its sizes are those of a program of so many bytes, that a label
-- which is used stands in it, and that levels and rooms fit their fields.
use Rattle.std.specs.Prelude.{◌≡◌, ◌<◌, ◌≤◌, ◌+◌, ◌*◌, ◌/◌, ◌^◌, ⊤, ℕ, suc, true, List, [], ◌∷◌, length}
use Rattle.gier_symbol.specs.declared.symbol.Symbol.{Symbol}
use Rattle.gier_tree.specs.Complete.{IsComplete, IsOrderNumber, is_placed}
use Rattle.gier_tree.specs.Object.{Piece, AUse, AWordUse, ARoom, piece_of, need_behind}
use Rattle.gier_tree.specs.Text7.{code_program}
use Rattle.gier_tree.specs.Trees.{Program}
use Rattle.gier_tree.specs.Words.{words_in}
use Rattle.gier_fair.specs.InScope.{IsInScope}
use Rattle.gier_placed.specs.Laws.{HasFewLabels}
use Rattle.gier_placed.specs.Placed.{places_in}

-- how many activations' rooms a text has
abbrev pub rooms_at : Piece → ℕ → ℕ
rooms_at (ARoom head words) rooms = suc rooms
rooms_at piece rooms = rooms

abbrev pub rooms_in : List Symbol → ℕ
rooms_in [] = 0
rooms_in (s ∷ text) = rooms_at (piece_of s) (rooms_in text)

-- what is asked of a use, and of a room; a head is an operation and its level
abbrev pub Fits : (text : List Symbol) → Piece → (behind : List Symbol) → Type 0
Fits text (AUse head label) behind = (is_placed label text ≡ true) × IsOrderNumber (head / 256)
Fits text (AWordUse label) behind = is_placed label text ≡ true
Fits text (ARoom head words) behind = (words + need_behind behind 0 < 2 ^ 24) × IsOrderNumber (head / 256)
Fits text piece behind = ⊤

abbrev pub AllFit : (text : List Symbol) → List Symbol → Type 0
AllFit text [] = ⊤
AllFit text (s ∷ behind) = Fits text (piece_of s) behind × AllFit text behind

-- so much as a program of so many bytes may have
abbrev pub most_of : (bytes : ℕ) → ℕ
most_of bytes = 20 * bytes + 64

pub record HasSizes (bytes : ℕ) (text : List Symbol) : Type 0 where
  pub words : words_in text < 2 ^ 24
  pub labels : length (places_in text) ≤ most_of bytes
  pub rooms : rooms_in text ≤ most_of bytes

-- a text 7 whose uses, levels and rooms fit is complete
abbrev pub FittingAreComplete : Type 0
FittingAreComplete =
    (t : Program) (bytes : ℕ) → IsInScope t → HasFewLabels t → HasSizes bytes (code_program t)
    → AllFit (code_program t) (code_program t) → IsComplete bytes (code_program t)
