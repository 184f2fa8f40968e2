-- What is said of each text 7: one STOP, to each room its need, and the number of words at its end. It isn't said that text 7 fits
-- into the object, nor where its labels stand.
use Rattle.std.specs.Prelude.{◌≡◌, ◌+◌, ◌==◌, if◌then◌else◌, ℕ, zero, suc, List, [], ◌∷◌, drop}
use Rattle.gier_symbol.specs.declared.symbol.Symbol.{Symbol}
use Rattle.gier_tree.specs.Coded.{scopes_of}
use Rattle.gier_tree.specs.Need.{need_group}
use Rattle.gier_tree.specs.Object.{Piece, ARoom, ANeed, ACount, AnOrder, piece_of, words_of, need_behind}
use Rattle.gier_tree.specs.Orders.{number_of}
use Rattle.gier_tree.specs.Places.{program_places}
use Rattle.gier_tree.specs.Text7.{code_program}
use Rattle.gier_tree.specs.Trees.{Program, MkProgram}
use Rattle.gier_tree.specs.Words.{HasStop}
use Rattle.gier_order.specs.declared.operation.Operation.TheVariants.{Stop}

-- how many orders STOP there are
abbrev pub stops_at : Piece → ℕ → ℕ
stops_at (AnOrder op value) later = if op == number_of Stop then suc later else later
stops_at piece later = later

abbrev pub stops_in : List Symbol → ℕ
stops_in [] = 0
stops_in (s ∷ behind) = stops_at (piece_of s) (stops_in behind)

-- Behind so many rooms, all rooms are closed: each has its need behind it, and each need its room before it.
abbrev pub closes_at : Piece → (rooms : ℕ) → ((rooms : ℕ) → Type 0) → Type 0
closes_at (ARoom head room) rooms go_on = go_on (suc rooms)
closes_at (ANeed need) zero go_on = ⊥
closes_at (ANeed need) (suc rooms) go_on = go_on rooms
closes_at piece rooms go_on = go_on rooms

abbrev pub AreClosed : (rooms : ℕ) → List Symbol → Type 0
AreClosed rooms [] = rooms ≡ 0
AreClosed rooms (s ∷ behind) = closes_at (piece_of s) rooms (λ n. AreClosed n behind)

-- Behind so many words, the number of all words is the last symbol, and is told nowhere else.
abbrev pub counted_at : Piece → (value before : ℕ) → (behind : List Symbol) → (later : Type 0) → Type 0
counted_at ACount value before behind later = (behind ≡ []) × (value ≡ before)
counted_at piece value before behind later = later

abbrev pub IsCounted : (before : ℕ) → List Symbol → Type 0
IsCounted before [] = ⊥
IsCounted before (s ∷ behind) =
    counted_at (piece_of s) s.value before behind (IsCounted (words_of (piece_of s) + before) behind)

-- the working words of the program's activation
abbrev pub program_need : Program → ℕ
program_need (MkProgram ls g l) = need_group (scopes_of (program_places (MkProgram ls g l))) g

pub record IsWhole (t : Program) : Type 0 where
  pub stop : HasStop (code_program t)
  pub once : stops_in (code_program t) ≡ 1
  pub closed : AreClosed 0 (code_program t)
  pub need : need_behind (drop 1 (code_program t)) 0 ≡ program_need t
  pub counted : IsCounted 0 (code_program t)

-- of each program
abbrev pub AreWhole : Type 0
AreWhole = (t : Program) → IsWhole t
