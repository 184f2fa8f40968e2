-- The outbox as data: symbols, and holes that are still to be filled, before what is still to be written.
use Rattle.std.specs.Prelude.{◌≡◌, ℕ, zero, suc, Bool, true, false, List, [], ◌∷◌, ◌++◌}
use Rattle.gier_symbol.specs.declared.symbol.Symbol.{Symbol}
use Rattle.gier_text7.specs.Answers.{Answer, put, hole, fill}

pub data Piece : Type 0 where
  Here : Symbol → Piece
  Hole : (ℕ → Symbol) → Piece

-- what is written, where this waits and that is written behind it
abbrev pub joined : List Piece → Answer → Answer
joined [] a = a
joined (Here s ∷ o) a = put s (joined o a)
joined (Hole f ∷ o) a = hole f (joined o a)

-- without a hole
abbrev pub whole : List Piece → Bool
whole [] = true
whole (Here s ∷ o) = whole o
whole (Hole f ∷ o) = false

-- the change of one entry of the list
abbrev pub set_at : List Piece → ℕ → Piece → List Piece
set_at [] n p = []
set_at (q ∷ o) zero p = p ∷ o
set_at (q ∷ o) (suc n) p = q ∷ set_at o n p

-- symbols that were written with numbers of labels from AHEAD on stand for others, wherever they are put
abbrev pub changed : (Symbol → Symbol) → List Piece → List Piece
changed m [] = []
changed m (Here s ∷ o) = Here (m s) ∷ changed m o
changed m (Hole f ∷ o) = Hole (λ v. m (f v)) ∷ changed m o

-- putting behind what waits
abbrev pub PutsBehind : Type 0
PutsBehind = (o : List Piece) (s : Symbol) (a : Answer) → joined (o ++ Here s ∷ []) a ≡ joined o (put s a)

-- opening a hole behind what waits
abbrev pub OpensHole : Type 0
OpensHole = (o : List Piece) (f : ℕ → Symbol) (a : Answer) → joined (o ++ Hole f ∷ []) a ≡ joined o (hole f a)

-- a value fills the last hole
abbrev pub FillsHole : Type 0
FillsHole = (o r : List Piece) (f : ℕ → Symbol) (v : ℕ) (a : Answer) → whole r ≡ true
    → joined (o ++ Hole f ∷ r) (fill v a) ≡ joined (o ++ Here (f v) ∷ r) a
