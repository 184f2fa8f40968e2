-- The outbox as a list of symbols and holes, before what is still to be written: putting behind it, and filling its last hole.
use Rattle.std.proofs.Common.{◌≡◌, ℕ, zero, suc, Bool, true, false, List, [], ◌∷◌, ◌++◌, length, refl, ap}
use Rattle.std.proofs.lemmas.Bool.{false≢true}
use Rattle.gier_symbol.specs.declared.symbol.Symbol.{Symbol}
use Rattle.gier_text7.specs.Answers.{Answer, put, hole, fill}
use Rattle.gier_text7.specs.Outbox.{Piece, Here, Hole, joined, whole, set_at, changed}
use Rattle.gier_text7.specs.Outbox.{PutsBehind, OpensHole, FillsHole}

pub put_behind : PutsBehind
put_behind [] s a = refl
put_behind (Here t ∷ o) s a = ap (put t) (put_behind o s a)
put_behind (Hole f ∷ o) s a = ap (hole f) (put_behind o s a)

pub hole_behind : OpensHole
hole_behind [] f a = refl
hole_behind (Here t ∷ o) f a = ap (put t) (hole_behind o f a)
hole_behind (Hole g ∷ o) f a = ap (hole g) (hole_behind o f a)

-- a value passes by symbols, and fills the last hole
passes : (r : List Piece) (v : ℕ) (a : Answer) → whole r ≡ true → joined r (fill v a) ≡ fill v (joined r a)
passes [] v a h = refl
passes (Here s ∷ r) v a h = ap (put s) (passes r v a h)
passes (Hole f ∷ r) v a h = absurd (false≢true h)

pub filled : FillsHole
filled [] r f v a h = ap (hole f) (passes r v a h)
filled (Here s ∷ o) r f v a h = ap (put s) (filled o r f v a h)
filled (Hole g ∷ o) r f v a h = ap (hole g) (filled o r f v a h)

pub set_there : (o : List Piece) (q p : Piece) (r : List Piece) → set_at (o ++ q ∷ r) (length o) p ≡ o ++ p ∷ r
set_there [] q p r = refl
set_there (x ∷ o) q p r = ap (λ w. x ∷ w) (set_there o q p r)

pub changed_put : (m : Symbol → Symbol) (b o : List Piece) (s : Symbol) (a : Answer)
    → joined (b ++ changed m (o ++ Here s ∷ [])) a ≡ joined (b ++ changed m o) (put (m s) a)
changed_put m [] [] s a = refl
changed_put m [] (Here t ∷ o) s a = ap (put (m t)) (changed_put m [] o s a)
changed_put m [] (Hole f ∷ o) s a = ap (hole (λ v. m (f v))) (changed_put m [] o s a)
changed_put m (Here t ∷ b) o s a = ap (put t) (changed_put m b o s a)
changed_put m (Hole f ∷ b) o s a = ap (hole f) (changed_put m b o s a)
