-- What holds of all symbols of a text holds of those behind a part of it.
use Rattle.std.proofs.Common.{List, ◌∷◌}
use Rattle.std.specs.List.{All}
use Rattle.std.proofs.lemmas.List.Elements.{All-tail}
use Rattle.gier_symbol.specs.declared.symbol.Symbol.{Symbol}

pub data Drops (P : Symbol → Type 0) (g : List Symbol → List Symbol) : Type 0 where
  MkDrops : ((k : List Symbol) → All P (g k) → All P k) → Drops P g

pub behind : (P : Symbol → Type 0) (g : List Symbol → List Symbol) → Drops P g → (k : List Symbol) → All P (g k) → All P k
behind P g (MkDrops f) k h = f k h

pub after : {P : Symbol → Type 0} {g h : List Symbol → List Symbol} → Drops P g → Drops P h → Drops P (λ k. g (h k))
after {P} {g} {h} (MkDrops a) (MkDrops b) = MkDrops (λ k e. b k (a (h k) e))

pub first : (P : Symbol → Type 0) (s : Symbol) → Drops P (λ k. s ∷ k)
first P s = MkDrops (λ k h. All-tail P s k h)

pub none : (P : Symbol → Type 0) → Drops P (λ k. k)
none P = MkDrops (λ k h. h)
