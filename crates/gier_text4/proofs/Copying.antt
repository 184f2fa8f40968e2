-- Parts of the text that the pass only copies, with the identifiers that text 4 has.
use Rattle.std.proofs.Common.{◌≡◌, ◌∙◌, ◌==◌, ℕ, Bool, false, List, [], ◌∷◌, refl, sym as back, ap}
use Rattle.std.specs.Prelude.{if◌then◌else◌}
use Rattle.gier_symbol.specs.declared.symbol.Symbol.{Symbol}
use Rattle.gier_symbol.specs.declared.tag.Tag.TheVariants.{Identifier}
use Rattle.gier_symbol.specs.ByTag.{sym}
use Rattle.gier_symbol.specs.Tags.{number_of}
use Rattle.gier_tree.specs.Trees.{Name}
use Rattle.gier_tree.specs.Written.{Text, Marked, number_written}
use Rattle.gier_text4.specs.PurePass.{step, does, IsCopied}
use Rattle.gier_text4.specs.State.{NotOwn, MayBeOwn, IsOwn, State, MkState, start, put}

-- text 3 of a program with these own quantities
abbrev pub marked_text : List Name → Text
marked_text os = record { stage = Marked; owns = os }

-- a used identifier as text 4 writes it
abbrev pub is_use : (tag : ℕ) → Bool
is_use n = n == number_of Identifier

abbrev pub as_written : List Name → Symbol → Symbol
as_written os s = if is_use s.tag then sym Identifier (number_written os s.value) s.line else s

-- the pass over the text in which used identifiers are so written
abbrev pub fold_written : List Name → List Symbol → State
fold_written os [] = start
fold_written os (s ∷ w) = step (as_written os s) (fold_written os w)

-- of the one part it writes the other
pub data Copies (os : List Name) (g h : List Symbol → List Symbol) : Type 0 where
  MkCopies : ((k : List Symbol) → fold_written os (g k) ≡ put h (fold_written os k)) → Copies os g h

pub copies : (os : List Name) (g h : List Symbol → List Symbol) → Copies os g h → (k : List Symbol)
    → fold_written os (g k) ≡ put h (fold_written os k)
copies os g h (MkCopies e) k = e k

pub put_put : (g h : List Symbol → List Symbol) (c : State) → put g (put h c) ≡ put (λ k. g (h k)) c
put_put g h (MkState o d sc w f NotOwn at fr) = refl
put_put g h (MkState o d sc w f (MayBeOwn part) at fr) = refl
put_put g h (MkState o d sc w f (IsOwn n t) at fr) = refl

put_none : (c : State) → put (λ k. k) c ≡ c
put_none (MkState o d sc w f NotOwn at fr) = refl
put_none (MkState o d sc w f (MayBeOwn part) at fr) = refl
put_none (MkState o d sc w f (IsOwn n t) at fr) = refl

pub both : {os : List Name} {g g' h h' : List Symbol → List Symbol} → Copies os g g' → Copies os h h'
    → Copies os (λ k. g (h k)) (λ k. g' (h' k))
both {os} {g} {g'} {h} {h'} (MkCopies a) (MkCopies b) =
    MkCopies (λ k. a (h k) ∙ ap (put g') (b k) ∙ put_put g' h' (fold_written os k))

pub one : (os : List Name) (s : Symbol) → does s.tag ≡ IsCopied → is_use s.tag ≡ false → Copies os (λ k. s ∷ k) (λ k. s ∷ k)
one os s e u = MkCopies (λ k. rw u (rw e refl))

pub nothing : (os : List Name) → Copies os (λ k. k) (λ k. k)
nothing os = MkCopies (λ k. back (put_none (fold_written os k)))
