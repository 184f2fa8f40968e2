-- What an identifier is, as texts tell it and as meanings tell it: the two say the same as far as needs of working words ask. It
-- matters whether it is a switch, a procedure with its formals, a formal procedure, or anything else.
use Rattle.std.specs.Prelude.{◌≡◌, ℕ, List, [], ◌∷◌}
use Rattle.gier_agree.specs.declared.kind.Kind.{Kind as Fitting}
use Rattle.gier_tree.specs.declared.kind.Kind.{Kind}
use Rattle.gier_tree.specs.Described.{Described, Scopes}
use Rattle.gier_tree.specs.Need as tree
use Rattle.gier_meaning.specs.Room as meaning
use Rattle.gier_meaning.specs.Tree.{Name, Identifier}
use Rattle.gier_meaning.specs.What.{What}

-- a formal takes its actual by value in both, or in neither
abbrev pub IsSameFormal : Kind → Fitting → Type 0
IsSameFormal kind fitting = (before need : ℕ) → tree.value_need kind before need ≡ meaning.passed_need fitting before need

abbrev pub AreSameFormals : List Kind → List Fitting → Type 0
AreSameFormals [] [] = Unit {0}
AreSameFormals [] (fitting ∷ fittings) = ⊥
AreSameFormals (kind ∷ kinds) [] = ⊥
AreSameFormals (kind ∷ kinds) (fitting ∷ fittings) = IsSameFormal kind fitting × AreSameFormals kinds fittings

pub record NeedsAlike (described : Described) (what : What) : Type 0 where
  pub element : (count first all : ℕ) → tree.element_need described.kind count first all ≡ meaning.element_need what count all first
  pub call : (count by_value greatest : ℕ)
      → tree.call_need described.kind count by_value greatest ≡ meaning.call_need what count by_value greatest
  pub formals : AreSameFormals described.formals (meaning.formals_of what)

-- so it is with each identifier
abbrev pub AreAlike : Scopes → (Name → What) → Type 0
AreAlike scopes what = (x : ℕ) → NeedsAlike (scopes x) (what (Identifier x))
