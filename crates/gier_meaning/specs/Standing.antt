-- The standard procedures' identifiers, which stand in the outermost scope, and the state in which a program begins.
use Rattle.std.specs.Prelude.{ℕ, ◌∷◌, [], List}
use Rattle.gier_tree.specs.declared.kind.Kind.TheVariants.{OutInteger, OutText, OutCr, OutChar, InInteger, InChar, Abs, Sign}
use Rattle.gier_meaning.specs.Tree.{AStandard}
use Rattle.gier_meaning.specs.State.{Nothing, State}
use Rattle.gier_meaning.specs.Maps.{Binding, Means}

-- in order of their identifier numbers
abbrev pub standard_bindings : List Binding
standard_bindings =
    Means 0 (AStandard OutInteger) ∷ Means 1 (AStandard OutText) ∷ Means 2 (AStandard OutCr) ∷ Means 3 (AStandard OutChar)
    ∷ Means 4 (AStandard InInteger) ∷ Means 5 (AStandard InChar) ∷ Means 6 (AStandard Abs) ∷ Means 7 (AStandard Sign) ∷ []

abbrev pub initial_state : {K : Type 0} → List ℕ → (permitted : ℕ) → State K
initial_state unread permitted =
    record { fresh = 0; store = λ n. Nothing; unread = unread; printed = []; left = permitted; most = 0 }
