-- A part of the written program where it stands in the hoisted one: each identifier that is declared for the one is described
-- for the other, under the number that its uses have there.
use Rattle.std.specs.Prelude.{◌≡◌, ◌≢◌, ◌<◌, ◌≤◌, ◌⊎◌, ◌+◌, ℕ, Bool, true, []}
use Rattle.gier_tree.specs.declared.kind.Kind.TheVariants.{Undeclared}
use Rattle.gier_tree.specs.Described.{Described, Scopes}
use Rattle.gier_tree.specs.Hoist.{first_fresh, fresh, hoist_statement}
use Rattle.gier_tree.specs.OwnCount.{owns_in_statement}
use Rattle.gier_tree.specs.Places.{Places}
use Rattle.gier_tree.specs.Rename.{Renaming}
use Rattle.gier_tree.specs.Texts.{Where}
use Rattle.gier_tree.specs.Trees.{Statement}
use Rattle.gier_scope.specs.Around.{Around}
use Rattle.gier_scope.specs.ScopeFaults.{faults_statement}
use Rattle.gier_scope.specs.Scopes.{is_declared}
use Rattle.gier_fair.specs.Described.{described}
use Rattle.gier_fair.specs.FewNames.{FewNamesStatement}
use Rattle.gier_fair.specs.InScope.{InScopeStatement}

abbrev pub IsSeen : Described → Type 0
IsSeen d = d.kind ≢ Undeclared

-- so many own quantities are described too, and a use stays or becomes that of one of them
pub record Sees (owns : ℕ) (Declared : ℕ → Bool) (f : Renaming) (at : Scopes) : Type 0 where
  pub sees : (x : ℕ) → Declared x ≡ true → IsSeen (at (f x))
  pub fresh_seen : (j : ℕ) → j < owns → IsSeen (at (fresh j))
  pub stays : (x : ℕ) → (f x ≡ x) ⊎ (first_fresh ≤ f x)

-- a statement without faults of scopes, with i own quantities before it
abbrev pub ScopesAreFair : Type 0
ScopesAreFair =
    (owns : ℕ) (a : Around) (p : Places) (f : Renaming) (i : ℕ) (w : Where) (s : Statement)
    → Sees owns (λ x. is_declared a.scopes x) f (described p) → w.level ≡ a.level → FewNamesStatement s
    → i + owns_in_statement s ≤ owns → faults_statement a s ≡ [] → InScopeStatement p w (hoist_statement s i f)
