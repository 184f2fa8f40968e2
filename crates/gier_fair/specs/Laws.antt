-- What the laws say.
use Rattle.std.specs.Prelude.{◌≡◌, true, []}
use Rattle.gier_tree.specs.Hoist.{hoist}
use Rattle.gier_tree.specs.Places.{Places}
use Rattle.gier_tree.specs.Trees.{Expr, Program}
use Rattle.gier_scope.specs.ScopeFaults.{scope_faults}
use Rattle.gier_scope.specs.Uses.{uses_expr}
use Rattle.gier_kinds.specs.ExprFaults.{faults_expr}
use Rattle.gier_kinds.specs.ExprTypes.{type_expr}
use Rattle.gier_kinds.specs.TypeFaults.{type_faults}
use Rattle.gier_kinds.specs.Types.{is_known}
use Rattle.gier_fair.specs.Described.{described, AreDeclared}
use Rattle.gier_fair.specs.Expressions.{FairExpr}
use Rattle.gier_fair.specs.Fair.{IsFair}
use Rattle.gier_fair.specs.FewNames.{HasFewNames}
use Rattle.gier_fair.specs.InScope.{IsInScope}

-- an expression in these places, without faults of types
abbrev pub ExpressionsAreFair : Type 0
ExpressionsAreFair =
    (p : Places) (e : Expr) → AreDeclared p (uses_expr e) → faults_expr (described p) e ≡ []
    → FairExpr p (type_expr (described p) e) e × (is_known (type_expr (described p) e) ≡ true)

-- a program without faults of scopes is in scope when it is hoisted, and fair where that has no faults of types
abbrev pub ProgramsAreFair : Type 0
ProgramsAreFair =
    (t : Program) → HasFewNames t → scope_faults t ≡ [] → IsInScope (hoist t) × (type_faults (hoist t) ≡ [] → IsFair (hoist t))

-- a program whose scopes are right, without faults of types
abbrev pub TypesAreFair : Type 0
TypesAreFair = (t : Program) → IsInScope t → type_faults t ≡ [] → IsFair t
