-- The faults of types of left parts and assignments, with their positions in text 5. A fault of an assignment falls on the `:=` of
-- a left part.
use Rattle.std.specs.Prelude.{◌++◌, ℕ, suc, Bool, not, List, [], ◌∷◌}
use Rattle.gier_tree.specs.Need.{count_exprs}
use Rattle.gier_tree.specs.Places.{Places}
use Rattle.gier_tree.specs.Trees.{Expr, Element, Subscripted, LeftSide, OneName, LeftElement, LeftPart}
use Rattle.gier_kinds.specs.AllowedUses.{array_type}
use Rattle.gier_kinds.specs.Around.{Around}
use Rattle.gier_kinds.specs.ExprFaults.{is_other_number, subscript_fault}
use Rattle.gier_kinds.specs.ExprTypes.{type_expr}
use Rattle.gier_kinds.specs.Faults.{WrongUse, WrongSubscripts, WrongAssignment, falls}
use Rattle.gier_kinds.specs.TypeFaults.{type_left}
use Rattle.gier_kinds.specs.Types.{ExprType, agree, is_known}
use Rattle.gier_text.specs.declared.fault.Fault.{Fault}
use Rattle.gier_fair.specs.Described.{described}
use Rattle.gier_text6.specs.PlacedExpressions.{placed_expr, placed_subscripts}
use Rattle.gier_text6.specs.PlacedFaults.{on_place}
use Rattle.gier_text6.specs.Positions.{after_use, after_expr, after_element}

-- where these are the places, and the part is within the declarations of these procedures
abbrev pub around : Places → (ℕ → Bool) → Around
around p within = record { scopes = described p; within = within }

abbrev pub after_left : Places → LeftSide → ℕ → ℕ
after_left p (OneName x) n = after_use (p x.number) n
after_left p (LeftElement e) n = after_element p e n

abbrev pub placed_left_element : Places → Element → ℕ → List Fault
placed_left_element p (Subscripted x l e es m) n =
    let d = described p x.number in
    let n1 = after_use (p x.number) n in
    on_place n x.line (falls (not (is_known (array_type d.kind))) WrongUse)
    ++ on_place n1 l (falls (is_other_number d.kind d.count (suc (count_exprs es))) WrongSubscripts
    ++ subscript_fault (type_expr (described p) e))
    ++ placed_expr p e (suc (suc n1)) ++ placed_subscripts p 1 es (suc (after_expr p e (suc (suc n1))))

abbrev pub placed_left : (ℕ → Bool) → Places → LeftSide → ℕ → List Fault
placed_left within p (OneName x) n =
    on_place n x.line (falls (not (is_known (type_left (around p within) (OneName x)))) WrongUse)
placed_left within p (LeftElement e) n = placed_left_element p e n

abbrev pub after_lefts : Places → List LeftPart → ℕ → ℕ
after_lefts p [] n = n
after_lefts p (q ∷ qs) n = after_lefts p qs (suc (after_left p q.left n))

abbrev pub placed_lefts : (ℕ → Bool) → Places → (right : ExprType) → List LeftPart → ℕ → List Fault
placed_lefts within p right [] n = []
placed_lefts within p right (q ∷ qs) n =
    let m = after_left p q.left n in
    placed_left within p q.left n
    ++ on_place m q.becomes (falls (not (agree (type_left (around p within) q.left) right)) WrongAssignment)
    ++ placed_lefts within p right qs (suc m)

abbrev pub after_assignment : Places → List LeftPart → Expr → ℕ → ℕ
after_assignment p qs e n = after_expr p e (after_lefts p qs n)

abbrev pub placed_assignment : (ℕ → Bool) → Places → List LeftPart → Expr → ℕ → List Fault
placed_assignment within p qs e n = placed_lefts within p (type_expr (described p) e) qs n ++ placed_expr p e (after_lefts p qs n)
