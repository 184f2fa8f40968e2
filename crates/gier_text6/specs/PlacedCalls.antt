-- The faults of types of calls that are statements, and of what stands at the head of conditional and for statements, with their
-- positions in text 5.
use Rattle.std.specs.Prelude.{◌++◌, ℕ, suc, not, List}
use Rattle.gier_tree.specs.Need.{count_actuals}
use Rattle.gier_tree.specs.Places.{Places}
use Rattle.gier_tree.specs.Trees.{Name, Expr, Call, Alone, WithActuals}
use Rattle.gier_kinds.specs.Actuals.{wanted_behind, known_formals, is_other_count, actual_fits}
use Rattle.gier_kinds.specs.AllowedUses.{is_controllable}
use Rattle.gier_kinds.specs.ExprFaults.{AsStatement, may_stand, may_be_called, actual_fault, wanted_of}
use Rattle.gier_kinds.specs.Faults.{WrongUse, WrongCount, WrongCondition, falls}
use Rattle.gier_kinds.specs.Types.{OfBoolean}
use Rattle.gier_text.specs.declared.fault.Fault.{Fault}
use Rattle.gier_fair.specs.Described.{described}
use Rattle.gier_text6.specs.PlacedExpressions.{placed_actual, placed_actuals}
use Rattle.gier_text6.specs.PlacedFaults.{on_place}
use Rattle.gier_text6.specs.PlacedParts.{wanted_kinds, placed_wanted}
use Rattle.gier_text6.specs.Positions.{after_use, after_expr, after_actual}

abbrev pub placed_statement_call : Places → Call → ℕ → List Fault
placed_statement_call p (Alone x) n = on_place n x.line (falls (not (may_stand AsStatement (described p x.number))) WrongUse)
placed_statement_call p (WithActuals x l a more m) n =
    let d = described p x.number in
    let wanted = wanted_of AsStatement d in
    let n1 = after_use (p x.number) n in
    on_place n x.line (falls (not (may_be_called AsStatement d)) WrongUse)
    ++ on_place n1 l (falls (is_other_count (known_formals d) (suc (count_actuals more))) WrongCount
    ++ actual_fault (actual_fits (described p) wanted a))
    ++ placed_actual p a (suc n1) ++ placed_actuals p (wanted_behind wanted) 1 more (after_actual p a (suc n1))

-- a condition between `_if` and `_then`, of which the first has the position
abbrev pub after_condition : Places → Expr → ℕ → ℕ
after_condition p e n = suc (after_expr p e (suc n))

abbrev pub placed_condition : Places → (line : ℕ) → Expr → ℕ → List Fault
placed_condition p l e n = placed_wanted p (wanted_kinds p OfBoolean WrongCondition e) e n l (suc n)

-- a controlled variable
abbrev pub placed_variable : Places → Name → ℕ → List Fault
placed_variable p x n = on_place n x.line (falls (not (is_controllable (described p x.number).kind)) WrongUse)
