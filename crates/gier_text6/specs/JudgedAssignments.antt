-- What the pure pass does over text 5 of an assignment, which is a statement before a semicolon or an `_end`.
use Rattle.std.specs.Prelude.{◌≡◌, ◌++◌, ℕ, Bool, List, ◌∷◌, min}
use Rattle.std.specs.List.{flat_map}
use Rattle.gier_symbol.specs.declared.symbol.Symbol.{Symbol}
use Rattle.gier_symbol.specs.declared.tag.Tag.TheVariants.{Semicolon, End}
use Rattle.gier_symbol.specs.ByTag.{word}
use Rattle.gier_tree.specs.Lines.{last_expr}
use Rattle.gier_tree.specs.Places.{Places}
use Rattle.gier_tree.specs.Texts.{text_lefts}
use Rattle.gier_tree.specs.Trees.{Name, Expr, LeftPart}
use Rattle.gier_tree.specs.Written.{greatest_address, text_expr}
use Rattle.gier_kinds.specs.AllowedUses.{left_type}
use Rattle.gier_kinds.specs.ExprFaults.{faults_expr}
use Rattle.gier_kinds.specs.ExprTypes.{type_expr}
use Rattle.gier_kinds.specs.TypeFaults.{faults_part}
use Rattle.gier_kinds.specs.Types.{ExprType}
use Rattle.gier_fair.specs.Described.{described}
use Rattle.gier_text6.specs.Entering.{open_at}
use Rattle.gier_text6.specs.JudgedExpressions.{Tells, text_five, text_six, adds, at}
use Rattle.gier_text6.specs.PassState.{AtStatement, Nothing, Open, Plain, World, Found, state}
use Rattle.gier_text6.specs.PlacedAssignments.{around, after_assignment, placed_assignment}
use Rattle.gier_text6.specs.PlacedFaults.{Fits}
use Rattle.gier_text6.specs.PurePass.{judge}

-- the declarations that are open are those of the procedures within which the part is
abbrev pub AreOpen : World → Places → (ℕ → Bool) → Type 0
AreOpen W p within = (x : ℕ) → left_type (p x).what.kind (open_at (min (p x).address greatest_address) W.numbered)
    ≡ left_type (p x).what.kind (within x)

-- a statement may begin
abbrev pub JudgedBefore : Symbol → World → List Name → Places → (ℕ → Bool) → Type 0
JudgedBefore s W os p within = (q : LeftPart) (qs : List LeftPart) (e : Expr) (k : List Symbol) (st : List Open) (v : ExprType)
    (F : Found) (n l : ℕ)
    → judge (text_lefts (text_five os) p (q ∷ qs) (text_expr (text_five os) p e (s ∷ k)))
    (state AtStatement Nothing W (Plain ∷ st) v F n l)
    ≡ judge (s ∷ k) (at W (Plain ∷ st) (type_expr (described p) e) (adds (placed_assignment within p (q ∷ qs) e n)
    (λ rest. text_lefts (text_six os) p (q ∷ qs) (text_expr (text_six os) p e rest)) F)
    (after_assignment p (q ∷ qs) e n) (last_expr e))

abbrev pub AssignmentsAreJudged : Type 0
AssignmentsAreJudged = (i : ℕ) (W : World) (os : List Name) (p : Places) (within : ℕ → Bool) → Tells W p → AreOpen W p within
    → JudgedBefore (word Semicolon i) W os p within × JudgedBefore (word End i) W os p within

abbrev pub TheseAssignmentsFit : Type 0
TheseAssignmentsFit = (p : Places) (within : ℕ → Bool) (qs : List LeftPart) (e : Expr) (n : ℕ)
    → Fits n (after_assignment p qs e n) (placed_assignment within p qs e n)
    (flat_map (faults_part (around p within) (type_expr (described p) e)) qs ++ faults_expr (described p) e)
