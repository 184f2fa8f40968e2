-- What the pure pass does over text 5 of an expression: it finds the type, inserts exactly the faults, and writes text 6.
use Rattle.std.specs.Prelude.{◌≡◌, ℕ, List, [], ◌∷◌, min}
use Rattle.gier_symbol.specs.declared.symbol.Symbol.{Symbol}
use Rattle.gier_symbol.specs.declared.tag.Tag.TheVariants.{Semicolon}
use Rattle.gier_symbol.specs.ByTag.{word}
use Rattle.gier_tree.specs.declared.kind.Kind.{Kind}
use Rattle.gier_tree.specs.declared.kind.Kind.TheVariants.{IntegerArray, BooleanArray, Procedure, IntegerProcedure}
use Rattle.gier_tree.specs.declared.kind.Kind.TheVariants.{BooleanProcedure}
use Rattle.gier_tree.specs.Lines.{last_expr}
use Rattle.gier_tree.specs.Places.{Places}
use Rattle.gier_tree.specs.Trees.{Name, Expr}
use Rattle.gier_tree.specs.Written.{Text, Distributed, Polished, greatest_address, text_expr}
use Rattle.gier_kinds.specs.ExprFaults.{faults_expr}
use Rattle.gier_kinds.specs.ExprTypes.{type_expr}
use Rattle.gier_kinds.specs.Types.{ExprType}
use Rattle.gier_faults.specs.Insertion.{insert_all}
use Rattle.gier_text.specs.declared.fault.Fault.{Fault}
use Rattle.gier_fair.specs.Described.{described}
use Rattle.gier_text6.specs.Entering.{formals_at, formals_if}
use Rattle.gier_text6.specs.PassState.{AtOperand, Nothing, Open, World, Found, found, State, state}
use Rattle.gier_text6.specs.PlacedExpressions.{placed_expr}
use Rattle.gier_text6.specs.PlacedFaults.{Fits}
use Rattle.gier_text6.specs.Positions.{after_expr}
use Rattle.gier_text6.specs.PurePass.{judge}

-- a count is written of arrays and procedures alone
abbrev pub shown : Kind → ℕ → ℕ
shown IntegerArray n = n
shown BooleanArray n = n
shown Procedure n = n
shown IntegerProcedure n = n
shown BooleanProcedure n = n
shown kind n = 0

-- entries have told what identifiers are in these places: of each procedure the formals, by its number; and only arrays and
-- procedures have a count
pub record Tells (W : World) (p : Places) : Type 0 where
  pub formals : (x : ℕ) → formals_if (p x).what.kind (formals_at (min (p x).address greatest_address) W.numbered)
      ≡ (p x).what.formals
  pub counts : (x : ℕ) → shown (p x).what.kind (p x).what.count ≡ (p x).what.count

abbrev pub text_five : List Name → Text
text_five owns = record { stage = Distributed; owns = owns }

abbrev pub text_six : List Name → Text
text_six owns = record { stage = Polished; owns = owns }

-- further faults are inserted, and more is written
abbrev pub adds : List Fault → (List Symbol → List Symbol) → Found → Found
adds placed text F = found (insert_all placed F.faults) (λ rest. F.out (text rest))

-- no identifier is held, and an operand may begin
abbrev pub at : World → List Open → ExprType → Found → (position line : ℕ) → State
at W st v F n l = state AtOperand Nothing W st v F n l

-- before a semicolon, whatever was found and written before
pub record Judged (W : World) (owns : List Name) (p : Places) (e : Expr) (i : ℕ) (k : List Symbol) (v : ExprType) (F : Found)
    (n l : ℕ) : Type 0 where
  pub fits : Fits n (after_expr p e n) (placed_expr p e n) (faults_expr (described p) e)
  pub goes_on : judge (text_expr (text_five owns) p e (word Semicolon i ∷ k)) (at W [] v F n l)
      ≡ judge (word Semicolon i ∷ k) (at W [] (type_expr (described p) e)
      (adds (placed_expr p e n) (text_expr (text_six owns) p e) F) (after_expr p e n) (last_expr e))

abbrev pub ExpressionsAreJudged : Type 0
ExpressionsAreJudged = (W : World) (owns : List Name) (p : Places) → Tells W p → (e : Expr) (i : ℕ) (k : List Symbol)
    (v : ExprType) (F : Found) (n l : ℕ) → Judged W owns p e i k v F n l
