-- What the pure pass does over text 5 of a call that is a statement, and of what stands at the head of conditional and for
-- statements: a condition, a controlled variable.
use Rattle.std.specs.Prelude.{◌≡◌, ℕ, suc, List, ◌∷◌}
use Rattle.gier_symbol.specs.declared.symbol.Symbol.{Symbol}
use Rattle.gier_symbol.specs.declared.tag.Tag.TheVariants.{Semicolon, End, If, Then, Becomes}
use Rattle.gier_symbol.specs.ByTag.{word}
use Rattle.gier_tree.specs.Places.{Places}
use Rattle.gier_tree.specs.Texts.{text_call_statement}
use Rattle.gier_tree.specs.Trees.{Name, Expr, Call}
use Rattle.gier_tree.specs.Written.{described_use, text_expr}
use Rattle.gier_kinds.specs.AllowedUses.{is_controllable}
use Rattle.gier_kinds.specs.ExprFaults.{AsStatement, use_fault, faults_call}
use Rattle.gier_kinds.specs.ExprTypes.{type_expr}
use Rattle.gier_kinds.specs.TypeFaults.{faults_condition}
use Rattle.gier_kinds.specs.Types.{ExprType}
use Rattle.gier_fair.specs.Described.{described}
use Rattle.gier_text6.specs.JudgedExpressions.{Tells, text_five, text_six, adds, at}
use Rattle.gier_text6.specs.PassState.{AtStatement, AtVariable, Nothing, Open, Deciding, Plain, World, Found, state}
use Rattle.gier_text6.specs.PlacedCalls.{placed_statement_call, after_condition, placed_condition, placed_variable}
use Rattle.gier_text6.specs.PlacedFaults.{Fits}
use Rattle.gier_text6.specs.Positions.{after_use, after_call}
use Rattle.gier_text6.specs.PurePass.{judge}

-- a statement may begin; the type and line that the pass then has don't matter
pub record CallIsJudged (s : Symbol) (W : World) (os : List Name) (p : Places) (c : Call) (k : List Symbol) (st : List Open)
    (v : ExprType) (F : Found) (n l : ℕ) : Type 0 where
  pub value : ExprType
  pub line : ℕ
  pub goes_on : judge (text_call_statement (text_five os) p c (s ∷ k)) (state AtStatement Nothing W st v F n l)
      ≡ judge (s ∷ k) (at W st value (adds (placed_statement_call p c n) (text_call_statement (text_six os) p c) F)
      (after_call p c n) line)

pub record HeadsAreJudged (W : World) (os : List Name) (p : Places) : Type 0 where
  pub before_semicolon : (i : ℕ) (c : Call) (k : List Symbol) (st : List Open) (v : ExprType) (F : Found) (n l : ℕ)
      → CallIsJudged (word Semicolon i) W os p c k st v F n l
  pub before_end : (i : ℕ) (c : Call) (k : List Symbol) (st : List Open) (v : ExprType) (F : Found) (n l : ℕ)
      → CallIsJudged (word End i) W os p c k st v F n l
  -- the construct was opened
  pub condition : (e : Expr) (i j q m : ℕ) (k : List Symbol) (st : List Open) (v : ExprType) (F : Found) (n l : ℕ)
      → judge (word If i ∷ text_expr (text_five os) p e (word Then j ∷ k)) (state AtStatement Nothing W (Deciding q m ∷ st) v F n l)
      ≡ judge k (state AtStatement Nothing W (Deciding n i ∷ st) (type_expr (described p) e)
      (adds (placed_condition p i e n) (λ rest. word If i ∷ text_expr (text_six os) p e (word Then j ∷ rest)) F)
      (after_condition p e n) j)
  pub variable : (x : Name) (i : ℕ) (k : List Symbol) (st : List Open) (v : ExprType) (F : Found) (n l : ℕ)
      → judge (described_use (p x.number) x.line (word Becomes i ∷ k)) (state AtVariable Nothing W (Plain ∷ st) v F n l)
      ≡ judge k (at W (Plain ∷ st) v
      (adds (placed_variable p x n) (λ rest. described_use (p x.number) x.line (word Becomes i ∷ rest)) F)
      (suc (after_use (p x.number) n)) i)

abbrev pub TheseHeadsAreJudged : Type 0
TheseHeadsAreJudged = (W : World) (os : List Name) (p : Places) → Tells W p → HeadsAreJudged W os p

pub record HeadsFit (p : Places) : Type 0 where
  pub call : (c : Call) (n : ℕ) → Fits n (after_call p c n) (placed_statement_call p c n) (faults_call AsStatement (described p) c)
  pub condition : (l : ℕ) (e : Expr) (n : ℕ)
      → Fits n (after_condition p e n) (placed_condition p l e n) (faults_condition (described p) l e)
  pub variable : (x : Name) (n : ℕ)
      → Fits n (after_use (p x.number) n) (placed_variable p x n) (use_fault (is_controllable (described p x.number).kind) x)

abbrev pub TheseHeadsFit : Type 0
TheseHeadsFit = (p : Places) → HeadsFit p
