-- What the pure pass does over text 5 of the parts of declarations and statements that hold expressions: targets, bounds, elements
-- of for lists. The symbol before a part has the position and line that are told.
use Rattle.std.specs.Prelude.{◌≡◌, ◌+◌, ℕ, suc, List, ◌∷◌}
use Rattle.std.specs.List.{flat_map}
use Rattle.gier_symbol.specs.declared.symbol.Symbol.{Symbol}
use Rattle.gier_symbol.specs.declared.tag.Tag.TheVariants.{Goto}
use Rattle.gier_symbol.specs.ByTag.{word}
use Rattle.gier_tree.specs.declared.construct.Construct.TheVariants.{GoTo as MGoTo}
use Rattle.gier_tree.specs.Lines.{last_expr}
use Rattle.gier_tree.specs.Places.{Places}
use Rattle.gier_tree.specs.Texts.{text_segment, text_switch_element, text_switch_elements, text_pair, text_turns}
use Rattle.gier_tree.specs.Texts.{text_next_turns}
use Rattle.gier_tree.specs.Trees.{Segment, Name, Expr, Exprs, BoundPair, NextPair, Turns, NextTurns}
use Rattle.gier_kinds.specs.TypeFaults.{faults_segment, faults_target, faults_targets, faults_pair, faults_pairs, faults_turns}
use Rattle.gier_text6.specs.PlacedParts.{after_segment, placed_segment, after_marked, after_jump, placed_jump, placed_target}
use Rattle.gier_text6.specs.PlacedParts.{after_targets, placed_targets, after_pair, placed_pair, after_pairs, placed_pairs}
use Rattle.gier_text6.specs.PlacedParts.{after_turns, placed_turns, after_next_turns, placed_next_turns}
use Rattle.gier_tree.specs.Written.{opens, shuts, text_expr}
use Rattle.gier_kinds.specs.ExprFaults.{most_subscripts, too_long}
use Rattle.gier_kinds.specs.Types.{ExprType}
use Rattle.gier_text.specs.declared.fault.Fault.{Fault}
use Rattle.gier_fair.specs.Described.{described}
use Rattle.gier_text6.specs.JudgedExpressions.{Tells, text_five, text_six, adds, at}
use Rattle.gier_text6.specs.PassState.{Open, InSegment, Plain, World, Found}
use Rattle.gier_text6.specs.PlacedFaults.{Fits}
use Rattle.gier_text6.specs.PurePass.{judge}

-- over a part the pass goes on with these faults and this text, on another stack; the type and line that it then has don't matter
pub record Goes (W : World) (five k : List Symbol) (six : List Symbol → List Symbol) (st below : List Open) (v : ExprType)
    (F : Found) (n l after : ℕ) (placed : List Fault) : Type 0 where
  pub value : ExprType
  pub line : ℕ
  pub goes_on : judge five (at W st v F n l) ≡ judge k (at W below value (adds placed six F) after line)

pub record PartsAreJudged (W : World) (os : List Name) (p : Places) : Type 0 where
  pub jump : (e : Expr) (i : ℕ) (k : List Symbol) (st : List Open) (v : ExprType) (F : Found) (n l : ℕ)
      → Goes W (opens MGoTo i ∷ word Goto i ∷ text_expr (text_five os) p e (shuts MGoTo (last_expr e) ∷ k)) k
      (λ rest. opens MGoTo i ∷ word Goto i ∷ text_expr (text_six os) p e (shuts MGoTo (last_expr e) ∷ rest)) st st v F n l
      (after_jump p e n) (placed_jump p i e n)
  pub target : (e : Expr) (k : List Symbol) (st : List Open) (v : ExprType) (F : Found) (q l : ℕ)
      → Goes W (text_switch_element (text_five os) p e k) k (text_switch_element (text_six os) p e) st st v F (suc q) l
      (after_marked p e q) (placed_target p e q l)
  pub targets : (es : Exprs) (k : List Symbol) (st : List Open) (v : ExprType) (F : Found) (n l : ℕ)
      → Goes W (text_switch_elements (text_five os) p es k) k (text_switch_elements (text_six os) p es) (Plain ∷ st) (Plain ∷ st) v
      F n l (after_targets p es n) (placed_targets p es n)
  -- behind so many pairs
  pub pair : (before : ℕ) (b : BoundPair) (k : List Symbol) (st : List Open) (v : ExprType) (F : Found) (q l : ℕ)
      → Goes W (text_pair (text_five os) p b k) k (text_pair (text_six os) p b) (InSegment (before + before) ∷ st)
      (InSegment (suc before + suc before) ∷ st) v F (suc q) l (after_pair p b q)
      (placed_pair p (too_long most_subscripts before) b q l)
  pub segment : (g : Segment) (k : List Symbol) (st : List Open) (v : ExprType) (F : Found) (n l : ℕ)
      → Goes W (text_segment (text_five os) p g k) k (text_segment (text_six os) p g) st st v F n l (after_segment p g n)
      (placed_segment p g n)
  pub turns : (u : Turns) (k : List Symbol) (st : List Open) (v : ExprType) (F : Found) (q l : ℕ)
      → Goes W (text_turns (text_five os) p u k) k (text_turns (text_six os) p u) st st v F (suc q) l (after_turns p u q)
      (placed_turns p u q l)
  pub next_turns : (us : List NextTurns) (k : List Symbol) (st : List Open) (v : ExprType) (F : Found) (n l : ℕ)
      → Goes W (text_next_turns (text_five os) p us k) k (text_next_turns (text_six os) p us) (Plain ∷ st) (Plain ∷ st) v F n l
      (after_next_turns p us n) (placed_next_turns p us n)

abbrev pub ThesePartsAreJudged : Type 0
ThesePartsAreJudged = (W : World) (os : List Name) (p : Places) → Tells W p → PartsAreJudged W os p

-- these faults are those of the definition
pub record PartsFit (p : Places) : Type 0 where
  pub target : (e : Expr) (q l : ℕ) → Fits q (after_marked p e q) (placed_target p e q l) (faults_target (described p) l e)
  pub jump : (e : Expr) (n l : ℕ) → Fits n (after_jump p e n) (placed_jump p l e n) (faults_target (described p) l e)
  pub targets : (es : Exprs) (n : ℕ) → Fits n (after_targets p es n) (placed_targets p es n) (faults_targets (described p) es)
  pub pair : (before : ℕ) (b : BoundPair) (q l : ℕ)
      → Fits q (after_pair p b q) (placed_pair p (too_long most_subscripts before) b q l)
      (faults_pair (described p) l (too_long most_subscripts before) b)
  pub pairs : (before : ℕ) (bs : List NextPair) (n : ℕ)
      → Fits n (after_pairs p bs n) (placed_pairs p before bs n) (faults_pairs (described p) before bs)
  pub segment : (g : Segment) (n : ℕ) → Fits n (after_segment p g n) (placed_segment p g n) (faults_segment (described p) g)
  pub turns : (u : Turns) (q l : ℕ) → Fits q (after_turns p u q) (placed_turns p u q l) (faults_turns (described p) l u)
  pub next_turns : (us : List NextTurns) (n : ℕ)
      → Fits n (after_next_turns p us n) (placed_next_turns p us n)
      (flat_map (λ next. faults_turns (described p) next.comma next.turns) us)

abbrev pub ThesePartsFit : Type 0
ThesePartsFit = (p : Places) → PartsFit p
