-- The placed faults of parts rise, and are those of the definition.
use Rattle.std.proofs.Common.{◌≤◌, ◌++◌, ℕ, suc, List, [], ◌∷◌, arith, Bool}
use Rattle.gier_tree.specs.Trees.{NextName, MkNames, Segment, MkSegment, Expr, Exprs, NoExprs, MoreExprs, BoundPair, MkPair}
use Rattle.gier_tree.specs.Trees.{NextPair, Turns, OneValue, StepUntil, WhileTrue, NextTurns, Element, Subscripted, LeftSide}
use Rattle.gier_tree.specs.Trees.{OneName, LeftElement, LeftPart}
use Rattle.gier_kinds.specs.TypeFaults.{faults_segment, faults_bound, faults_target, faults_targets, faults_pair, faults_pairs}
use Rattle.gier_kinds.specs.TypeFaults.{faults_turns, type_left, faults_left, faults_part}
use Rattle.gier_text6.specs.PlacedParts.{after_next_names, after_segment, placed_segment, wanted_kinds, placed_wanted}
use Rattle.gier_text6.specs.PlacedParts.{within_mark, after_marked, after_jump, placed_jump, placed_target, after_targets}
use Rattle.gier_text6.specs.PlacedParts.{placed_targets, placed_bound, after_pair, placed_pair, after_pairs, placed_pairs}
use Rattle.gier_text6.specs.PlacedParts.{after_turns, placed_turns, after_next_turns, placed_next_turns}
use Rattle.std.specs.List.{flat_map}
use Rattle.gier_tree.specs.Places.{Places}
use Rattle.gier_kinds.specs.ExprFaults.{most_subscripts, too_long, faults_expr, is_other_number, subscript_fault, faults_element}
use Rattle.gier_kinds.specs.Faults.{TypeFault, WrongBound, WrongElement, WrongCondition, WrongTarget, on_symbol, WrongUse}
use Rattle.gier_kinds.specs.Faults.{WrongSubscripts, WrongAssignment, falls}
use Rattle.gier_kinds.specs.Types.{OfInteger, OfBoolean, OfLabel, ExprType, agree, is_known}
use Rattle.gier_fair.specs.Described.{described}
use Rattle.gier_text6.specs.JudgedParts.{PartsFit}
use Rattle.gier_text6.specs.PlacedFaults.{Fits}
use Rattle.gier_text6.specs.Positions.{after_expr, after_use, after_element, after_subscripts}
use Rattle.gier_text6.proofs.Fitting.{fits_expr, above_use, fits_subscripts}
use Rattle.gier_text6.proofs.Rising.{both, one, none, widen}
use Rattle.gier_tree.specs.Need.{count_exprs}
use Rattle.gier_kinds.specs.AllowedUses.{array_type}
use Rattle.gier_kinds.specs.ExprTypes.{type_expr}
use Rattle.gier_text6.specs.PlacedAssignments.{around, after_left, placed_left_element, placed_left, after_lefts, placed_lefts}
use Rattle.gier_text6.specs.PlacedAssignments.{after_assignment, placed_assignment}
use Rattle.std.specs.Prelude.{not}

pub wanted : (p : Places) (kinds : List TypeFault) (e : Expr) (q l n : ℕ) → suc q ≤ n
    → Fits q (after_expr p e n) (placed_wanted p kinds e q l n) (on_symbol l kinds ++ faults_expr (described p) e)
wanted p kinds e q l n h = both q n (after_expr p e n) _ _ _ _ (widen q q (suc q) n _ _ (omega arith) h (one q l
    kinds)) (fits_expr p e n)

marked : (p : Places) (kinds : List TypeFault) (e : Expr) (q l : ℕ)
    → Fits q (after_marked p e q) (placed_wanted p kinds e q l (within_mark q)) (on_symbol l kinds ++ faults_expr (described p) e)
marked p kinds e q l = widen q q (after_expr p e (within_mark
    q)) (after_marked p e q) _ _ (omega arith) (omega arith) (wanted p kinds e q l (within_mark q) (omega arith))

target : (p : Places) (e : Expr) (q l : ℕ) → Fits q (after_marked p e q) (placed_target p e q l) (faults_target (described p) l e)
target p e q l = marked p (wanted_kinds p OfLabel WrongTarget e) e q l

jump : (p : Places) (e : Expr) (n l : ℕ) → Fits n (after_jump p e n) (placed_jump p l e n) (faults_target (described p) l e)
jump p e n l = widen n (suc n) (after_expr p e (suc
    (suc n))) (after_jump p e n) _ _ (omega arith) (omega arith) (wanted p (wanted_kinds p OfLabel WrongTarget e) e (suc n) l
    (suc (suc n)) (omega arith))

targets : (p : Places) (es : Exprs) (n : ℕ)
    → Fits n (after_targets p es n) (placed_targets p es n) (faults_targets (described p) es)
targets p NoExprs n = none n n (omega arith)
targets p (MoreExprs l e es) n =
    both n (after_marked p e n) (after_targets p es (after_marked p e n)) _ _ _ _ (target p e n l) (targets p es (after_marked p
    e n))

bound : (p : Places) (kinds : List TypeFault) (e : Expr) (q l : ℕ)
    → Fits q (after_marked p e q) (placed_bound p kinds e q l) (faults_bound (described p) l kinds e)
bound p kinds e q l = marked p (kinds ++ wanted_kinds p OfInteger WrongBound e) e q l

pair : (p : Places) (kinds : List TypeFault) (b : BoundPair) (q l : ℕ)
    → Fits q (after_pair p b q) (placed_pair p kinds b q l) (faults_pair (described p) l kinds b)
pair p kinds (MkPair a i b) q l =
    both q (after_marked p a q) (after_marked p b (after_marked p a
    q)) _ _ _ _ (bound p kinds a q l) (bound p [] b (after_marked p a q) i)

pairs : (p : Places) (before : ℕ) (bs : List NextPair) (n : ℕ)
    → Fits n (after_pairs p bs n) (placed_pairs p before bs n) (faults_pairs (described p) before bs)
pairs p before [] n = none n n (omega arith)
pairs p before (b ∷ bs) n = both n (after_pair p b.pair n) (after_pairs p bs (after_pair p b.pair n)) _ _ _ _ (pair p (too_long
    most_subscripts before) b.pair n b.comma) (pairs p (suc before) bs (after_pair p b.pair n))

above_next_names : (xs : List NextName) (n : ℕ) → n ≤ after_next_names xs n
above_next_names [] n = omega arith
above_next_names (x ∷ xs) n = omega (arith, above_next_names xs (suc (suc n)))

segment : (p : Places) (g : Segment) (n : ℕ) → Fits n (after_segment p g n) (placed_segment p g n) (faults_segment (described p) g)
segment p (MkSegment (MkNames x xs) i b bs j) n =
    let q = after_next_names xs (suc (suc n)) in let m = after_pair p b q in let h = after_pairs p bs m in
    widen n q h (suc (suc h)) _ _ (omega (arith, above_next_names xs (suc (suc n)))) (omega arith) (both q m h _ _ _ _ (pair p
    [] b q i) (pairs p 1 bs m))

turns : (p : Places) (u : Turns) (q l : ℕ) → Fits q (after_turns p u q) (placed_turns p u q l) (faults_turns (described p) l u)
turns p (OneValue e) q l = marked p (wanted_kinds p OfInteger WrongElement e) e q l
turns p (StepUntil a i b j c) q l =
    let n0 = within_mark q in let n1 = after_expr p a n0 in let n2 = after_expr p b (suc n1) in let n3 = after_expr p c (suc n2) in
    let ga = wanted p (wanted_kinds p OfInteger WrongElement a) a q l n0 (omega arith) in
    let gb = wanted p (wanted_kinds p OfInteger WrongElement b) b n1 i (suc n1) (omega arith) in
    let gc = wanted p (wanted_kinds p OfInteger WrongElement c) c n2 j (suc n2) (omega arith) in
    widen q q n3 (suc n3) _ _ (omega arith) (omega arith) (both q n2 n3 _ _ _ _ (both q n1 n2 _ _ _ _ ga gb) gc)
turns p (WhileTrue a i b) q l =
    let n0 = within_mark q in let n1 = after_expr p a n0 in let n2 = after_expr p b (suc n1) in
    let ga = wanted p (wanted_kinds p OfInteger WrongElement a) a q l n0 (omega arith) in
    let gb = wanted p (wanted_kinds p OfBoolean WrongCondition b) b n1 i (suc n1) (omega arith) in
    widen q q n2 (suc n2) _ _ (omega arith) (omega arith) (both q n1 n2 _ _ _ _ ga gb)

next_turns : (p : Places) (us : List NextTurns) (n : ℕ)
    → Fits n (after_next_turns p us n) (placed_next_turns p us n) (flat_map (λ next.
    faults_turns (described p) next.comma next.turns) us)
next_turns p [] n = none n n (omega arith)
next_turns p (u ∷ us) n = both n (after_turns p u.turns n) (after_next_turns p us (after_turns p u.turns
    n)) _ _ _ _ (turns p u.turns n u.comma) (next_turns p us (after_turns p u.turns n))

pub parts_fit : (p : Places) → PartsFit p
parts_fit p = record {
  target = target p;
  jump = jump p;
  targets = targets p;
  pair = λ before b q l. pair p (too_long most_subscripts before) b q l;
  pairs = pairs p;
  segment = segment p;
  turns = turns p;
  next_turns = next_turns p;
}

left_element : (p : Places) (x : Element) (n : ℕ)
    → Fits n (after_element p x n) (placed_left_element p x n) (faults_element array_type (described p) x)
left_element p (Subscripted x l e es m) n =
    let d = described p x.number in
    let n1 = after_use (p x.number) n in let n2 = suc (suc n1) in let n3 = after_expr p e n2 in let n4 = suc n3 in let n5 =
    after_subscripts p es n4 in
    let g1 = both n n1 (suc n1) _ _ _ _ (widen n n (suc n) n1 _ _ (omega arith) (above_use (p x.number) n) (one n x.line
    (falls (not (is_known (array_type d.kind))) WrongUse)))
    (one n1 l (falls (is_other_number d.kind d.count (suc (count_exprs es))) WrongSubscripts
    ++ subscript_fault (type_expr (described p) e))) in
    let g2 = both n (suc n1) n4 _ _ _ _ g1 (widen (suc n1) n2 n3 n4 _ _ (omega arith) (omega arith) (fits_expr p e n2)) in
    widen n n n5 (suc n5) _ _ (omega arith) (omega arith) (both n n4 n5 _ _ _ _ g2 (fits_subscripts p 1 es n4))

left : (p : Places) (within : ℕ → Bool) (x : LeftSide) (n : ℕ)
    → Fits n (after_left p x n) (placed_left within p x n) (faults_left (around p within) x)
left p within (OneName x) n = widen n n (suc n) _ _ _ (omega arith) (above_use (p x.number) n) (one n x.line (falls
    (not (is_known (type_left (around p within) (OneName x)))) WrongUse))
left p within (LeftElement e) n = left_element p e n

lefts : (p : Places) (within : ℕ → Bool) (right : ExprType) (qs : List LeftPart) (n : ℕ)
    → Fits n (after_lefts p qs n) (placed_lefts within p right qs n) (flat_map (faults_part (around p within) right) qs)
lefts p within right [] n = none n n (omega arith)
lefts p within right (q ∷ qs) n =
    let m = after_left p q.left n in
    both n (suc m) (after_lefts p qs (suc m)) _ _ _ _ (both n m (suc m) _ _ _ _ (left p within q.left n) (one m q.becomes
    (falls (not (agree (type_left (around p within) q.left) right)) WrongAssignment))) (lefts p within right qs (suc m))

pub fits_lefts : (p : Places) (within : ℕ → Bool) (qs : List LeftPart) (e : Expr) (n : ℕ)
    → Fits n (after_assignment p qs e n) (placed_assignment within p qs e n) (flat_map (faults_part (around p within)
    (type_expr (described p) e)) qs ++ faults_expr (described p) e)
fits_lefts p within qs e n = both n (after_lefts p qs n) (after_expr p e (after_lefts p qs
    n)) _ _ _ _ (lefts p within (type_expr (described p) e) qs n) (fits_expr p e (after_lefts p qs n))
