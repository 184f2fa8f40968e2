-- Over the parts of declarations and statements that hold expressions the pass finds their faults and writes text 6.
use Rattle.std.proofs.Common.{◌≡◌, ◌≤◌, ◌∙◌, ◌++◌, ◌+◌, ℕ, suc, false, List, [], ◌∷◌, refl, sym as back, ap, arith}
use Rattle.gier_tree.specs.Trees.{NextPair, NextName, MkNames, Segment, MkSegment, Name, Expr, Exprs, NoExprs, MoreExprs}
use Rattle.gier_tree.specs.Trees.{BoundPair, MkPair, Turns, OneValue, StepUntil, WhileTrue, NextTurns}
use Rattle.gier_tree.specs.Texts.{text_pairs, text_segment, names_as, next_names, text_bound, text_pair, text_switch_element}
use Rattle.gier_tree.specs.Texts.{text_switch_elements, text_turns, text_next_turns}
use Rattle.gier_tree.specs.declared.construct.Construct.TheVariants.{ArraySegment as MSegment, Bound as MBound}
use Rattle.gier_tree.specs.declared.construct.Construct.TheVariants.{SwitchElement as MElement, ForElement as MForElement}
use Rattle.gier_tree.specs.declared.construct.Construct.TheVariants.{GoTo as MGoTo}
use Rattle.gier_symbol.specs.declared.tag.Tag.TheVariants.{LeftBracket, RightBracket, Declaring, Step, Until, While, Goto}
use Rattle.gier_symbol.specs.declared.tag.Tag.TheVariants.{Colon, Comma}
use Rattle.gier_symbol.specs.ByTag.{sym, word}
use Rattle.gier_text6.specs.PlacedParts.{after_pairs, placed_pairs, after_next_names, after_segment, placed_segment}
use Rattle.gier_text6.specs.PlacedParts.{wanted_kinds, within_mark, after_marked, after_jump, placed_jump, placed_target}
use Rattle.gier_text6.specs.PlacedParts.{after_targets, placed_targets, placed_bound, after_pair, placed_pair, after_turns}
use Rattle.gier_text6.specs.PlacedParts.{placed_turns, after_next_turns, placed_next_turns}
use Rattle.std.specs.Prelude.{◌==◌}
use Rattle.std.proofs.lemmas.Bool.Decides.{nat_tests}
use Rattle.gier_symbol.specs.declared.symbol.Symbol.{Symbol}
use Rattle.gier_tree.specs.Lines.{first_expr, last_expr}
use Rattle.gier_tree.specs.Places.{Places}
use Rattle.gier_tree.specs.Written.{opens, shuts, text_expr}
use Rattle.gier_kinds.specs.ExprFaults.{most_subscripts, too_long}
use Rattle.gier_kinds.specs.ExprTypes.{type_expr}
use Rattle.gier_kinds.specs.Faults.{ListTooLong, WrongBound, WrongElement, WrongCondition, WrongTarget, falls}
use Rattle.gier_kinds.specs.Types.{ExprType, OfInteger, OfBoolean, OfLabel, agree}
use Rattle.gier_faults.specs.Insertion.{insert_all, IsRising}
use Rattle.gier_fair.specs.Described.{described}
use Rattle.gier_text6.specs.Constructs.{most_bounds}
use Rattle.gier_text6.specs.JudgedExpressions.{Tells, text_five, text_six, adds, at}
use Rattle.gier_text6.specs.JudgedParts.{Goes, PartsAreJudged}
use Rattle.gier_text6.specs.Operators.{level_of}
use Rattle.gier_text6.specs.PassState.{Open, AtOperand, Choosing, Going, Turning, Repeating, Bounding, InSegment, Plain, World}
use Rattle.gier_text6.specs.PassState.{Found, found, raises, writes}
use Rattle.gier_text6.specs.PlacedExpressions.{placed_expr}
use Rattle.gier_text6.specs.PlacedFaults.{on_place}
use Rattle.gier_text6.specs.Positions.{after_expr}
use Rattle.gier_text6.specs.PurePass.{judge}
use Rattle.gier_text6.proofs.Closing.{Closes, zero_le}
use Rattle.gier_text6.proofs.Fitting.{fits_expr}
use Rattle.gier_text6.proofs.Ladder.{expr}
use Rattle.gier_text6.proofs.Rising.{insert_append, prefix, in_list, down}

closes_bound : (W : World) (i : ℕ) (w : List Symbol) → Closes W 1 (shuts MBound i ∷ w)
closes_bound W i w = record {
  waits = λ t q j b st v F n l h. rw (zero_le (level_of t)) refl;
  held =
      λ kind number count q j st v F n l. refl;
  dropped = λ t q j st v F n l. refl;
}

closes_element : (W : World) (i : ℕ) (w : List Symbol) → Closes W 1 (shuts MElement i ∷ w)
closes_element W i w = record {
  waits = λ t q j b st v F n l h. rw (zero_le (level_of t)) refl;
  held =
      λ kind number count q j st v F n l. refl;
  dropped = λ t q j st v F n l. refl;
}

closes_for_element : (W : World) (i : ℕ) (w : List Symbol) → Closes W 1 (shuts MForElement i ∷ w)
closes_for_element W i w = record {
  waits = λ t q j b st v F n l h. rw (zero_le (level_of t)) refl;
  held =
      λ kind number count q j st v F n l. refl;
  dropped = λ t q j st v F n l. refl;
}

closes_go_to : (W : World) (i : ℕ) (w : List Symbol) → Closes W 1 (shuts MGoTo i ∷ w)
closes_go_to W i w = record {
  waits = λ t q j b st v F n l h. rw (zero_le (level_of t)) refl;
  held =
      λ kind number count q j st v F n l. refl;
  dropped = λ t q j st v F n l. refl;
}

closes_step : (W : World) (i : ℕ) (w : List Symbol) → Closes W 1 (word Step i ∷ w)
closes_step W i w = record {
  waits = λ t q j b st v F n l h. rw (zero_le (level_of t)) refl;
  held =
      λ kind number count q j st v F n l. refl;
  dropped = λ t q j st v F n l. refl;
}

closes_until : (W : World) (i : ℕ) (w : List Symbol) → Closes W 1 (word Until i ∷ w)
closes_until W i w = record {
  waits = λ t q j b st v F n l h. rw (zero_le (level_of t)) refl;
  held =
      λ kind number count q j st v F n l. refl;
  dropped = λ t q j st v F n l. refl;
}

closes_while : (W : World) (i : ℕ) (w : List Symbol) → Closes W 1 (word While i ∷ w)
closes_while W i w = record {
  waits = λ t q j b st v F n l h. rw (zero_le (level_of t)) refl;
  held =
      λ kind number count q j st v F n l. refl;
  dropped = λ t q j st v F n l. refl;
}

-- the faults of an expression rise behind the symbol before it
pub rises : (p : Places) (e : Expr) (q n : ℕ) → suc q ≤ n → IsRising (suc q) (after_expr p e n) (placed_expr p e n)
rises p e q n h = down (suc q) n (after_expr p e n) (placed_expr p e n) h (fits_expr p e n).rising

jump : (W : World) (os : List Name) (p : Places) (tells : Tells W p) (e : Expr) (i : ℕ) (k : List Symbol) (st : List Open) (v :
    ExprType) (F : Found) (n l : ℕ)
    → Goes W (opens MGoTo i ∷ word Goto i
    ∷ text_expr (text_five os) p e (shuts MGoTo (last_expr e) ∷ k)) k (λ rest. opens MGoTo i ∷ word Goto i
    ∷ text_expr (text_six os) p e (shuts MGoTo (last_expr e) ∷ rest)) st st v F n l (after_jump p e n) (placed_jump p i e n)
jump W os p tells e i k st v F n l =
    let s = shuts MGoTo (last_expr e) in let F1 = writes (word Goto i) (writes (opens MGoTo i) F) in
    let out : List Symbol → List Symbol = λ rest. F.out (opens MGoTo i ∷ word Goto i ∷ text_expr (text_six os) p e (s ∷ rest)) in
    record {
      value = type_expr (described p) e;
      line = last_expr e;
      goes_on = expr W os p tells e (s ∷ k) AtOperand refl (Going (suc n) i
          ∷ st) v F1 (suc (suc n)) i (λ m g v F. refl) (closes_go_to W (last_expr e) k) (λ h. (closes_go_to W (last_expr e) k).held)
          ∙ ap (λ G. judge k (at W st (type_expr (described p) e) (found G out) (after_jump p e n) (last_expr e))) (prefix (suc
          n) i (wanted_kinds p OfLabel WrongTarget e) (placed_expr p e (suc (suc n))) F.faults (after_expr p e (suc (suc
          n))) (rises p e (suc n) (suc (suc n)) (omega arith)));
    }

target : (W : World) (os : List Name) (p : Places) (tells : Tells W p) (e : Expr) (k : List Symbol) (st : List Open) (v :
    ExprType) (F : Found) (q l : ℕ)
    → judge (text_switch_element (text_five os) p e k) (at W st v F (suc q) l)
    ≡ judge k (at W st (type_expr (described p) e) (adds (placed_target p e q l) (text_switch_element (text_six os) p e)
    F) (after_marked p e q) (last_expr e))
target W os p tells e k st v F q l =
    let s = shuts MElement (last_expr e) in let F1 = writes (opens MElement (first_expr e)) F in
    let out : List Symbol → List Symbol = λ rest. F.out (text_switch_element (text_six os) p e rest) in
    expr W os p tells e (s ∷ k) AtOperand refl (Choosing q l
    ∷ st) v F1 (within_mark q) (first_expr e) (λ m g v F. refl) (closes_element W (last_expr e) k) (λ h.
    (closes_element W (last_expr e) k).held)
    ∙ ap (λ G. judge k (at W st (type_expr (described p) e) (found G out) (after_marked p e q)
    (last_expr e))) (prefix q l (wanted_kinds p OfLabel WrongTarget e) (placed_expr p e (within_mark q)) F.faults
    (after_expr p e (within_mark q)) (rises p e q (within_mark q) (omega arith)))

targets : (W : World) (os : List Name) (p : Places) (tells : Tells W p) (es : Exprs) (k : List Symbol) (st : List Open) (v :
    ExprType) (F : Found) (n l : ℕ)
    → Goes W (text_switch_elements (text_five os) p es k) k (text_switch_elements (text_six os) p es) (Plain ∷ st) (Plain
    ∷ st) v F n l (after_targets p es n) (placed_targets p es n)
targets W os p tells NoExprs k st v F n l = record { value = v; line = l; goes_on = refl }
targets W os p tells (MoreExprs i e es) k st v F n l =
    let F1 = writes (word Comma i) F in let m = after_marked p e n in
    let F2 = adds (placed_target p e n i) (text_switch_element (text_six os) p e) F1 in
    let more = targets W os p tells es k st (type_expr (described p) e) F2 m (last_expr e) in
    let out : List Symbol → List Symbol = λ rest. F.out (text_switch_elements (text_six os) p (MoreExprs i e es) rest) in
    record {
      value = more.value;
      line = more.line;
      goes_on = target W os p tells e (text_switch_elements (text_five os) p es k) (Plain ∷ st) v F1 n i
          ∙ more.goes_on
          ∙ ap (λ G. judge k (at W (Plain ∷ st) more.value (found G out) (after_targets p es m) more.line)) (back (insert_append
          (placed_target p e n i) (placed_targets p es m) F.faults));
    }

-- bounds are counted; a pair has two
bound : (W : World) (os : List Name) (p : Places) (tells : Tells W p) (a : ℕ) (e : Expr) (k : List Symbol) (st : List Open) (v :
    ExprType) (F : Found) (q l : ℕ)
    → judge (text_bound (text_five os) p e k) (at W (InSegment a ∷ st) v F (suc q) l)
    ≡ judge k (at W (InSegment (suc a)
    ∷ st) (type_expr (described p) e) (adds (placed_bound p (too_long most_bounds a) e q l) (text_bound (text_six
    os) p e) F) (after_marked p e q) (last_expr e))
bound W os p tells a e k st v F q l =
    let s = shuts MBound (last_expr e) in let F1 = writes (opens MBound (first_expr e)) (raises q l (too_long most_bounds a) F) in
    let out : List Symbol → List Symbol = λ rest. F.out (text_bound (text_six os) p e rest) in
    expr W os p tells e (s ∷ k) AtOperand refl (Bounding a q l ∷ InSegment (suc a)
    ∷ st) v F1 (within_mark q) (first_expr e) (λ m g v F. refl) (closes_bound W (last_expr e) k) (λ h.
    (closes_bound W (last_expr e) k).held)
    ∙ ap (λ G. judge k (at W (InSegment (suc a) ∷ st) (type_expr (described p) e) (found G out) (after_marked p e q)
    (last_expr e))) (in_list (a == most_bounds) (agree OfInteger (type_expr (described
    p) e)) WrongBound q l (placed_expr p e (within_mark q)) F.faults (suc q) (after_expr p e (within_mark q)) (rises p e q
    (within_mark q) (omega arith)) refl)

even : (a : ℕ) → (a + a == most_bounds) ≡ (a == most_subscripts)
even a = grind (arith, nat_tests)

odd : (a : ℕ) → (suc (a + a) == most_bounds) ≡ false
odd a = grind (arith, nat_tests)

two_more : (a : ℕ) → suc (suc (a + a)) ≡ suc a + suc a
two_more a = omega arith

pair : (W : World) (os : List Name) (p : Places) (tells : Tells W p) (before : ℕ) (b : BoundPair) (k : List Symbol) (st : List
    Open) (v : ExprType) (F : Found) (q l : ℕ)
    → Goes W (text_pair (text_five os) p b k) k (text_pair (text_six os) p b) (InSegment (before + before)
    ∷ st) (InSegment (suc before + suc before)
    ∷ st) v F (suc q) l (after_pair p b q) (placed_pair p (too_long most_subscripts before) b q l)
pair W os p tells before (MkPair a i b) k st v F q l =
    let c = before + before in let m = after_marked p a q in
    let ta = type_expr (described p) a in let tb = type_expr (described p) b in
    let F1 = writes (word Colon i) (adds (placed_bound p (too_long most_bounds c) a q l) (text_bound (text_six os) p a) F) in
    let out : List Symbol → List Symbol = λ rest. F.out (text_pair (text_six os) p (MkPair a i b) rest) in
    record {
      value = tb;
      line = last_expr b;
      goes_on = bound W os p tells c a (word Colon i ∷ text_bound (text_five os) p b k) st v F q l
          ∙ bound W os p tells (suc c) b k st ta F1 m i
          ∙ ap (λ z. judge k (at W (InSegment z ∷ st) tb
          (found (insert_all (placed_bound p (too_long most_bounds (suc c)) b m i)
          (insert_all (placed_bound p (too_long most_bounds c) a q
          l) F.faults)) out) (after_marked p b m) (last_expr b))) (two_more before)
          ∙ ap (λ z. judge k (at W (InSegment (suc before + suc before) ∷ st) tb
          (found (insert_all (placed_bound p (falls z ListTooLong) b m i)
          (insert_all (placed_bound p (too_long most_bounds c) a q
          l) F.faults)) out) (after_marked p b m) (last_expr b))) (odd before)
          ∙ ap (λ z. judge k (at W (InSegment (suc before + suc before) ∷ st) tb
          (found (insert_all (placed_bound p [] b m i)
          (insert_all (placed_bound p (falls z ListTooLong) a q
          l) F.faults)) out) (after_marked p b m) (last_expr b))) (even before)
          ∙ ap (λ G. judge k (at W (InSegment (suc before + suc before) ∷ st) tb (found G out) (after_marked p b m)
          (last_expr b))) (back (insert_append (placed_bound p (too_long most_subscripts
          before) a q l) (placed_bound p [] b m i) F.faults));
    }

abbrev bounds_behind : (before : ℕ) → List NextPair → ℕ
bounds_behind before [] = before + before
bounds_behind before (b ∷ bs) = bounds_behind (suc before) bs

pairs : (W : World) (os : List Name) (p : Places) (tells : Tells W p) (before : ℕ) (bs : List NextPair) (k : List Symbol) (st :
    List Open) (v : ExprType) (F : Found) (n l : ℕ)
    → Goes W (text_pairs (text_five os) p bs k) k (text_pairs (text_six os) p bs) (InSegment (before + before)
    ∷ st) (InSegment (bounds_behind before bs) ∷ st) v F n l (after_pairs p bs n) (placed_pairs p before bs n)
pairs W os p tells before [] k st v F n l = record { value = v; line = l; goes_on = refl }
pairs W os p tells before (b ∷ bs) k st v F n l =
    let F1 = writes (word Comma b.comma) F in let m = after_pair p b.pair n in
    let pb = placed_pair p (too_long most_subscripts before) b.pair n b.comma in
    let here = pair W os p tells before b.pair (text_pairs (text_five os) p bs k) st v F1 n b.comma in
    let F2 = adds pb (text_pair (text_six os) p b.pair) F1 in
    let more = pairs W os p tells (suc before) bs k st here.value F2 m here.line in
    let out : List Symbol → List Symbol = λ rest. F.out (text_pairs (text_six os) p (b ∷ bs) rest) in
    record {
      value = more.value;
      line = more.line;
      goes_on = here.goes_on ∙ more.goes_on
          ∙ ap (λ G. judge k (at W (InSegment (bounds_behind (suc before) bs) ∷ st) more.value (found G out)
          (after_pairs p bs m) more.line)) (back (insert_append pb (placed_pairs p (suc before) bs m) F.faults));
    }

abbrev last_name_of : List NextName → ℕ → ℕ
last_name_of [] l = l
last_name_of (x ∷ xs) l = last_name_of xs x.name.line

next_names_here : (W : World) (xs : List NextName) (k : List Symbol) (a : ℕ) (st : List Open) (v : ExprType) (F : Found) (n l : ℕ)
    → judge (next_names Declaring xs k) (at W (InSegment a ∷ st) v F n l)
    ≡ judge k (at W (InSegment a ∷ st) v (found F.faults (λ r. F.out (next_names Declaring xs r))) (after_next_names xs
    n) (last_name_of xs l))
next_names_here W [] k a st v F n l = refl
next_names_here W (x ∷ xs) k a st v F n l =
    next_names_here W xs k a st v (writes (sym Declaring x.name.number x.name.line) (writes (word Comma x.comma) F)) (suc (suc
    n)) x.name.line

segment : (W : World) (os : List Name) (p : Places) (tells : Tells W p) (g : Segment) (k : List Symbol) (st : List Open) (v :
    ExprType) (F : Found) (n l : ℕ)
    → Goes W (text_segment (text_five os) p g k) k (text_segment (text_six
    os) p g) st st v F n l (after_segment p g n) (placed_segment p g n)
segment W os p tells (MkSegment (MkNames x xs) i b bs j) k st v F n l =
    let q = after_next_names xs (suc (suc n)) in let m = after_pair p b q in
    let end = word RightBracket j ∷ shuts MSegment j ∷ k in
    let to_bs = text_pairs (text_five os) p bs end in
    let to_b = text_pair (text_five os) p b to_bs in
    let open_it = opens MSegment x.line in
    let F0 = writes (sym Declaring x.number x.line) (writes open_it F) in
    let F1 : Found = found F.faults (λ r. F.out (open_it ∷ names_as Declaring (MkNames x xs) (word LeftBracket i ∷ r))) in
    let here = pair W os p tells 0 b to_bs st v F1 q i in
    let F2 = adds (placed_pair p [] b q i) (text_pair (text_six os) p b) F1 in
    let more = pairs W os p tells 1 bs end st here.value F2 m here.line in
    let out : List Symbol → List Symbol = λ rest. F.out (text_segment (text_six os) p (MkSegment (MkNames x xs) i b bs j) rest) in
    record {
      value = more.value;
      line = j;
      goes_on = next_names_here W xs (word LeftBracket i ∷ to_b) 0 st v F0 (suc (suc n)) x.line
          ∙ here.goes_on ∙ more.goes_on
          ∙ ap (λ G. judge k (at W st more.value (found G out) (suc (suc (after_pairs p bs m))) j)) (back (insert_append
          (placed_pair p [] b q i) (placed_pairs p 1 bs m) F.faults));
    }

-- elements of a for list
turns : (W : World) (os : List Name) (p : Places) (tells : Tells W p) (u : Turns) (k : List Symbol) (st : List Open) (v :
    ExprType) (F : Found) (q l : ℕ)
    → Goes W (text_turns (text_five os) p u k) k (text_turns (text_six
    os) p u) st st v F (suc q) l (after_turns p u q) (placed_turns p u q l)
turns W os p tells (OneValue e) k st v F q l =
    let s = shuts MForElement (last_expr e) in let F1 = writes (opens MForElement (first_expr e)) F in
    let out : List Symbol → List Symbol = λ rest. F.out (text_turns (text_six os) p (OneValue e) rest) in
    record {
      value = type_expr (described p) e;
      line = last_expr e;
      goes_on = expr W os p tells e (s ∷ k) AtOperand refl (Turning q l
          ∷ st) v F1 (within_mark q) (first_expr e) (λ m g v F. refl) (closes_for_element W (last_expr e) k) (λ h.
          (closes_for_element W (last_expr e) k).held)
          ∙ ap (λ G. judge k (at W st (type_expr (described p) e) (found G out) (after_marked p e q)
          (last_expr e))) (prefix q l (wanted_kinds p OfInteger WrongElement e) (placed_expr p e (within_mark q)) F.faults
          (after_expr p e (within_mark q)) (rises p e q (within_mark q) (omega arith)));
    }
turns W os p tells (StepUntil a i b j c) k st v F q l =
    let n0 = within_mark q in let n1 = after_expr p a n0 in let n2 = after_expr p b (suc n1) in let n3 = after_expr p c (suc n2) in
    let ta = type_expr (described p) a in let tb = type_expr (described p) b in let tc = type_expr (described p) c in
    let ka = wanted_kinds p OfInteger WrongElement a in let kb = wanted_kinds p OfInteger WrongElement b in let kc =
    wanted_kinds p OfInteger WrongElement c in
    let pa = placed_expr p a n0 in let pb = placed_expr p b (suc n1) in let pc = placed_expr p c (suc n2) in
    let s = shuts MForElement (last_expr c) in
    let to_c = text_expr (text_five os) p c (s ∷ k) in let to_b = text_expr (text_five os) p b (word Until j ∷ to_c) in
    let F1 = writes (opens MForElement (first_expr a)) F in
    let F2 = writes (word Step i) (raises q l ka (adds pa (text_expr (text_six os) p a) F1)) in
    let F3 = writes (word Until j) (raises n1 i kb (adds pb (text_expr (text_six os) p b) F2)) in
    let out : List Symbol → List Symbol = λ rest. F.out (text_turns (text_six os) p (StepUntil a i b j c) rest) in
    let A = on_place q l ka ++ pa in let B = on_place n1 i kb ++ pb in let C = on_place n2 j kc ++ pc in
    record {
      value = tc;
      line = last_expr c;
      goes_on = expr W os p tells a (word Step i ∷ to_b) AtOperand refl (Turning q l
          ∷ st) v F1 n0 (first_expr a) (λ m g v F. refl) (closes_step W i to_b) (λ h. (closes_step W i to_b).held)
          ∙ expr W os p tells b (word Until j ∷ to_c) AtOperand refl (Turning n1 i
          ∷ st) ta F2 (suc n1) i (λ m g v F. refl) (closes_until W j to_c) (λ h. (closes_until W j to_c).held)
          ∙ expr W os p tells c (s ∷ k) AtOperand refl (Turning n2 j
          ∷ st) tb F3 (suc n2) j (λ m g v F. refl) (closes_for_element W (last_expr c) k) (λ h.
          (closes_for_element W (last_expr c) k).held)
          ∙ ap (λ G. judge k (at W st tc (found G out) (suc n3) (last_expr c)))
          (prefix n2 j kc pc F3.faults n3 (rises p c n2 (suc n2) (omega arith))
          ∙ ap (insert_all C) (prefix n1 i kb pb F2.faults n2 (rises p b n1 (suc n1) (omega arith))
          ∙ ap (insert_all B) (prefix q l ka pa F.faults n1 (rises p a q n0 (omega arith))))
          ∙ back (insert_append (A ++ B) C F.faults ∙ ap (insert_all C) (insert_append A B F.faults)));
    }
turns W os p tells (WhileTrue a i b) k st v F q l =
    let n0 = within_mark q in let n1 = after_expr p a n0 in let n2 = after_expr p b (suc n1) in
    let ta = type_expr (described p) a in let tb = type_expr (described p) b in
    let ka = wanted_kinds p OfInteger WrongElement a in let kb = wanted_kinds p OfBoolean WrongCondition b in
    let pa = placed_expr p a n0 in let pb = placed_expr p b (suc n1) in
    let s = shuts MForElement (last_expr b) in
    let to_b = text_expr (text_five os) p b (s ∷ k) in
    let F1 = writes (opens MForElement (first_expr a)) F in
    let F2 = writes (word While i) (raises q l ka (adds pa (text_expr (text_six os) p a) F1)) in
    let out : List Symbol → List Symbol = λ rest. F.out (text_turns (text_six os) p (WhileTrue a i b) rest) in
    let A = on_place q l ka ++ pa in let B = on_place n1 i kb ++ pb in
    record {
      value = tb;
      line = last_expr b;
      goes_on = expr W os p tells a (word While i ∷ to_b) AtOperand refl (Turning q l
          ∷ st) v F1 n0 (first_expr a) (λ m g v F. refl) (closes_while W i to_b) (λ h. (closes_while W i to_b).held)
          ∙ expr W os p tells b (s ∷ k) AtOperand refl (Repeating n1 i
          ∷ st) ta F2 (suc n1) i (λ m g v F. refl) (closes_for_element W (last_expr b) k) (λ h.
          (closes_for_element W (last_expr b) k).held)
          ∙ ap (λ G. judge k (at W st tb (found G out) (suc n2) (last_expr b)))
          (prefix n1 i kb pb F2.faults n2 (rises p b n1 (suc n1) (omega arith))
          ∙ ap (insert_all B) (prefix q l ka pa F.faults n1 (rises p a q n0 (omega arith)))
          ∙ back (insert_append A B F.faults));
    }

next_turns : (W : World) (os : List Name) (p : Places) (tells : Tells W p) (us : List NextTurns) (k : List Symbol) (st : List
    Open) (v : ExprType) (F : Found) (n l : ℕ)
    → Goes W (text_next_turns (text_five os) p us k) k (text_next_turns (text_six os) p us) (Plain ∷ st) (Plain
    ∷ st) v F n l (after_next_turns p us n) (placed_next_turns p us n)
next_turns W os p tells [] k st v F n l = record { value = v; line = l; goes_on = refl }
next_turns W os p tells (u ∷ us) k st v F n l =
    let F1 = writes (word Comma u.comma) F in let m = after_turns p u.turns n in
    let here = turns W os p tells u.turns (text_next_turns (text_five os) p us k) (Plain ∷ st) v F1 n u.comma in
    let F2 = adds (placed_turns p u.turns n u.comma) (text_turns (text_six os) p u.turns) F1 in
    let more = next_turns W os p tells us k st here.value F2 m here.line in
    let out : List Symbol → List Symbol = λ rest. F.out (text_next_turns (text_six os) p (u ∷ us) rest) in
    record {
      value = more.value;
      line = more.line;
      goes_on = here.goes_on ∙ more.goes_on
          ∙ ap (λ G. judge k (at W (Plain ∷ st) more.value (found G out) (after_next_turns p us m)
          more.line)) (back (insert_append (placed_turns p u.turns n u.comma) (placed_next_turns p us m) F.faults));
    }

pub parts : (W : World) (os : List Name) (p : Places) → Tells W p → PartsAreJudged W os p
parts W os p tells = record {
  jump = jump W os p tells;
  target = λ e k st v F q l. record {
    value = type_expr (described p) e;
    line = last_expr e;
    goes_on =
        target W os p tells e k st v F q l;
  };
  targets = targets W os p tells;
  pair = pair W os p tells;
  segment = segment W os p tells;
  turns = turns W os p tells;
  next_turns = next_turns W os p tells;
}
