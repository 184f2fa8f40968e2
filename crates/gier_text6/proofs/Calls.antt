-- Over calls that are statements, conditions and controlled variables the pass finds their faults and writes text 6.
use Rattle.std.proofs.Common.{◌≡◌, ◌∙◌, ◌++◌, ℕ, suc, true, List, [], ◌∷◌, refl, sym as back, ap, arith}
use Rattle.gier_text6.specs.Positions.{after_call, after_use, after_expr, after_actual, after_actuals}
use Rattle.gier_text6.specs.Uses.{faulty_use, call_begins}
use Rattle.gier_tree.specs.Written.{text_call, described_use, expected_kinds, further_expected, text_expr, text_actual}
use Rattle.gier_tree.specs.Written.{text_actuals}
use Rattle.gier_tree.specs.Trees.{Call, Name, Expr, Alone, WithActuals, Actual, Actuals}
use Rattle.std.specs.Prelude.{not}
use Rattle.gier_symbol.specs.declared.symbol.Symbol.{Symbol}
use Rattle.gier_symbol.specs.declared.tag.Tag.TheVariants.{LeftParenthesis, RightParenthesis, If, Then, Called, Semicolon, End}
use Rattle.gier_symbol.specs.declared.tag.Tag.TheVariants.{Becomes}
use Rattle.gier_symbol.specs.ByTag.{sym, word}
use Rattle.gier_tree.specs.Need.{count_actuals}
use Rattle.gier_tree.specs.Places.{Places}
use Rattle.gier_kinds.specs.Actuals.{wanted_behind, known_formals, is_other_count, actual_fits}
use Rattle.gier_kinds.specs.AllowedUses.{called_type, is_controllable, is_statement}
use Rattle.gier_kinds.specs.ExprFaults.{AsStatement, may_be_called, actual_fault, wanted_of, may_stand, faults_call}
use Rattle.gier_kinds.specs.ExprTypes.{type_expr}
use Rattle.gier_kinds.specs.Faults.{WrongUse, WrongCount, WrongCondition, falls}
use Rattle.gier_kinds.specs.Types.{ExprType, OfBoolean}
use Rattle.gier_faults.specs.Insertion.{insert_all}
use Rattle.gier_fair.specs.Described.{described}
use Rattle.gier_text6.specs.JudgedExpressions.{Tells, text_five, text_six, adds, at}
use Rattle.gier_text6.specs.PassState.{AtStatement, AtVariable, AtOperand, Nothing, Open, World, Found, found, raises, writes}
use Rattle.gier_text6.specs.PassState.{core, state, Deciding, Plain}
use Rattle.gier_text6.specs.PlacedExpressions.{placed_expr, placed_actual, placed_actuals}
use Rattle.gier_text6.specs.PlacedFaults.{on_place, raise, Fits}
use Rattle.gier_text6.specs.PurePass.{judge}
use Rattle.gier_text6.proofs.Rising.{insert_append, late, ends, prefix, both, one, widen}
use Rattle.gier_text6.proofs.Fitting.{fits_actual, fits_actuals, above_use}
use Rattle.gier_text6.proofs.Closing.{start, holding, closes_then}
use Rattle.gier_text6.specs.JudgedCalls.{CallIsJudged, HeadsAreJudged, HeadsFit}
use Rattle.gier_text6.specs.PlacedCalls.{placed_statement_call, after_condition, placed_condition}
use Rattle.gier_text6.specs.PlacedParts.{wanted_kinds}
use Rattle.gier_text6.proofs.FittingParts.{wanted}
use Rattle.gier_text6.proofs.Ladder.{the_use, use_held, told, actuals_next, actuals_is, value_behind, last_actual, expr, actual}
use Rattle.gier_text6.proofs.Ladder.{actuals}
use Rattle.gier_text6.proofs.Parts.{rises}

with_actuals : (W : World) (os : List Name) (p : Places) (tells : Tells W p) (x : Name) (i : ℕ) (y : Actual) (more : Actuals) (m
    : ℕ) (k : List Symbol) (st : List Open) (v : ExprType) (F : Found) (n l : ℕ)
    → judge (text_call (text_five os) p (WithActuals x i y more m) k) (start AtStatement W st v F n l)
    ≡ judge k (at W st (called_type (p x.number).what.kind (p x.number).what.count) (adds
    (placed_statement_call p (WithActuals x i y more m) n) (text_call (text_six os) p (WithActuals x i y more
    m)) F) (after_call p (WithActuals x i y more m) n) m)
with_actuals W os p tells x i y more m k st v F n l =
    let d = (p x.number).what in let w = wanted_of AsStatement d in let e = expected_kinds d in
    let n1 = after_use (p x.number) n in let n2 = after_actual p y (suc n1) in let n3 = after_actuals p more n2 in
    let fits = actual_fits (described p) w y in
    let ku = falls (not (may_be_called AsStatement d)) WrongUse in
    let kf = falls (is_other_count (known_formals d) (suc (count_actuals more))) WrongCount ++ actual_fault fits in
    let py = placed_actual p y (suc n1) in let pm = placed_actuals p (wanted_behind w) 1 more n2 in
    let rest = text_actuals (text_five os) p (further_expected e) more (word RightParenthesis m ∷ k) in
    let F0 = adds [] (described_use (p x.number) x.line) F in
    let F1 = raises n x.line ku F0 in let F2 = adds py (text_actual (text_six os) p e y) F1 in
    let out : List Symbol → List Symbol = λ z. F.out (text_call (text_six os) p (WithActuals x i y more m) z) in
    use_held W p tells x.number x.line (word LeftParenthesis i ∷ text_actual (text_five os) p e y rest) AtStatement st v F n l
    ∙ ap (λ d. judge (text_actual (text_five os) p e y rest) (record {
      core = call_begins AsStatement d n x.line n1 i (core W st v F0);
      held = Nothing;
      context = AtOperand;
      position =
          suc n1;
      line = i;
    })) (told W p tells x.number n x.line AtStatement)
    ∙ actual W os p tells y e rest d w 0 n1 i true st v F1 n1 i
    ∙ actuals W os p tells more (further_expected e) 0 d (wanted_behind w) n1 i fits m k st (value_behind p y v) F2 n2
    (last_actual y)
    ∙ ap (λ t. judge k (at W st (called_type d.kind d.count)
    (found (raise n1 i (falls (is_other_count (known_formals d) t) WrongCount ++ actual_fault fits)
    (insert_all pm F2.faults)) (λ z.
    F2.out (text_actuals (text_six os) p (further_expected e) more (sym Called t i
    ∷ z)))) (suc n3) m)) (actuals_next 0 more ∙ ap suc (actuals_is more))
    ∙ ap (λ G. judge k (at W st (called_type d.kind d.count) (found G out) (suc n3) m))
    (late n1 i kf n2 n3 pm (fits_actuals p (wanted_behind w) 1 more n2).rising (omega
    (arith, ends (suc n1) n2 py _ (fits_actual p y (suc n1)))) F2.faults
    ∙ ap (insert_all pm) (late n1 i kf (suc n1) n2 py (fits_actual p y (suc n1)).rising (omega arith) F1.faults)
    ∙ back (insert_append (on_place n x.line ku ++ on_place n1 i kf ++ py) pm F.faults
    ∙ ap (insert_all pm) (insert_append (on_place n x.line ku ++ on_place n1 i kf) py F.faults
    ∙ ap (insert_all py) (insert_append (on_place n x.line ku) (on_place n1 i kf) F.faults))))

-- what follows tells that an identifier alone is a call
call : (s : Symbol) (W : World) (os : List Name) (p : Places) (tells : Tells W p) (c : Call) (k : List Symbol) (ends : (x :
    Name) (st : List Open) (v : ExprType) (F : Found) (n m l : ℕ) → judge (s
    ∷ k) (holding (the_use (p x.number) n x.line AtStatement) W st v F m l) ≡ judge (s
    ∷ k) (at W st v (writes (sym Called 0 x.line) (faulty_use (the_use (p x.number) n x.line AtStatement)
    (is_statement (p x.number).what.kind (p x.number).what.count) F)) m l)) (st : List Open) (v : ExprType) (F : Found) (n l :
    ℕ) → CallIsJudged s W os p c k st v F n l
call s W os p tells (Alone x) k ends st v F n l = record {
  value = v;
  line = x.line;
  goes_on = use_held W p tells x.number x.line (s ∷ k) AtStatement st v F n l
      ∙ ends x st v (adds [] (described_use (p x.number) x.line) F) n (after_use (p x.number) n) x.line;
}
call s W os p tells (WithActuals x i y more m) k ends st v F n l = record {
  value = called_type (p x.number).what.kind (p x.number).what.count;
  line = m;
  goes_on = with_actuals W os p tells x i y more m (s ∷ k) st v F n l;
}

condition : (W : World) (os : List Name) (p : Places) (tells : Tells W p) (e : Expr) (i j q m : ℕ) (k : List Symbol) (st : List
    Open) (v : ExprType) (F : Found) (n l : ℕ)
    → judge (word If i ∷ text_expr (text_five os) p e (word Then j ∷ k)) (state AtStatement Nothing W (Deciding q m
    ∷ st) v F n l) ≡ judge k (state AtStatement Nothing W (Deciding n i
    ∷ st) (type_expr (described p) e) (adds (placed_condition p i e n) (λ rest. word If i
    ∷ text_expr (text_six os) p e (word Then j ∷ rest)) F) (after_condition p e n) j)
condition W os p tells e i j q m k st v F n l =
    let out : List Symbol → List Symbol = λ rest. F.out (word If i ∷ text_expr (text_six os) p e (word Then j ∷ rest)) in
    expr W os p tells e (word Then j ∷ k) AtOperand refl (Deciding n i
    ∷ st) v (writes (word If i) F) (suc n) i (λ m g v F. refl) (closes_then W j k) (λ h. (closes_then W j k).held)
    ∙ ap (λ G. judge k (state AtStatement Nothing W (Deciding n i ∷ st) (type_expr (described p) e) (found G out)
    (after_condition p e n) j)) (prefix n i (wanted_kinds p OfBoolean WrongCondition e) (placed_expr p e (suc n)) F.faults
    (after_expr p e (suc n)) (rises p e n (suc n) (omega arith)))

pub heads : (W : World) (os : List Name) (p : Places) → Tells W p → HeadsAreJudged W os p
heads W os p tells = record {
  before_semicolon = λ i c k st v F n l. call (word Semicolon i) W os p tells c k (λ x st v F n m l. refl) st v F n l;
  before_end = λ i c k st v F n l. call (word End i) W os p tells c k (λ x st v F n m l. refl) st v F n l;
  condition = condition W os p tells;
  variable = λ x i k st v F n l. use_held W p tells x.number x.line (word Becomes i ∷ k) AtVariable (Plain ∷ st) v F n l;
}

fits_statement_call : (p : Places) (x : Call) (n : ℕ)
    → Fits n (after_call p x n) (placed_statement_call p x n) (faults_call AsStatement (described p) x)
fits_statement_call p (Alone x) n =
    widen n n (suc n) _ _ _ (omega arith) (above_use (p x.number) n) (one n x.line (falls
    (not (may_stand AsStatement (described p x.number))) WrongUse))
fits_statement_call p (WithActuals x l a more m) n =
    let d = described p x.number in
    let n1 = after_use (p x.number) n in let n2 = after_actual p a (suc n1) in let n3 = after_actuals p more n2 in
    let g1 = both n n1 (suc n1) _ _ _ _ (widen n n (suc n) n1 _ _ (omega arith) (above_use (p x.number) n) (one n x.line
    (falls (not (may_be_called AsStatement d)) WrongUse)))
    (one n1 l (falls (is_other_count (known_formals d) (suc (count_actuals more))) WrongCount
    ++ actual_fault (actual_fits (described p) (wanted_of AsStatement d) a))) in
    let g2 = both n (suc n1) n2 _ _ _ _ g1 (fits_actual p a (suc n1)) in
    widen n n n3 (suc n3) _ _ (omega arith) (omega arith) (both n n2 n3 _ _ _ _ g2 (fits_actuals p
    (wanted_behind (wanted_of AsStatement d)) 1 more n2))

pub heads_fit : (p : Places) → HeadsFit p
heads_fit p = record {
  call = fits_statement_call p;
  condition = λ l e n. widen n n (after_expr p e (suc
      n)) (after_condition p e n) _ _ (omega arith) (omega arith) (wanted p (wanted_kinds p OfBoolean WrongCondition e) e n l
      (suc n) (omega arith));
  variable = λ x n. widen n n (suc n) (after_use (p x.number) n) _ _ (omega arith) (above_use (p
      x.number) n) (one n x.line (falls (not (is_controllable (described p x.number).kind)) WrongUse));
}
