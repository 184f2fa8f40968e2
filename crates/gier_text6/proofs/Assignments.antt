-- Over the text 5 of assignments the pass finds their faults and writes text 6.
use Rattle.std.proofs.Common.{◌≡◌, ◌∙◌, ◌++◌, ℕ, suc, Bool, true, List, [], ◌∷◌, refl, sym as back, ap, arith}
use Rattle.std.specs.Prelude.{not}
use Rattle.gier_symbol.specs.declared.symbol.Symbol.{Symbol}
use Rattle.gier_symbol.specs.declared.tag.Tag.TheVariants.{Becomes, LeftBracket, RightBracket, Semicolon, End}
use Rattle.gier_symbol.specs.declared.tag.Tag.TheVariants.{Subscripted as SubscriptedTag}
use Rattle.gier_symbol.specs.ByTag.{sym, word}
use Rattle.gier_tree.specs.declared.construct.Construct.TheVariants.{Subscript as MSubscript}
use Rattle.gier_tree.specs.declared.kind.Kind.{Kind}
use Rattle.gier_tree.specs.declared.kind.Kind.TheVariants.{Switch, SwitchFormal}
use Rattle.gier_tree.specs.Lines.{first_expr, last_expr}
use Rattle.gier_tree.specs.Need.{count_exprs}
use Rattle.gier_tree.specs.Places.{Places}
use Rattle.gier_tree.specs.Texts.{text_left, text_lefts}
use Rattle.gier_tree.specs.Trees.{Name, Expr, Element, Subscripted, LeftSide, OneName, LeftElement, LeftPart}
use Rattle.gier_tree.specs.Written.{opens, shuts, described_use, text_expr, text_element, text_subscripts}
use Rattle.gier_kinds.specs.AllowedUses.{array_type, element_type, left_type}
use Rattle.gier_kinds.specs.ExprFaults.{is_other_number, subscript_fault}
use Rattle.gier_kinds.specs.ExprTypes.{type_expr}
use Rattle.gier_kinds.specs.Faults.{TypeFault, WrongUse, WrongSubscripts, WrongAssignment, falls}
use Rattle.gier_kinds.specs.TypeFaults.{type_left}
use Rattle.gier_kinds.specs.Types.{ExprType, OfInteger, agree, is_known}
use Rattle.gier_text.specs.declared.fault.Fault.{Fault}
use Rattle.gier_faults.specs.Insertion.{insert_all}
use Rattle.gier_fair.specs.Described.{described}
use Rattle.gier_text6.specs.Ending.{finish, ended}
use Rattle.gier_text6.specs.Entering.{open_at}
use Rattle.gier_text6.specs.JudgedAssignments.{AreOpen, AssignmentsAreJudged}
use Rattle.gier_text6.specs.JudgedExpressions.{Tells, text_five, text_six, adds, at}
use Rattle.gier_text6.specs.Operators.{level_of}
use Rattle.gier_text6.specs.PassState.{Context, AtStatement, AtLeftPart, AtOperand, Nothing, AnElement, Open, Brackets}
use Rattle.gier_text6.specs.PassState.{Subscripting, Plain, LeftPart as ALeftPart, World, Found, found, raises, writes, core}
use Rattle.gier_text6.specs.PassState.{State, state}
use Rattle.gier_text6.specs.PlacedAssignments.{around, after_left, placed_left_element, placed_left, after_lefts, placed_lefts}
use Rattle.gier_text6.specs.PlacedAssignments.{after_assignment, placed_assignment}
use Rattle.gier_text6.specs.PlacedExpressions.{placed_expr, placed_subscripts}
use Rattle.gier_text6.specs.PlacedFaults.{on_place, raise}
use Rattle.gier_text6.specs.Positions.{after_use, after_expr, after_element, after_subscripts}
use Rattle.gier_text6.specs.PurePass.{judge, becomes_state, next}
use Rattle.gier_text6.specs.Uses.{element_becomes, left_part, written}
use Rattle.gier_text6.proofs.Closing.{start, Under, under_up, Closes, Ends, closes_subscript, closes_semicolon, zero_le}
use Rattle.gier_text6.proofs.Fitting.{above_use, fits_expr, fits_subscripts}
use Rattle.gier_text6.proofs.FittingParts.{fits_lefts}
use Rattle.gier_text6.proofs.Ladder.{expr, subscripts, the_use, use_held, number_told, total_next, total_is}
use Rattle.gier_text6.proofs.Rising.{insert_append, late, ends, one}

-- a switch as a left part is found wrong at its `:=` alone
abbrev late_use : Kind → List TypeFault
late_use Switch = WrongUse ∷ []
late_use SwitchFormal = WrongUse ∷ []
late_use kind = []

element_now : (kind : Kind) (q i n l : ℕ) (W : World) (st : List Open) (v : ExprType) (F : Found)
    → element_becomes (element_type kind) q i n l (core W st v F)
    ≡ core W (ALeftPart (array_type kind) n l ∷ st) v (raises q i (late_use kind) F)
element_now Switch q i n l W st v F = refl
element_now SwitchFormal q i n l W st v F = refl
element_now _ q i n l W st v F = refl

both_uses : (kind : Kind) (q i : ℕ) (F : List Fault)
    → raise q i (late_use kind) (raise q i (falls (not (is_known (element_type kind))) WrongUse) F)
    ≡ raise q i (falls (not (is_known (array_type kind))) WrongUse) F
both_uses Switch q i F = refl
both_uses SwitchFormal q i F = refl
both_uses _ q i F = refl

abbrev value_of : Places → Element → ExprType
value_of p (Subscripted x l e es m) = element_type (p x.number).what.kind

abbrev value_left : Places → LeftSide → ExprType → ExprType
value_left p (OneName x) v = v
value_left p (LeftElement e) v = value_of p e

-- what stands behind a left part and its `:=`
abbrev behind_left : World → (t : ExprType) (m i : ℕ) → List Open → ExprType → Found → State
behind_left W t m i st v F = state AtLeftPart Nothing W (ALeftPart t m i ∷ st) v F (suc m) i

first_name : (W : World) (os : List Name) (p : Places) (within : ℕ
    → Bool) (tells : Tells W p) (opened : AreOpen W p within) (x : Name) (i : ℕ) (w : List Symbol) (st : List Open) (v :
    ExprType) (F : Found) (n l : ℕ)
    → judge (described_use (p x.number) x.line (word Becomes i ∷ w)) (start AtStatement W st v F n l)
    ≡ judge w (behind_left W (type_left (around p within) (OneName x)) (after_use (p x.number) n) i st v (adds
    (placed_left within p (OneName x) n) (λ r. described_use (p x.number) x.line (word Becomes i ∷ r)) F))
first_name W os p within tells opened x i w st v F n l =
    let F1 = adds [] (described_use (p x.number) x.line) F in let m = after_use (p x.number) n in let kind =
    (p x.number).what.kind in
    use_held W p tells x.number x.line (word Becomes i ∷ w) AtStatement st v F n l
    ∙ ap (λ a. judge w (becomes_state (word Becomes i) m
    (left_part (the_use (p x.number) n x.line AtStatement) (left_type kind (open_at a W.numbered)) m i (core W st v
    F1)))) (number_told (p x.number).level (p x.number).address)
    ∙ ap (λ t. judge w (becomes_state (word Becomes i) m
    (left_part (the_use (p x.number) n x.line AtStatement) t m i (core W st v F1)))) (opened x.number)

first_element : (W : World) (os : List Name) (p : Places) (tells : Tells W p) (e : Element) (i : ℕ) (w : List Symbol) (st : List
    Open) (v : ExprType) (F : Found) (n l : ℕ) (within : ℕ → Bool)
    → judge (text_element (text_five os) p e (word Becomes i ∷ w)) (start AtStatement W st v F n l)
    ≡ judge w (behind_left W (type_left (around p within) (LeftElement e)) (after_element p e n) i st (value_of p e) (adds
    (placed_left_element p e n) (λ r. text_element (text_six os) p e (word Becomes i ∷ r)) F))
first_element W os p tells (Subscripted x i y ys m) j w st v F n l within =
    let d = (p x.number).what in let u = the_use (p x.number) n x.line AtStatement in let k = word Becomes j ∷ w in
    let n1 = after_use (p x.number) n in let n2 = suc (suc n1) in let n3 = after_expr p y n2 in let n4 = suc n3 in let n5 =
    after_subscripts p ys n4 in
    let ty = type_expr (described p) y in let fits = agree OfInteger ty in
    let ku = falls (not (is_known (element_type d.kind))) WrongUse in let kl =
    falls (not (is_known (array_type d.kind))) WrongUse in
    let kf = falls (is_other_number d.kind d.count (suc (count_exprs ys))) WrongSubscripts ++ subscript_fault ty in
    let py = placed_expr p y n2 in let pm = placed_subscripts p 1 ys n4 in
    let rest = text_subscripts (text_five os) p ys (word RightBracket m ∷ k) in
    let ends_y = shuts MSubscript (last_expr y) ∷ rest in
    let F0 = adds [] (described_use (p x.number) x.line) F in
    let F1 = writes (opens MSubscript (first_expr y)) (raises n x.line ku F0) in let F2 =
    writes (shuts MSubscript (last_expr y)) (adds py (text_expr (text_six os) p y) F1) in
    let t = element_type d.kind in
    let out : List Symbol → List Symbol = λ z. F.out (text_element (text_six os) p (Subscripted x i y ys m) z) in
    let out2 : List Symbol → List Symbol =
    λ z. F.out (text_element (text_six os) p (Subscripted x i y ys m) (word Becomes j ∷ z)) in
    let G0 = raise n x.line ku F.faults in let G2 = insert_all py G0 in let G3 = insert_all pm G2 in let G4 = raise n1 i kf G3 in
    use_held W p tells x.number x.line (word LeftBracket i ∷ opens MSubscript (first_expr y)
    ∷ text_expr (text_five os) p y ends_y) AtStatement st v F n l
    ∙ expr W os p tells y ends_y AtOperand refl (Subscripting n1 i ∷ Brackets u 1 n1 i true
    ∷ st) v F1 n2 (first_expr y) (λ m g v F. refl) (closes_subscript W (last_expr y) rest) (λ e.
    (closes_subscript W (last_expr y) rest).held)
    ∙ subscripts W os p tells ys 0 u n1 i fits m k st ty F2 n4 (last_expr y)
    ∙ ap (λ c. judge k (state AtOperand (AnElement t n x.line) W st t
    (found (raise n1 i (falls (is_other_number d.kind d.count c) WrongSubscripts ++ subscript_fault ty) G3) (λ z.
    F2.out (text_subscripts (text_six os) p ys (sym SubscriptedTag c i
    ∷ z)))) (suc n5) m)) (total_next 0 ys ∙ ap suc (total_is ys))
    ∙ ap (λ c. judge w (becomes_state (word Becomes j) (suc n5) c)) (element_now d.kind n x.line (suc n5) j W st t (found G4 out))
    ∙ ap (λ G. judge w (behind_left W (array_type d.kind) (suc n5) j st t (found G out2)))
    (late n x.line (late_use d.kind) n1 (suc n1) (on_place n1 i kf) (one n1 i kf).rising (above_use (p x.number) n) G3
    ∙ ap (raise n1 i kf) (late n x.line (late_use d.kind) n4 n5 pm (fits_subscripts p 1 ys n4).rising (omega
    (arith, above_use (p x.number) n, ends n2 n3 py _ (fits_expr p y n2))) G2
    ∙ ap (insert_all pm) (late n x.line (late_use d.kind) n2 n3 py (fits_expr p y n2).rising (omega
    (arith, above_use (p x.number) n)) G0
    ∙ ap (insert_all py) (both_uses d.kind n x.line F.faults)))
    ∙ late n1 i kf n4 n5 pm (fits_subscripts p 1 ys n4).rising (omega (
      arith,
      ends n2 n3 py _
          (fits_expr p y n2),
    )) (insert_all py (raise n x.line kl F.faults))
    ∙ ap (insert_all pm) (late n1 i kf n2 n3 py (fits_expr p y n2).rising (omega arith) (raise n x.line kl F.faults))
    ∙ back (insert_append (on_place n x.line kl ++ on_place n1 i kf ++ py) pm F.faults
    ∙ ap (insert_all pm) (insert_append (on_place n x.line kl ++ on_place n1 i kf) py F.faults
    ∙ ap (insert_all py) (insert_append (on_place n x.line kl) (on_place n1 i kf) F.faults))))

first : (W : World) (os : List Name) (p : Places) (within : ℕ
    → Bool) (tells : Tells W p) (opened : AreOpen W p within) (x : LeftSide) (i : ℕ) (w : List Symbol) (st : List Open) (v :
    ExprType) (F : Found) (n l : ℕ)
    → judge (text_left (text_five os) p x (word Becomes i ∷ w)) (start AtStatement W st v F n l)
    ≡ judge w (behind_left W (type_left (around p within) x) (after_left p x n) i st (value_left p x v) (adds
    (placed_left within p x n) (λ r. text_left (text_six os) p x (word Becomes i ∷ r)) F))
first W os p within tells opened (OneName x) i w st v F n l = first_name W os p within tells opened x i w st v F n l
first W os p within tells opened (LeftElement e) i w st v F n l = first_element W os p tells e i w st v F n l within

further_name : (W : World) (os : List Name) (p : Places) (within : ℕ
    → Bool) (tells : Tells W p) (opened : AreOpen W p within) (x : Name) (i : ℕ) (w : List Symbol) (st : List Open) (v :
    ExprType) (F : Found) (n l : ℕ)
    → judge (described_use (p x.number) x.line (word Becomes i ∷ w)) (start AtLeftPart W st v F n l)
    ≡ judge w (behind_left W (type_left (around p within) (OneName x)) (after_use (p x.number) n) i st v (adds
    (placed_left within p (OneName x) n) (λ r. described_use (p x.number) x.line (word Becomes i ∷ r)) F))
further_name W os p within tells opened x i w st v F n l =
    let F1 = adds [] (described_use (p x.number) x.line) F in let m = after_use (p x.number) n in let kind =
    (p x.number).what.kind in
    use_held W p tells x.number x.line (word Becomes i ∷ w) AtLeftPart st v F n l
    ∙ ap (λ a. judge w (becomes_state (word Becomes i) m
    (left_part (the_use (p x.number) n x.line AtLeftPart) (left_type kind (open_at a W.numbered)) m i (core W st v
    F1)))) (number_told (p x.number).level (p x.number).address)
    ∙ ap (λ t. judge w (becomes_state (word Becomes i) m
    (left_part (the_use (p x.number) n x.line AtLeftPart) t m i (core W st v F1)))) (opened x.number)

further_element : (W : World) (os : List Name) (p : Places) (tells : Tells W p) (e : Element) (i : ℕ) (w : List Symbol) (st :
    List Open) (v : ExprType) (F : Found) (n l : ℕ) (within : ℕ → Bool)
    → judge (text_element (text_five os) p e (word Becomes i ∷ w)) (start AtLeftPart W st v F n l)
    ≡ judge w (behind_left W (type_left (around p within) (LeftElement e)) (after_element p e n) i st (value_of p e) (adds
    (placed_left_element p e n) (λ r. text_element (text_six os) p e (word Becomes i ∷ r)) F))
further_element W os p tells (Subscripted x i y ys m) j w st v F n l within =
    let d = (p x.number).what in let u = the_use (p x.number) n x.line AtLeftPart in let k = word Becomes j ∷ w in
    let n1 = after_use (p x.number) n in let n2 = suc (suc n1) in let n3 = after_expr p y n2 in let n4 = suc n3 in let n5 =
    after_subscripts p ys n4 in
    let ty = type_expr (described p) y in let fits = agree OfInteger ty in
    let ku = falls (not (is_known (element_type d.kind))) WrongUse in let kl =
    falls (not (is_known (array_type d.kind))) WrongUse in
    let kf = falls (is_other_number d.kind d.count (suc (count_exprs ys))) WrongSubscripts ++ subscript_fault ty in
    let py = placed_expr p y n2 in let pm = placed_subscripts p 1 ys n4 in
    let rest = text_subscripts (text_five os) p ys (word RightBracket m ∷ k) in
    let ends_y = shuts MSubscript (last_expr y) ∷ rest in
    let F0 = adds [] (described_use (p x.number) x.line) F in
    let F1 = writes (opens MSubscript (first_expr y)) (raises n x.line ku F0) in let F2 =
    writes (shuts MSubscript (last_expr y)) (adds py (text_expr (text_six os) p y) F1) in
    let t = element_type d.kind in
    let out : List Symbol → List Symbol = λ z. F.out (text_element (text_six os) p (Subscripted x i y ys m) z) in
    let out2 : List Symbol → List Symbol =
    λ z. F.out (text_element (text_six os) p (Subscripted x i y ys m) (word Becomes j ∷ z)) in
    let G0 = raise n x.line ku F.faults in let G2 = insert_all py G0 in let G3 = insert_all pm G2 in let G4 = raise n1 i kf G3 in
    use_held W p tells x.number x.line (word LeftBracket i ∷ opens MSubscript (first_expr y)
    ∷ text_expr (text_five os) p y ends_y) AtLeftPart st v F n l
    ∙ expr W os p tells y ends_y AtOperand refl (Subscripting n1 i ∷ Brackets u 1 n1 i true
    ∷ st) v F1 n2 (first_expr y) (λ m g v F. refl) (closes_subscript W (last_expr y) rest) (λ e.
    (closes_subscript W (last_expr y) rest).held)
    ∙ subscripts W os p tells ys 0 u n1 i fits m k st ty F2 n4 (last_expr y)
    ∙ ap (λ c. judge k (state AtOperand (AnElement t n x.line) W st t
    (found (raise n1 i (falls (is_other_number d.kind d.count c) WrongSubscripts ++ subscript_fault ty) G3) (λ z.
    F2.out (text_subscripts (text_six os) p ys (sym SubscriptedTag c i
    ∷ z)))) (suc n5) m)) (total_next 0 ys ∙ ap suc (total_is ys))
    ∙ ap (λ c. judge w (becomes_state (word Becomes j) (suc n5) c)) (element_now d.kind n x.line (suc n5) j W st t (found G4 out))
    ∙ ap (λ G. judge w (behind_left W (array_type d.kind) (suc n5) j st t (found G out2)))
    (late n x.line (late_use d.kind) n1 (suc n1) (on_place n1 i kf) (one n1 i kf).rising (above_use (p x.number) n) G3
    ∙ ap (raise n1 i kf) (late n x.line (late_use d.kind) n4 n5 pm (fits_subscripts p 1 ys n4).rising (omega
    (arith, above_use (p x.number) n, ends n2 n3 py _ (fits_expr p y n2))) G2
    ∙ ap (insert_all pm) (late n x.line (late_use d.kind) n2 n3 py (fits_expr p y n2).rising (omega
    (arith, above_use (p x.number) n)) G0
    ∙ ap (insert_all py) (both_uses d.kind n x.line F.faults)))
    ∙ late n1 i kf n4 n5 pm (fits_subscripts p 1 ys n4).rising (omega (
      arith,
      ends n2 n3 py _
          (fits_expr p y n2),
    )) (insert_all py (raise n x.line kl F.faults))
    ∙ ap (insert_all pm) (late n1 i kf n2 n3 py (fits_expr p y n2).rising (omega arith) (raise n x.line kl F.faults))
    ∙ back (insert_append (on_place n x.line kl ++ on_place n1 i kf ++ py) pm F.faults
    ∙ ap (insert_all pm) (insert_append (on_place n x.line kl ++ on_place n1 i kf) py F.faults
    ∙ ap (insert_all py) (insert_append (on_place n x.line kl) (on_place n1 i kf) F.faults))))

further : (W : World) (os : List Name) (p : Places) (within : ℕ
    → Bool) (tells : Tells W p) (opened : AreOpen W p within) (x : LeftSide) (i : ℕ) (w : List Symbol) (st : List Open) (v :
    ExprType) (F : Found) (n l : ℕ)
    → judge (text_left (text_five os) p x (word Becomes i ∷ w)) (start AtLeftPart W st v F n l)
    ≡ judge w (behind_left W (type_left (around p within) x) (after_left p x n) i st (value_left p x v) (adds
    (placed_left within p x n) (λ r. text_left (text_six os) p x (word Becomes i ∷ r)) F))
further W os p within tells opened (OneName x) i w st v F n l = further_name W os p within tells opened x i w st v F n l
further W os p within tells opened (LeftElement e) i w st v F n l = further_element W os p tells e i w st v F n l within

ends_now : (context : Context) (s : Symbol) (w : List Symbol) (W : World) (st : List Open) (u : Under W 0 st) (v : ExprType) (F
    : Found) (n : ℕ) → judge w (next context Nothing s n (written s (ended
    (core W st v F)))) ≡ judge w (next context Nothing s n (written s (ended (finish 0 W st v F))))
ends_now context s w W st u v F n = ap (λ c. judge w (next context Nothing s n (written s (ended c)))) (back (u 0 refl v F))

-- an assignment ends where this begins
record EndsRight (W : World) (k : List Symbol) : Type 0 where
  closes : Closes W 1 k
  right : Ends W AtLeftPart k
  assigned : (t : ExprType) (q i : ℕ) (st : List Open) → Under W 0 st → (v : ExprType) (F : Found) (n l : ℕ)
      → judge k (at W (ALeftPart t q i ∷ st) v F n l)
      ≡ judge k (at W st v (raises q i (falls (not (agree t v)) WrongAssignment) F) n l)

joined : (W : World) (os : List Name) (p : Places) (within : ℕ
    → Bool) (q : LeftPart) (qs : List LeftPart) (e : Expr) (k : List Symbol) (ends : EndsRight W k) (st : List Open) (u : Under
    W 0 st) (F : Found) (n : ℕ)
    → judge k (at W (ALeftPart (type_left (around p within) q.left) (after_left p q.left n) q.becomes
    ∷ st) (type_expr (described p) e) (adds (placed_assignment within p qs e (suc (after_left p q.left n))) (λ r.
    text_lefts (text_six os) p qs (text_expr (text_six os) p e r)) (adds (placed_left within p q.left n) (λ r.
    text_left (text_six os) p q.left (word Becomes q.becomes
    ∷ r)) F)) (after_assignment p qs e (suc (after_left p q.left n))) (last_expr e))
    ≡ judge k (at W st (type_expr (described p) e) (adds (placed_assignment within p (q ∷ qs) e n)
    (λ r. text_lefts (text_six os) p (q ∷ qs) (text_expr (text_six os) p e r)) F) (after_assignment p (q
    ∷ qs) e n) (last_expr e))
joined W os p within q qs e k ends st u F n =
    let m = after_left p q.left n in let te = type_expr (described p) e in
    let ka = falls (not (agree (type_left (around p within) q.left) te)) WrongAssignment in
    let pl = placed_left within p q.left n in let ps = placed_lefts within p te qs (suc m) in let pe =
    placed_expr p e (after_lefts p qs (suc m)) in
    let pa = placed_assignment within p qs e (suc m) in
    let out : List Symbol → List Symbol = λ r. F.out (text_lefts (text_six os) p (q ∷ qs) (text_expr (text_six os) p e r)) in
    let last = after_assignment p qs e (suc m) in
    ends.assigned (type_left (around p within) q.left) m q.becomes st u te (found (insert_all pa
    (insert_all pl F.faults)) out) last (last_expr e)
    ∙ ap (λ G. judge k (at W st te (found G out) last (last_expr e)))
    (late m q.becomes ka (suc m) last pa (fits_lefts p within qs e (suc m)).rising (omega arith) (insert_all pl F.faults)
    ∙ insert_append ps pe (raise m q.becomes ka (insert_all pl F.faults))
    ∙ back (insert_append (pl ++ on_place m q.becomes ka ++ ps) pe F.faults
    ∙ ap (insert_all pe) (insert_append (pl ++ on_place m q.becomes ka) ps F.faults
    ∙ ap (insert_all ps) (insert_append pl (on_place m q.becomes ka) F.faults))))

lefts : (W : World) (os : List Name) (p : Places) (within : ℕ
    → Bool) (tells : Tells W p) (opened : AreOpen W p within) (qs : List LeftPart) (e : Expr) (k : List Symbol) (ends :
    EndsRight W k) (st : List Open) (u : Under W 0 st) (v : ExprType) (F : Found) (n l : ℕ)
    → judge (text_lefts (text_five os) p qs (text_expr (text_five os) p e k)) (start AtLeftPart W st v F n l)
    ≡ judge k (at W st (type_expr (described p) e) (adds (placed_assignment within p qs e n)
    (λ r. text_lefts (text_six os) p qs (text_expr (text_six os) p e r)) F) (after_assignment p qs e n) (last_expr e))
lefts W os p within tells opened [] e k ends st u v F n l =
    expr W os p tells e k AtLeftPart refl st v F n l (under_up W 0 1 st refl u) ends.closes (λ h. ends.right)
lefts W os p within tells opened (q ∷ qs) e k ends st u v F n l =
    further W os p within tells opened q.left q.becomes (text_lefts (text_five os) p qs (text_expr (text_five os) p e k)) st v F n l
    ∙ lefts W os p within tells opened qs e k ends (ALeftPart (type_left (around p within) q.left) (after_left p q.left
    n) q.becomes ∷ st) (λ m g v F. refl) (value_left p q.left v) (adds (placed_left within p q.left n) (λ r.
    text_left (text_six os) p q.left (word Becomes q.becomes ∷ r)) F) (suc (after_left p q.left n)) q.becomes
    ∙ joined W os p within q qs e k ends st u F n

-- an assignment as a statement
assignment : (W : World) (os : List Name) (p : Places) (within : ℕ
    → Bool) (tells : Tells W p) (opened : AreOpen W p within) (q : LeftPart) (qs : List LeftPart) (e : Expr) (k : List Symbol)
    (ends : EndsRight W k) (st : List Open) (u : Under W 0 st) (v : ExprType) (F : Found) (n l : ℕ)
    → judge (text_lefts (text_five os) p (q ∷ qs) (text_expr (text_five os) p e k)) (start AtStatement W st v F n l)
    ≡ judge k (at W st (type_expr (described p) e) (adds (placed_assignment within p (q ∷ qs) e n)
    (λ r. text_lefts (text_six os) p (q ∷ qs) (text_expr (text_six os) p e r)) F) (after_assignment p (q
    ∷ qs) e n) (last_expr e))
assignment W os p within tells opened q qs e k ends st u v F n l =
    first W os p within tells opened q.left q.becomes (text_lefts (text_five os) p qs (text_expr (text_five os) p e k)) st v F n l
    ∙ lefts W os p within tells opened qs e k ends (ALeftPart (type_left (around p within) q.left) (after_left p q.left
    n) q.becomes ∷ st) (λ m g v F. refl) (value_left p q.left v) (adds (placed_left within p q.left n) (λ r.
    text_left (text_six os) p q.left (word Becomes q.becomes ∷ r)) F) (suc (after_left p q.left n)) q.becomes
    ∙ joined W os p within q qs e k ends st u F n

right_semicolon : (W : World) (i : ℕ) (w : List Symbol) → EndsRight W (word Semicolon i ∷ w)
right_semicolon W i w = record {
  closes = closes_semicolon W i w;
  right = λ kind number count q j st v F n l. refl;
  assigned =
      λ t q j st u v F n l. ends_now AtStatement (word Semicolon i) w W st u v (raises q j (falls (not (agree t v))
      WrongAssignment) F) n;
}

right_end : (W : World) (i : ℕ) (w : List Symbol) → EndsRight W (word End i ∷ w)
right_end W i w = record {
  closes = record {
    waits = λ t q j b st v F n l h. rw (zero_le (level_of t)) refl;
    held =
        λ kind number count q j st v F n l. refl;
    dropped = λ t q j st v F n l. refl;
  };
  right = λ kind number count q j st v F n l. refl;
  assigned = λ t q j st u v F n l.
      ends_now AtOperand (word End i) w W st u v (raises q j (falls (not (agree t v)) WrongAssignment) F) n;
}

pub assignments : AssignmentsAreJudged
assignments i W os p within tells opened = (
  λ q qs e k st v F n l. assignment W os p within tells opened q qs e (word Semicolon i ∷ k) (right_semicolon W i k) (Plain
      ∷ st) (λ m g v F. refl) v F n l,
  λ q qs e k st v F n l. assignment W os p within tells opened q qs e (word End i ∷ k) (right_end W i k) (Plain
      ∷ st) (λ m g v F. refl) v F n l,
)
