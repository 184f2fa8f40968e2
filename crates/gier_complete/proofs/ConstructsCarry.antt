-- The pieces of which statements and declarations are put together carry each claim.
use Rattle.std.proofs.Common.{◌≡◌, ℕ, zero, suc, ◌+◌, ◌*◌, List, [], ◌∷◌, Option, None, Some, length, refl, sym, ap, arith}
use Rattle.std.specs.Prelude.{◌^◌}
use Rattle.gier_order.specs.declared.operation.Operation.TheVariants as op
use Rattle.gier_tree.specs.Coded.{scopes_of, code_expr, code_exprs, code_label, then_order}
use Rattle.gier_tree.specs.Declaring.{list_of, name_of_heading}
use Rattle.gier_tree.specs.Lines.{first_expr, first_name, first_left}
use Rattle.gier_tree.specs.Need.{need_expr}
use Rattle.gier_tree.specs.Orders.{State, Following, Code, number_of, also, first_label, order, with_label, define, new}
use Rattle.gier_tree.specs.Places.{Placed, Places}
use Rattle.gier_tree.specs.Room.{procedure_words, result_words}
use Rattle.gier_tree.specs.Text7.{labels_code, left_code, puts, lefts_code, assignment_code, set_to, do_next, step_value_code, turns_code}
use Rattle.gier_tree.specs.Text7.{next_turns_code, bound_code, pair_code, pairs_code, arrays_code, segment_code, segments_code}
use Rattle.gier_tree.specs.Text7.{table_code, switch_elements_code, switch_declared, procedure_declared, if_code, if_else_code}
use Rattle.gier_tree.specs.Text7.{for_code, block_code}
use Rattle.gier_tree.specs.Trees.{Name, Expr, Subscripted, BoundPair, MkPair, NextPair, Segment, MkSegment, NextSegment, Heading}
use Rattle.gier_tree.specs.Trees.{MkHeading, LabelPlace, LeftSide, OneName, LeftElement, LeftPart, Turns, OneValue, StepUntil}
use Rattle.gier_tree.specs.Trees.{WhileTrue, NextTurns}
use Rattle.gier_complete.proofs.Passing.{Labels, Ahead, Claim, IsCarried, Carries, CodeCarries, CarriesSo, CodeCarriesSo, one, none, joined, more}
use Rattle.gier_complete.proofs.Passing.{roomed, place_as, place_first}
use Rattle.gier_complete.proofs.PlacedLabels.{placed_labels}
use Rattle.gier_complete.proofs.PiecesCarry.{address_carries, value_carries, element_carries, evaluation_carries, then_carries}
use Rattle.gier_complete.proofs.ExpressionsCarry.{expr_carries, exprs_carry, label_value_carries}

turned : (q a b : ℕ) → (q + b) + a ≡ q + (a + b)
turned q a b = omega arith

grouped : (q a b : ℕ) → (q + a) + b ≡ q + (a + b)
grouped q a b = omega arith

swapped : (q a b : ℕ) → (q + b) + a ≡ (q + a) + b
swapped q a b = omega arith

and_none : (q : ℕ) → q ≡ q + 0
and_none q = omega arith

turned_so : (q a b x : ℕ) → ((q + b) + x) + a ≡ (q + (a + b)) + x
turned_so q a b x = omega arith

thrice : (q b x y : ℕ) → ((q + y) + b) + x ≡ ((q + b) + x) + y
thrice q b x y = omega arith

placed_between : (q at a x : ℕ) → ((q + x) + a) + at ≡ (q + (at + a)) + x
placed_between q at a x = omega arith

-- all of these labels
abbrev all : List ℕ → Labels
all [] weight = 0
all (x ∷ xs) weight = weight x + all xs weight

module _ (P : Claim) (h : IsCarried P) where
  pub also_carries : (a b : Code) → CodeCarries P a → CodeCarries P b → CodeCarries P (also a b)
  also_carries a b pa pb level w n go k st = pa level w n _ (λ s. pb level w n go k s) st

  pub also_so : (x y : Labels) (a b : Code) → CodeCarriesSo P x a → CodeCarriesSo P y b → CodeCarriesSo P (joined x y) (also a b)
  also_so x y a b pa pb level w n go k st =
      h.same (more (more n y) x) (more n (joined x y)) refl (λ weight. turned (n.places weight) (x weight) (y weight)) st _
      (pa level w (more n y) _ (λ s. pb level w n go k s) st)

  -- statements under a condition
  pub if_so : (line : ℕ) (x : Labels) (test so : Code) → CodeCarries P test → CodeCarriesSo P x so → CodeCarriesSo P x (if_code line test so)
  if_so line x test so pt ps level w n go k st =
      let m = more n x in
      pt level w m _ (λ s.
      let y = first_label + s.labels in
      h.a_new m _ _ (h.a_use _ _ (more m (one y)) _ _ (h.same (more (more n (one y)) x) (more m (one y)) refl (λ weight. swapped (n.places weight) (x weight) (weight y)) _ _
      (ps level w (more n (one y)) _ (λ s3. h.a_place _ _ n _ _ (k _)) _)))) st

  pub if_else_so : (line : ℕ) (a b : Labels) (test so otherwise : Code) → CodeCarries P test → CodeCarriesSo P a so → CodeCarriesSo P b otherwise → CodeCarriesSo P (joined a b) (if_else_code line test so otherwise)
  if_else_so line a b test so otherwise pt ps po level w n go k st =
      let m = more n (joined a b) in
      pt level w m _ (λ s.
      let x = first_label + s.labels in
      let n1 = more (more n b) (one x) in
      h.a_new m _ _ (h.a_use _ _ (more m (one x)) _ _ (h.same (more n1 a) (more m (one x)) refl (λ weight. turned_so (n.places weight) (a weight) (b weight) (weight x)) _ _
      (ps level w n1 _ (λ s3.
      let y = first_label + s3.labels in
      let n2 = more n (one y) in
      h.a_new n1 _ _ (h.a_use _ _ (more n1 (one y)) _ _ (place_as P h x _ (more n2 b) (more n1 (one y)) refl (λ weight. thrice (n.places weight) (b weight) (weight x) (weight y)) _ _
      (po level w n2 _ (λ s7. h.a_place _ _ n _ _ (k _)) _)))) _)))) st

  -- a block has its room before it and its need behind it
  pub block_so : (level need line words : ℕ) (x : Labels) (inside : Code) → CodeCarriesSo P x inside → CarriesSo P x (block_code level need line words inside)
  block_so level need line words x inside pi n go k st =
      h.a_room _ _ (more n x) _ _ (pi level words (roomed n) _ (λ s1. h.an_order op.Leave tt _ _ (roomed n) _ _ (h.a_need _ _ n _ _ (k _))) _)

  pub puts_carry : (count w line : ℕ) → Carries P (puts count w line)
  puts_carry zero w line n go k st = k st
  puts_carry (suc count) w line n go k st = h.an_order op.Put tt _ _ n _ _ (puts_carry count (w + 1) line n go k _)

  module _ (p : Places) where
    pub labels_so : (ls : List LabelPlace) → CodeCarriesSo P (placed_labels p ls) (labels_code p ls)
    labels_so [] level w n go k st = h.same n (more n none) refl (λ weight. and_none (n.places weight)) st (go st) (k st)
    labels_so (l ∷ ls) level w n go k st =
        let x = (p l.name.number).address in
        place_as P h x _ (more n (placed_labels p ls)) (more n (joined (one x) (placed_labels p ls))) refl
        (λ weight. turned (n.places weight) (weight x) (placed_labels p ls weight)) st _ (labels_so ls level w n go k st)

    left_carries : (x : LeftSide) → CodeCarries P (left_code p x)
    left_carries (OneName x) level w n go k st = address_carries P h (p x.number) x.line n go k st
    left_carries (LeftElement (Subscripted x l e es m)) level w n go k st =
        element_carries P h (p x.number) x.line (code_expr p e ∷ code_exprs p es) (expr_carries P h p e, exprs_carry P h p es) level w n go k st

    lefts_carry : (line : ℕ) (qs : List LeftPart) (right : Code) → CodeCarries P right → CodeCarries P (lefts_code p line qs right)
    lefts_carry line [] right pr level w n go k st = pr level w n go k st
    lefts_carry line (q ∷ qs) right pr level w n go k st =
        left_carries q.left level w n _ (λ s. h.an_order op.Keep tt (0 * 2 ^ 24 + w) line n _ _ (lefts_carry line qs right pr level (w + 1) n go k _)) st

    pub assignment_carries : (q : LeftPart) (qs : List LeftPart) (e : Expr) → CodeCarries P (assignment_code p q qs e)
    assignment_carries q qs e level w n go k st =
        lefts_carry (first_left q.left) (q ∷ qs) (code_expr p e) (expr_carries P h p e) level w n _
        (λ s. puts_carry (suc (length qs)) w (first_left q.left) n go k s) st

    -- elements of for lists
    set_carries : (x : Placed) (variable line : ℕ) (value : Code) → CodeCarries P value → CodeCarries P (set_to x variable line value)
    set_carries x variable line value pv level w n go k st =
        address_carries P h x variable n _ (λ s. h.an_order op.Keep tt (0 * 2 ^ 24 + (w + 1)) line n _ _ (pv level (w + 2) n _
        (λ s2. h.an_order op.Put tt (0 * 2 ^ 24 + (w + 1)) line n _ _ (k _)) _)) st

    -- behind elements the label of the controlled statement is known, and its place is to come
    abbrev Opens : Option ℕ → Ahead → ((s : ℕ) → Following) → Type 0
    Opens None n go = (b : ℕ) (s : State) → P (more n (one b)) s (go b s)
    Opens (Some label) n go = (s : State) → P n s (go label s)

    -- the same where another label is placed first
    opens_behind : (x line : ℕ) (label : Option ℕ) (n : Ahead) (go : (s : ℕ) → Following) → Opens label n go → Opens label (more n (one x)) (λ b s. define x s (go b))
    opens_behind x line None n go k = λ b s. place_first P h x b s.line n s (go b s) (k b s)
    opens_behind x line (Some label) n go k = λ s. h.a_place x s.line n s (go label s) (k s)

    do_next_carries : (back line w : ℕ) (label : Option ℕ) (n : Ahead) (go : (s : ℕ) → Following) → Opens label n go → (st : State) → P n st (do_next back line w label st go)
    do_next_carries back line w None n go k st =
        h.a_use _ _ n _ _ (h.an_order op.Keep tt _ _ n _ _ (h.a_new n _ _ (h.a_use _ _ (more n (one (first_label + st.labels))) _ _ (k _ _))))
    do_next_carries back line w (Some label) n go k st = h.a_use _ _ n _ _ (h.an_order op.Keep tt _ _ n _ _ (h.a_use _ _ n _ _ (k _)))

    step_carries : (x : Placed) (variable line : ℕ) (step : Code) → CodeCarries P step → CodeCarries P (step_value_code x variable line step)
    step_carries x variable line step ps level w n go k st =
        value_carries P h x variable n _ (λ s. h.an_order op.Keep tt (0 * 2 ^ 24 + w) line n _ _ (ps level (w + 1) n _
        (λ s2. h.an_order op.Add tt (0 * 2 ^ 24 + w) line n _ _ (k _)) _)) st

    turns_carry : (x : Placed) (variable : ℕ) (t : Turns) (level w : ℕ) (body : Option ℕ) (n : Ahead) (go : (s : ℕ) → Following) → Opens body n go → (st : State) → P n st (turns_code p x variable t level w body st go)
    turns_carry x variable (OneValue e) level w body n go k st =
        let line = first_expr e in
        set_carries x variable line (code_expr p e) (expr_carries P h p e) level w n _
        (λ s.
        let x = first_label + s.labels in
        h.a_new n _ _ (do_next_carries x line w body (more n (one x)) _ (opens_behind x line body n go k) _)) st
    turns_carry x variable (StepUntil a l b m c) level w body n go k st =
        let line = first_expr a in
        set_carries x variable line (code_expr p a) (expr_carries P h p a) level w n _
        (λ s.
        let n1 = more n (one (first_label + s.labels)) in
        h.a_new n _ _ (h.a_use (number_of op.Jump * 2 ^ 32 + 0 * 2 ^ 24 + (first_label + s.labels)) line n1 _ _
        (h.a_new n1 _ _ (h.a_place (first_label + suc s.labels) line n1 _ _
        (set_carries x variable line (step_value_code x variable line (code_expr p b)) (step_carries x variable line (code_expr p b) (expr_carries P h p b)) level w n1 _
        (λ s5. h.a_place (first_label + s.labels) s5.line n _ _ (value_carries P h x variable n _
        (λ s7. h.an_order op.Keep tt (0 * 2 ^ 24 + (w + 1)) line n _ _ (expr_carries P h p c level (w + 2) n _
        (λ s9. h.an_order op.Sub tt (0 * 2 ^ 24 + (w + 1)) line n _ _ (h.an_order op.Keep tt (0 * 2 ^ 24 + (w + 1)) line n _ _
        (expr_carries P h p b level (w + 2) n _
        (λ s12.
        let y = first_label + s12.labels in
        h.an_order op.Test tt (0 * 2 ^ 24 + (w + 1)) line n _ _
        (h.a_new n _ _ (h.a_use (number_of op.False * 2 ^ 32 + 0 * 2 ^ 24 + y) line (more n (one y)) _ _
        (do_next_carries (first_label + suc s.labels) line w body (more n (one y)) _ (opens_behind y line body n go k) _)))) _))) _)) _)) _))))) st
    turns_carry x variable (WhileTrue e l f) level w body n go k st =
        let line = first_expr e in
        h.a_new n _ _ (h.a_place (first_label + st.labels) st.line n _ _ (set_carries x variable line (code_expr p e) (expr_carries P h p e) level w n _
        (λ s2. expr_carries P h p f level (w + 1) n _
        (λ s3.
        let y = first_label + s3.labels in
        h.a_new n _ _ (h.a_use (number_of op.False * 2 ^ 32 + 0 * 2 ^ 24 + y) line (more n (one y)) _ _
        (do_next_carries (first_label + st.labels) line w body (more n (one y)) _ (opens_behind y line body n go k) _))) s2) _))

    next_turns_carry : (x : Placed) (variable : ℕ) (ts : List NextTurns) (level w body : ℕ) (n : Ahead) (go : (s : ℕ) → Following) → ((s : State) → P n s (go body s)) → (st : State) → P n st (next_turns_code p x variable ts level w body st go)
    next_turns_carry x variable [] level w body n go k st = k st
    next_turns_carry x variable (t ∷ ts) level w body n go k st =
        turns_carry x variable t.turns level w (Some body) n (λ b s. next_turns_code p x variable ts level w b s go) (λ s. next_turns_carry x variable ts level w body n go k s) st

    pub for_so : (line : ℕ) (a : Labels) (x : Name) (t : Turns) (ts : List NextTurns) (body : Code) → CodeCarriesSo P a body → CodeCarriesSo P a (for_code p line x t ts body)
    for_so line a x t ts body pb level w n go k st =
        let m = more n a in
        let behind : (c : ℕ) → Following = λ c s1. new s1 (λ end s2. with_label op.Jump 0 end line s2 (λ s3. define c s3 (λ s4. body level (w + 1) s4 (λ s5. order op.Turn 0 w line s5 (λ s6. define end s6 go))))) in
        turns_carry (p x.number) x.line t level w None m (λ b s. next_turns_code p (p x.number) x.line ts level w b s behind)
        (λ b s. next_turns_carry (p x.number) x.line ts level w b (more m (one b)) behind
        (λ s1.
        let end = first_label + s1.labels in
        let n1 = more n (one end) in
        h.a_new (more m (one b)) _ _ (h.a_use (number_of op.Jump * 2 ^ 32 + 0 * 2 ^ 24 + end) line (more (more m (one b)) (one end)) _ _
        (place_as P h b line (more n1 a) (more (more m (one b)) (one end)) refl (λ weight. thrice (n.places weight) (a weight) (weight b) (weight end)) _ _
        (pb level (w + 1) n1 _
        (λ s5. h.an_order op.Turn tt (0 * 2 ^ 24 + w) line n1 _ _ (h.a_place end line n _ _ (k _))) _)))) s) st

    -- array segments
    bound_carries : (e : Expr) (line : ℕ) → CodeCarries P (bound_code p e line)
    bound_carries e line level w n go k st = expr_carries P h p e level w n _ (λ s. h.an_order op.Keep tt (0 * 2 ^ 24 + w) line n _ _ (k _)) st

    pair_carries : (q : BoundPair) (line : ℕ) → CodeCarries P (pair_code p q line)
    pair_carries (MkPair a l b) line level w n go k st =
        bound_carries a line level w n _ (λ s. bound_carries b line level (w + 1) n go k s) st

    pairs_carry : (qs : List NextPair) (line : ℕ) → CodeCarries P (pairs_code p qs line)
    pairs_carry [] line level w n go k st = k st
    pairs_carry (q ∷ qs) line level w n go k st =
        pair_carries q.pair line level w n _ (λ s. pairs_carry qs line level (w + 2) n go k s) st

    arrays_carry : (xs : List Name) (count line w : ℕ) → Carries P (arrays_code p xs count line w)
    arrays_carry [] count line w n go k st = k st
    arrays_carry (x ∷ xs) count line w n go k st =
        h.an_order op.Short tt _ _ n _ _ (h.an_order op.Array tt _ _ n _ _ (arrays_carry xs count line w n go k _))

    pub segment_carries : (s : Segment) → CodeCarries P (segment_code p s)
    segment_carries (MkSegment ns l q qs m) level w n go k st =
        pair_carries q (first_name ns) level w n _ (λ s. pairs_carry qs (first_name ns) level (w + 2) n _
        (λ s1. arrays_carry (list_of ns) (suc (length qs)) (first_name ns) w n go k s1) s) st

    pub segments_carry : (ss : List NextSegment) → CodeCarries P (segments_code p ss)
    segments_carry [] level w n go k st = k st
    segments_carry (s ∷ ss) level w n go k st = segment_carries s.segment level w n _ (λ q. segments_carry ss level w n go k q) st

    -- switches
    table_carries : (count line : ℕ) (n : Ahead) (go : List ℕ → Following) → ((labels : List ℕ) (s : State) → length labels ≡ count → P (more n (all labels)) s (go labels s)) → (st : State) → P n st (table_code count line st go)
    table_carries zero line n go k st = h.same (more n none) n refl (λ weight. sym (and_none (n.places weight))) st (go [] st) (k [] st refl)
    table_carries (suc count) line n go k st =
        let x = first_label + st.labels in
        h.a_new n _ _ (h.a_word_use _ _ (more n (one x)) _ _ (table_carries count line (more n (one x)) (λ labels. go (x ∷ labels))
        (λ labels s e. h.same (more n (all (x ∷ labels))) (more (more n (one x)) (all labels)) refl (λ weight. sym (grouped (n.places weight) (weight x) (all labels weight))) s (go (x ∷ labels) s)
        (k (x ∷ labels) s (ap suc e))) _))

    elements_carry : (labels : List ℕ) (es : List Expr) → length labels ≡ length es → (n : Ahead) (go : Following) → ((s : State) → P n s (go s)) → (st : State) → P (more n (all labels)) st (switch_elements_code p labels es st go)
    elements_carry [] es e n go k st = h.same n (more n none) refl (λ weight. and_none (n.places weight)) st (go st) (k st)
    elements_carry (label ∷ labels) [] e n go k st = let none : ⊥ = omega arith in elim none [ ]
    elements_carry (label ∷ labels) (x ∷ es) e n go k st =
        let left : length labels ≡ length es = omega arith in
        place_as P h label st.line (more n (all labels)) (more n (all (label ∷ labels))) refl (λ weight. turned (n.places weight) (weight label) (all labels weight)) st _
        (evaluation_carries P h 2 (need_expr (scopes_of p) x) (first_expr x) (then_order op.Back (first_expr x) (code_label p x))
        (then_carries P h op.Back tt (first_expr x) (code_label p x) (label_value_carries P h p x)) (more n (all labels)) _ (λ s1. elements_carry labels es left n go k s1) st)

    pub switch_so : (line : ℕ) (x : Name) (es : List Expr) → CarriesSo P (one (p x.number).address) (switch_declared p line x es)
    switch_so line x es n go k st =
        let m = more n (one (p x.number).address) in
        let over = first_label + st.labels in
        let n1 = more n (one over) in
        h.a_new m _ _ (h.a_use _ _ (more m (one over)) _ _ (place_first P h (p x.number).address over _ n _ _ (h.a_word _ _ n1 _ _ (table_carries (length es) line n1 _
        (λ labels s4 e. elements_carry labels es e n1 _ (λ s5. h.a_place _ _ n _ _ (k _)) s4) _))))

    pub procedure_so : (level need line : ℕ) (g : Heading) (a : Labels) (body : Code) → CodeCarriesSo P a body → CarriesSo P (joined (one (p (name_of_heading g).number).address) a) (procedure_declared p level need line g body)
    procedure_so level need line (MkHeading t l x fs m vs ss) a body pb n go k st =
        let at = (p x.number).address in
        let n0 = more n (joined (one at) a) in
        let over = first_label + st.labels in
        let n1 = more n (one over) in
        h.a_new n0 _ _ (h.a_use _ _ (more n0 (one over)) _ _ (place_as P h at _ (more n1 a) (more n0 (one over)) refl (λ weight. placed_between (n.places weight) (weight at) (a weight) (weight over)) _ _
        (h.a_room _ _ (more n1 a) _ _ (h.a_word _ _ (more (roomed n1) a) _ _ (pb level (procedure_words (MkHeading t l x fs m vs ss)) (roomed n1) _
        (λ s5. h.an_order op.Return tt (0 * 2 ^ 24 + result_words t) line (roomed n1) _ _ (h.a_need _ _ n1 _ _ (h.a_place _ _ n _ _ (k _)))) _)))))
