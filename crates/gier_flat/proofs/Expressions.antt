-- Conditional expressions, and expressions of all rules.
use Rattle.std.proofs.Common.{◌≡◌, ℕ, suc, ◌+◌, ◌<◌, ◌≤◌, Bool, true, false, ℤ, pos, List, [], ◌∷◌, length, Option, Some, None, refl, sym, ap, ◌∙◌, subst, arith}
use Rattle.std.specs.Prelude.{Ok, drop, ◌==◌, ◌^◌, not, nat_lt, max, if◌then◌else◌}
use Rattle.std.proofs.lemmas.Bool.{ltb-true}
use Rattle.std.proofs.lemmas.List.{append-nil}
use Rattle.gier_word.specs.Words.{int_of_word}
use Rattle.gier_word.specs.Operations.{negative_of, modulus_of, sign_of}
use Rattle.gier_symbol.specs.declared.symbol.Symbol.{Symbol}
use Rattle.gier_symbol.specs.declared.tag.Tag.TheVariants.{Word}
use Rattle.gier_symbol.specs.ByTag.{sym as tagged}
use Rattle.gier_order.specs.declared.operation.Operation.{Operation}
use Rattle.gier_order.specs.declared.operation.Operation.TheVariants as op
use Rattle.gier_order.specs.Flat.Row.{Regs, On, Row, plain, needs, behind_ref, on_word}
use Rattle.gier_order.specs.Flat.Rows as rows
use Rattle.gier_order.specs.Flat.Rows.{effect, jumps, on, goes}
use Rattle.gier_order.specs.Flat.Run.{with_row}
use Rattle.gier_tree.specs.declared.kind.Kind.{Kind}
use Rattle.gier_tree.specs.declared.kind.Kind.TheVariants.{IntegerVariable, BooleanVariable, IntegerValue, BooleanValue, InInteger, Abs, Sign}
use Rattle.gier_tree.specs.Orders as code
use Rattle.gier_tree.specs.Orders.{Following, Code, order, with_label, define, data_word, new, first_label, behind_word}
use Rattle.gier_tree.specs.Object.{address_of}
use Rattle.gier_tree.specs.Coded.{scopes_of, both, sign_code, number_code, choice, code_expr, code_simple, code_implication, code_disjunction, code_conjunction, code_negation, code_relation, code_arithmetic, code_term, code_factor, code_primary, code_call, call_code, part_of, alone_code, adding_operation, multiplying_operation, comparing_operation}
use Rattle.gier_tree.specs.Need.{need_expr, need_simple, need_implication, need_disjunction, need_conjunction, need_negation, need_relation, need_arithmetic, need_term, need_factor, need_primary, need_call, call_need, first_need}
use Rattle.gier_tree.specs.Places.{Placed, Places}
use Rattle.gier_tree.specs.Trees as tree
use Rattle.gier_tree.specs.Trees.{OneExpr, NoActuals}
use Rattle.gier_tree.specs.Trees.{Add, Subtract, Multiply, Divide, LessThan, AtMost, EqualTo, AtLeast, MoreThan, Unequal, OneSimple, IfExpr, Simple, OneImplication, Equivalent, Implication, OneDisjunction, Disjunction, OneConjunction, Either, Conjunction, OneNegation, Both, Negation, OneRelation, Negated, Relation, OneArithmetic, Compared, Arithmetic, OneTerm, Signed, Summed, Term, OneFactor, Multiplied, Factor, OnePrimary, Raised, Primary, Numeral, Logical, Bracketed, OneCall, OneElement, Call, Alone, WithActuals}
use Rattle.gier_meaning.specs.Tree.{Operator, Adds, Multiplies, Raises, Compares, Ands, Ors, Implies, Equals, Signs, Nots}
use Rattle.gier_meaning.specs.Operators as meaning
use Rattle.gier_meaning.specs.Operators.{apply_operator, apply_prefix}
use Rattle.gier_meaning.specs.Plain.{expr, simple, implication, disjunction, conjunction, negation, relation, arithmetic, term, factor, primary, call}
use Rattle.gier_meaning.specs.Live.{Live}
use Rattle.gier_meaning.specs.State.{Entity, State}
use Rattle.gier_meaning.specs.Standard.{value_or_alarm}
use Rattle.gier_agree.specs.declared.kind.Kind.{Kind as Fitting}
use Rattle.gier_agree.specs.declared.kind.Kind.TheVariants.{Integer, Boolean}
use Rattle.std.specs.Prelude.{slice_get}
use Rattle.gier_meaning.specs.Tree as plain_tree
use Rattle.gier_meaning.specs.Standard.{standard_of}
use Rattle.gier_env.specs.Tasks.{AValue}
use Rattle.gier_env.specs.Calls.{standard_passed, call as call_of}
use Rattle.gier_env.specs.Expressions.{handed}
use Rattle.gier_meaning.specs.Outcome.{Outcome, Gives, Goes, Stops, then_do, either}
use Rattle.gier_env.specs.Env.{Env, Denoted, AnEntity, AProcedure, AFormalProcedure, AText, AStandard, AnActual, found}
use Rattle.gier_env.specs.Tasks.{Next}
use Rattle.gier_env.specs.Closures.{Closure}
use Rattle.gier_env.specs.Expressions.{value, alone}
use Rattle.gier_env.specs.Names.{value_of}
use Rattle.gier_flat.proofs.Positions.{At, word_there, within, behind}
use Rattle.gier_flat.proofs.OrderRows.{Machine, object, Reach, onward}
use Rattle.gier_flat.proofs.StackRelation.{Known, IsVariable, Shows, RunInvariant, StateAfter, RefinesOutcome, Behind, here_after}
use Rattle.gier_flat.proofs.Composition.{follow_then, follow_on, onwards, wants, Stays, stays_after}
use Rattle.gier_flat.proofs.Numbers.{short, same_truth}
use Rattle.gier_word.specs.Standard.{integer_read}
use Rattle.gier_flat.proofs.Reading.{number_run, integer_holds}
use Rattle.gier_flat.proofs.StandardFunctions.{modulus_settles, sign_settles}
use Rattle.gier_flat.proofs.Values.{Shown, Same, Runs, both_runs, after_runs, gives_now, nots, then_same, takes}
use Rattle.gier_flat.proofs.Orders.{to, AtLabelledOrder, AtOrder, placed, defined, labelled_far, labelled_next, labelled_row_of, goes_by, far, order_next, needed, row_of, on_row, jump_row, negates, operation}
use Rattle.gier_flat.specs.Fair.{IsTaken, IsFunction, FairExpr, FairSimple, FairImplication, FairDisjunction, FairConjunction, FairNegation, FairRelation, FairArithmetic, FairTerm, FairFactor, FairPrimary, FairCall}
use Rattle.gier_flat.proofs.AllPasses.{expr_passes}
use Rattle.gier_flat.proofs.Continuations.{Passes}
use Rattle.std.proofs.lemmas.Bool.{lt-ltb}
use Rattle.gier_flat.proofs.Setting.{Setting}

module _ (setting : Setting) where
  -- only the place changes
  pub goes_stays : (m : Machine) (a : ℕ) → Stays setting.text setting.size m (to setting.text setting.size setting.ends m (record m.regs { place = a }))
  goes_stays m a = record { words = refl; marks = refl; base = refl; top = refl; started = refl; left = refl; most = refl; printed = append-nil m.printed; input = refl; depth = refl }

  module _ (n : ℕ) (env : Env) (p : Places) (lives : Live) where
    -- the machine goes on elsewhere in the same activation
    module _ (K : Known) (w need : ℕ) (m : Machine) (s : State Closure) (a : ℕ) (h : RunInvariant setting.text setting.size K w need env p m s lives) where
      abbrev pub there : Machine
      there = to setting.text setting.size setting.ends m (record m.regs { place = a })

      pub there_after : StateAfter setting.text setting.size K m there s s m.regs.base m.regs.top
      there_after = stays_after setting.text setting.size K w need env p m there s lives h (goes_stays m a)

      pub there_here : RunInvariant setting.text setting.size K w need env p there s lives
      there_here = here_after setting.text setting.size K w need env p m there s s lives h there_after

    -- where a label stands further on
    pub label_at : (label : ℕ) (st : code.State) (go : Following) → At setting.text st (define label st go) → (label < 2 ^ 24) × (address_of setting.text label 0 ≡ st.words) × (st.words < length (object setting.text)) × At setting.text st (go st)
    label_at label st go at =
        let r = placed setting.text setting.size setting.ends setting.right st label st.line (go st) at in
        let next = defined setting.text setting.size setting.ends label st go at in
        (r.0, r.1, within setting.text setting.ends st (go st) next, next)

    -- a jump to it
    pub jump_reach : (K : Known) (w need : ℕ) (m : Machine) (s : State Closure) (label line : ℕ) (st st1 : code.State) (go go1 : Following) → RunInvariant setting.text setting.size K w need env p m s lives → At setting.text st (with_label op.Jump 0 label line st go) → m.regs.place ≡ st.words → At setting.text st1 (define label st1 go1) → suc st.words ≤ st1.words → Reach setting.text setting.size m (to setting.text setting.size setting.ends m (record m.regs { place = st1.words }))
    jump_reach K w need m s label line st st1 go go1 h at here there ahead =
        let l = label_at label st1 go1 there in
        let near : address_of setting.text label 0 < 2 ^ 24 = let e = l.1 in let f = l.2 in omega (arith, e, f, setting.short) in
        let sd : AtLabelledOrder setting.text setting.size setting.ends m op.Jump 0 label line st go = record { at = at; here = here; started = h.started; low = omega arith; small = l.0; near = near; fields = refl } in
        let fore : m.regs.place < st1.words = omega (arith, here, ahead) in
        let e : effect (object setting.text) setting.size m.regs op.Jump 0 (address_of setting.text label 0) ≡ plain (On (record m.regs { place = st1.words })) =
        ap (jumps (object setting.text) setting.size m.regs) l.1 ∙ jump_row setting.text setting.size setting.ends m.regs (labelled_far setting.text setting.size setting.ends m op.Jump 0 label line st go sd) st1.words fore l.2 in
        goes_by setting.text setting.size setting.ends m op.Jump 0 (address_of setting.text label 0) (record m.regs { place = st1.words }) (labelled_row_of setting.text setting.size setting.ends m op.Jump 0 label line st go sd) e

    truth_zero : (r : ℕ) (b : Bool) → rows.is_true r ≡ b → (r == 0) ≡ not b
    truth_zero r b e = sym (twice (r == 0)) ∙ ap not e
      where
        twice : (t : Bool) → not (not t) ≡ t
        twice true = refl
        twice false = refl

    -- a conditional jump: it goes on behind the order, or at the label
    pub test_reach : (K : Known) (w need : ℕ) (m : Machine) (s : State Closure) (b : Bool) (label line : ℕ) (st st1 : code.State) (go go1 : Following) → RunInvariant setting.text setting.size K w need env p m s lives → rows.is_true m.regs.r ≡ b → At setting.text st (with_label op.False 0 label line st go) → m.regs.place ≡ st.words → At setting.text st1 (define label st1 go1) → suc st.words ≤ st1.words → Reach setting.text setting.size m (to setting.text setting.size setting.ends m (record m.regs { place = if b then suc st.words else st1.words }))
    test_reach K w need m s b label line st st1 go go1 h is at here there ahead =
        let l = label_at label st1 go1 there in
        let near : address_of setting.text label 0 < 2 ^ 24 = let e = l.1 in let f = l.2 in omega (arith, e, f, setting.short) in
        let sd : AtLabelledOrder setting.text setting.size setting.ends m op.False 0 label line st go = record { at = at; here = here; started = h.started; low = omega arith; small = l.0; near = near; fields = refl } in
        let fore : m.regs.place < st1.words = omega (arith, here, ahead) in
        let next_is = labelled_far setting.text setting.size setting.ends m op.False 0 label line st go sd in
        let e0 : jumps (object setting.text) setting.size m.regs (address_of setting.text label 0) ≡ plain (On (record m.regs { place = st1.words })) =
        ap (jumps (object setting.text) setting.size m.regs) l.1 ∙ jump_row setting.text setting.size setting.ends m.regs next_is st1.words fore l.2 in
        let next_place : m.regs.place + 1 ≡ suc st.words = omega (arith, here) in
        let e1 : on (object setting.text) setting.size m.regs m.regs ≡ plain (On (record m.regs { place = suc st.words })) =
        on_row setting.text setting.size setting.ends m.regs next_is m.regs ∙ ap (λ q. plain (On (record m.regs { place = q }))) next_place in
        let e : effect (object setting.text) setting.size m.regs op.False 0 (address_of setting.text label 0) ≡ plain (On (record m.regs { place = if b then suc st.words else st1.words })) =
        ap (λ t. if t then jumps (object setting.text) setting.size m.regs (address_of setting.text label 0) else on (object setting.text) setting.size m.regs m.regs) (truth_zero m.regs.r b is) ∙ by b e0 e1 in
        goes_by setting.text setting.size setting.ends m op.False 0 (address_of setting.text label 0) (record m.regs { place = if b then suc st.words else st1.words }) (labelled_row_of setting.text setting.size setting.ends m op.False 0 label line st go sd) e
      where
        by : (b : Bool) {r0 r1 : Row} {x y : ℕ} → r0 ≡ plain (On (record m.regs { place = y })) → r1 ≡ plain (On (record m.regs { place = x })) → (if not b then r0 else r1) ≡ plain (On (record m.regs { place = if b then x else y }))
        by true e f = f
        by false e f = e

    -- a conditional expression, of values or labels, and a conditional statement with two branches
    pub choice_runs : (T : Type 0) (Tells : Shown setting.text setting.size setting.ends setting.small T) (line level na nb nc : ℕ) (a b c : Code) (va : State Closure → Outcome Closure ℤ) (vb vc : State Closure → Outcome Closure T) → ((w : ℕ) → Passes setting.text setting.size setting.ends (b level w)) → ((w : ℕ) → Passes setting.text setting.size setting.ends (c level w))
        → ((K : Known) (v : T) (m m1 : Machine) → m1.regs.r ≡ m.regs.r → m1.regs.q ≡ m.regs.q → Tells K v m → Tells K v m1)
        → Runs setting.text setting.size setting.ends setting.small n env p lives ℤ (Same setting.text setting.size setting.ends setting.small) na (a level) va → Runs setting.text setting.size setting.ends setting.small n env p lives T Tells nb (b level) vb → Runs setting.text setting.size setting.ends setting.small n env p lives T Tells nc (c level) vc
        → Runs setting.text setting.size setting.ends setting.small n env p lives T Tells (max na (max nb nc)) (choice line a b c level) (λ s. then_do (va s) (λ x s1. either (meaning.is_true x) s1 (λ s2. vb s2) (λ s2. vc s2)))
    choice_runs T Tells line level na nb nc a b c va vb vc pb pc tells_so ra rb rc K w m s st go le h at here =
        let most : ℕ = max na (max nb nc) in
        let behind_c : ℕ → Following = λ y s7. define y s7 go in
        let at_c : ℕ → Following = λ y s6. c level w s6 (behind_c y) in
        let behind_b : ℕ → Following = λ x s3. new s3 (λ y s4. with_label op.Jump 0 y line s4 (λ s5. define x s5 (at_c y))) in
        let behind_a : Following = λ s0. new s0 (λ x s1. with_label op.False 0 x line s1 (λ s2. b level w s2 (behind_b x))) in
        let base : ℕ = m.regs.base in
        let top : ℕ = m.regs.top in
        let second : ℤ → State Closure → Outcome Closure T = λ x s1. either (meaning.is_true x) s1 (λ s2. vb s2) (λ s2. vc s2) in
        follow_then setting.text setting.size ℤ T K K.label m s (Behind setting.text setting.size behind_a) base top (Same setting.text setting.size setting.ends setting.small K) (va s) (Behind setting.text setting.size go) base top (Tells K) second
        (ra K w m s st behind_a le (wants setting.text setting.size K w most na env p m s lives (omega arith) h) at here)
        (λ v s1 m1 reach goal shown af.
        let h1 = here_after setting.text setting.size K w most env p m m1 s s1 lives h af in
        let fewer = af.fewer in
        let le1 : s1.left ≤ n = omega (arith, fewer, le) in
        let x : ℕ = first_label + goal.0.labels in
        let sx : code.State = record { labels = suc goal.0.labels; line = goal.0.line; words = goal.0.words } in
        let from_b : Following = λ s2. b level w s2 (behind_b x) in
        let s2 : code.State = behind_word sx line in
        let at_b = labelled_next setting.text setting.size setting.ends op.False 0 x line sx from_b goal.1 in
        let skip_b = pb w s2 (behind_b x) at_b in
        let y : ℕ = first_label + skip_b.0.labels in
        let sy : code.State = record { labels = suc skip_b.0.labels; line = skip_b.0.line; words = skip_b.0.words } in
        let s5 : code.State = behind_word sy line in
        let after_jump : Following = λ s5. define x s5 (at_c y) in
        let at_x = labelled_next setting.text setting.size setting.ends op.Jump 0 y line sy after_jump skip_b.1 in
        let skip_c = pc w s5 (behind_c y) (defined setting.text setting.size setting.ends x s5 (at_c y) at_x) in
        let ahead_x : suc sx.words ≤ s5.words = let e = skip_b.2 in omega arith in
        let tests = test_reach K w most m1 s1 (meaning.is_true v) x line sx s5 from_b (at_c y) h1 (same_truth m1.regs.r ∙ ap meaning.is_true shown) goal.1 goal.2 at_x ahead_x in
        onwards setting.text setting.size T K K.label m m1 s s1 (Behind setting.text setting.size go) base top (Tells K) (second v s1) reach af
        (by (meaning.is_true v) K w m1 s1 s2 sy s5 skip_c.0 x y h1 le1 at_b tests at_x skip_c.1 (let e = skip_c.2 in omega arith) go))
      where
        by : (t : Bool) (K : Known) (w : ℕ) (m1 : Machine) (s1 : State Closure) (s2 sy s5 sc : code.State) (x y : ℕ) → RunInvariant setting.text setting.size K w (max na (max nb nc)) env p m1 s1 lives → s1.left ≤ n
            → At setting.text s2 (b level w s2 (λ s3. new s3 (λ y s4. with_label op.Jump 0 y line s4 (λ s5. define x s5 (λ s6. c level w s6 (λ s7. define y s7 go))))))
            → Reach setting.text setting.size m1 (to setting.text setting.size setting.ends m1 (record m1.regs { place = if t then s2.words else s5.words })) → At setting.text s5 (define x s5 (λ s6. c level w s6 (λ s7. define y s7 go))) → At setting.text sc (define y sc go) → s5.words ≤ sc.words → (go0 : Following) → RefinesOutcome setting.text setting.size T K K.label m1 s1 (Behind setting.text setting.size go) m1.regs.base m1.regs.top (Tells K) (either t s1 (λ s2. vb s2) (λ s2. vc s2))
        by true K w m1 s1 s2 sy s5 sc x y h le at_b reach at_x at_y ahead go0 =
            let most : ℕ = max na (max nb nc) in
            let behind_c : ℕ → Following = λ y s7. define y s7 go in
            let at_c : ℕ → Following = λ y s6. c level w s6 (behind_c y) in
            let behind_b : Following = λ s3. new s3 (λ y s4. with_label op.Jump 0 y line s4 (λ s5. define x s5 (at_c y))) in
            let m2 : Machine = there K w most m1 s1 s2.words h in
            let h2 = there_here K w most m1 s1 s2.words h in
            let runs = rb K w m2 s1 s2 behind_b le (wants setting.text setting.size K w most nb env p m2 s1 lives (omega arith) h2) at_b refl in
            onwards setting.text setting.size T K K.label m1 m2 s1 s1 (Behind setting.text setting.size go) m1.regs.base m1.regs.top (Tells K) (vb s1) reach (there_after K w most m1 s1 s2.words h)
            (follow_on setting.text setting.size T K K.label m2 s1 (Behind setting.text setting.size behind_b) (Behind setting.text setting.size go) m2.regs.base m2.regs.top m2.regs.base m2.regs.top (Tells K) (Tells K) (vb s1) runs
            (λ v s3 m3 reach3 goal3 shown3 af3.
            let h3 = here_after setting.text setting.size K w most env p m2 m3 s1 s3 lives h2 af3 in
            let sb : code.State = goal3.0 in
            let y3 : ℕ = first_label + sb.labels in
            let sy3 : code.State = record { labels = suc sb.labels; line = sb.line; words = sb.words } in
            let s53 : code.State = behind_word sy3 line in
            let after_jump : Following = λ s5. define x s5 (at_c y3) in
            let at53 = labelled_next setting.text setting.size setting.ends op.Jump 0 y3 line sy3 after_jump goal3.1 in
            let skip = pc w s53 (behind_c y3) (defined setting.text setting.size setting.ends x s53 (at_c y3) at53) in
            let far_on : suc sy3.words ≤ skip.0.words = let e = skip.2 in omega arith in
            let jumps_to = jump_reach K w most m3 s3 y3 line sy3 skip.0 after_jump go h3 goal3.1 goal3.2 skip.1 far_on in
            let m4 : Machine = there K w most m3 s3 skip.0.words h3 in
            let af4 = there_after K w most m3 s3 skip.0.words h3 in
            let last : RefinesOutcome setting.text setting.size T K K.label m3 s3 (Behind setting.text setting.size go) m3.regs.base m3.regs.top (Tells K) (Gives v s3) =
            (m4, jumps_to, (skip.0, defined setting.text setting.size setting.ends y3 skip.0 go skip.1, refl), tells_so K v m3 m4 refl refl shown3, af4) in
            onwards setting.text setting.size T K K.label m2 m3 s1 s3 (Behind setting.text setting.size go) m2.regs.base m2.regs.top (Tells K) (Gives v s3) reach3 af3 last))
        by false K w m1 s1 s2 sy s5 sc x y h le at_b reach at_x at_y ahead go0 =
            let most : ℕ = max na (max nb nc) in
            let behind_c : Following = λ s7. define y s7 go in
            let m2 : Machine = there K w most m1 s1 s5.words h in
            let h2 = there_here K w most m1 s1 s5.words h in
            let runs = rc K w m2 s1 s5 behind_c le (wants setting.text setting.size K w most nc env p m2 s1 lives (omega arith) h2) (defined setting.text setting.size setting.ends x s5 (λ s6. c level w s6 behind_c) at_x) refl in
            onwards setting.text setting.size T K K.label m1 m2 s1 s1 (Behind setting.text setting.size go) m1.regs.base m1.regs.top (Tells K) (vc s1) reach (there_after K w most m1 s1 s5.words h)
            (follow_on setting.text setting.size T K K.label m2 s1 (Behind setting.text setting.size behind_c) (Behind setting.text setting.size go) m2.regs.base m2.regs.top m2.regs.base m2.regs.top (Tells K) (Tells K) (vc s1) runs
            (λ v s3 m3 reach3 goal3 shown3 af3. (m3, reach3, (goal3.0, defined setting.text setting.size setting.ends y goal3.0 go goal3.1, goal3.2), shown3, af3)))

    -- ---- numbers

    long_runs : (value line level : ℕ) → value < 549755813888 → Runs setting.text setting.size setting.ends setting.small n env p lives ℤ (Same setting.text setting.size setting.ends setting.small) 0 (number_code false value line level) (λ s. Gives (pos value) s)
    long_runs value line level low K w m s st go le h at here =
        let rest : Following = λ s1. data_word value line s1 go in
        let sd : AtOrder setting.text setting.size setting.ends m op.Long 0 0 line st rest = record { at = at; here = here; started = h.started; low = omega arith; small = omega arith; fields = refl; other = λ e. absurd (omega (arith, e)) } in
        let s1 : code.State = behind_word st line in
        let at1 = order_next setting.text setting.size setting.ends op.Long 0 0 line st rest (λ e. absurd (omega (arith, e))) at in
        let s2 : code.State = behind_word s1 line in
        let at2 = behind setting.text s1 s2 (tagged Word value line) (go s2) at1 (λ e. absurd (omega (arith, e))) (omega arith) in
        let next : ℕ = m.regs.place + 1 in
        let is : next ≡ s1.words = omega (arith, here) in
        let word : slice_get (object setting.text) next ≡ Some value = ap (slice_get (object setting.text)) is ∙ word_there setting.text s1 (data_word value line s1 go) at1 in
        let fit : next + 1 < length (object setting.text) = let f = within setting.text setting.ends s2 (go s2) at2 in omega (arith, f, here) in
        let m1 : Regs = record m.regs { r = value; place = next + 1 } in
        let row1 : Row = behind_ref next (plain (On m1)) in
        let e : effect (object setting.text) setting.size m.regs op.Long 0 0 ≡ row1 =
        ap (on_word next (λ word. needs (nat_lt (next + 1) (length (object setting.text))) (goes (object setting.text) setting.size m.regs (next + 1) (record m.regs { r = word })))) word
        ∙ ap (behind_ref next) (needed (nat_lt (next + 1) (length (object setting.text))) (goes (object setting.text) setting.size m.regs (next + 1) (record m.regs { r = value })) (lt-ltb (next + 1) (length (object setting.text)) fit)) in
        let r : Row = behind_ref m.regs.place row1 in
        let m2 : Machine = with_row m r m1 in
        let reach = onward setting.text setting.size m r m1 (row_of setting.text setting.size setting.ends m op.Long 0 0 line st rest sd ∙ ap (behind_ref m.regs.place) e) refl in
        let stays : Stays setting.text setting.size m m2 = record { words = refl; marks = refl; base = refl; top = refl; started = refl; left = refl; most = refl; printed = append-nil m.printed; input = refl; depth = refl } in
        (m2, reach, (s2, at2, omega (arith, here)), short value low, stays_after setting.text setting.size K w 0 env p m m2 s lives h stays)

    short_runs : (value line level : ℕ) → value < 2 ^ 24 → Runs setting.text setting.size setting.ends setting.small n env p lives ℤ (Same setting.text setting.size setting.ends setting.small) 0 (number_code true value line level) (λ s. Gives (pos value) s)
    short_runs value line level low K w m s st go le h at here =
        let sd : AtOrder setting.text setting.size setting.ends m op.Short 0 value line st go = record { at = at; here = here; started = h.started; low = omega arith; small = low; fields = refl; other = λ e. absurd (omega (arith, e)) } in
        gives_now setting.text setting.size setting.ends setting.small n env p lives K w 0 m s op.Short 0 value line st go value (pos value) h sd (on_row setting.text setting.size setting.ends m.regs (far setting.text setting.size setting.ends m op.Short 0 value line st go sd) (record m.regs { r = value })) (short value (omega (arith, low)))

    number_runs : (value line level : ℕ) (t : Bool) → nat_lt value (2 ^ 24) ≡ t → value < 549755813888 → Runs setting.text setting.size setting.ends setting.small n env p lives ℤ (Same setting.text setting.size setting.ends setting.small) 0 (number_code t value line level) (λ s. Gives (pos value) s)
    number_runs value line level true e low = short_runs value line level (ltb-true value (2 ^ 24) e)
    number_runs value line level false e low = long_runs value line level low

    -- ---- a variable alone

    module _ (next : Next) where
      alone_is : (K : Known) (words : ℕ → ℕ) (store : ℕ → Entity Closure) (b : ℕ) (kind : Fitting) (at : Placed) (d : Option Denoted) (line : ℕ) (s : State Closure) → IsVariable setting.text K words store b kind at d → alone setting.size next d env line lives s ≡ value_of setting.size next d line lives s
      alone_is K words store b kind at None line s v = absurd v
      alone_is K words store b kind at (Some (AnEntity e)) line s v = refl
      alone_is K words store b kind at (Some (AProcedure e)) line s v = absurd v
      alone_is K words store b kind at (Some (AFormalProcedure e)) line s v = absurd v
      alone_is K words store b kind at (Some (AText e)) line s v = absurd v
      alone_is K words store b kind at (Some (AStandard e)) line s v = absurd v
      alone_is K words store b kind at (Some (AnActual meant k e xe)) line s v = absurd v

      variable_runs : (kind : Fitting) (at : Placed) (d : Option Denoted) (line : ℕ) → ((K : Known) (w need : ℕ) (m : Machine) (s : State Closure) → RunInvariant setting.text setting.size K w need env p m s lives → (b : ℕ) → K.frame env p b → IsVariable setting.text K m.regs.words s.store b kind at d) → Runs setting.text setting.size setting.ends setting.small n env p lives ℤ (Same setting.text setting.size setting.ends setting.small) 0 (λ w st go. order op.Take at.level at.address line st go) (λ s. alone setting.size next d env line lives s)
      variable_runs kind at d line shows K w m s st go le h here place =
          let sees = h.sees in
          subst (λ u. RefinesOutcome setting.text setting.size ℤ K K.label m s (Behind setting.text setting.size go) m.regs.base m.regs.top (Same setting.text setting.size setting.ends setting.small K) u)
          (sym (alone_is K m.regs.words s.store sees.0 kind at d line s (shows K w 0 m s h sees.0 sees.3)))
          (takes setting.text setting.size setting.ends setting.small n env p lives K w 0 m s kind at d line next st go h (shows K w 0 m s h) here place)

      cell_runs : (kind : Kind) (count : ℕ) (formals : List Kind) (l a : ℕ) (d : Option Denoted) (line level : ℕ) → IsTaken kind → ((K : Known) (w need : ℕ) (m : Machine) (s : State Closure) → RunInvariant setting.text setting.size K w need env p m s lives → (b : ℕ) → K.frame env p b → Shows setting.text K m.regs.words s.store b kind (record { what = record { kind = kind; count = count; formals = formals }; level = l; address = a }) d) → Runs setting.text setting.size setting.ends setting.small n env p lives ℤ (Same setting.text setting.size setting.ends setting.small) 0 (alone_code (record { what = record { kind = kind; count = count; formals = formals }; level = l; address = a }) line level) (λ s. alone setting.size next d env line lives s)
      cell_runs IntegerVariable count formals l a d line level f shows = variable_runs Integer (record { what = record { kind = IntegerVariable; count = count; formals = formals }; level = l; address = a }) d line shows
      cell_runs BooleanVariable count formals l a d line level f shows = variable_runs Boolean (record { what = record { kind = BooleanVariable; count = count; formals = formals }; level = l; address = a }) d line shows
      cell_runs IntegerValue count formals l a d line level f shows = variable_runs Integer (record { what = record { kind = IntegerValue; count = count; formals = formals }; level = l; address = a }) d line shows
      cell_runs BooleanValue count formals l a d line level f shows = variable_runs Boolean (record { what = record { kind = BooleanValue; count = count; formals = formals }; level = l; address = a }) d line shows
      cell_runs InInteger count formals l a d line level f shows = λ K w m s st go le h at here.
          subst (λ d. RefinesOutcome setting.text setting.size ℤ K K.label m s (Behind setting.text setting.size go) m.regs.base m.regs.top (Same setting.text setting.size setting.ends setting.small K) (alone setting.size next d env line lives s)) (sym (shows K w 0 m s h h.sees.0 h.sees.3))
          (number_run setting.text setting.size setting.ends setting.small n env p lives (integer_read s.unread).outcome (drop (integer_read s.unread).taken s.unread) (integer_holds s.unread) K w 0 m s line st go h at here
          (ap (λ u. rows.received (object setting.text) setting.size m.regs (integer_read u).outcome (drop (integer_read u).taken u)) h.input))
      cell_runs kind count formals l a d line level f shows = absurd f

      -- ---- expressions

      comparing_is : (o : tree.Comparing) → operation (Compares o) ≡ comparing_operation o
      comparing_is LessThan = refl
      comparing_is AtMost = refl
      comparing_is EqualTo = refl
      comparing_is AtLeast = refl
      comparing_is MoreThan = refl
      comparing_is Unequal = refl

      adding_is : (o : tree.Adding) → operation (Adds o) ≡ adding_operation o
      adding_is Add = refl
      adding_is Subtract = refl

      multiplying_is : (o : tree.Multiplying) → operation (Multiplies o) ≡ multiplying_operation o
      multiplying_is Multiply = refl
      multiplying_is Divide = refl

      abbrev Gets : (need : ℕ) → (c : (w : ℕ) → code.State → Following → List Symbol) → (State Closure → Outcome Closure ℤ) → Type 1
      Gets need c v = Runs setting.text setting.size setting.ends setting.small n env p lives ℤ (Same setting.text setting.size setting.ends setting.small) need c v

      same_r : (K : Known) (v : ℤ) (m m1 : Machine) → m1.regs.r ≡ m.regs.r → m1.regs.q ≡ m.regs.q → Same setting.text setting.size setting.ends setting.small K v m → Same setting.text setting.size setting.ends setting.small K v m1
      same_r K v m m1 e f h = ap int_of_word e ∙ h

      by_operator : (o : Operator) (op1 : Operation) → operation o ≡ op1 → (line level na nb : ℕ) (a b : Code) (va vb : State Closure → Outcome Closure ℤ) → Gets na (a level) va → Gets nb (b level) vb → Gets (max na (1 + nb)) (both op1 line a b level) (λ s. then_do (va s) (λ x s1. then_do (vb s1) (λ y s2. value_or_alarm (apply_operator o x y) line lives s2)))
      by_operator o op1 e line level na nb a b va vb ra rb = subst (λ u. Gets (max na (1 + nb)) (both u line a b level) (λ s. then_do (va s) (λ x s1. then_do (vb s1) (λ y s2. value_or_alarm (apply_operator o x y) line lives s2)))) e (both_runs setting.text setting.size setting.ends setting.small n env p lives o line level na nb a b va vb ra rb)

      signed_runs : (o : tree.Adding) (line level na : ℕ) (a : Code) (va : State Closure → Outcome Closure ℤ) → Gets na (a level) va → Gets na (sign_code o line a level) (λ s. then_do (va s) (λ x s1. value_or_alarm (apply_prefix (Signs o) x) line lives s1))
      signed_runs Add line level na a va ra = λ K w m s st go le h at here. then_same setting.text setting.size setting.ends setting.small n env p lives K m s (Behind setting.text setting.size go) m.regs.base m.regs.top (va s) (ra K w m s st go le h at here)
      signed_runs Subtract line level na a va ra = after_runs setting.text setting.size setting.ends setting.small n env p lives op.Neg 0 (omega arith) (λ x. negative_of x) line level na a va refl (λ e. absurd (omega (arith, e))) (λ m next. negates setting.text setting.size setting.ends m next) ra

      -- ---- the standard functions

      abbrev CallMeans : (d : Option Denoted) (e : tree.Expr) (line : ℕ) → State Closure → Outcome Closure ℤ
      CallMeans d e line s = call_of setting.size next d (plain_tree.MoreExprs (expr e) plain_tree.NoExprs) env (λ kinds s1. handed setting.size next kinds (plain_tree.MoreExprs (expr e) plain_tree.NoExprs) env line lives s1) line lives s

      one_value : (kind : Kind) (line : ℕ) (r : Outcome Closure ℤ)
          → then_do (then_do (then_do r (λ a s2. Gives (AValue a) s2)) (λ passed s1. Gives (passed ∷ []) s1)) (λ passed s1. standard_passed kind passed line lives s1)
          ≡ then_do r (λ a s1. standard_of kind a line lives s1)
      one_value kind line (Gives a s1) = refl
      one_value kind line (Goes k s1) = refl
      one_value kind line (Stops why stop s1) = refl

      function_runs : (kind : Kind) (count : ℕ) (formals : List Kind) (l a : ℕ) (d : Option Denoted) (e : tree.Expr) (line level : ℕ) → IsFunction kind → ((K : Known) (w need : ℕ) (m : Machine) (s : State Closure) → RunInvariant setting.text setting.size K w need env p m s lives → (b : ℕ) → K.frame env p b → Shows setting.text K m.regs.words s.store b kind (record { what = record { kind = kind; count = count; formals = formals }; level = l; address = a }) d)
          → Gets (need_expr (scopes_of p) e) (code_expr p e level) (λ s. value setting.size next (expr e) env lives s) → Gets (need_expr (scopes_of p) e) (call_code (record { what = record { kind = kind; count = count; formals = formals }; level = l; address = a }) line (part_of p (OneExpr e) ∷ []) level) (λ s. CallMeans d e line s)
      function_runs Abs count formals l a d e line level f shows re K w m s st go le h at here =
          let is_standard : d ≡ Some (AStandard Abs) = shows K w (need_expr (scopes_of p) e) m s h h.sees.0 h.sees.3 in
          subst (λ d. RefinesOutcome setting.text setting.size ℤ K K.label m s (Behind setting.text setting.size go) m.regs.base m.regs.top (Same setting.text setting.size setting.ends setting.small K) (CallMeans d e line s)) (sym is_standard)
          (subst (λ u. RefinesOutcome setting.text setting.size ℤ K K.label m s (Behind setting.text setting.size go) m.regs.base m.regs.top (Same setting.text setting.size setting.ends setting.small K) u) (sym (one_value Abs line (value setting.size next (expr e) env lives s)))
          (after_runs setting.text setting.size setting.ends setting.small n env p lives op.Lib 7 (omega arith) (λ x. modulus_of x) line level (need_expr (scopes_of p) e) (code_expr p e) (λ s. value setting.size next (expr e) env lives s) refl (λ e. absurd (omega (arith, e))) (λ m next. modulus_settles setting.text setting.size setting.ends m next) re K w m s st go le h at here))
      function_runs Sign count formals l a d e line level f shows re K w m s st go le h at here =
          let is_standard : d ≡ Some (AStandard Sign) = shows K w (need_expr (scopes_of p) e) m s h h.sees.0 h.sees.3 in
          subst (λ d. RefinesOutcome setting.text setting.size ℤ K K.label m s (Behind setting.text setting.size go) m.regs.base m.regs.top (Same setting.text setting.size setting.ends setting.small K) (CallMeans d e line s)) (sym is_standard)
          (subst (λ u. RefinesOutcome setting.text setting.size ℤ K K.label m s (Behind setting.text setting.size go) m.regs.base m.regs.top (Same setting.text setting.size setting.ends setting.small K) u) (sym (one_value Sign line (value setting.size next (expr e) env lives s)))
          (after_runs setting.text setting.size setting.ends setting.small n env p lives op.Lib 8 (omega arith) (λ x. Ok (sign_of x)) line level (need_expr (scopes_of p) e) (code_expr p e) (λ s. value setting.size next (expr e) env lives s) refl (λ e. absurd (omega (arith, e))) (λ m next. sign_settles setting.text setting.size setting.ends m next) re K w m s st go le h at here))
      function_runs kind count formals l a d e line level f shows re K w m s st go le h at here = absurd f

      need_given : (kind : Kind) (formals : List Kind) (need : ℕ) → IsFunction kind → need ≤ call_need kind 1 (max (first_need formals 0 need) 0) (max need 0)
      need_given Abs formals need f = omega arith
      need_given Sign formals need f = omega arith
      need_given kind formals need f = absurd f

      mutual
        pub expr_runs : (e : tree.Expr) → FairExpr p e → (level : ℕ) → Gets (need_expr (scopes_of p) e) (code_expr p e level) (λ s. value setting.size next (expr e) env lives s)
        expr_runs (OneSimple s) f level = simple_runs s f level
        expr_runs (IfExpr l c m s k e) f level =
            choice_runs ℤ (Same setting.text setting.size setting.ends setting.small) l level (need_expr (scopes_of p) c) (need_simple (scopes_of p) s) (need_expr (scopes_of p) e) (code_expr p c) (code_simple p s) (code_expr p e)
            (λ x. value setting.size next (expr c) env lives x) (λ x. value setting.size next (simple s) env lives x) (λ x. value setting.size next (expr e) env lives x)
            (expr_passes setting.text setting.size setting.ends p (OneSimple s) level) (expr_passes setting.text setting.size setting.ends p e level) same_r
            (expr_runs c f.0 level) (simple_runs s f.1 level) (expr_runs e f.2 level)

        pub simple_runs : (e : Simple) → FairSimple p e → (level : ℕ) → Gets (need_simple (scopes_of p) e) (code_simple p e level) (λ s. value setting.size next (simple e) env lives s)
        simple_runs (OneImplication i) f level = implication_runs i f level
        simple_runs (Equivalent a l b) f level = by_operator Equals op.Equiv refl l level (need_simple (scopes_of p) a) (need_implication (scopes_of p) b) (code_simple p a) (code_implication p b) (λ x. value setting.size next (simple a) env lives x) (λ x. value setting.size next (implication b) env lives x) (simple_runs a f.0 level) (implication_runs b f.1 level)

        implication_runs : (e : Implication) → FairImplication p e → (level : ℕ) → Gets (need_implication (scopes_of p) e) (code_implication p e level) (λ s. value setting.size next (implication e) env lives s)
        implication_runs (OneDisjunction d) f level = disjunction_runs d f level
        implication_runs (tree.Implies a l b) f level = by_operator Implies op.Impl refl l level (need_implication (scopes_of p) a) (need_disjunction (scopes_of p) b) (code_implication p a) (code_disjunction p b) (λ x. value setting.size next (implication a) env lives x) (λ x. value setting.size next (disjunction b) env lives x) (implication_runs a f.0 level) (disjunction_runs b f.1 level)

        disjunction_runs : (e : Disjunction) → FairDisjunction p e → (level : ℕ) → Gets (need_disjunction (scopes_of p) e) (code_disjunction p e level) (λ s. value setting.size next (disjunction e) env lives s)
        disjunction_runs (OneConjunction c) f level = conjunction_runs c f level
        disjunction_runs (Either a l b) f level = by_operator Ors op.Or refl l level (need_disjunction (scopes_of p) a) (need_conjunction (scopes_of p) b) (code_disjunction p a) (code_conjunction p b) (λ x. value setting.size next (disjunction a) env lives x) (λ x. value setting.size next (conjunction b) env lives x) (disjunction_runs a f.0 level) (conjunction_runs b f.1 level)

        conjunction_runs : (e : Conjunction) → FairConjunction p e → (level : ℕ) → Gets (need_conjunction (scopes_of p) e) (code_conjunction p e level) (λ s. value setting.size next (conjunction e) env lives s)
        conjunction_runs (OneNegation c) f level = negation_runs c f level
        conjunction_runs (Both a l b) f level = by_operator Ands op.And refl l level (need_conjunction (scopes_of p) a) (need_negation (scopes_of p) b) (code_conjunction p a) (code_negation p b) (λ x. value setting.size next (conjunction a) env lives x) (λ x. value setting.size next (negation b) env lives x) (conjunction_runs a f.0 level) (negation_runs b f.1 level)

        negation_runs : (e : Negation) → FairNegation p e → (level : ℕ) → Gets (need_negation (scopes_of p) e) (code_negation p e level) (λ s. value setting.size next (negation e) env lives s)
        negation_runs (OneRelation r) f level = relation_runs r f level
        negation_runs (Negated l r) f level = after_runs setting.text setting.size setting.ends setting.small n env p lives op.Not 0 (omega arith) (λ x. apply_prefix Nots x) l level (need_relation (scopes_of p) r) (code_relation p r) (λ x. value setting.size next (relation r) env lives x) refl (λ e. absurd (omega (arith, e))) (λ m next. nots setting.text setting.size setting.ends setting.small n env p lives m next) (relation_runs r f level)

        relation_runs : (e : Relation) → FairRelation p e → (level : ℕ) → Gets (need_relation (scopes_of p) e) (code_relation p e level) (λ s. value setting.size next (relation e) env lives s)
        relation_runs (OneArithmetic a) f level = arithmetic_runs a f level
        relation_runs (Compared a o l b) f level = by_operator (Compares o) (comparing_operation o) (comparing_is o) l level (need_arithmetic (scopes_of p) a) (need_arithmetic (scopes_of p) b) (code_arithmetic p a) (code_arithmetic p b) (λ x. value setting.size next (arithmetic a) env lives x) (λ x. value setting.size next (arithmetic b) env lives x) (arithmetic_runs a f.0 level) (arithmetic_runs b f.1 level)

        arithmetic_runs : (e : Arithmetic) → FairArithmetic p e → (level : ℕ) → Gets (need_arithmetic (scopes_of p) e) (code_arithmetic p e level) (λ s. value setting.size next (arithmetic e) env lives s)
        arithmetic_runs (OneTerm t) f level = term_runs t f level
        arithmetic_runs (Signed o l t) f level = signed_runs o l level (need_term (scopes_of p) t) (code_term p t) (λ x. value setting.size next (term t) env lives x) (term_runs t f level)
        arithmetic_runs (Summed a o l b) f level = by_operator (Adds o) (adding_operation o) (adding_is o) l level (need_arithmetic (scopes_of p) a) (need_term (scopes_of p) b) (code_arithmetic p a) (code_term p b) (λ x. value setting.size next (arithmetic a) env lives x) (λ x. value setting.size next (term b) env lives x) (arithmetic_runs a f.0 level) (term_runs b f.1 level)

        term_runs : (e : Term) → FairTerm p e → (level : ℕ) → Gets (need_term (scopes_of p) e) (code_term p e level) (λ s. value setting.size next (term e) env lives s)
        term_runs (OneFactor t) f level = factor_runs t f level
        term_runs (Multiplied a o l b) f level = by_operator (Multiplies o) (multiplying_operation o) (multiplying_is o) l level (need_term (scopes_of p) a) (need_factor (scopes_of p) b) (code_term p a) (code_factor p b) (λ x. value setting.size next (term a) env lives x) (λ x. value setting.size next (factor b) env lives x) (term_runs a f.0 level) (factor_runs b f.1 level)

        factor_runs : (e : Factor) → FairFactor p e → (level : ℕ) → Gets (need_factor (scopes_of p) e) (code_factor p e level) (λ s. value setting.size next (factor e) env lives s)
        factor_runs (OnePrimary q) f level = primary_runs q f level
        factor_runs (Raised a l b) f level = by_operator Raises op.Pow refl l level (need_factor (scopes_of p) a) (need_primary (scopes_of p) b) (code_factor p a) (code_primary p b) (λ x. value setting.size next (factor a) env lives x) (λ x. value setting.size next (primary b) env lives x) (factor_runs a f.0 level) (primary_runs b f.1 level)

        primary_runs : (e : Primary) → FairPrimary p e → (level : ℕ) → Gets (need_primary (scopes_of p) e) (code_primary p e level) (λ s. value setting.size next (primary e) env lives s)
        primary_runs (Numeral k l) f level = number_runs k l level (nat_lt k (2 ^ 24)) refl f
        primary_runs (Logical true l) f level = short_runs 1 l level (omega arith)
        primary_runs (Logical false l) f level = short_runs 0 l level (omega arith)
        primary_runs (Bracketed l e m) f level = expr_runs e f level
        primary_runs (OneCall c) f level = call_runs c f level
        primary_runs (OneElement e) f level = absurd f

        call_runs : (e : Call) → FairCall p e → (level : ℕ) → Gets (need_call (scopes_of p) e) (code_call p e level) (λ s. value setting.size next (call e) env lives s)
        call_runs (Alone x) f level = cell_runs (p x.number).what.kind (p x.number).what.count (p x.number).what.formals (p x.number).level (p x.number).address (found env x.number) x.line level f (λ K w need m s h b i. h.frames env p b i x.number)
        call_runs (WithActuals x l (OneExpr e) NoActuals m) f level = λ K w m1 s st go le h at here.
            function_runs (p x.number).what.kind (p x.number).what.count (p x.number).what.formals (p x.number).level (p x.number).address (found env x.number) e x.line level f.0 (λ K w need m s h b i. h.frames env p b i x.number) (expr_runs e f.1 level) K w m1 s st go le
            (wants setting.text setting.size K w (need_call (scopes_of p) (WithActuals x l (OneExpr e) NoActuals m)) (need_expr (scopes_of p) e) env p m1 s lives (need_given (p x.number).what.kind (p x.number).what.formals (need_expr (scopes_of p) e) f.0) h) at here
        call_runs (WithActuals x l a more m) f level = absurd f
