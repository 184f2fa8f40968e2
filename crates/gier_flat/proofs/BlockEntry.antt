-- A block is entered, or refused, and left.
use Rattle.std.proofs.Common.{◌≡◌, ℕ, zero, suc, ◌+◌, ◌*◌, ◌-◌, ◌<◌, ◌≤◌, Bool, true, false, [], ◌∷◌, length, Some, None, refl, sym, ap, ap₂, ◌∙◌, arith}
use Rattle.std.specs.Prelude.{◌&&◌, ◌^◌, nat_lt, max, if◌then◌else◌}
use Rattle.std.proofs.lemmas.Bool.{lt-ltb, le-leb, ltb-true, ltb-false}
use Rattle.std.proofs.lemmas.List.{append-nil}
use Rattle.gier_symbol.specs.declared.tag.Tag.TheVariants.{OpenRoom, Need as NeedTag}
use Rattle.gier_symbol.specs.ByTag.{sym as tagged}
use Rattle.gier_order.specs.declared.operation.Operation.TheVariants as op
use Rattle.gier_order.specs.Flat.Row.{Regs, Ending, On, Ends, Row, plain, needs, behind_ref, entry}
use Rattle.gier_order.specs.Flat.Row as row
use Rattle.gier_order.specs.Flat.Rows as rows
use Rattle.gier_order.specs.Flat.Rows.{effect, taken_by, inside}
use Rattle.gier_order.specs.Flat.Run.{with_row}
use Rattle.gier_word.specs.declared.alarm.Alarm.TheVariants.{Stack}
use Rattle.gier_tree.specs.Orders as code
use Rattle.gier_tree.specs.Orders.{Following, room_order, number_of, behind_word}
use Rattle.gier_tree.specs.Object.{need_behind}
use Rattle.gier_tree.specs.Places.{Places}
use Rattle.gier_meaning.specs.State.{State}
use Rattle.gier_meaning.specs.Entry as meant
use Rattle.gier_meaning.specs.Live.{Live, live_words, InBlock}
use Rattle.gier_meaning.specs.Accounts.{enter, enters_by, with_left, with_most}
use Rattle.gier_meaning.specs.Outcome.{Outcome, Gives, Goes, Stops, Alarmed, NoStepLeft, Finished, Done}
use Rattle.gier_env.specs.Env.{Env}
use Rattle.gier_env.specs.Closures.{Closure}
use Rattle.gier_flat.specs.Alike.{IsLine}
use Rattle.gier_flat.proofs.Setting.{Setting}
use Rattle.gier_flat.proofs.Positions.{At, behind, within}
use Rattle.gier_flat.proofs.OrderRows.{Machine, object, Reach, reach_on, onward, stopped, room_row}
use Rattle.gier_flat.proofs.StackRelation.{Known, Within, RunInvariant, StateAfter, RefinesOutcome, Behind, Chain}
use Rattle.gier_flat.proofs.Composition.{MovesTo, inner, put_other}
use Rattle.gier_flat.proofs.Orders.{AtOrder, far, comes, to, needed, on_row}
use Rattle.gier_flat.proofs.StopReport.{stops_here}
use Rattle.gier_flat.proofs.Assignments.{NothingShown}
use Rattle.gier_flat.proofs.NewActivation.{opened_below, fails}

module _ (setting : Setting) where
  module _ (K : Known) (w0 need0 : ℕ) (env : Env) (p : Places) (m : Machine) (s : State Closure) (lives : Live) (h : RunInvariant setting.text setting.size K w0 need0 env p m s lives) (level words need line : ℕ) (st : code.State) (go : Following) (below : level < 256) (header : 3 ≤ words) (low : words + need < 2 ^ 24) (stands : At setting.text st (room_order op.Block level words line st go)) (need_is : need_behind (go (behind_word st line)) 0 ≡ need) (here : m.regs.place ≡ st.words) where
    abbrev pub room : ℕ
    room = words + need

    abbrev pub at : ℕ
    at = m.regs.top

    pub body_at : At setting.text (behind_word st line) (go (behind_word st line))
    body_at = behind setting.text st (behind_word st line) (tagged OpenRoom (number_of op.Block * 2 ^ 32 + level * 2 ^ 24 + words) line) (go (behind_word st line)) stands (λ e. absurd (omega (arith, e))) (omega arith)

    next_is : m.regs.place + 1 < length (object setting.text)
    next_is = let lt : suc st.words < length (object setting.text) = within setting.text setting.ends (behind_word st line) (go (behind_word st line)) body_at in omega (arith, lt, here)

    line_is : IsLine setting.text m.regs.place line
    line_is = (stands.before, tagged OpenRoom (number_of op.Block * 2 ^ 32 + level * 2 ^ 24 + words) line, go (behind_word st line), stands.whole, stands.count ∙ sym here, refl, refl)

    -- where it is entered
    abbrev pub entered : ℕ → Machine
    entered left = to setting.text setting.size setting.ends m (record (inside (object setting.text) setting.size m.regs level room m.regs.base 0 left (max m.regs.greatest (at + room)) (at + room)) { place = m.regs.place + 1 })

    abbrev pub entered_state : ℕ → State Closure
    entered_state left = with_left left (with_most (max s.most (live_words lives + room)) s)

    base_word : (those : Live) (base top : ℕ) → Chain setting.text K m.regs.words m.regs.marks those base top → K.word base
    base_word [] base top c = absurd c
    base_word (x ∷ []) base top c = c.1
    base_word (x ∷ outer ∷ more) base top c = c.0

    pub base_low : m.regs.base < at
    base_low = h.low m.regs.base (base_word lives m.regs.base at h.chain)

    row_is : rows.row (object setting.text) setting.size m.regs ≡ behind_ref m.regs.place (effect (object setting.text) setting.size m.regs op.Block level room)
    row_is = room_row setting.text setting.size m.regs op.Block level words line st go need stands here h.started below low need_is refl

    abbrev goes_in : ℕ → ℕ → ℕ → Row
    goes_in left greatest end = rows.on (object setting.text) setting.size m.regs (inside (object setting.text) setting.size m.regs level room m.regs.base 0 left greatest end)

    effect_is : (left : ℕ) → m.regs.left ≡ left → effect (object setting.text) setting.size m.regs op.Block level room ≡ taken_by (object setting.text) setting.size m.regs (entry setting.size left m.regs.greatest at room) goes_in
    effect_is left e =
        let fit : m.regs.base < setting.size = omega (arith, base_low, h.fits) in
        needed _ _ (ap₂ (λ x y. x && y) (le-leb 3 room (omega (arith, header))) (ap₂ (λ x y. x && y) (lt-ltb m.regs.base setting.size fit) (lt-ltb (m.regs.place + 1) (length (object setting.text)) next_is)))
        ∙ ap (λ k. taken_by (object setting.text) setting.size m.regs (entry setting.size k m.regs.greatest at room) goes_in) e

    abbrev Follows_out : Machine → State Closure → (G : ℕ → ℕ → ℕ → Type 0) → (goal : ℕ → Type 0) → Outcome Closure Finished → Type 0
    Follows_out m1 s1 G goal r = RefinesOutcome setting.text setting.size Finished K G m1 s1 goal m.regs.base at (NothingShown setting K) r

    -- with no step left
    no_step : (G : ℕ → ℕ → ℕ → Type 0) (goal : ℕ → Type 0) → s.left ≡ 0 → Follows_out m s G goal (Stops NoStepLeft (record { live = lives; line = line }) s)
    no_step G goal e =
        let r : Row = behind_ref m.regs.place (plain (Ends row.NoSteps m.regs)) in (
          1,
          record { ending = row.NoSteps; state = with_row m r m.regs },
          stopped setting.text setting.size m r row.NoSteps m.regs (row_is ∙ ap (behind_ref m.regs.place) (effect_is 0 (h.left ∙ e))) refl,
          stops_here setting.text setting.size K w0 need0 env p m s s lives row.NoSteps m.regs r NoStepLeft line h refl refl refl refl refl refl h.started refl refl h.left refl refl refl line_is,
        )

    -- a refused room costs its step
    no_room : (G : ℕ → ℕ → ℕ → Type 0) (goal : ℕ → Type 0) (left : ℕ) → s.left ≡ suc left → setting.size < at + room → Follows_out m s G goal (Stops (Alarmed Stack) (record { live = lives; line = line }) (with_left left s))
    no_room G goal left e over =
        let m1 : Regs = record m.regs { left = left } in
        let r : Row = behind_ref m.regs.place (plain (Ends (row.Alarmed Stack) m1)) in
        let refused : entry setting.size (suc left) m.regs.greatest at room ≡ row.NoRoom left = ap (λ t. elim t as (λ _. row.Entry) [ true ↦ row.Enters left (max m.regs.greatest (at + room)) (at + room) | false ↦ row.NoRoom left ]) (fails (at + room) setting.size over) in (
          1,
          record { ending = row.Alarmed Stack; state = with_row m r m1 },
          stopped setting.text setting.size m r (row.Alarmed Stack) m1 (row_is ∙ ap (behind_ref m.regs.place) (effect_is (suc left) (h.left ∙ e) ∙ ap (λ x. taken_by (object setting.text) setting.size m.regs x goes_in) refused)) refl,
          stops_here setting.text setting.size K w0 need0 env p m s (with_left left s) lives (row.Alarmed Stack) m1 r (Alarmed Stack) line h refl refl refl refl refl refl h.started refl refl refl refl refl refl line_is,
        )

    goes_inside : (left : ℕ) → s.left ≡ suc left → at + room ≤ setting.size → Reach setting.text setting.size m (entered left)
    goes_inside left e fit =
        let m1 : Regs = record (inside (object setting.text) setting.size m.regs level room m.regs.base 0 left (max m.regs.greatest (at + room)) (at + room)) { place = m.regs.place + 1 } in
        let taken : entry setting.size (suc left) m.regs.greatest at room ≡ row.Enters left (max m.regs.greatest (at + room)) (at + room) = ap (λ t. elim t as (λ _. row.Entry) [ true ↦ row.Enters left (max m.regs.greatest (at + room)) (at + room) | false ↦ row.NoRoom left ]) (le-leb (at + room) setting.size fit) in
        onward setting.text setting.size m (behind_ref m.regs.place (plain (On m1))) m1
        (row_is ∙ ap (behind_ref m.regs.place) (effect_is (suc left) (h.left ∙ e) ∙ ap (λ x. taken_by (object setting.text) setting.size m.regs x goes_in) taken ∙ on_row setting.text setting.size setting.ends m.regs next_is (inside (object setting.text) setting.size m.regs level room m.regs.base 0 left (max m.regs.greatest (at + room)) (at + room)))) refl

    pub entered_moves : (left : ℕ) → s.left ≡ suc left → at + room ≤ setting.size → MovesTo setting.text setting.size K m (entered left) s (entered_state left)
    entered_moves left e fit = record {
      reach = goes_inside left e fit;
      keeps = λ q i. opened_below m.regs.words at m.regs.base level m.regs.base room q (h.low q i);
      marks = λ q i. put_other m.regs.marks at 0 q (λ f. let l = h.low q i in absurd (omega (arith, f, l)));
      sorts = λ n lt. refl;
      fresh = omega arith;
      fewer = omega (arith, e);
      deeper = omega arith;
      higher = omega arith;
    }

    -- entered or refused as the meaning says, and from where it is entered on as its body does
    pub enters : (G : ℕ → ℕ → ℕ → Type 0) (goal : ℕ → Type 0) (v : Live → State Closure → Outcome Closure Finished) → ((left : ℕ) → s.left ≡ suc left → at + room ≤ setting.size → Follows_out m s G goal (v (record { shape = InBlock; words = room } ∷ lives) (entered_state left))) → Follows_out m s G goal (enter setting.size InBlock room line lives s v)
    enters G goal v body = by s.left refl
      where
        by_room : (left : ℕ) (t : Bool) → s.left ≡ suc left → nat_lt setting.size (live_words lives + room) ≡ t → Follows_out m s G goal (enters_by (meant.with_room left (if t then None else Some (max s.most (live_words lives + room)))) InBlock room line lives s v)
        by_room left true e f = no_room G goal left e (let l : setting.size < live_words lives + room = ltb-true setting.size (live_words lives + room) f in omega (arith, l, h.on_top))
        by_room left false e f =
            let l : live_words lives + room ≤ setting.size = ltb-false setting.size (live_words lives + room) f in
            let fit : at + room ≤ setting.size = omega (arith, l, h.on_top) in
            body left e fit

        by : (left : ℕ) → s.left ≡ left → Follows_out m s G goal (enters_by (meant.entry setting.size left s.most (live_words lives) room) InBlock room line lives s v)
        by zero e = no_step G goal e
        by (suc left) e = by_room left (nat_lt setting.size (live_words lives + room)) e refl

  -- ---- a block is left at its end, or by a go to

  module _ (K K1 : Known) (more : Within K K1) (m m1 : Machine) (s s1 : State Closure) (at room need line : ℕ) (go : Following) (w : MovesTo setting.text setting.size K m m1 s s1) (deep : suc m.regs.depth ≤ m1.regs.depth) (kept : K1.word at) (old : m1.regs.words at ≡ m.regs.base) (base_low : m.regs.base < at) (some : 3 ≤ room) (fit : at + room ≤ setting.size) where
    abbrev pub leaving : Following
    leaving = λ s2. code.order op.Leave 0 0 line s2 (λ s3. code.needs need s3 go)

    ends_here : (m2 : Machine) (s2 : State Closure) → Reach setting.text setting.size m1 m2 → Behind setting.text setting.size leaving m2.regs.place → StateAfter setting.text setting.size K1 m1 m2 s1 s2 at (at + room) → RefinesOutcome setting.text setting.size Finished K K.label m s (Behind setting.text setting.size go) m.regs.base at (NothingShown setting K) (Gives Done s2)
    ends_here m2 s2 reach goal a =
        let rest : Following = λ s3. code.needs need s3 go in
        let sd : AtOrder setting.text setting.size setting.ends m2 op.Leave 0 0 line goal.0 rest = record { at = goal.1; here = goal.2; started = a.started; low = omega arith; small = omega arith; fields = refl; other = λ e. absurd (omega (arith, e)) } in
        let next_is = far setting.text setting.size setting.ends m2 op.Leave 0 0 line goal.0 rest sd in
        let old2 : m2.regs.words m2.regs.base ≡ m.regs.base = ap (λ b. m2.regs.words b) a.on_base ∙ a.keeps at kept ∙ old in
        let m3r : Regs = record m2.regs { base = m2.regs.words m2.regs.base; top = m2.regs.base; depth = m2.regs.depth - 1; place = m2.regs.place + 1 } in
        let is : effect (object setting.text) setting.size m2.regs op.Leave 0 0 ≡ plain (On m3r) =
        needed _ _ (lt-ltb 0 m2.regs.depth (omega (arith, deep, a.deeper)))
        ∙ needed _ _ (lt-ltb m2.regs.base setting.size (omega (arith, a.on_base, some, fit)))
        ∙ needed _ _ (lt-ltb (m2.regs.words m2.regs.base) setting.size (omega (arith, old2, base_low, fit)))
        ∙ on_row setting.text setting.size setting.ends m2.regs next_is (rows.outside (object setting.text) setting.size m2.regs) in
        let c = comes setting.text setting.size setting.ends m2 op.Leave 0 0 line goal.0 rest m3r sd is refl in
        let m3 : Machine = to setting.text setting.size setting.ends m2 m3r in
        let at_go : At setting.text (behind_word goal.0 line) (go (behind_word goal.0 line)) = behind setting.text (behind_word goal.0 line) (behind_word goal.0 line) (tagged NeedTag need line) (go (behind_word goal.0 line)) c.at (λ e. absurd (omega (arith, e))) (omega arith) in (
          m3,
          reach_on setting.text setting.size m m2 m3 (reach_on setting.text setting.size m m1 m2 w.reach reach) c.reach,
          (behind_word goal.0 line, at_go, c.place),
          tt,
          record {
            on_base = old2;
            at_top = a.on_base;
            started = a.started;
            keeps = λ q i. a.keeps q (more.0 q i) ∙ w.keeps q i;
            marks = λ q i. a.marks q (more.0 q i) ∙ w.marks q i;
            holds = λ e q i. a.holds e q (more.1 e q i);
            sorts = λ n lt. let le = more.4 in a.sorts n (omega (arith, lt, le)) ∙ w.sorts n lt;
            left = a.left;
            most = a.most;
            printed = append-nil m2.printed ∙ a.printed;
            input = a.input;
            fresh = omega (arith, w.fresh, a.fresh);
            fewer = omega (arith, w.fewer, a.fewer);
            deeper = omega (arith, deep, a.deeper);
            higher = omega (arith, w.higher, a.higher);
          },
        )

    pub leaves : (G1 : ℕ → ℕ → ℕ → Type 0) (r : Outcome Closure Finished) → ((e b a : ℕ) → G1 e b a → K.label e b a) → RefinesOutcome setting.text setting.size Finished K1 G1 m1 s1 (Behind setting.text setting.size leaving) at (at + room) (NothingShown setting K1) r → RefinesOutcome setting.text setting.size Finished K K.label m s (Behind setting.text setting.size go) m.regs.base at (NothingShown setting K) r
    leaves G1 (Gives Done s2) out r = ends_here r.0 s2 r.1 r.2 r.4
    leaves G1 (Goes n s2) out r = inner setting.text setting.size Finished K K1 K.label G1 m m1 s s1 (Behind setting.text setting.size go) m.regs.base at (NothingShown setting K) (Goes n s2) more w out r
    leaves G1 (Stops why stop s2) out r = inner setting.text setting.size Finished K K1 K.label G1 m m1 s s1 (Behind setting.text setting.size go) m.regs.base at (NothingShown setting K) (Stops why stop s2) more w out r
