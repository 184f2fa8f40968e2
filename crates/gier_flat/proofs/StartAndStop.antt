-- A program is started, or has no room, and ends.
use Rattle.std.proofs.Common.{◌≡◌, ℕ, suc, ◌+◌, ◌*◌, ◌<◌, ◌≤◌, List, [], length, refl, sym, ap, ap₂, ◌∙◌, arith}
use Rattle.std.specs.Prelude.{◌&&◌, ◌^◌, nat_le, slice_get, if◌then◌else◌}
use Rattle.std.proofs.lemmas.Bool.{lt-ltb, le-leb}
use Rattle.std.proofs.lemmas.List.{append-nil}
use Rattle.gier_word.specs.declared.alarm.Alarm.TheVariants.{Stack}
use Rattle.gier_symbol.specs.declared.symbol.Symbol.{Symbol}
use Rattle.gier_symbol.specs.declared.tag.Tag.TheVariants.{OpenRoom}
use Rattle.gier_symbol.specs.ByTag.{sym as tagged}
use Rattle.gier_order.specs.declared.operation.Operation.TheVariants as op
use Rattle.gier_order.specs.declared.order.Order.{Order}
use Rattle.gier_order.specs.Codes.{order_at, is_row}
use Rattle.gier_order.specs.Table.{operation_at}
use Rattle.gier_order.proofs.Table.{operation_at-number}
use Rattle.gier_order.specs.Flat.Row.{Regs, Ending, On, Ends, Row, plain, needs, behind_ref, on_word}
use Rattle.gier_order.specs.Flat.Row as row
use Rattle.gier_order.specs.Flat.Rows as rows
use Rattle.gier_order.specs.Flat.Rows.{effect, does, on_order, first_activation}
use Rattle.gier_order.specs.Flat.Run.{with_row, exec, one, Over, Final, machine_at_start}
use Rattle.gier_tree.specs.Orders as code
use Rattle.gier_tree.specs.Orders.{Following, order, room_order, number_of, behind_word}
use Rattle.gier_tree.specs.Object.{need_behind, address_in, head_of}
use Rattle.gier_meaning.specs.State.{State}
use Rattle.gier_meaning.specs.Outcome.{Outcome, Gives, Goes, Stops, Alarmed, Finished, Done}
use Rattle.gier_env.specs.Closures.{Closure}
use Rattle.gier_flat.proofs.Setting.{Setting}
use Rattle.gier_flat.proofs.Positions.{At, behind, within, word_there}
use Rattle.gier_flat.proofs.OrderWords.{decoded}
use Rattle.gier_flat.proofs.OrderRows.{Machine, object, Reach, onward, stopped, order_row}
use Rattle.gier_flat.proofs.StackRelation.{Known, StateAfter, RefinesOutcome, Behind, StopAgrees}
use Rattle.gier_flat.proofs.Orders.{to, needed, on_row}
use Rattle.gier_flat.proofs.NewActivation.{fails}
use Rattle.gier_flat.proofs.Assignments.{NothingShown}

-- what is known where nothing was entered yet
abbrev pub NothingKnown : Known
NothingKnown = record { word = λ q. ⊥; cell = λ e q. ⊥; label = λ e b a. ⊥; frame = λ env p b. ⊥; fresh = 0 }

module _ (setting : Setting) where
  -- a run that setting.ends as the meaning does
  abbrev pub EndAgrees : Final → Outcome Closure Finished → Type 0
  EndAgrees final (Gives _ s) = (final.ending ≡ row.Ended) × (final.state.printed ≡ s.printed) × (final.state.regs.left ≡ s.left) × (final.state.regs.greatest ≡ s.most) × (final.state.regs.input ≡ s.unread)
  EndAgrees final (Goes label s) = ⊥
  EndAgrees final (Stops why stop s) = StopAgrees setting.text setting.size final why stop s

  abbrev pub ComesTo : Machine → Outcome Closure Finished → Type 0
  ComesTo m r = (j : ℕ) × (final : Final) × (exec (one (object setting.text) setting.size) j m ≡ Over final) × EndAgrees final r

  -- the order STOP
  stop_here : (K : Known) (m m1 : Machine) (s s1 : State Closure) (base top line : ℕ) (st : code.State) (go : Following) → Reach setting.text setting.size m m1 → At setting.text st (order op.Stop 0 0 line st go) → m1.regs.place ≡ st.words → StateAfter setting.text setting.size K m m1 s s1 base top → ComesTo m (Gives Done s1)
  stop_here K m m1 s s1 base top line st go reach at here a =
      let r : Row = behind_ref m1.regs.place (plain (Ends row.Ended m1.regs)) in
      let last = stopped setting.text setting.size m1 r row.Ended m1.regs (order_row setting.text setting.size m1.regs op.Stop 0 0 line st go at here a.started (omega arith) (omega arith) refl) refl in
      let k = reach 1 in
      (k.0, record { ending = row.Ended; state = with_row m1 r m1.regs }, k.1 ∙ last, (refl, append-nil m1.printed ∙ a.printed, a.left, a.most, a.input))

  -- no label is left over
  pub stops_so : (K : Known) (m : Machine) (s : State Closure) (base top line : ℕ) (go : Following) (r : Outcome Closure Finished) → RefinesOutcome setting.text setting.size Finished K (λ e b a. ⊥) m s (Behind setting.text setting.size (λ st. order op.Stop 0 0 line st go)) base top (NothingShown setting K) r → ComesTo m r
  stops_so K m s base top line go (Gives Done s1) r = stop_here K m r.0 s s1 base top line r.2.0 go r.1 r.2.1 r.2.2 r.4
  stops_so K m s base top line go (Goes n s1) r = absurd r.2
  stops_so K m s base top line go (Stops why stop s1) r = r

  -- the order START
  module _ (words need line : ℕ) (input : List ℕ) (steps : ℕ) (st : code.State) (go : Following) (header : 3 ≤ words) (low : words + need < 2 ^ 24) (stands : At setting.text st (room_order op.Start 1 words line st go)) (first : 0 ≡ st.words) (need_is : need_behind (go (behind_word st line)) 0 ≡ need) where
    abbrev pub started_room : ℕ
    started_room = words + need

    abbrev pub start : Machine
    start = machine_at_start 0 input steps

    pub behind_start : At setting.text (behind_word st line) (go (behind_word st line))
    behind_start = behind setting.text st (behind_word st line) (tagged OpenRoom (number_of op.Start * 2 ^ 32 + 1 * 2 ^ 24 + words) line) (go (behind_word st line)) stands (λ e. absurd (omega (arith, e))) (omega arith)

    second : start.regs.place + 1 < length (object setting.text)
    second = let lt : suc st.words < length (object setting.text) = within setting.text setting.ends (behind_word st line) (go (behind_word st line)) behind_start in omega (arith, lt, first)

    start_row : rows.row (object setting.text) setting.size start.regs ≡ behind_ref 0 (effect (object setting.text) setting.size start.regs op.Start 1 started_room)
    start_row =
        let value : ℕ = number_of op.Start * 2 ^ 32 + 1 * 2 ^ 24 + words in
        let after : List Symbol = go (behind_word st line) in
        let e : head_of value ≡ number_of op.Start * 256 + 1 = omega (arith, header, low) in
        let f : address_in value ≡ words = omega (arith, low) in
        let is : head_of value * 2 ^ 24 + address_in value + need_behind after 0 ≡ number_of op.Start * 2 ^ 32 + (1 * 2 ^ 24 + started_room) = omega (arith, e, f, need_is) in
        let known : Order = record { op = number_of op.Start; level = 1; address = started_room } in
        let go_on : Order → Row = λ o. does (object setting.text) setting.size start.regs o (operation_at o.op) in
        ap (on_word 0 (λ u. on_order (object setting.text) setting.size start.regs go_on (order_at u))) (ap (slice_get (object setting.text)) first ∙ word_there setting.text st (room_order op.Start 1 words line st go) stands)
        ∙ ap (λ o. behind_ref 0 (on_order (object setting.text) setting.size start.regs go_on o)) (ap order_at is ∙ decoded (number_of op.Start) 1 started_room (omega arith) low (ap (λ o. is_row o 1 started_room) (operation_at-number op.Start)))
        ∙ ap (λ o. behind_ref 0 (does (object setting.text) setting.size start.regs known o)) (operation_at-number op.Start)

    abbrev pub entered_first : Machine
    entered_first = to setting.text setting.size setting.ends start (record (first_activation (object setting.text) setting.size start.regs 1 started_room) { place = 1 })

    choice_is : effect (object setting.text) setting.size start.regs op.Start 1 started_room ≡ (if nat_le started_room setting.size then rows.on (object setting.text) setting.size start.regs (first_activation (object setting.text) setting.size start.regs 1 started_room) else rows.alarms (object setting.text) setting.size start.regs Stack)
    choice_is = needed _ _ (ap₂ (λ x y. x && y) (le-leb 3 started_room (omega (arith, header))) (lt-ltb (start.regs.place + 1) (length (object setting.text)) second))

    pub starts : started_room ≤ setting.size → Reach setting.text setting.size start entered_first
    starts fit =
        let m1 : Regs = record (first_activation (object setting.text) setting.size start.regs 1 started_room) { place = 1 } in
        onward setting.text setting.size start (behind_ref 0 (plain (On m1))) m1
        (start_row ∙ ap (behind_ref 0) (choice_is ∙ ap (λ t. if t then rows.on (object setting.text) setting.size start.regs (first_activation (object setting.text) setting.size start.regs 1 started_room) else rows.alarms (object setting.text) setting.size start.regs Stack) (le-leb started_room setting.size fit)
        ∙ on_row setting.text setting.size setting.ends start.regs second (first_activation (object setting.text) setting.size start.regs 1 started_room))) refl

    -- a program without room stops before it is entered
    pub no_start : (s : State Closure) → setting.size < started_room → s.printed ≡ [] → s.left ≡ steps → s.most ≡ 0 → s.unread ≡ input → ComesTo start (Stops (Alarmed Stack) (record { live = []; line = line }) s)
    no_start s over printed left most unread =
        let r : Row = behind_ref 0 (plain (Ends (row.Alarmed Stack) start.regs)) in
        let row_is = start_row ∙ ap (behind_ref 0) (choice_is ∙ ap (λ t. if t then rows.on (object setting.text) setting.size start.regs (first_activation (object setting.text) setting.size start.regs 1 started_room) else rows.alarms (object setting.text) setting.size start.regs Stack) (fails started_room setting.size over)) in (
          1,
          record { ending = row.Alarmed Stack; state = with_row start r start.regs },
          stopped setting.text setting.size start r (row.Alarmed Stack) start.regs row_is refl,
          record {
            ending = refl;
            printed = sym printed;
            left = sym left;
            most = sym most;
            input = sym unread;
            line = (stands.before, tagged OpenRoom (number_of op.Start * 2 ^ 32 + 1 * 2 ^ 24 + words) line, go (behind_word st line), stands.whole, stands.count ∙ sym first, refl, refl);
            alike = tt;
          },
        )
