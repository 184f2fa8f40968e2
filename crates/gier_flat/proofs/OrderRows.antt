-- The row of an order of text 7 where the machine stands at it, and how a row moves the machine.
use Rattle.std.proofs.Common.{◌≡◌, ℕ, suc, ◌+◌, ◌*◌, ◌<◌, true, List, Some, refl, ap, ◌∙◌, arith}
use Rattle.std.specs.Prelude.{slice_get, ◌^◌, ◌||◌}
use Rattle.gier_symbol.specs.declared.symbol.Symbol.{Symbol}
use Rattle.gier_order.specs.declared.operation.Operation.{Operation}
use Rattle.gier_order.specs.declared.operation.Operation.TheVariants.{Start}
use Rattle.gier_order.specs.declared.order.Order.{Order}
use Rattle.gier_order.specs.Codes.{order_at, is_row}
use Rattle.gier_order.specs.Table.{operation_at}
use Rattle.gier_order.specs.Flat.Row.{Regs, Ending, On, Ends, Row, needs, behind_ref, on_word}
use Rattle.gier_order.specs.Flat.Kinds.{is_a}
use Rattle.gier_order.specs.Flat.Rows.{row, effect, does, on_order}
use Rattle.gier_order.specs.Flat.Run as flat
use Rattle.gier_order.specs.Flat.Run.{Move, More, Last, Outcome, Over, then_on, exec, Final, with_row, next_state, one}
use Rattle.gier_order.proofs.Table.{operation_at-number}
use Rattle.gier_tree.specs.Orders.{State, Following, order, with_label, room_order, number_of}
use Rattle.gier_tree.specs.Object.{address_of, head_of, address_in, need_behind, object_word, object_from, object_of}
use Rattle.gier_complete.proofs.OrderPieces.{piece_is}
use Rattle.gier_flat.proofs.Positions.{At, word_there}
use Rattle.gier_flat.proofs.OrderWords.{decoded}

abbrev pub Machine : Type 0
Machine = flat.State

abbrev pub object : List Symbol → List ℕ
object text = object_of text

module _ (text : List Symbol) (size : ℕ) where
  -- what an order with this word does
  worded : (m : Regs) (op : Operation) (l a word : ℕ) → slice_get (object text) m.place ≡ Some word → word ≡ number_of op * 2 ^ 32 + (l * 2 ^ 24 + a) → m.started ≡ true → l < 256 → a < 2 ^ 24 → is_row (Some op) l a ≡ true → row (object text) size m ≡ behind_ref m.place (effect (object text) size m op l a)
  worded m op l a word at is started low small fields =
      let known : Order = record { op = number_of op; level = l; address = a } in
      let go : Order → Row = λ o. does (object text) size m o (operation_at o.op) in
      ap (on_word m.place (λ u. on_order (object text) size m go (order_at u))) at
      ∙ ap (λ o. behind_ref m.place (on_order (object text) size m go o)) (ap order_at is ∙ decoded (number_of op) l a low small (ap (λ o. is_row o l a) (operation_at-number op) ∙ fields))
      ∙ ap (λ o. behind_ref m.place (does (object text) size m known o)) (operation_at-number op)
      ∙ ap (λ t. behind_ref m.place (needs (t || is_a Start known) (effect (object text) size m op l a))) started

  pub order_row : (m : Regs) (op : Operation) (l a line : ℕ) (st : State) (go : Following) → At text st (order op l a line st go) → m.place ≡ st.words → m.started ≡ true → l < 256 → a < 2 ^ 24 → is_row (Some op) l a ≡ true → row (object text) size m ≡ behind_ref m.place (effect (object text) size m op l a)
  order_row m op l a line st go at here started low small fields =
      let value : ℕ = l * 2 ^ 24 + a in
      let rest : List ℕ = object_from text (go (record { labels = st.labels; line = line; words = suc st.words })) in
      worded m op l a (number_of op * 2 ^ 32 + value)
      (ap (slice_get (object text)) here ∙ word_there text st (order op l a line st go) at ∙ ap (λ p. slice_get (object_word p text (go (record { labels = st.labels; line = line; words = suc st.words })) rest) 0) (piece_is op value line))
      refl started low small fields

  -- an order whose address is a label
  pub labelled_row : (m : Regs) (op : Operation) (l label line : ℕ) (st : State) (go : Following) → At text st (with_label op l label line st go) → m.place ≡ st.words → m.started ≡ true → l < 256 → label < 2 ^ 24 → address_of text label 0 < 2 ^ 24 → is_row (Some op) l (address_of text label 0) ≡ true → row (object text) size m ≡ behind_ref m.place (effect (object text) size m op l (address_of text label 0))
  labelled_row m op l label line st go at here started low small far fields =
      let value : ℕ = number_of op * 2 ^ 32 + l * 2 ^ 24 + label in
      let e : head_of value ≡ number_of op * 256 + l = omega (arith, low, small) in
      let f : address_in value ≡ label = omega (arith, low, small) in
      let a : ℕ = address_of text label 0 in
      worded m op l a (head_of value * 2 ^ 24 + address_of text (address_in value) 0)
      (ap (slice_get (object text)) here ∙ word_there text st (with_label op l label line st go) at)
      (ap (λ h. h * 2 ^ 24 + address_of text (address_in value) 0) e ∙ ap (λ x. (number_of op * 256 + l) * 2 ^ 24 + address_of text x 0) f ∙ omega (arith, low))
      started low far fields

  -- an order with a room that is still open
  pub room_row : (m : Regs) (op : Operation) (l room line : ℕ) (st : State) (go : Following) (n : ℕ) → At text st (room_order op l room line st go) → m.place ≡ st.words → m.started ≡ true → l < 256 → room + n < 2 ^ 24 → need_behind (go (record { labels = st.labels; line = line; words = suc st.words })) 0 ≡ n → is_row (Some op) l (room + n) ≡ true → row (object text) size m ≡ behind_ref m.place (effect (object text) size m op l (room + n))
  room_row m op l room line st go n at here started low small need fields =
      let value : ℕ = number_of op * 2 ^ 32 + l * 2 ^ 24 + room in
      let after : List Symbol = go (record { labels = st.labels; line = line; words = suc st.words }) in
      let e : head_of value ≡ number_of op * 256 + l = omega (arith, low, small) in
      let f : address_in value ≡ room = omega (arith, low, small) in
      worded m op l (room + n) (head_of value * 2 ^ 24 + address_in value + need_behind after 0)
      (ap (slice_get (object text)) here ∙ word_there text st (room_order op l room line st go) at)
      (ap (λ x. head_of value * 2 ^ 24 + address_in value + x) need ∙ omega (arith, e, f))
      started low small fields

  -- the machine comes from one state to another: whatever it comes to from there, it comes to from here
  abbrev pub Reach : Machine → Machine → Type 0
  Reach m m1 = (k : ℕ) → (j : ℕ) × (exec (one (object text) size) j m ≡ exec (one (object text) size) k m1)

  pub reach_on : (a b c : Machine) → Reach a b → Reach b c → Reach a c
  reach_on a b c r t k = let y = t k in let x = r y.0 in (x.0, x.1 ∙ y.1)

  pub onward : (m : Machine) (r : Row) (m1 : Regs) → row (object text) size m.regs ≡ r → r.step ≡ On m1 → Reach m (with_row m r m1)
  onward m r m1 e f k = (suc k, ap (λ (q : Row). then_on (one (object text) size) (next_state (object text) m q q.step) (exec (one (object text) size) k)) e ∙ ap (λ step. then_on (one (object text) size) (next_state (object text) m r step) (exec (one (object text) size) k)) f)

  pub stopped : (m : Machine) (r : Row) (ending : Ending) (m1 : Regs) → row (object text) size m.regs ≡ r → r.step ≡ Ends ending m1 → exec (one (object text) size) 1 m ≡ Over (record { ending = ending; state = with_row m r m1 })
  stopped m r ending m1 e f = ap (λ (q : Row). then_on (one (object text) size) (next_state (object text) m q q.step) (exec (one (object text) size) 0)) e ∙ ap (λ step. then_on (one (object text) size) (next_state (object text) m r step) (exec (one (object text) size) 0)) f
