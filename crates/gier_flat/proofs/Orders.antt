-- What single orders do where a run stands.
use Rattle.std.proofs.Common.{◌≡◌, ℕ, suc, ◌+◌, ◌*◌, ◌<◌, Bool, true, false, ℤ, pos, List, ◌∷◌, length, Some, refl, sym, ap, ap₂, ◌∙◌, subst, arith}
use Rattle.std.specs.Prelude.{◌&&◌, ◌||◌, ◌^◌, not, nat_lt, int_le, int_lt, int_div, nat_abs, neg_ℤ, ◌+ℤ◌, ◌-ℤ◌, ◌*ℤ◌, if◌then◌else◌, Result, Ok, Err}
use Rattle.std.specs.Int.{int_pow}
use Rattle.std.proofs.lemmas.Bool.{lt-ltb}
use Rattle.std.proofs.lemmas.List.{append-nil}
use Rattle.gier_word.specs.Words.{int_of_word, word_of_int}
use Rattle.gier_word.specs.Operations.{in_range_or_spill, is_in_range, is_zero, sum_of, difference_of, product_of, quotient_of, small_exponent, power_of, negative_of}
use Rattle.gier_word.specs.Alarm.{alarm_of}
use Rattle.gier_word.specs.declared.int40.Spoil.{Spoil}
use Rattle.gier_word.specs.declared.int40.Spoil.TheVariants.{Spill, Division, Power}
use Rattle.gier_symbol.specs.declared.symbol.Symbol.{Symbol}
use Rattle.gier_order.specs.declared.operation.Operation.{Operation}
use Rattle.gier_order.specs.declared.operation.Operation.TheVariants as op
use Rattle.gier_order.specs.Codes.{is_row}
use Rattle.gier_order.specs.Flat.Row.{Regs, Alarmed, On, Ends, Row, plain, needs, behind_ref}
use Rattle.gier_order.specs.Flat.Rows as rows
use Rattle.gier_order.specs.Flat.Rows.{row, effect, answered, computes, compares, decides, gives, local, word_at, on, goes, jumps, are_equal}
use Rattle.gier_order.specs.Flat.Run.{with_row}
use Rattle.gier_tree.specs.Orders as code
use Rattle.gier_symbol.specs.declared.tag.Tag.TheVariants.{LabelOrder, LabelPlace}
use Rattle.gier_symbol.specs.ByTag.{sym as tagged}
use Rattle.gier_tree.specs.Orders.{Following, order, with_label, define, number_of, behind_word}
use Rattle.gier_tree.specs.Object.{words_of, piece_of, address_of}
use Rattle.gier_tree.specs.Trees.{Add, Subtract, Multiply, Divide, LessThan, AtMost, EqualTo, AtLeast, MoreThan, Unequal}
use Rattle.gier_meaning.specs.Tree.{Operator, Adds, Multiplies, Raises, Compares, Ands, Ors, Implies, Equals}
use Rattle.gier_meaning.specs.Operators as meaning
use Rattle.gier_meaning.specs.Operators.{apply_operator}
use Rattle.gier_tree.specs.Words.{stop_tag, HasStop, PlacesAreAddresses}
use Rattle.gier_complete.proofs.OrderPieces.{piece_is}
use Rattle.gier_flat.proofs.Positions.{At, behind, within}
use Rattle.gier_flat.proofs.OrderRows.{Machine, object, Reach, onward, order_row, labelled_row}
use Rattle.gier_flat.proofs.Numbers.{round_trip, same_truth, truth_word, unequal, alike}

pub needed : (t : Bool) (r : Row) → t ≡ true → needs t r ≡ r
needed t r e = ap (λ t. needs t r) e

-- the order of an operator, with the first operand in a working place and the second one in R
abbrev pub operation : Operator → Operation
operation (Adds Add) = op.Add
operation (Adds Subtract) = op.Sub
operation (Multiplies Multiply) = op.Mul
operation (Multiplies Divide) = op.Div
operation Raises = op.Pow
operation (Compares LessThan) = op.Lt
operation (Compares AtMost) = op.Le
operation (Compares EqualTo) = op.Eq
operation (Compares AtLeast) = op.Ge
operation (Compares MoreThan) = op.Gt
operation (Compares Unequal) = op.Ne
operation Ands = op.And
operation Ors = op.Or
operation Implies = op.Impl
operation Equals = op.Equiv

pub never_stop : (o : Operator) → 128 + number_of (operation o) ≡ stop_tag → ⊥
never_stop (Adds Add) e = absurd (omega (arith, e))
never_stop (Adds Subtract) e = absurd (omega (arith, e))
never_stop (Multiplies Multiply) e = absurd (omega (arith, e))
never_stop (Multiplies Divide) e = absurd (omega (arith, e))
never_stop Raises e = absurd (omega (arith, e))
never_stop (Compares LessThan) e = absurd (omega (arith, e))
never_stop (Compares AtMost) e = absurd (omega (arith, e))
never_stop (Compares EqualTo) e = absurd (omega (arith, e))
never_stop (Compares AtLeast) e = absurd (omega (arith, e))
never_stop (Compares MoreThan) e = absurd (omega (arith, e))
never_stop (Compares Unequal) e = absurd (omega (arith, e))
never_stop Ands e = absurd (omega (arith, e))
never_stop Ors e = absurd (omega (arith, e))
never_stop Implies e = absurd (omega (arith, e))
never_stop Equals e = absurd (omega (arith, e))

pub address_alone : (o : Operator) (a : ℕ) → is_row (Some (operation o)) 0 a ≡ true
address_alone (Adds Add) a = refl
address_alone (Adds Subtract) a = refl
address_alone (Multiplies Multiply) a = refl
address_alone (Multiplies Divide) a = refl
address_alone Raises a = refl
address_alone (Compares LessThan) a = refl
address_alone (Compares AtMost) a = refl
address_alone (Compares EqualTo) a = refl
address_alone (Compares AtLeast) a = refl
address_alone (Compares MoreThan) a = refl
address_alone (Compares Unequal) a = refl
address_alone Ands a = refl
address_alone Ors a = refl
address_alone Implies a = refl
address_alone Equals a = refl

module _ (text : List Symbol) (size : ℕ) (ends : HasStop text) where
  -- the machine with these registers, after an order that printed nothing
  abbrev pub to : Machine → Regs → Machine
  to m m1 = with_row m (behind_ref m.regs.place (plain (On m1))) m1

  pub prints_none : (m : Machine) (m1 : Regs) → (to m m1).printed ≡ m.printed
  prints_none m m1 = append-nil m.printed

  -- the piece behind an order
  pub order_next : (op : Operation) (l a line : ℕ) (st : code.State) (go : Following) → (128 + number_of op ≡ stop_tag → ⊥) → At text st (order op l a line st go) → At text (behind_word st line) (go (behind_word st line))
  order_next op l a line st go other at =
      let value : ℕ = l * 2 ^ 24 + a in
      let e : words_of (piece_of (record { tag = 128 + number_of op; value = value; line = line })) ≡ 1 = ap words_of (piece_is op value line) in
      behind text st (behind_word st line) (record { tag = 128 + number_of op; value = value; line = line }) (go (behind_word st line)) at other (omega (arith, e))

  -- where the machine comes by an order
  pub record Comes (m : Machine) (st1 : code.State) (rest : List Symbol) (m1 : Regs) : Type 0 where
    pub reach : Reach text size m (to m m1)
    pub at : At text st1 rest
    pub place : m1.place ≡ st1.words

  -- an order whose next one exists
  pub record AtOrder (m : Machine) (o : Operation) (l a line : ℕ) (st : code.State) (go : Following) : Type 0 where
    pub at : At text st (order o l a line st go)
    pub here : m.regs.place ≡ st.words
    pub started : m.regs.started ≡ true
    pub low : l < 256
    pub small : a < 2 ^ 24
    pub fields : is_row (Some o) l a ≡ true
    pub other : 128 + number_of o ≡ stop_tag → ⊥

  pub far : (m : Machine) (o : Operation) (l a line : ℕ) (st : code.State) (go : Following) → AtOrder m o l a line st go → m.regs.place + 1 < length (object text)
  far m o l a line st go s =
      let lt : suc st.words < length (object text) = within text ends (behind_word st line) (go (behind_word st line)) (order_next o l a line st go s.other s.at) in
      omega (arith, lt, s.here)

  pub row_of : (m : Machine) (o : Operation) (l a line : ℕ) (st : code.State) (go : Following) → AtOrder m o l a line st go → row (object text) size m.regs ≡ behind_ref m.regs.place (effect (object text) size m.regs o l a)
  row_of m o l a line st go s = order_row text size m.regs o l a line st go s.at s.here s.started s.low s.small s.fields

  pub comes : (m : Machine) (o : Operation) (l a line : ℕ) (st : code.State) (go : Following) (m1 : Regs) → AtOrder m o l a line st go → effect (object text) size m.regs o l a ≡ plain (On m1) → m1.place ≡ m.regs.place + 1 → Comes m (behind_word st line) (go (behind_word st line)) m1
  comes m o l a line st go m1 s e p = record {
    reach = onward text size m (behind_ref m.regs.place (plain (On m1))) m1 (row_of m o l a line st go s ∙ ap (behind_ref m.regs.place) e) refl;
    at = order_next o l a line st go s.other s.at;
    place = let h = s.here in omega (arith, p, h);
  }

  -- an order whose address is a label
  pub labelled_is : (o : Operation) (l label line : ℕ) → l < 256 → label < 2 ^ 24 → words_of (piece_of (tagged LabelOrder (number_of o * 2 ^ 32 + l * 2 ^ 24 + label) line)) ≡ 1
  labelled_is o l label line low small = refl

  pub labelled_next : (o : Operation) (l label line : ℕ) (st : code.State) (go : Following) → At text st (with_label o l label line st go) → At text (behind_word st line) (go (behind_word st line))
  labelled_next o l label line st go at = behind text st (behind_word st line) (tagged LabelOrder (number_of o * 2 ^ 32 + l * 2 ^ 24 + label) line) (go (behind_word st line)) at (λ e. absurd (omega (arith, e))) (omega arith)

  pub record AtLabelledOrder (m : Machine) (o : Operation) (l label line : ℕ) (st : code.State) (go : Following) : Type 0 where
    pub at : At text st (with_label o l label line st go)
    pub here : m.regs.place ≡ st.words
    pub started : m.regs.started ≡ true
    pub low : l < 256
    pub small : label < 2 ^ 24
    pub near : address_of text label 0 < 2 ^ 24
    pub fields : is_row (Some o) l (address_of text label 0) ≡ true

  pub labelled_far : (m : Machine) (o : Operation) (l label line : ℕ) (st : code.State) (go : Following) → AtLabelledOrder m o l label line st go → m.regs.place + 1 < length (object text)
  labelled_far m o l label line st go s =
      let lt : suc st.words < length (object text) = within text ends (behind_word st line) (go (behind_word st line)) (labelled_next o l label line st go s.at) in
      omega (arith, lt, s.here)

  pub labelled_row_of : (m : Machine) (o : Operation) (l label line : ℕ) (st : code.State) (go : Following) → AtLabelledOrder m o l label line st go → row (object text) size m.regs ≡ behind_ref m.regs.place (effect (object text) size m.regs o l (address_of text label 0))
  labelled_row_of m o l label line st go s = labelled_row text size m.regs o l label line st go s.at s.here s.started s.low s.small s.near s.fields

  -- it goes on by an order whose row is known
  pub goes_by : (m : Machine) (o : Operation) (l a : ℕ) (m1 : Regs) → row (object text) size m.regs ≡ behind_ref m.regs.place (effect (object text) size m.regs o l a) → effect (object text) size m.regs o l a ≡ plain (On m1) → Reach text size m (to m m1)
  goes_by m o l a m1 e f = onward text size m (behind_ref m.regs.place (plain (On m1))) m1 (e ∙ ap (behind_ref m.regs.place) f) refl

  pub placed : PlacesAreAddresses text → (st : code.State) (label line : ℕ) (rest : List Symbol) → At text st (tagged LabelPlace label line ∷ rest) → (label < 2 ^ 24) × (address_of text label 0 ≡ st.words)
  placed right st label line rest at = let r = right at.before rest label line at.whole in (r.0, r.1 ∙ at.count)

  -- the piece behind a label's place
  pub defined : (label : ℕ) (st : code.State) (go : Following) → At text st (define label st go) → At text st (go st)
  defined label st go at = behind text st st (tagged LabelPlace label st.line) (go st) at (λ e. absurd (omega (arith, e))) (omega arith)

  -- ---- what rows come to, where the next order exists

  module _ (m : Regs) (next : m.place + 1 < length (object text)) where
    next_is : nat_lt (m.place + 1) (length (object text)) ≡ true
    next_is = lt-ltb (m.place + 1) (length (object text)) next

    pub on_row : (m1 : Regs) → on (object text) size m m1 ≡ plain (On (record m1 { place = m.place + 1 }))
    on_row m1 = needed _ _ next_is

    pub local_row : (a : ℕ) (go : ℕ → Row) → m.base + a < size → local (object text) size m a go ≡ go (m.words (m.base + a))
    local_row a go lt = needed _ _ (lt-ltb (m.base + a) size lt)

    pub jump_row : (a : ℕ) → m.place < a → a < length (object text) → jumps (object text) size m a ≡ plain (On (record m { place = a }))
    jump_row a fore short = needed _ _ (ap₂ (λ x y. x && y) (lt-ltb m.place a fore) (lt-ltb a (length (object text)) short))

    -- a number in R, or an alarm
    abbrev pub Settled : Row → Result ℤ Spoil → Type 0
    Settled r (Ok z) = (word : ℕ) × (int_of_word word ≡ z) × (r ≡ plain (On (record m { r = word; place = m.place + 1 })))
    Settled r (Err spoil) = r ≡ plain (Ends (Alarmed (alarm_of spoil)) m)

    alarm_row : (spoil : Spoil) → answered (object text) size m (Err spoil) ≡ plain (Ends (Alarmed (alarm_of spoil)) m)
    alarm_row spoil = needed _ _ next_is

    pub held_settles : (z : ℤ) → Settled (answered (object text) size m (in_range_or_spill z)) (in_range_or_spill z)
    held_settles z = by (is_in_range z) refl
      where
        by : (t : Bool) → is_in_range z ≡ t → Settled (answered (object text) size m (if t then Ok z else Err Spill)) (if t then Ok z else Err Spill)
        by true e = (word_of_int z, round_trip z e, on_row (record m { r = word_of_int z }))
        by false e = alarm_row Spill

    quotient_settles : (a b : ℤ) → Settled (answered (object text) size m (quotient_of a b)) (quotient_of a b)
    quotient_settles a b = by (is_zero b) (int_div a b) (held_settles (int_div a b))
      where
        by : (t : Bool) (z : ℤ) → Settled (answered (object text) size m (in_range_or_spill z)) (in_range_or_spill z) → Settled (answered (object text) size m (if t then Err Division else in_range_or_spill z)) (if t then Err Division else in_range_or_spill z)
        by true z h = alarm_row Division
        by false z h = h

    power_settles : (a b : ℤ) → Settled (answered (object text) size m (power_of a b)) (power_of a b)
    power_settles a b = by (int_lt b (pos 0)) (is_zero a && is_zero b) (int_pow a (small_exponent (nat_abs b))) (held_settles (int_pow a (small_exponent (nat_abs b))))
      where
        by : (t u : Bool) (z : ℤ) → Settled (answered (object text) size m (in_range_or_spill z)) (in_range_or_spill z) → Settled (answered (object text) size m (if t then Err Power else (if u then Err Power else in_range_or_spill z))) (if t then Err Power else (if u then Err Power else in_range_or_spill z))
        by true u z h = alarm_row Power
        by false true z h = alarm_row Power
        by false false z h = h

    pub truth_settles : (b c : Bool) → b ≡ c → Settled (gives (object text) size m (rows.truth b)) (Ok (meaning.truth c))
    truth_settles b c e = (rows.truth b, truth_word b ∙ ap meaning.truth e, on_row (record m { r = rows.truth b }))

    pub settled_by : (r r1 : Row) (x : Result ℤ Spoil) → r ≡ r1 → Settled r1 x → Settled r x
    settled_by r r1 x e h = subst (λ u. Settled u x) (sym e) h

    -- the two words
    module _ (a : ℕ) (lt : m.base + a < size) where
      w : ℤ
      w = int_of_word (m.words (m.base + a))

      settled_local : (go : ℕ → Row) (x : Result ℤ Spoil) → Settled (go (m.words (m.base + a))) x → Settled (local (object text) size m a go) x
      settled_local go x h = settled_by (local (object text) size m a go) (go (m.words (m.base + a))) x (local_row a go lt) h

      computed : (f : ℤ → ℤ → Result ℤ Spoil) → Settled (answered (object text) size m (f (int_of_word (m.words (m.base + a))) (int_of_word m.r))) (f (int_of_word (m.words (m.base + a))) (int_of_word m.r)) → Settled (computes (object text) size m a f) (f (int_of_word (m.words (m.base + a))) (int_of_word m.r))
      computed f h = settled_local (λ v. answered (object text) size m (f (int_of_word v) (int_of_word m.r))) (f (int_of_word (m.words (m.base + a))) (int_of_word m.r)) h

      compared : (f : ℤ → ℤ → Bool) (c : Bool) → f (int_of_word (m.words (m.base + a))) (int_of_word m.r) ≡ c → Settled (compares (object text) size m a f) (Ok (meaning.truth c))
      compared f c e = settled_local (λ v. gives (object text) size m (rows.truth (f (int_of_word v) (int_of_word m.r)))) (Ok (meaning.truth c)) (truth_settles (f (int_of_word (m.words (m.base + a))) (int_of_word m.r)) c e)

      decided : (f g : Bool → Bool → Bool) → ((x y : Bool) → f x y ≡ g x y) → Settled (decides (object text) size m a f) (Ok (meaning.truth (g (meaning.is_true (int_of_word (m.words (m.base + a)))) (meaning.is_true (int_of_word m.r)))))
      decided f g e =
          let x : Bool = meaning.is_true (int_of_word (m.words (m.base + a))) in
          let y : Bool = meaning.is_true (int_of_word m.r) in
          settled_local (λ v. gives (object text) size m (rows.truth (f (rows.is_true v) (rows.is_true m.r)))) (Ok (meaning.truth (g x y)))
          (truth_settles (f (rows.is_true (m.words (m.base + a))) (rows.is_true m.r)) (g x y) (ap₂ f (same_truth (m.words (m.base + a))) (same_truth m.r) ∙ e x y))

      pub joins : (o : Operator) → Settled (effect (object text) size m (operation o) 0 a) (apply_operator o (int_of_word (m.words (m.base + a))) (int_of_word m.r))
      joins (Adds Add) = computed sum_of (held_settles (int_of_word (m.words (m.base + a)) +ℤ int_of_word m.r))
      joins (Adds Subtract) = computed difference_of (held_settles (int_of_word (m.words (m.base + a)) -ℤ int_of_word m.r))
      joins (Multiplies Multiply) = computed product_of (held_settles (int_of_word (m.words (m.base + a)) *ℤ int_of_word m.r))
      joins (Multiplies Divide) = computed quotient_of (quotient_settles (int_of_word (m.words (m.base + a))) (int_of_word m.r))
      joins Raises = computed power_of (power_settles (int_of_word (m.words (m.base + a))) (int_of_word m.r))
      joins (Compares LessThan) = compared (λ w r. int_lt w r) (int_lt (int_of_word (m.words (m.base + a))) (int_of_word m.r)) refl
      joins (Compares AtMost) = compared (λ w r. int_le w r) (int_le (int_of_word (m.words (m.base + a))) (int_of_word m.r)) refl
      joins (Compares EqualTo) = compared (λ w r. are_equal w r) (are_equal (int_of_word (m.words (m.base + a))) (int_of_word m.r)) refl
      joins (Compares AtLeast) = compared (λ w r. int_le r w) (int_le (int_of_word m.r) (int_of_word (m.words (m.base + a)))) refl
      joins (Compares MoreThan) = compared (λ w r. int_lt r w) (int_lt (int_of_word m.r) (int_of_word (m.words (m.base + a)))) refl
      joins (Compares Unequal) = compared (λ w r. not (are_equal w r)) (int_lt (int_of_word (m.words (m.base + a))) (int_of_word m.r) || int_lt (int_of_word m.r) (int_of_word (m.words (m.base + a)))) (unequal (int_of_word (m.words (m.base + a))) (int_of_word m.r))
      joins Ands = decided (λ w r. w && r) (λ w r. w && r) (λ x y. refl)
      joins Ors = decided (λ w r. w || r) (λ w r. w || r) (λ x y. refl)
      joins Implies = decided (λ w r. not w || r) (λ w r. not w || r) (λ x y. refl)
      joins Equals = decided (λ w r. (w && r) || (not w && not r)) meaning.are_alike alike

    pub negates : Settled (effect (object text) size m op.Neg 0 0) (negative_of (int_of_word m.r))
    negates = held_settles (neg_ℤ (int_of_word m.r))
