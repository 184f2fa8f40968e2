-- The order of `ininteger` does what the procedure means: the number that it reads from the data has its word.
use Rattle.std.proofs.Common.{◌≡◌, ℕ, ◌+◌, ◌<◌, ◌≤◌, Bool, true, false, ℤ, pos, List, [], ◌∷◌, length, refl, ap, ◌∙◌, arith}
use Rattle.std.specs.Prelude.{◌^◌, ◌&&◌, ◌==◌, ◌-◌, ◌+ℤ◌, ◌-ℤ◌, ◌*ℤ◌, nat_le, if◌then◌else◌, Result, Ok, Err}
use Rattle.std.proofs.lemmas.Bool.{lt-ltb, leb-true}
use Rattle.std.proofs.lemmas.List.{append-nil}
use Rattle.std.proofs.lemmas.Int.{ints}
use Rattle.gier_word.specs.declared.alarm.Alarm.{Alarm}
use Rattle.gier_word.specs.declared.alarm.Alarm.TheVariants.{Data}
use Rattle.gier_word.specs.Words.{word_of_int}
use Rattle.gier_word.specs.Operations.{is_in_range}
use Rattle.gier_word.specs.Standard.{Reading, at_byte, behind_byte, is_digit, is_skipped, with_digit, digits_read, first_digit_read, sign_read, integer_read}
use Rattle.gier_symbol.specs.declared.symbol.Symbol.{Symbol}
use Rattle.gier_order.specs.declared.operation.Operation.TheVariants as op
use Rattle.gier_order.specs.Flat.Row.{Regs, On, Ends, Row, plain, behind_ref}
use Rattle.gier_order.specs.Flat.Row as row
use Rattle.gier_order.specs.Flat.Rows as rows
use Rattle.gier_order.specs.Flat.Rows.{effect}
use Rattle.gier_order.specs.Flat.Run.{with_row}
use Rattle.gier_tree.specs.Orders as code
use Rattle.gier_tree.specs.Orders.{Following, order, behind_word}
use Rattle.gier_tree.specs.Places.{Places}
use Rattle.gier_tree.specs.Words.{HasStop}
use Rattle.gier_meaning.specs.Live.{Live}
use Rattle.gier_meaning.specs.Outcome.{Alarmed}
use Rattle.gier_meaning.specs.Standard.{reads}
use Rattle.gier_meaning.specs.State.{State}
use Rattle.gier_env.specs.Closures.{Closure}
use Rattle.gier_env.specs.Env.{Env}
use Rattle.gier_flat.proofs.Positions.{At}
use Rattle.gier_flat.proofs.OrderRows.{Machine, object, stopped}
use Rattle.gier_flat.proofs.StackRelation.{Known, RunInvariant, RefinesOutcome, Behind}
use Rattle.gier_flat.proofs.Orders.{to, AtOrder, far, row_of, comes, on_row, needed}
use Rattle.gier_flat.proofs.StopReport.{stops_here}
use Rattle.gier_flat.proofs.Values.{Same, line_here}
use Rattle.gier_flat.proofs.Numbers.{round_trip}

-- a number that is told has its word
abbrev pub HasWord : Result ℤ Alarm → Type 0
HasWord (Ok z) = is_in_range z ≡ true
HasWord (Err alarm) = Unit {0}

-- ---- the first digit

small_range : (k : ℕ) → k < 10 → is_in_range (pos k) ≡ true
small_range k lt = grind (arith, ints)

digit_plus : (k : ℕ) → k < 10 → is_in_range ((pos 0 *ℤ pos 10) +ℤ pos k) ≡ true
digit_plus k lt = grind (arith, ints)

digit_minus : (k : ℕ) → k < 10 → is_in_range ((pos 0 *ℤ pos 10) -ℤ pos k) ≡ true
digit_minus k lt = grind (arith, ints)

is_ten : (a : ℕ) → is_digit a ≡ true → a - 48 < 10
is_ten a e = by (nat_le 48 a) (nat_le a 57) refl e
  where
    by : (t u : Bool) → nat_le a 57 ≡ u → (t && u) ≡ true → a - 48 < 10
    by true true g e = let hi : a ≤ 57 = leb-true a 57 g in omega (arith, hi)
    by true false g e = let f : false ≡ true = e in absurd (cc)
    by false u g e = let f : false ≡ true = e in absurd (cc)

first_in_range : (negative : Bool) (byte : ℕ) → is_digit byte ≡ true → is_in_range (with_digit negative (pos 0) byte) ≡ true
first_in_range true byte e = digit_minus (byte - 48) (is_ten byte e)
first_in_range false byte e = digit_plus (byte - 48) (is_ten byte e)

-- ---- what is read

digits_hold : (negative : Bool) (n : ℤ) (bytes : List ℕ) → is_in_range n ≡ true → HasWord (digits_read negative n bytes).outcome
digits_hold negative n [] e = e
digits_hold negative n (byte ∷ bytes) e = by (is_digit byte) (is_in_range (with_digit negative n byte)) (digits_read negative (with_digit negative n byte) bytes) (λ f. digits_hold negative (with_digit negative n byte) bytes f)
  where
    by : (t u : Bool) (r : Reading) → (u ≡ true → HasWord r.outcome) → HasWord (if t then (if u then behind_byte r else at_byte (Err Data)) else at_byte (Ok n)).outcome
    by true true r h = h refl
    by true false r h = tt
    by false u r h = e

first_holds : (negative : Bool) (bytes : List ℕ) → HasWord (first_digit_read negative bytes).outcome
first_holds negative [] = tt
first_holds negative (byte ∷ bytes) = by (is_digit byte) (digits_read negative (with_digit negative (pos 0) byte) bytes) (λ f. digits_hold negative (with_digit negative (pos 0) byte) bytes (first_in_range negative byte f))
  where
    by : (t : Bool) (r : Reading) → (t ≡ true → HasWord r.outcome) → HasWord (if t then behind_byte r else at_byte (Err Data)).outcome
    by true r h = h refl
    by false r h = tt

sign_holds : (byte : ℕ) (bytes : List ℕ) → HasWord (sign_read byte bytes).outcome
sign_holds byte bytes = by (byte == 45) (byte == 43) (first_digit_read true bytes) (first_digit_read false bytes) (first_digit_read false (byte ∷ bytes)) (first_holds true bytes) (first_holds false bytes) (first_holds false (byte ∷ bytes))
  where
    by : (t u : Bool) (a b c : Reading) → HasWord a.outcome → HasWord b.outcome → HasWord c.outcome → HasWord (if t then behind_byte a else (if u then behind_byte b else c)).outcome
    by true u a b c i j k = i
    by false true a b c i j k = j
    by false false a b c i j k = k

pub integer_holds : (bytes : List ℕ) → HasWord (integer_read bytes).outcome
integer_holds [] = tt
integer_holds (byte ∷ bytes) = by (is_skipped byte) (integer_read bytes) (sign_read byte bytes) (integer_holds bytes) (sign_holds byte bytes)
  where
    by : (t : Bool) (a b : Reading) → HasWord a.outcome → HasWord b.outcome → HasWord (if t then behind_byte a else b).outcome
    by true a b i j = i
    by false a b i j = j

-- ---- the order

module _ (text : List Symbol) (size : ℕ) (ends : HasStop text) (small : size < 2 ^ 24) (n : ℕ) (env : Env) (p : Places) (lives : Live) where
  pub number_run : (x : Result ℤ Alarm) (left : List ℕ) → HasWord x → (K : Known) (w need : ℕ) (m : Machine) (s : State Closure) (line : ℕ) (st : code.State) (go : Following) → RunInvariant text size K w need env p m s lives → At text st (order op.Lib 0 5 line st go) → m.regs.place ≡ st.words → rows.procedure (object text) size m.regs 5 ≡ rows.received (object text) size m.regs x left
      → RefinesOutcome text size ℤ K K.label m s (Behind text size go) m.regs.base m.regs.top (Same text size ends small K) (reads x line lives (record s { unread = left }))
  number_run (Ok z) left holds K w need m s line st go h at here is =
      let sd : AtOrder text size ends m op.Lib 0 5 line st go = record { at = at; here = here; started = h.started; low = omega arith; small = omega arith; fields = refl; other = λ e. absurd (omega (arith, e)) } in
      let next_is = far text size ends m op.Lib 0 5 line st go sd in
      let m1 : Regs = record m.regs { r = word_of_int z; input = left; place = m.regs.place + 1 } in
      let e : effect (object text) size m.regs op.Lib 0 5 ≡ plain (On m1) = needed _ _ (lt-ltb (m.regs.place + 1) (length (object text)) next_is) ∙ is ∙ on_row text size ends m.regs next_is (record m.regs { r = word_of_int z; input = left }) in
      let c = comes text size ends m op.Lib 0 5 line st go m1 sd e refl in (
        to text size ends m m1,
        c.reach,
        (behind_word st line, c.at, c.place),
        round_trip z holds,
        record {
          on_base = refl;
          at_top = refl;
          started = h.started;
          keeps = λ q i. refl;
          marks = λ q i. refl;
          holds = h.holds;
          sorts = λ k lt. refl;
          left = h.left;
          most = h.most;
          printed = append-nil m.printed ∙ h.printed;
          input = refl;
          fresh = omega arith;
          fewer = omega arith;
          deeper = omega arith;
          higher = omega arith;
        },
      )
  number_run (Err alarm) left holds K w need m s line st go h at here is =
      let sd : AtOrder text size ends m op.Lib 0 5 line st go = record { at = at; here = here; started = h.started; low = omega arith; small = omega arith; fields = refl; other = λ e. absurd (omega (arith, e)) } in
      let next_is = far text size ends m op.Lib 0 5 line st go sd in
      let m1 : Regs = record m.regs { input = left } in
      let r : Row = behind_ref m.regs.place (plain (Ends (row.Alarmed alarm) m1)) in
      let e : effect (object text) size m.regs op.Lib 0 5 ≡ plain (Ends (row.Alarmed alarm) m1) = needed _ _ (lt-ltb (m.regs.place + 1) (length (object text)) next_is) ∙ is in
      -- it stops as it would with the data as they were
      let told = stops_here text size K w need env p m s s lives (row.Alarmed alarm) m.regs (behind_ref m.regs.place (plain (Ends (row.Alarmed alarm) m.regs))) (Alarmed alarm) line h refl refl refl refl refl refl h.started refl refl h.left refl refl refl (line_here text size ends small m op.Lib 0 5 line st go sd) in (
        1,
        record { ending = row.Alarmed alarm; state = with_row m r m1 },
        stopped text size m r (row.Alarmed alarm) m1 (row_of text size ends m op.Lib 0 5 line st go sd ∙ ap (behind_ref m.regs.place) e) refl,
        record { ending = told.ending; printed = told.printed; left = told.left; most = told.most; input = refl; line = told.line; alike = told.alike },
      )
