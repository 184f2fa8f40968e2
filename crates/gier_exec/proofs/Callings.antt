-- Procedures that are found and entered, as rows.
use Rattle.std.specs.Prelude.{◌≡◌, ◌≢◌, ◌+◌, ◌-◌, ◌*◌, ◌/◌, ◌%◌, ◌<◌, ◌≤◌, ◌^◌, ◌&&◌, ◌||◌, ◌==◌, ℕ, Bool, true, false, nat_lt, nat_le, List, length, None, Some, Result, Ok, Err, IfOk, if◌then◌else◌}
use Rattle.std.proofs.Common.{◌⊎◌, inl, inr, arith, refl, ap, sym, ◌∙◌}
use Rattle.std.proofs.lemmas.Bool.Decides.{nat_tests}
use Rattle.std.proofs.Math.Path.{fun_ext}
use Rattle.gier_word.specs.declared.alarm.Alarm.TheVariants.{Stack}
use Rattle.gier_frames.specs.State.{State, IsKept}
use Rattle.gier_frames.specs.Refusals.{is_call}
use Rattle.gier_frames.specs.Effects.{after_call as frames_called}
use Rattle.gier_order.specs.Flat.Region.{with_copy, with_pair, with_activation, is_within}
use Rattle.gier_order.specs.Flat.Row.{Regs, Alarmed, NoSteps, On, Ends, Row, plain, needs, odd, NoStep, NoRoom, Enters, entry}
use Rattle.gier_order.specs.Flat.Row.{Entry as RowEntry}
use Rattle.gier_order.specs.Flat.Rows.{can_enter, inside, called, taken_by, goes, enters, in_level, word_at}
use Rattle.gier_order.specs.Flat.Kinds.{Handed, Bare, Kinded, Neither, formals_handed, is_a}
use Rattle.gier_order.specs.declared.object.Object.{Object}
use Rattle.gier_order.specs.declared.order.Order.{Order}
use Rattle.gier_order.specs.declared.operation.Operation.{Operation}
use Rattle.gier_order.specs.declared.operation.Operation.TheVariants.{Start, Proc, Call, Formal, CallF, Kinds}
use Rattle.gier_exec.specs.declared.stop.Stop.{Stop}
use Rattle.gier_exec.specs.declared.stop.Stop.TheVariants.{Odd}
use Rattle.gier_exec.specs.declared.stop.Miss.{Miss}
use Rattle.gier_exec.specs.Numbers.{is_call as calls}
use Rattle.gier_exec.specs.Reading.{Stand}
use Rattle.gier_exec.specs.declared.activations.Entry.{Entry}
use Rattle.gier_exec.specs.Registers.{Registers}
use Rattle.gier_exec.specs.Rows.{regs_of}
use Rattle.gier_exec.specs.Searching.{RefinesSearch}
use Rattle.gier_exec.specs.Calling.{entry_row, IsHead, IsCallable, formals_in}
use Rattle.gier_exec.proofs.Entries.{no_step, no_room, room_there, paid, deeper, called_is}
use Rattle.gier_exec.proofs.Refusings.{both_left, both_right, le_of}
use Rattle.gier_exec.proofs.Searches.{needs_yes, needs_no, search_found, search_other}

is_yes : (a b : Bool) → a ≡ true → (a && b) ≡ b
is_yes true b e = refl
is_yes false b e = absurd cc

few_yes : (count : ℕ) → count ≤ 511 → nat_le count 511 ≡ true
few_yes count few = grind (arith, nat_tests, few)

-- what the row asks of an entry is what the frames ask
can_is : (code : List ℕ) (size : ℕ) (m : Regs) (room outer from count : ℕ) → count ≤ 511 → can_enter code size m room outer from count ≡ is_call size room outer from count
can_is code size m room outer from count few =
    sym (is_yes (nat_le count 511) (nat_le (5 + count) room && (nat_lt outer size && (nat_lt count 2 || nat_le (from + count / 2 * 2) size))) (few_yes count few))

abbrev enter_go : (code : List ℕ) (size : ℕ) (m : Regs) → Entry → ℕ → ℕ → ℕ → Row
enter_go code size m e left greatest end = goes code size m e.next (called code size m e.level e.room e.outer 0 (m.base + e.from) e.count left greatest end)

abbrev taken : (code : List ℕ) (size : ℕ) (m : Regs) → Entry → Row
taken code size m e = taken_by code size m (entry size m.left m.greatest m.top e.room) (enter_go code size m e)

entering_can : (code : List ℕ) (size : ℕ) (m : Regs) (e : Entry) → e.count ≤ 511 → is_call size e.room e.outer (m.base + e.from) e.count ≡ true → entry_row code size m e ≡ taken code size m e
entering_can code size m e few can =
    needs_yes (can_enter code size m e.room e.outer (m.base + e.from) e.count) (taken code size m e) (can_is code size m e.room e.outer (m.base + e.from) e.count few ∙ can)

pub entering_odd : (code : List ℕ) (size : ℕ) (m : Regs) (e : Entry) → e.count ≤ 511 → is_call size e.room e.outer (m.base + e.from) e.count ≡ false → entry_row code size m e ≡ odd
entering_odd code size m e few can =
    needs_no (can_enter code size m e.room e.outer (m.base + e.from) e.count) (taken code size m e) (can_is code size m e.room e.outer (m.base + e.from) e.count few ∙ can)

pub entering_no_step : (code input : List ℕ) (m : Registers) (s : State) (e : Entry) → e.count ≤ 511 → is_call (length s.words) e.room e.outer (s.base + e.from) e.count ≡ true → m.steps ≡ 0
    → entry_row code (length s.words) (regs_of m s input) e ≡ plain (Ends NoSteps (regs_of m s input))
entering_no_step code input m s e few can none =
    entering_can code (length s.words) (regs_of m s input) e few can
    ∙ ap (λ x. taken_by code (length s.words) (regs_of m s input) x (enter_go code (length s.words) (regs_of m s input) e)) (no_step (length s.words) m.steps s.greatest s.top e.room none)

pub entering_no_room : (code input : List ℕ) (m : Registers) (s : State) (e : Entry) → e.count ≤ 511 → is_call (length s.words) e.room e.outer (s.base + e.from) e.count ≡ true → 0 < m.steps → length s.words < s.top + e.room
    → entry_row code (length s.words) (regs_of m s input) e ≡ plain (Ends (Alarmed Stack) (regs_of (paid m) s input))
entering_no_room code input m s e few can some past =
    entering_can code (length s.words) (regs_of m s input) e few can
    ∙ ap (λ x. taken_by code (length s.words) (regs_of m s input) x (enter_go code (length s.words) (regs_of m s input) e)) (no_room (length s.words) m.steps s.greatest s.top e.room some past)

room_of : (size room outer from count : ℕ) → is_call size room outer from count ≡ true → 5 + count ≤ room
room_of size room outer from count can =
    le_of (5 + count) room (both_left (nat_le (5 + count) room) (nat_lt outer size && (nat_lt count 2 || nat_le (from + count / 2 * 2) size)) (both_right (nat_le count 511) _ can))

started_same : (regs : Regs) (b : Bool) (place : ℕ) → b ≡ true → record regs { started = b; place = place } ≡ record regs { started = true; place = place }
started_same regs b place e = ap (λ b. record regs { started = b; place = place }) e

pub entering_goes : (code input : List ℕ) (m : Registers) (s : State) (e : Entry) → IsKept s → s.entered ≡ true → e.count ≤ 511 → is_call (length s.words) e.room e.outer (s.base + e.from) e.count ≡ true → 0 < m.steps → s.top + e.room ≤ length s.words
    → entry_row code (length s.words) (regs_of m s input) e ≡ plain (On (record (regs_of (deeper m) (frames_called s e.level e.room e.outer (m.place + 1) 0 e.from e.count) input) { place = e.next }))
entering_goes code input m s e kept entered few can some fits =
    entering_can code (length s.words) (regs_of m s input) e few can
    ∙ ap (λ x. taken_by code (length s.words) (regs_of m s input) x (enter_go code (length s.words) (regs_of m s input) e)) (room_there (length s.words) m.steps s.greatest s.top e.room some fits)
    ∙ ap (λ regs. plain (On (record regs { place = e.next }))) (called_is code input m s e.level e.room e.outer 0 e.from e.count kept (room_of (length s.words) e.room e.outer (s.base + e.from) e.count can) fits)
    ∙ ap (λ regs. plain (On regs)) (started_same (regs_of (deeper m) (frames_called s e.level e.room e.outer (m.place + 1) 0 e.from e.count) input) s.entered e.next entered)

-- a place past all words
past_no : (size room outer base from count : ℕ) → size < 2 ^ 24 → 2 ^ 32 ≤ from → (count < 2 → from ≡ 0) → is_call size room outer (base + from) count ≡ false
past_no size room outer base from count few past none =
    let more : 2 ≤ count = by (nat_lt count 2) refl in
    let no : nat_lt count 2 ≡ false = grind (arith, nat_tests, more) in
    let over : nat_le (base + from + count / 2 * 2) size ≡ false = grind (arith, nat_tests, few, past) in
    false_in (nat_le count 511) (nat_le (5 + count) room) (nat_lt outer size) (nat_lt count 2) (nat_le (base + from + count / 2 * 2) size) no over
  where
    by : (b : Bool) → nat_lt count 2 ≡ b → 2 ≤ count
    by false e = grind (arith, nat_tests, e)
    by true e = let less : count < 2 = grind (arith, nat_tests, e) in let zero_from : from ≡ 0 = none less in absurd (omega (arith, zero_from, past))

    false_in : (a b c d e : Bool) → d ≡ false → e ≡ false → (a && (b && (c && (d || e)))) ≡ false
    false_in false b c d e x y = refl
    false_in true false b d e x y = refl
    false_in true true false d e x y = refl
    false_in true true true true e x y = absurd cc
    false_in true true true false e x y = y

pub entering_past : (code input : List ℕ) (m : Registers) (s : State) (e : Entry) → IsKept s → IsCallable e → 2 ^ 32 ≤ e.from → entry_row code (length s.words) (regs_of m s input) e ≡ odd
entering_past code input m s e kept callable past =
    entering_odd code (length s.words) (regs_of m s input) e callable.count (past_no (length s.words) e.room e.outer s.base e.from e.count kept.size past callable.from)

-- Without actuals it doesn't matter where they would stand.

no_words : (count : ℕ) → count < 2 → count / 2 * 2 ≡ 0
no_words count less = grind (arith, less)

none_within : (at q : ℕ) → is_within at 0 q ≡ false
none_within at q = grind (arith, nat_tests)

choice : Bool → ℕ → ℕ → ℕ
choice b x y = elim b as (λ _. ℕ) [ true ↦ x | false ↦ y ]

copied_none : (f g : ℕ → ℕ) (at from other : ℕ) → with_copy f at g from 0 ≡ with_copy f at g other 0
unfolding choice
copied_none f g at from other = fun_ext (λ q. ap (λ b. choice b (g (from + (q - at))) (f q)) (none_within at q) ∙ sym (ap (λ b. choice b (g (other + (q - at))) (f q)) (none_within at q)))

or_yes : (a x y : Bool) → a ≡ true → (a || x) ≡ (a || y)
or_yes true x y e = refl
or_yes false x y e = absurd cc

taken_as : (code : List ℕ) (size : ℕ) (m : Regs) (x : RowEntry) (go other : ℕ → ℕ → ℕ → Row) → ((left greatest end : ℕ) → go left greatest end ≡ other left greatest end) → taken_by code size m x go ≡ taken_by code size m x other
taken_as code size m NoStep go other h = refl
taken_as code size m (NoRoom left) go other h = refl
taken_as code size m (Enters left greatest end) go other h = h left greatest end

module _ (code : List ℕ) (size : ℕ) (m : Regs) (level room outer from other count a : ℕ) (less : count < 2) where
  words_same : with_copy (with_pair (with_activation m.words m.top m.base level outer room) (m.top + 3) (m.place + 1) 0) (m.top + 5 + count % 2) m.words from (count / 2 * 2)
      ≡ with_copy (with_pair (with_activation m.words m.top m.base level outer room) (m.top + 3) (m.place + 1) 0) (m.top + 5 + count % 2) m.words other (count / 2 * 2)
  words_same =
      let f : ℕ → ℕ = with_pair (with_activation m.words m.top m.base level outer room) (m.top + 3) (m.place + 1) 0 in
      let at = m.top + 5 + count % 2 in
      ap (λ n. with_copy f at m.words from n) (no_words count less) ∙ copied_none f m.words at from other ∙ sym (ap (λ n. with_copy f at m.words other n) (no_words count less))

  called_same : (left greatest end : ℕ) → goes code size m a (called code size m level room outer 0 from count left greatest end) ≡ goes code size m a (called code size m level room outer 0 other count left greatest end)
  called_same left greatest end = ap (λ f. plain (On (record (inside code size m level room outer 1 left greatest end) { words = f; place = a }))) words_same

  can_same : can_enter code size m room outer from count ≡ can_enter code size m room outer other count
  can_same =
      let yes : nat_lt count 2 ≡ true = grind (arith, nat_tests, less) in
      ap (λ b. nat_le (5 + count) room && (nat_lt outer size && b)) (or_yes (nat_lt count 2) (nat_le (from + count / 2 * 2) size) (nat_le (other + count / 2 * 2) size) yes)

  pub enters_same : enters code size m level room outer from count a ≡ enters code size m level room outer other count a
  enters_same =
      let go : ℕ → ℕ → ℕ → Row = λ left greatest end. goes code size m a (called code size m level room outer 0 from count left greatest end) in
      let go_other : ℕ → ℕ → ℕ → Row = λ left greatest end. goes code size m a (called code size m level room outer 0 other count left greatest end) in
      let x : RowEntry = entry size m.left m.greatest m.top room in
      ap (λ b. needs b (taken_by code size m x go)) can_same ∙ ap (λ r. needs (can_enter code size m room outer other count) r) (taken_as code size m x go go_other called_same)

-- The parts of what was found

abbrev pub IsMade : (Order → ℕ → Row) → (ℕ → ℕ → ℕ → Row) → Type 0
IsMade go made = (head : Order) (count : ℕ) → go head count ≡ made head.level head.address count

pub search_head : (object : Object) (old new : Stand) (row : Row) (regs : Regs) (head : Order) (go : Order → ℕ → Row) (made : ℕ → ℕ → ℕ → Row) (result : Result Entry Miss) → IsMade go made
    → IfOk result (λ e. e.level ≡ head.level) → IfOk result (λ e. e.room ≡ head.address) → RefinesSearch object old new row regs (λ (e : Entry). go head e.count) result → RefinesSearch object old new row regs (λ (e : Entry). made e.level e.room e.count) result
search_head object old new row regs head go made (Ok e) is level room h =
    search_found object old new row regs (λ (e : Entry). go head e.count) e (λ (e : Entry). made e.level e.room e.count) e h
    (is head e.count ∙ ap (λ l. made l head.address e.count) (sym level) ∙ ap (λ a. made e.level a e.count) (sym room))
search_head object old new row regs head go made (Err miss) is level room h = search_other object old new row regs (λ (e : Entry). go head e.count) (λ (e : Entry). made e.level e.room e.count) miss h

-- what CALL does with a PROC and the word behind it
abbrev pub call_made : (code : List ℕ) (size : ℕ) (m : Regs) (l a : ℕ) → ℕ → ℕ → ℕ → Row
call_made code size m l a level room count = in_level code size m l (λ outer. enters code size m level room outer (m.base + m.r) count (a + 2))

abbrev pub call_go : (code : List ℕ) (size : ℕ) (m : Regs) (l a : ℕ) → Order → ℕ → Row
call_go code size m l a head count = call_made code size m l a head.level head.address count

from_is : (code : List ℕ) (size : ℕ) (m : Regs) (level room outer count a : ℕ) (b : Bool) → nat_lt 1 count ≡ b
    → enters code size m level room outer (m.base + m.r) count a ≡ enters code size m level room outer (m.base + (if b then m.r else 0)) count a
from_is code size m level room outer count a true e = refl
from_is code size m level room outer count a false e = let less : count < 2 = grind (arith, nat_tests, e) in enters_same code size m level room outer (m.base + m.r) (m.base + 0) count a less

-- the procedure of CALL is entered
pub call_enters : (code : List ℕ) (size : ℕ) (m : Regs) (e : Entry) (a outer from : ℕ) → e.next ≡ a + 2 → from ≡ (if nat_lt 1 e.count then m.r else 0)
    → enters code size m e.level e.room outer (m.base + m.r) e.count (a + 2) ≡ entry_row code size m (record e { outer = outer; from = from })
call_enters code size m e a outer from next is =
    from_is code size m e.level e.room outer e.count (a + 2) (nat_lt 1 e.count) refl
    ∙ ap (λ n. enters code size m e.level e.room outer (m.base + n) e.count (a + 2)) (sym is)
    ∙ ap (λ n. enters code size m e.level e.room outer (m.base + from) e.count n) (sym next)

-- FORMAL

pub bare_of : (what : Handed) → formals_in what ≡ Ok None → what ≡ Bare
bare_of Bare e = refl
bare_of (Kinded n) e = absurd cc
bare_of Neither e = absurd cc

pub kinded_of : (what : Handed) (n : ℕ) → formals_in what ≡ Ok (Some n) → what ≡ Kinded n
kinded_of Bare n e = absurd cc
kinded_of (Kinded k) n e = let same : k ≡ n = cc in ap (λ n. Kinded n) same
kinded_of Neither n e = absurd cc

pub neither_of : (what : Handed) (stop : Stop) → formals_in what ≡ Err stop → (what ≡ Neither) × (stop ≡ Odd)
neither_of Bare stop e = absurd cc
neither_of (Kinded k) stop e = absurd cc
neither_of Neither stop e = (refl, cc)

abbrev pub bare_go : (code : List ℕ) (size : ℕ) (m : Regs) (place k : ℕ) → Order → ℕ → Row
bare_go code size m place k head count = word_at code size m place (λ outer. enters code size m head.level head.address outer m.base count (k + 2))

abbrev pub bare_entering : (code : List ℕ) (size : ℕ) (m : Regs) (place : ℕ) → Entry → Row
bare_entering code size m place e = word_at code size m place (λ outer. entry_row code size m (record e { outer = outer }))

bare_is : (code : List ℕ) (size : ℕ) (m : Regs) (place k : ℕ) (head : Order) (e : Entry) → e.level ≡ head.level → e.room ≡ head.address → IsHead e k → bare_go code size m place k head e.count ≡ bare_entering code size m place e
bare_is code size m place k head e level room parts =
    let from : m.base ≡ m.base + e.from = omega (arith, parts.from) in
    ap (λ l. word_at code size m place (λ outer. enters code size m l head.address outer m.base e.count (k + 2))) (sym level)
    ∙ ap (λ a. word_at code size m place (λ outer. enters code size m e.level a outer m.base e.count (k + 2))) (sym room)
    ∙ ap (λ p. word_at code size m place (λ outer. enters code size m e.level e.room outer p e.count (k + 2))) from
    ∙ ap (λ n. word_at code size m place (λ outer. enters code size m e.level e.room outer (m.base + e.from) e.count n)) (sym parts.next)

pub search_bare : (object : Object) (old new : Stand) (code : List ℕ) (size : ℕ) (m : Regs) (place k : ℕ) (head : Order) (row : Row) (result : Result Entry Miss)
    → IfOk result (λ e. e.level ≡ head.level) → IfOk result (λ e. e.room ≡ head.address) → IfOk result (λ e. IsHead e k)
    → RefinesSearch object old new row m (λ (e : Entry). bare_go code size m place k head e.count) result → RefinesSearch object old new row m (bare_entering code size m place) result
search_bare object old new code size m place k head row (Ok e) level room parts h =
    search_found object old new row m (λ (e : Entry). bare_go code size m place k head e.count) e (bare_entering code size m place) e h (bare_is code size m place k head e level room parts)
search_bare object old new code size m place k head row (Err miss) level room parts h =
    search_other object old new row m (λ (e : Entry). bare_go code size m place k head e.count) (bare_entering code size m place) miss h

-- CALLF

abbrev pub kinded_made : (code : List ℕ) (size : ℕ) (m : Regs) (place k n : ℕ) → ℕ → ℕ → ℕ → Row
kinded_made code size m place k n level room count = needs (count / 2 == n) (word_at code size m place (λ outer. enters code size m level room outer (m.base + m.r) count (k + 2)))

abbrev pub kinded_go : (code : List ℕ) (size : ℕ) (m : Regs) (place k n : ℕ) → Order → ℕ → Row
kinded_go code size m place k n head count = kinded_made code size m place k n head.level head.address count

pub kinded_is : (code : List ℕ) (size : ℕ) (m : Regs) (place k n : ℕ) (e : Entry) → e.next ≡ k + 2 → e.count / 2 ≡ n
    → kinded_made code size m place k n e.level e.room e.count ≡ word_at code size m place (λ outer. entry_row code size m (record e { outer = outer; from = m.r }))
kinded_is code size m place k n e next same =
    let yes : (e.count / 2 == n) ≡ true = grind (arith, nat_tests, same) in
    needs_yes (e.count / 2 == n) (word_at code size m place (λ outer. enters code size m e.level e.room outer (m.base + m.r) e.count (k + 2))) yes
    ∙ ap (λ p. word_at code size m place (λ outer. enters code size m e.level e.room outer (m.base + m.r) e.count p)) (sym next)

pub kinded_other : (code : List ℕ) (size : ℕ) (m : Regs) (place k n : ℕ) (e : Entry) → (e.count / 2 ≡ n → ⊥) → kinded_made code size m place k n e.level e.room e.count ≡ odd
kinded_other code size m place k n e other =
    let no : (e.count / 2 == n) ≡ false = grind (arith, nat_tests, other) in
    needs_no (e.count / 2 == n) (word_at code size m place (λ outer. enters code size m e.level e.room outer (m.base + m.r) e.count (k + 2))) no

pub call_other : (operation : Operation) → operation ≢ Call → operation ≢ Formal → calls operation ≡ true → operation ≡ CallF
call_other Call a b is = absurd (a refl)
call_other Formal a b is = absurd (b refl)
call_other CallF a b is = refl
call_other operation a b is = absurd cc

pub call_of : (operation : Operation) → (operation ≡ Call) ⊎ ((operation ≡ Formal) ⊎ (operation ≡ CallF)) → (calls operation ≡ true) × (operation ≢ Start)
call_of operation (inl e) = (rw e refl, rw e (λ f. absurd cc))
call_of operation (inr (inl e)) = (rw e refl, rw e (λ f. absurd cc))
call_of operation (inr (inr e)) = (rw e refl, rw e (λ f. absurd cc))

kinded_by : (a b : Bool) (level n : ℕ) → (if a then Bare else (if b then Kinded level else Neither)) ≡ Kinded n → n ≡ level
kinded_by true b level n e = absurd cc
kinded_by false true level n e = cc
kinded_by false false level n e = absurd cc

pub kinded_level : (head : Order) (n : ℕ) → formals_handed head ≡ Kinded n → n ≡ head.level
kinded_level head n e = kinded_by (is_a Proc head) (is_a Kinds head && (nat_le 1 head.level && nat_le head.level 80)) head.level n e
