-- Evaluations that are entered, as rows.
use Rattle.std.specs.Prelude.{◌≡◌, ◌≢◌, ◌+◌, ◌-◌, ◌<◌, ◌≤◌, ◌==◌, ◌&&◌, ℕ, Bool, true, false, nat_lt, nat_le, max, if◌then◌else◌, List, length, Option, None, Some}
use Rattle.std.proofs.Common.{arith, refl, ap, sym, subst, ◌⊎◌, inl, inr, ⊎_elim, ◌∙◌}
use Rattle.gier_word.specs.declared.alarm.Alarm.{Alarm}
use Rattle.gier_word.specs.declared.alarm.Alarm.TheVariants.{Stack, Assignment}
use Rattle.gier_frames.specs.declared.halt.Halt.{Halt}
use Rattle.gier_frames.specs.declared.halt.Halt.TheVariants.{Alarm as HaltAlarm, Odd as HaltOdd}
use Rattle.gier_frames.specs.State.{State, IsKept}
use Rattle.gier_frames.specs.Refusals.{is_call, call_refusal}
use Rattle.gier_frames.specs.Effects.{after_call as frames_called}
use Rattle.gier_order.specs.declared.order.Order.{Order}
use Rattle.gier_names.specs.declared.wanted.Wanted.{Wanted}
use Rattle.gier_names.specs.Evaluations.{number_of, is_thunk, is_unassignable, entry_refusal, or_assignment, begin_refusal, entered_unless, begun}
use Rattle.gier_order.specs.Flat.Row.{Regs, Alarmed, NoSteps, On, Ends, Row, plain, needs, odd, Entry, entry}
use Rattle.gier_order.specs.Flat.Rows.{called, taken_by, can_enter, begins, goes, stops}
use Rattle.gier_exec.specs.declared.activations.Evaluation.{Evaluation}
use Rattle.gier_exec.specs.Registers.{Registers}
use Rattle.gier_exec.specs.Rows.{regs_of}
use Rattle.gier_exec.specs.Beginning.{evaluation_row}
use Rattle.gier_exec.proofs.Entries.{no_step, no_room, room_there, paid, deeper, called_is}
use Rattle.gier_exec.proofs.Refusings.{both_left, both_right, not_left, room_free, room_alarm, room_odd, le_of}
use Rattle.gier_exec.proofs.Searches.{needs_yes, needs_no}

-- what the row asks of an entry is what the frames ask
can_is : (code : List ℕ) (size : ℕ) (m : Regs) (room outer from at : ℕ) → can_enter code size m room outer from 0 ≡ is_call size room outer at 0
can_is code size m room outer from at = refl

abbrev begin_go : (code : List ℕ) (size : ℕ) (m : Regs) → Evaluation → ℕ → ℕ → ℕ → Row
begin_go code size m e left greatest end =
    begins code size m e.thunk.level (number_of e.wanted) e.next (called code size m 0 e.thunk.address e.outer (number_of e.wanted) m.base 0 left greatest end)

abbrev taken : (code : List ℕ) (size : ℕ) (m : Regs) → Evaluation → Row
taken code size m e = taken_by code size m (entry size m.left m.greatest m.top e.thunk.address) (begin_go code size m e)

abbrev holds : State → Evaluation → Bool
holds s e = is_call (length s.words) e.thunk.address e.outer (s.base + 0) 0

begin_can : (code input : List ℕ) (m : Registers) (s : State) (e : Evaluation) → holds s e ≡ true → evaluation_row code (length s.words) (regs_of m s input) e ≡ taken code (length s.words) (regs_of m s input) e
begin_can code input m s e can =
    needs_yes (can_enter code (length s.words) (regs_of m s input) e.thunk.address e.outer s.base 0) (taken code (length s.words) (regs_of m s input) e)
    (can_is code (length s.words) (regs_of m s input) e.thunk.address e.outer s.base (s.base + 0) ∙ can)

pub begin_lost : (code input : List ℕ) (m : Registers) (s : State) (e : Evaluation) → holds s e ≡ false → evaluation_row code (length s.words) (regs_of m s input) e ≡ odd
begin_lost code input m s e can =
    needs_no (can_enter code (length s.words) (regs_of m s input) e.thunk.address e.outer s.base 0) (taken code (length s.words) (regs_of m s input) e)
    (can_is code (length s.words) (regs_of m s input) e.thunk.address e.outer s.base (s.base + 0) ∙ can)

pub begin_no_step : (code input : List ℕ) (m : Registers) (s : State) (e : Evaluation) → holds s e ≡ true → m.steps ≡ 0 → evaluation_row code (length s.words) (regs_of m s input) e ≡ plain (Ends NoSteps (regs_of m s input))
begin_no_step code input m s e can none =
    begin_can code input m s e can
    ∙ ap (λ x. taken_by code (length s.words) (regs_of m s input) x (begin_go code (length s.words) (regs_of m s input) e)) (no_step (length s.words) m.steps s.greatest s.top e.thunk.address none)

begin_no_room : (code input : List ℕ) (m : Registers) (s : State) (e : Evaluation) → holds s e ≡ true → 0 < m.steps → length s.words < s.top + e.thunk.address
    → evaluation_row code (length s.words) (regs_of m s input) e ≡ plain (Ends (Alarmed Stack) (regs_of (paid m) s input))
begin_no_room code input m s e can some past =
    begin_can code input m s e can
    ∙ ap (λ x. taken_by code (length s.words) (regs_of m s input) x (begin_go code (length s.words) (regs_of m s input) e)) (no_room (length s.words) m.steps s.greatest s.top e.thunk.address some past)

room_of : (s : State) (e : Evaluation) → holds s e ≡ true → 5 + 0 ≤ e.thunk.address
room_of s e can = le_of (5 + 0) e.thunk.address (both_left (nat_le (5 + 0) e.thunk.address) _ (both_right (nat_le 0 511) _ can))

abbrev entered_by : Registers → State → Evaluation → State
entered_by m s e = frames_called s 0 e.thunk.address e.outer (m.place + 1) (number_of e.wanted) 0 0

entered_regs : (code input : List ℕ) (m : Registers) (s : State) (e : Evaluation) → IsKept s → s.entered ≡ true → holds s e ≡ true → s.top + e.thunk.address ≤ length s.words
    → called code (length s.words) (regs_of m s input) 0 e.thunk.address e.outer (number_of e.wanted) s.base 0 (m.steps - 1) (max s.greatest (s.top + e.thunk.address)) (s.top + e.thunk.address)
    ≡ regs_of (deeper m) (entered_by m s e) input
entered_regs code input m s e kept entered can fits =
    let none : s.base + 0 ≡ s.base = omega arith in
    subst (λ b. called code (length s.words) (regs_of m s input) 0 e.thunk.address e.outer (number_of e.wanted) b 0 (m.steps - 1) (max s.greatest (s.top + e.thunk.address)) (s.top + e.thunk.address) ≡ regs_of (deeper m) (entered_by m s e) input) none
    (called_is code input m s 0 e.thunk.address e.outer (number_of e.wanted) 0 0 kept (room_of s e can) fits
    ∙ ap (λ b. record (regs_of (deeper m) (entered_by m s e) input) { started = b }) entered)

begin_there : (code input : List ℕ) (m : Registers) (s : State) (e : Evaluation) → IsKept s → s.entered ≡ true → holds s e ≡ true → 0 < m.steps → s.top + e.thunk.address ≤ length s.words
    → evaluation_row code (length s.words) (regs_of m s input) e ≡ begins code (length s.words) (regs_of m s input) e.thunk.level (number_of e.wanted) e.next (regs_of (deeper m) (entered_by m s e) input)
begin_there code input m s e kept entered can some fits =
    begin_can code input m s e can
    ∙ ap (λ x. taken_by code (length s.words) (regs_of m s input) x (begin_go code (length s.words) (regs_of m s input) e)) (room_there (length s.words) m.steps s.greatest s.top e.thunk.address some fits)
    ∙ ap (λ regs. begins code (length s.words) (regs_of m s input) e.thunk.level (number_of e.wanted) e.next regs) (entered_regs code input m s e kept entered can fits)

-- What the frames answer

abbrev may_enter : State → Evaluation → Option Halt
may_enter s e = call_refusal s e.thunk.address e.outer 0 0

entry_is : (s : State) (e : Evaluation) → is_thunk e.thunk ≡ true → entry_refusal s e.thunk e.outer ≡ may_enter s e
entry_is s e is = ap (λ b. if b then may_enter s e else Some HaltOdd) is

abbrev or_unassignable : Bool → Option Halt
or_unassignable b = if b then Some (HaltAlarm Assignment) else None

answer_none : (refusal : Option Halt) (thunk : Order) (wanted : Wanted) → or_assignment refusal thunk wanted ≡ None → (refusal ≡ None) × (is_unassignable thunk wanted ≡ false)
answer_none (Some halt) thunk wanted e = absurd cc
answer_none None thunk wanted e = (refl, by (is_unassignable thunk wanted) e)
  where
    by : (b : Bool) → or_unassignable b ≡ None → b ≡ false
    by true h = absurd cc
    by false h = refl

answer_some : (refusal : Option Halt) (thunk : Order) (wanted : Wanted) (halt : Halt) → or_assignment refusal thunk wanted ≡ Some halt
    → (refusal ≡ Some halt) ⊎ ((refusal ≡ None) × ((is_unassignable thunk wanted ≡ true) × (halt ≡ HaltAlarm Assignment)))
answer_some (Some found) thunk wanted halt e = inl e
answer_some None thunk wanted halt e = inr (refl, by (is_unassignable thunk wanted) e)
  where
    by : (b : Bool) → or_unassignable b ≡ Some halt → (b ≡ true) × (halt ≡ HaltAlarm Assignment)
    by true h = (refl, cc)
    by false h = absurd cc

begun_is : (m : Registers) (s : State) (e : Evaluation) → entry_refusal s e.thunk e.outer ≡ None → begun s e.thunk e.outer e.wanted (m.place + 1) ≡ entered_by m s e
begun_is m s e free = ap (λ refusal. entered_unless refusal s (entered_by m s e)) free

begun_not : (m : Registers) (s : State) (e : Evaluation) (halt : Halt) → entry_refusal s e.thunk e.outer ≡ Some halt → begun s e.thunk e.outer e.wanted (m.place + 1) ≡ s
begun_not m s e halt refused = ap (λ refusal. entered_unless refusal s (entered_by m s e)) refused

pub begin_goes : (code input : List ℕ) (m : Registers) (s : State) (e : Evaluation) → IsKept s → s.entered ≡ true → is_thunk e.thunk ≡ true → 0 < m.steps → begin_refusal s e.thunk e.outer e.wanted ≡ None
    → evaluation_row code (length s.words) (regs_of m s input) e ≡ plain (On (record (regs_of (deeper m) (begun s e.thunk e.outer e.wanted (m.place + 1)) input) { place = e.next }))
begin_goes code input m s e kept entered thunk some answer =
    let both = answer_none (entry_refusal s e.thunk e.outer) e.thunk e.wanted answer in
    let free = room_free (s.entered && holds s e) (s.top + e.thunk.address) (length s.words) (sym (entry_is s e thunk) ∙ both.0) in
    rw (begun_is m s e both.0) (
    begin_there code input m s e kept entered (both_right s.entered (holds s e) free.0) some free.1
    ∙ ap (λ b. if b then stops code (length s.words) (regs_of m s input) (Alarmed Assignment) (regs_of (deeper m) (entered_by m s e) input) else goes code (length s.words) (regs_of m s input) e.next (regs_of (deeper m) (entered_by m s e) input)) both.1)

pub begin_alarm : (code input : List ℕ) (m after : Registers) (s : State) (e : Evaluation) (alarm : Alarm) → IsKept s → s.entered ≡ true → is_thunk e.thunk ≡ true → 0 < m.steps
    → (alarm ≡ Assignment → after ≡ deeper m) → (alarm ≢ Assignment → after ≡ paid m) → begin_refusal s e.thunk e.outer e.wanted ≡ Some (HaltAlarm alarm)
    → evaluation_row code (length s.words) (regs_of m s input) e ≡ plain (Ends (Alarmed alarm) (regs_of after (begun s e.thunk e.outer e.wanted (m.place + 1)) input))
begin_alarm code input m after s e alarm kept entered thunk some assigned full answer =
    ⊎_elim stack there (answer_some (entry_refusal s e.thunk e.outer) e.thunk e.wanted (HaltAlarm alarm) answer)
  where
    stack : entry_refusal s e.thunk e.outer ≡ Some (HaltAlarm alarm)
        → evaluation_row code (length s.words) (regs_of m s input) e ≡ plain (Ends (Alarmed alarm) (regs_of after (begun s e.thunk e.outer e.wanted (m.place + 1)) input))
    stack h =
        let all = room_alarm (s.entered && holds s e) (s.top + e.thunk.address) (length s.words) alarm (sym (entry_is s e thunk) ∙ h) in
        let is : alarm ≡ Stack = all.1.1 in
        let other : alarm ≢ Assignment = λ same. cc in
        rw (begun_not m s e (HaltAlarm alarm) h) (rw (full other) (rw is (begin_no_room code input m s e (both_right s.entered (holds s e) all.0) some all.1.0)))

    there : (entry_refusal s e.thunk e.outer ≡ None) × ((is_unassignable e.thunk e.wanted ≡ true) × (HaltAlarm alarm ≡ HaltAlarm Assignment))
        → evaluation_row code (length s.words) (regs_of m s input) e ≡ plain (Ends (Alarmed alarm) (regs_of after (begun s e.thunk e.outer e.wanted (m.place + 1)) input))
    there h =
        let free = room_free (s.entered && holds s e) (s.top + e.thunk.address) (length s.words) (sym (entry_is s e thunk) ∙ h.0) in
        let given : HaltAlarm alarm ≡ HaltAlarm Assignment = h.1.1 in
        let is : alarm ≡ Assignment = cc in
        rw (begun_is m s e h.0) (rw (assigned is) (rw is (
        begin_there code input m s e kept entered (both_right s.entered (holds s e) free.0) some free.1
        ∙ ap (λ b. if b then stops code (length s.words) (regs_of m s input) (Alarmed Assignment) (regs_of (deeper m) (entered_by m s e) input) else goes code (length s.words) (regs_of m s input) e.next (regs_of (deeper m) (entered_by m s e) input)) h.1.0)))

pub begin_odd : (code input : List ℕ) (m : Registers) (s : State) (e : Evaluation) → s.entered ≡ true → is_thunk e.thunk ≡ true → begin_refusal s e.thunk e.outer e.wanted ≡ Some HaltOdd
    → evaluation_row code (length s.words) (regs_of m s input) e ≡ odd
begin_odd code input m s e entered thunk answer =
    ⊎_elim there never (answer_some (entry_refusal s e.thunk e.outer) e.thunk e.wanted HaltOdd answer)
  where
    there : entry_refusal s e.thunk e.outer ≡ Some HaltOdd → evaluation_row code (length s.words) (regs_of m s input) e ≡ odd
    there h =
        let no = room_odd (s.entered && holds s e) (s.top + e.thunk.address) (length s.words) (sym (entry_is s e thunk) ∙ h) in
        begin_lost code input m s e (not_left s.entered (holds s e) no entered)

    never : (entry_refusal s e.thunk e.outer ≡ None) × ((is_unassignable e.thunk e.wanted ≡ true) × (HaltOdd ≡ HaltAlarm Assignment)) → evaluation_row code (length s.words) (regs_of m s input) e ≡ odd
    never h = let is = h.1.1 in absurd cc
