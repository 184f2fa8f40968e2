-- Activations that are entered and left, as rows.
use Rattle.std.specs.Prelude.{◌≡◌, ◌+◌, ◌-◌, ◌*◌, ◌/◌, ◌%◌, ◌<◌, ◌≤◌, ◌&&◌, ℕ, zero, suc, Bool, true, false, not, nat_lt, nat_le, max, List, length, slice_index, slice_set, if◌then◌else◌}
use Rattle.std.proofs.Common.{arith, refl, ap, sym, ◌∙◌}
use Rattle.std.proofs.lemmas.Bool.Decides.{nat_tests}
use Rattle.std.proofs.lemmas.Bool.{lt-ltb}
use Rattle.std.proofs.lemmas.List.{length-set}
use Rattle.gier_word.specs.declared.alarm.Alarm.TheVariants.{Stack}
use Rattle.gier_frames.specs.State.{State, IsKept}
use Rattle.gier_frames.specs.Effects.{entered_one, after_start, entered_block, left, call_words, after_call as frames_called}
use Rattle.gier_frames.specs.Writes.{with_zeros, with_two, with_header}
use Rattle.gier_order.specs.Flat.Region.{put, with_copy, with_pair, with_activation}
use Rattle.gier_order.specs.Flat.Row.{Regs, Alarmed, NoSteps, On, Ends, Row, plain, needs, odd, Entry, NoStep, NoRoom, Enters, entry}
use Rattle.gier_order.specs.Flat.Rows.{on, inside, called, outside, first_activation, taken_by}
use Rattle.gier_exec.specs.Registers.{Registers}
use Rattle.gier_exec.specs.Rows.{regs_of}
use Rattle.gier_exec.proofs.Regions.{put_is, opened_is, pair_is, moved_is, length-with_zeros}
use Rattle.gier_exec.proofs.RowResults.{on_is}

-- Taking a step and then room

pub no_step : (size steps greatest top room : ℕ) → steps ≡ 0 → entry size steps greatest top room ≡ NoStep
no_step size zero greatest top room e = refl
no_step size (suc n) greatest top room e = absurd (omega (arith, e))

choice : (b : Bool) (left greatest end : ℕ) → Entry
choice b left greatest end = elim b as (λ _. Entry) [ true ↦ Enters left greatest end | false ↦ NoRoom left ]

pub room_there : (size steps greatest top room : ℕ) → 0 < steps → top + room ≤ size → entry size steps greatest top room ≡ Enters (steps - 1) (max greatest (top + room)) (top + room)
unfolding choice
room_there size zero greatest top room some fits = absurd (omega (arith, some))
room_there size (suc n) greatest top room some fits =
    let yes : nat_le (top + room) size ≡ true = grind (arith, nat_tests, fits) in
    let less : suc n - 1 ≡ n = omega arith in
    rw less (ap (λ b. choice b n (max greatest (top + room)) (top + room)) yes)

pub no_room : (size steps greatest top room : ℕ) → 0 < steps → size < top + room → entry size steps greatest top room ≡ NoRoom (steps - 1)
unfolding choice
no_room size zero greatest top room some past = absurd (omega (arith, some))
no_room size (suc n) greatest top room some past =
    let no : nat_le (top + room) size ≡ false = grind (arith, nat_tests, past) in
    let less : suc n - 1 ≡ n = omega arith in
    rw less (ap (λ b. choice b n (max greatest (top + room)) (top + room)) no)

-- The registers in a new activation

abbrev pub paid : Registers → Registers
paid m = record m { steps = m.steps - 1 }

abbrev pub deeper : Registers → Registers
deeper m = record m { steps = m.steps - 1; depth = m.depth + 1 }

marked : (s : State) (room mark : ℕ) → IsKept s → 3 ≤ room → s.top + room ≤ length s.words → slice_index (slice_set s.marks s.top mark) ≡ put (slice_index s.marks) s.top mark
marked s room mark kept least fits = put_is s.marks s.top mark (rw kept.marks (omega (arith, least, fits)))

with_both : (regs : Regs) (f g h k : ℕ → ℕ) → f ≡ g → h ≡ k → record regs { words = f; marks = h } ≡ record regs { words = g; marks = k }
with_both regs f g h k e d = ap (λ f. record regs { words = f; marks = h }) e ∙ ap (λ h. record regs { words = g; marks = h }) d

pub inside_is : (code input : List ℕ) (m : Registers) (s : State) (level room outer mark : ℕ) → IsKept s → 3 ≤ room → s.top + room ≤ length s.words
    → inside code (length s.words) (regs_of m s input) level room outer mark (m.steps - 1) (max s.greatest (s.top + room)) (s.top + room) ≡ record (regs_of (deeper m) (entered_one s level room outer mark) input) { started = s.entered }
inside_is code input m s level room outer mark kept least fits =
    sym (with_both (record (regs_of (deeper m) (entered_one s level room outer mark) input) { started = s.entered }) _ _ _ _
    (opened_is s.words s.top s.base level outer room least fits) (marked s room mark kept least fits))

length-with_activation : (ws : List ℕ) (at old head end room : ℕ) → length (with_header (with_zeros ws at room) at old head end) ≡ length ws
length-with_activation ws at old head end room = length-set _ _ _ ∙ length-set _ _ _ ∙ length-set _ _ _ ∙ length-with_zeros ws at room

length-pair : (ws : List ℕ) (at first second : ℕ) → length (with_two ws at first second) ≡ length ws
length-pair ws at first second = length-set _ _ _ ∙ length-set _ _ _

odd_part : (count : ℕ) → count % 2 + count / 2 * 2 ≡ count
odd_part count = grind arith

called_words : (s : State) (level room outer back wanted from count : ℕ) → 5 + count ≤ room → s.top + room ≤ length s.words
    → slice_index (call_words s.words s.top room s.base (level * 16777216 + outer) back wanted from count)
    ≡ with_copy (with_pair (with_activation (slice_index s.words) s.top s.base level outer room) (s.top + 3) back wanted) (s.top + 5 + count % 2) (slice_index s.words) from (count / 2 * 2)
called_words s level room outer back wanted from count least fits =
    let head = with_header (with_zeros s.words s.top room) s.top s.base (level * 16777216 + outer) (s.top + room) in
    let long : length head ≡ length s.words = length-with_activation s.words s.top s.base (level * 16777216 + outer) (s.top + room) room in
    let two : length (with_two head (s.top + 3) back wanted) ≡ length s.words = length-pair head (s.top + 3) back wanted ∙ long in
    let parts : count % 2 + count / 2 * 2 ≡ count = odd_part count in
    moved_is (with_two head (s.top + 3) back wanted) s.words (s.top + 5 + count % 2) from (count / 2 * 2) (rw two (omega (arith, parts, least, fits)))
    ∙ ap (λ f. with_copy f (s.top + 5 + count % 2) (slice_index s.words) from (count / 2 * 2))
    (pair_is head (s.top + 3) back wanted (rw long (omega (arith, least, fits)))
    ∙ ap (λ f. with_pair f (s.top + 3) back wanted) (opened_is s.words s.top s.base level outer room (omega (arith, least)) fits))

pub called_is : (code input : List ℕ) (m : Registers) (s : State) (level room outer wanted from count : ℕ) → IsKept s → 5 + count ≤ room → s.top + room ≤ length s.words
    → called code (length s.words) (regs_of m s input) level room outer wanted (s.base + from) count (m.steps - 1) (max s.greatest (s.top + room)) (s.top + room)
    ≡ record (regs_of (deeper m) (frames_called s level room outer (m.place + 1) wanted from count) input) { started = s.entered }
called_is code input m s level room outer wanted from count kept least fits =
    sym (with_both (record (regs_of (deeper m) (frames_called s level room outer (m.place + 1) wanted from count) input) { started = s.entered }) _ _ _ _
    (called_words s level room outer (m.place + 1) wanted (s.base + from) count least fits) (marked s room 1 kept (omega (arith, least)) fits))

-- BLOCK

abbrev block_go : (code input : List ℕ) (m : Registers) (s : State) (level room : ℕ) → ℕ → ℕ → ℕ → Row
block_go code input m s level room left greatest end = on code (length s.words) (regs_of m s input) (inside code (length s.words) (regs_of m s input) level room s.base 0 left greatest end)

abbrev block_row : (code input : List ℕ) (m : Registers) (s : State) (level room : ℕ) → Row
block_row code input m s level room =
    needs (nat_le 3 room && (nat_lt s.base (length s.words) && nat_lt (m.place + 1) (length code)))
    (taken_by code (length s.words) (regs_of m s input) (entry (length s.words) m.steps s.greatest s.top room) (block_go code input m s level room))

block_open : (code input : List ℕ) (m : Registers) (s : State) (level room : ℕ) → IsKept s → s.entered ≡ true → m.place + 1 < length code → 3 ≤ room
    → block_row code input m s level room ≡ taken_by code (length s.words) (regs_of m s input) (entry (length s.words) m.steps s.greatest s.top room) (block_go code input m s level room)
block_open code input m s level room kept entered next least =
    let base : s.base < length s.words = kept.base entered in
    let holds : (nat_le 3 room && (nat_lt s.base (length s.words) && nat_lt (m.place + 1) (length code))) ≡ true = grind (arith, nat_tests, base, next, least) in
    ap (λ b. needs b (taken_by code (length s.words) (regs_of m s input) (entry (length s.words) m.steps s.greatest s.top room) (block_go code input m s level room))) holds

pub block_small : (code input : List ℕ) (m : Registers) (s : State) (level room : ℕ) → room < 3 → block_row code input m s level room ≡ odd
block_small code input m s level room small =
    let no : (nat_le 3 room && (nat_lt s.base (length s.words) && nat_lt (m.place + 1) (length code))) ≡ false = grind (arith, nat_tests, small) in
    ap (λ b. needs b (taken_by code (length s.words) (regs_of m s input) (entry (length s.words) m.steps s.greatest s.top room) (block_go code input m s level room))) no

pub block_no_step : (code input : List ℕ) (m : Registers) (s : State) (level room : ℕ) → IsKept s → s.entered ≡ true → m.place + 1 < length code → 3 ≤ room → m.steps ≡ 0
    → block_row code input m s level room ≡ plain (Ends NoSteps (regs_of m s input))
block_no_step code input m s level room kept entered next least none =
    block_open code input m s level room kept entered next least
    ∙ ap (λ e. taken_by code (length s.words) (regs_of m s input) e (block_go code input m s level room)) (no_step (length s.words) m.steps s.greatest s.top room none)

pub block_no_room : (code input : List ℕ) (m : Registers) (s : State) (level room : ℕ) → IsKept s → s.entered ≡ true → m.place + 1 < length code → 3 ≤ room → 0 < m.steps → length s.words < s.top + room
    → block_row code input m s level room ≡ plain (Ends (Alarmed Stack) (regs_of (paid m) s input))
block_no_room code input m s level room kept entered next least some past =
    block_open code input m s level room kept entered next least
    ∙ ap (λ e. taken_by code (length s.words) (regs_of m s input) e (block_go code input m s level room)) (no_room (length s.words) m.steps s.greatest s.top room some past)

abbrev goes_on : (m : Registers) (s : State) (input : List ℕ) → Row
goes_on m s input = plain (On (record (regs_of m s input) { place = m.place + 1 }))

started_same : (regs : Regs) (b : Bool) (place : ℕ) → b ≡ true → record regs { started = b; place = place } ≡ record regs { started = true; place = place }
started_same regs b place e = ap (λ b. record regs { started = b; place = place }) e

pub block_enters : (code input : List ℕ) (m : Registers) (s : State) (level room : ℕ) → IsKept s → s.entered ≡ true → m.place + 1 < length code → 3 ≤ room → 0 < m.steps → s.top + room ≤ length s.words
    → block_row code input m s level room ≡ goes_on (deeper m) (entered_block s level room) input
block_enters code input m s level room kept entered next least some fits =
    block_open code input m s level room kept entered next least
    ∙ ap (λ e. taken_by code (length s.words) (regs_of m s input) e (block_go code input m s level room)) (room_there (length s.words) m.steps s.greatest s.top room some fits)
    ∙ on_is code (length s.words) (regs_of m s input) (inside code (length s.words) (regs_of m s input) level room s.base 0 (m.steps - 1) (max s.greatest (s.top + room)) (s.top + room)) next
    ∙ ap (λ regs. plain (On (record regs { place = m.place + 1 }))) (inside_is code input m s level room s.base 0 kept least fits)
    ∙ ap (λ regs. plain (On regs)) (started_same (regs_of (deeper m) (entered_block s level room) input) s.entered (m.place + 1) entered)

-- LEAVE

pub leave_row : (code input : List ℕ) (m : Registers) (s : State) → IsKept s → s.entered ≡ true → m.place + 1 < length code → 0 < m.depth → slice_index s.words s.base < length s.words
    → needs (nat_lt 0 m.depth) (needs (nat_lt s.base (length s.words)) (needs (nat_lt (slice_index s.words s.base) (length s.words)) (on code (length s.words) (regs_of m s input) (outside code (length s.words) (regs_of m s input)))))
    ≡ goes_on (record m { depth = m.depth - 1 }) (left s) input
leave_row code input m s kept entered next some old =
    rw (lt-ltb 0 m.depth some) (rw (lt-ltb s.base (length s.words) (kept.base entered)) (rw (lt-ltb (slice_index s.words s.base) (length s.words) old)
    (on_is code (length s.words) (regs_of m s input) (outside code (length s.words) (regs_of m s input)) next)))

-- START

zero_more : (n : ℕ) → 0 + n ≡ n
zero_more n = omega arith

pub start_row : (code input : List ℕ) (m : Registers) (s : State) (level room : ℕ) → IsKept s → s.entered ≡ false → m.place + 1 < length code → 3 ≤ room → room ≤ length s.words
    → needs (not s.entered && (nat_le 3 room && nat_lt (m.place + 1) (length code))) (if nat_le room (length s.words) then on code (length s.words) (regs_of m s input) (first_activation code (length s.words) (regs_of m s input) level room) else plain (Ends (Alarmed Stack) (regs_of m s input)))
    ≡ goes_on (record m { depth = 0 }) (after_start s level room) input
start_row code input m s level room kept entered next least fits =
    let holds : (not s.entered && (nat_le 3 room && nat_lt (m.place + 1) (length code))) ≡ true = grind (arith, nat_tests, entered, next, least) in
    let there : nat_le room (length s.words) ≡ true = grind (arith, nat_tests, fits) in
    let begun : State = record s { base = 0; top = 0 } in
    let kept_begun : IsKept begun = record { size = kept.size; marks = kept.marks; top = omega arith; base = λ e. omega (arith, least, fits) } in
    rw holds (rw there (
    on_is code (length s.words) (regs_of m s input) (first_activation code (length s.words) (regs_of m s input) level room) next
    ∙ ap (λ f. plain (On (record (first_activation code (length s.words) (regs_of m s input) level room) { words = f; place = m.place + 1 }))) (sym (opened_is s.words 0 0 level 0 room least (omega (arith, fits))))
    ∙ ap (λ f. plain (On (record (first_activation code (length s.words) (regs_of m s input) level room) { words = slice_index (after_start s level room).words; marks = f; place = m.place + 1 }))) (sym (marked begun room 0 kept_begun least (omega (arith, fits))))
    ∙ ap (λ n. plain (On (record (regs_of (record m { depth = 0 }) (after_start s level room) input) { top = n; greatest = max s.greatest n; place = m.place + 1 }))) (sym (zero_more room))))
