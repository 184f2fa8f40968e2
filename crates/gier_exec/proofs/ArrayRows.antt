-- Arrays, as rows.
use Rattle.std.specs.Prelude.{◌≡◌, ◌+◌, ◌-◌, ◌*◌, ◌^◌, ◌<◌, ◌≤◌, ◌&&◌, ◌==◌, ℕ, zero, suc, Bool, true, false, nat_lt, nat_le, List, length, slice_index, slice_set, Option, None, Some, Result, Ok, Err, if◌then◌else◌}
use Rattle.std.proofs.Common.{arith, refl, ap, sym, ◌∙◌}
use Rattle.std.proofs.lemmas.Bool.Decides.{nat_tests}
use Rattle.std.proofs.lemmas.Bool.{lt-ltb}
use Rattle.std.proofs.lemmas.List.{length-set}
use Rattle.gier_word.specs.declared.alarm.Alarm.TheVariants.{Stack, Bounds, Subscript}
use Rattle.gier_frames.specs.declared.halt.Halt.{Halt}
use Rattle.gier_frames.specs.declared.halt.Halt.TheVariants.{Alarm as HaltAlarm, Odd as HaltOdd}
use Rattle.gier_frames.specs.State.{State, IsKept}
use Rattle.gier_frames.specs.Numbers.{are_ordered, elements, are_within, offset, element_at, extent, lower, upper, subscript}
use Rattle.gier_frames.specs.Refusals.{is_array, array_refusal}
use Rattle.gier_frames.specs.Effects.{with_array}
use Rattle.gier_frames.specs.Walk.{element_of}
use Rattle.gier_frames.specs.Writes.{with_zeros, words_from, with_values, with_two}
use Rattle.gier_order.specs.Flat.Region.{put, with_copy, with_pair, cleared_words}
use Rattle.gier_order.specs.Flat.Arrays.{are_ordered as row_ordered, elements as row_elements, are_within as row_within, offset as row_offset}
use Rattle.gier_order.specs.Flat.Row.{Regs, Alarmed, On, Ends, Row, plain, needs}
use Rattle.gier_order.specs.Flat.Rows.{on, gives, array, element, is_index}
use Rattle.gier_order.specs.Flat.Rows
use Rattle.gier_exec.specs.declared.stop.Stop.{Stop}
use Rattle.gier_exec.specs.Registers.{Registers}
use Rattle.gier_exec.specs.Rows.{regs_of}
use Rattle.gier_exec.specs.Following.{RefinesStop, RefinesResult, stop_of}
use Rattle.gier_exec.proofs.Regions.{put_is, pair_is, cleared_is, moved_is, length-with_zeros}
use Rattle.gier_exec.proofs.FrameReads.{stopped}
use Rattle.gier_exec.proofs.RowResults.{on_is, gives_is}
use Rattle.gier_exec.proofs.Refusings.{le_of}

pub ordered_is : (ws : List ℕ) (at d : ℕ) → row_ordered (slice_index ws) at d ≡ are_ordered ws at d
ordered_is ws at zero = refl
ordered_is ws at (suc d) = ap (λ b. b && nat_le (lower ws at d) (upper ws at d)) (ordered_is ws at d)

pub elements_is : (ws : List ℕ) (at d : ℕ) → row_elements (slice_index ws) at d ≡ elements ws at d
elements_is ws at zero = refl
elements_is ws at (suc d) = ap (λ n. n * extent ws at d) (elements_is ws at d)

pub within_is : (ws : List ℕ) (at from d : ℕ) → row_within (slice_index ws) at from d ≡ are_within ws at from d
within_is ws at from zero = refl
within_is ws at from (suc d) =
    ap (λ b. b && (nat_le (lower ws at d) (subscript ws from d) && nat_le (subscript ws from d) (upper ws at d)))
    (within_is ws at from d)

pub offset_is : (ws : List ℕ) (at from d : ℕ) → row_offset (slice_index ws) at from d ≡ offset ws at from d
offset_is ws at from zero = refl
offset_is ws at from (suc d) =
    ap (λ n. n * extent ws at d + (subscript ws from d - lower ws at d)) (offset_is ws at from d)

-- ARRAY

with_next : (a b c d e n : Bool) → n ≡ true → (a && (b && (c && (d && (e && n))))) ≡ (a && (b && (c && (d && e))))
with_next false b c d e n h = refl
with_next true false c d e n h = refl
with_next true true false d e n h = refl
with_next true true true false e n h = refl
with_next true true true true false n h = refl
with_next true true true true true n h = h

abbrev refusal_by : (entered holds ordered fits : Bool) → Option Halt
refusal_by entered holds ordered fits =
    if entered && holds then (if ordered then (if fits then None else Some (HaltAlarm Stack)) else Some (HaltAlarm Bounds)) else Some HaltOdd

abbrev row_by : (holds ordered fits : Bool) (regs : Regs) (done : Row) → Row
row_by holds ordered fits regs done =
    needs holds (if ordered then (if fits then done else plain (Ends (Alarmed Stack) regs)) else plain (Ends (Alarmed Bounds) regs))

halts_by : (entered holds ordered fits : Bool) (regs : Regs) (done : Row) (halt : Halt) → entered ≡ true → refusal_by entered holds ordered fits ≡ Some halt → RefinesStop (row_by holds ordered fits regs done) regs (stop_of halt)
halts_by true false ordered fits regs done halt h e = let is : halt ≡ HaltOdd = cc in rw is refl
halts_by true true false fits regs done halt h e = let is : halt ≡ HaltAlarm Bounds = cc in rw is refl
halts_by true true true false regs done halt h e = let is : halt ≡ HaltAlarm Stack = cc in rw is refl
halts_by true true true true regs done halt h e = absurd cc
halts_by false holds ordered fits regs done halt h e = absurd cc

free_by : (entered holds ordered fits : Bool) (regs : Regs) (done : Row) → refusal_by entered holds ordered fits ≡ None → (holds ≡ true) × ((fits ≡ true) × (row_by holds ordered fits regs done ≡ done))
free_by true true true true regs done e = (refl, (refl, refl))
free_by true true true false regs done e = absurd cc
free_by true true false fits regs done e = absurd cc
free_by true false ordered fits regs done e = absurd cc
free_by false holds ordered fits regs done e = absurd cc

abbrev array_done : (code input : List ℕ) (m : Registers) (s : State) (d place from : ℕ) → Row
array_done code input m s d place from =
    on code (length s.words) (regs_of m s input) (Rows.with_array code (length s.words) (regs_of m s input) d (s.base + place) (s.base + from) (elements s.words (s.base + from) d))

-- the row, by what the frames test
array_tests : (code input : List ℕ) (m : Registers) (s : State) (d place from : ℕ) → m.place + 1 < length code
    → array code (length s.words) (regs_of m s input) d (s.base + place) (s.base + from)
    ≡ row_by (is_array (length s.words) d (s.base + place) (s.base + from) s.base) (are_ordered s.words (s.base + from) d) (nat_le (s.top + elements s.words (s.base + from) d) (length s.words)) (regs_of m s input) (array_done code input m s d place from)
array_tests code input m s d place from next =
    ap (λ b. needs b (if row_ordered (slice_index s.words) (s.base + from) d then (if nat_le (s.top + row_elements (slice_index s.words) (s.base + from) d) (length s.words) then on code (length s.words) (regs_of m s input) (Rows.with_array code (length s.words) (regs_of m s input) d (s.base + place) (s.base + from) (row_elements (slice_index s.words) (s.base + from) d)) else plain (Ends (Alarmed Stack) (regs_of m s input))) else plain (Ends (Alarmed Bounds) (regs_of m s input))))
    (with_next (nat_le 1 d) (nat_le d 30) (nat_le (s.base + place + 2 + 2 * d) (length s.words)) (nat_le (s.base + from + 2 * d) (length s.words)) (nat_lt (s.base + 2) (length s.words)) (nat_lt (m.place + 1) (length code)) (lt-ltb (m.place + 1) (length code) next))
    ∙ ap (λ b. needs (is_array (length s.words) d (s.base + place) (s.base + from) s.base) (if b then (if nat_le (s.top + row_elements (slice_index s.words) (s.base + from) d) (length s.words) then on code (length s.words) (regs_of m s input) (Rows.with_array code (length s.words) (regs_of m s input) d (s.base + place) (s.base + from) (row_elements (slice_index s.words) (s.base + from) d)) else plain (Ends (Alarmed Stack) (regs_of m s input))) else plain (Ends (Alarmed Bounds) (regs_of m s input))))
    (ordered_is s.words (s.base + from) d)
    ∙ ap (λ n. needs (is_array (length s.words) d (s.base + place) (s.base + from) s.base) (if are_ordered s.words (s.base + from) d then (if nat_le (s.top + n) (length s.words) then on code (length s.words) (regs_of m s input) (Rows.with_array code (length s.words) (regs_of m s input) d (s.base + place) (s.base + from) n) else plain (Ends (Alarmed Stack) (regs_of m s input))) else plain (Ends (Alarmed Bounds) (regs_of m s input))))
    (elements_is s.words (s.base + from) d)

pub array_halts : (code input : List ℕ) (m : Registers) (s : State) (d place from : ℕ) (halt : Halt) → m.place + 1 < length code → s.entered ≡ true → array_refusal s d place from ≡ Some halt
    → RefinesStop (array code (length s.words) (regs_of m s input) d (s.base + place) (s.base + from)) (regs_of m s input) (stop_of halt)
array_halts code input m s d place from halt next entered refused =
    rw (array_tests code input m s d place from next) (halts_by s.entered _ _ _ (regs_of m s input) (array_done code input m s d place from) halt entered refused)

length-pair : (ws : List ℕ) (at first second : ℕ) → length (with_two ws at first second) ≡ length ws
length-pair ws at first second = length-set _ _ _ ∙ length-set _ _ _

length-with_values : (ws : List ℕ) (at : ℕ) (values : List ℕ) (n : ℕ) → length (with_values ws at values n) ≡ length ws
length-with_values ws at values zero = refl
length-with_values ws at values (suc n) = length-set (with_values ws at values n) (at + n) (slice_index values n) ∙ length-with_values ws at values n

-- the words with an array
array_words_are : (ws : List ℕ) (d place from base top count : ℕ) → place + 2 + 2 * d ≤ length ws → base + 2 < length ws → top + count ≤ length ws
    → slice_index (slice_set (with_values (with_two (with_zeros ws top count) place top d) (place + 2) (words_from ws from (2 * d)) (2 * d)) (base + 2) (top + count))
    ≡ put (with_copy (with_pair (cleared_words (slice_index ws) top count) place top d) (place + 2) (slice_index ws) from (2 * d)) (base + 2) (top + count)
array_words_are ws d place from base top count descriptor header fits =
    let two = with_two (with_zeros ws top count) place top d in
    let long : length two ≡ length ws = length-pair (with_zeros ws top count) place top d ∙ length-with_zeros ws top count in
    let all : length (with_values two (place + 2) (words_from ws from (2 * d)) (2 * d)) ≡ length ws = length-with_values two (place + 2) (words_from ws from (2 * d)) (2 * d) ∙ long in
    put_is (with_values two (place + 2) (words_from ws from (2 * d)) (2 * d)) (base + 2) (top + count) (rw all header)
    ∙ ap (λ f. put f (base + 2) (top + count)) (moved_is two ws (place + 2) from (2 * d) (rw long descriptor)
    ∙ ap (λ f. with_copy f (place + 2) (slice_index ws) from (2 * d)) (pair_is (with_zeros ws top count) place top d (rw (length-with_zeros ws top count) (omega (arith, descriptor)))
    ∙ ap (λ f. with_pair f place top d) (cleared_is ws top count fits)))

third : (a b c d e : Bool) → (a && (b && (c && (d && e)))) ≡ true → (c ≡ true) × (e ≡ true)
third true true true true true h = (refl, refl)
third true true true true false h = absurd cc
third true true true false e h = absurd cc
third true true false d e h = absurd cc
third true false c d e h = absurd cc
third false b c d e h = absurd cc

pub array_taken : (code input : List ℕ) (m : Registers) (s : State) (d place from : ℕ) → m.place + 1 < length code → array_refusal s d place from ≡ None
    → array code (length s.words) (regs_of m s input) d (s.base + place) (s.base + from) ≡ plain (On (record (regs_of m (with_array s d place from) input) { place = m.place + 1 }))
array_taken code input m s d place from next refused =
    let free = free_by s.entered (is_array (length s.words) d (s.base + place) (s.base + from) s.base) (are_ordered s.words (s.base + from) d) (nat_le (s.top + elements s.words (s.base + from) d) (length s.words)) (regs_of m s input) (array_done code input m s d place from) refused in
    let parts = third _ _ _ _ _ free.0 in
    let header : s.base + 2 < length s.words = let yes : nat_lt (s.base + 2) (length s.words) ≡ true = parts.1 in grind (arith, nat_tests, yes) in
    array_tests code input m s d place from next ∙ free.1.1
    ∙ on_is code (length s.words) (regs_of m s input) (Rows.with_array code (length s.words) (regs_of m s input) d (s.base + place) (s.base + from) (elements s.words (s.base + from) d)) next
    ∙ ap (λ f. plain (On (record (regs_of m (with_array s d place from) input) { words = f; place = m.place + 1 })))
    (sym (array_words_are s.words d (s.base + place) (s.base + from) s.base s.top (elements s.words (s.base + from) d) (le_of _ _ parts.0) header (le_of _ _ free.1.0)))

-- INDEX

with_index : (a b c n : Bool) → n ≡ true → (a && (b && (c && n))) ≡ (a && (b && c))
with_index false b c n h = refl
with_index true false c n h = refl
with_index true true false n h = refl
with_index true true true n h = h

abbrev element_by : (a b c d e f : Bool) (p : ℕ) → Result ℕ Halt
element_by a b c d e f p =
    if a then (if b then (if c then (if d then (if e then (if f then Ok p else Err HaltOdd) else Err (HaltAlarm Subscript)) else Err HaltOdd) else Err (HaltAlarm Subscript)) else Err HaltOdd) else Err HaltOdd

abbrev element_row_by : (a b c d e f : Bool) (regs : Regs) (done : Row) → Row
element_row_by a b c d e f regs done =
    needs a (needs b (if c then needs d (if e then needs f done else plain (Ends (Alarmed Subscript) regs)) else plain (Ends (Alarmed Subscript) regs)))

comes_by : (a b c d e f : Bool) (p : ℕ) (regs : Regs) (done : Row) → done ≡ plain (On (record regs { r = p; place = regs.place + 1 })) → RefinesResult (element_row_by a b c d e f regs done) regs (stopped (element_by a b c d e f p))
comes_by false b c d e f p regs done is = refl
comes_by true false c d e f p regs done is = refl
comes_by true true false d e f p regs done is = refl
comes_by true true true false e f p regs done is = refl
comes_by true true true true false f p regs done is = refl
comes_by true true true true true false p regs done is = refl
comes_by true true true true true true p regs done is = is

comes_as : (row mid : Row) (regs : Regs) (result : Result ℕ Stop) → row ≡ mid → RefinesResult mid regs result → RefinesResult row regs result
comes_as row mid regs result e h = rw e h

pub element_row : (code input : List ℕ) (m : Registers) (s : State) (d a : ℕ) (result : Result ℕ Halt) → m.place + 1 < length code → s.entered ≡ true → result ≡ element_of s d a
    → RefinesResult (needs (is_index code (length s.words) (regs_of m s input) d a) (element code (length s.words) (regs_of m s input) d (slice_index s.words (s.base + a)) (s.base + a + 1))) (regs_of m s input) (stopped result)
element_row code input m s d a result next entered is =
    let ws = s.words in
    let at = slice_index ws (s.base + a) in
    let from = s.base + a + 1 in
    let regs = regs_of m s input in
    let of : element_of s d a ≡ element_at ws d (s.base + a) = ap (λ b. if b then element_at ws d (s.base + a) else Err HaltOdd) entered in
    rw (is ∙ of) (comes_as _ _ regs (stopped (element_at ws d (s.base + a)))
    (ap (λ b. needs b (element code (length ws) regs d at from)) (with_index (nat_le 1 d) (nat_le d 30) (nat_lt (s.base + a + d) (length ws)) (nat_lt (m.place + 1) (length code)) (lt-ltb (m.place + 1) (length code) next))
    ∙ ap (λ b. needs (nat_le 1 d && (nat_le d 30 && nat_lt (s.base + a + d) (length ws))) (needs (nat_lt (at + 1) (length ws)) (if slice_index ws (at + 1) == d then needs (nat_le (at + 2 + 2 * d) (length ws)) (if b then needs (nat_lt (slice_index ws at + row_offset (slice_index ws) (at + 2) from d) (length ws)) (gives code (length ws) regs (slice_index ws at + row_offset (slice_index ws) (at + 2) from d)) else plain (Ends (Alarmed Subscript) regs)) else plain (Ends (Alarmed Subscript) regs)))) (within_is ws (at + 2) from d)
    ∙ ap (λ n. needs (nat_le 1 d && (nat_le d 30 && nat_lt (s.base + a + d) (length ws))) (needs (nat_lt (at + 1) (length ws)) (if slice_index ws (at + 1) == d then needs (nat_le (at + 2 + 2 * d) (length ws)) (if are_within ws (at + 2) from d then needs (nat_lt (slice_index ws at + n) (length ws)) (gives code (length ws) regs (slice_index ws at + n)) else plain (Ends (Alarmed Subscript) regs)) else plain (Ends (Alarmed Subscript) regs)))) (offset_is ws (at + 2) from d))
    (comes_by (nat_le 1 d && (nat_le d 30 && nat_lt (s.base + a + d) (length ws))) (nat_lt (at + 1) (length ws)) (slice_index ws (at + 1) == d) (nat_le (at + 2 + 2 * d) (length ws)) (are_within ws (at + 2) from d) (nat_lt (slice_index ws at + offset ws (at + 2) from d) (length ws))
    (slice_index ws at + offset ws (at + 2) from d) regs _ (gives_is code (length ws) regs (slice_index ws at + offset ws (at + 2) from d) next)))

below_by : (a b c d e f : Bool) (p q size : ℕ) → (f ≡ true → p < size) → Ok q ≡ element_by a b c d e f p → q < size
below_by true true true true true true p q size lt is = let same : q ≡ p = cc in rw same (lt refl)
below_by true true true true true false p q size lt is = absurd cc
below_by true true true true false f p q size lt is = absurd cc
below_by true true true false e f p q size lt is = absurd cc
below_by true true false d e f p q size lt is = absurd cc
below_by true false c d e f p q size lt is = absurd cc
below_by false b c d e f p q size lt is = absurd cc

pub element_small : (s : State) (d a place : ℕ) → IsKept s → s.entered ≡ true → Ok place ≡ element_of s d a → place < 2 ^ 40
element_small s d a place kept entered is =
    let ws = s.words in
    let at = slice_index ws (s.base + a) in
    let of : element_of s d a ≡ element_at ws d (s.base + a) = ap (λ b. if b then element_at ws d (s.base + a) else Err HaltOdd) entered in
    let below : place < length ws = below_by (nat_le 1 d && (nat_le d 30 && nat_lt (s.base + a + d) (length ws))) (nat_lt (at + 1) (length ws)) (slice_index ws (at + 1) == d) (nat_le (at + 2 + 2 * d) (length ws)) (are_within ws (at + 2) (s.base + a + 1) d) (nat_lt (slice_index ws at + offset ws (at + 2) (s.base + a + 1) d) (length ws))
    (slice_index ws at + offset ws (at + 2) (s.base + a + 1) d) place (length ws) (λ yes. let lt : nat_lt (slice_index ws at + offset ws (at + 2) (s.base + a + 1) d) (length ws) ≡ true = yes in grind (arith, nat_tests, lt)) (is ∙ of) in
    let size : length ws < 2 ^ 24 = kept.size in
    omega (arith, below, size)
