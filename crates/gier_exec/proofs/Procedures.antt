-- What a standard procedure prints, takes and leaves in R is what its row says.
use Rattle.std.specs.Prelude.{◌≡◌, ◌≢◌, ◌+◌, ◌-◌, ◌<◌, ◌≤◌, ◌++◌, ◌||◌, ℕ, ℤ, zero, suc, Bool, true, false, nat_lt, List, [], length, take, drop, Option, None, Some, Result, Ok, Err}
use Rattle.std.proofs.Common.{arith, refl, ap, sym, subst, ◌∙◌}
use Rattle.std.proofs.lemmas.Bool.Decides.{nat_tests}
use Rattle.std.proofs.lemmas.List.{append-nil, take-append-drop, length-drop, length-append}
use Rattle.std.proofs.Math.Seq.{drop-append_seam}
use Rattle.gier_word.specs.Words.{word_of_int}
use Rattle.gier_word.specs.Alarm.{alarm_of}
use Rattle.gier_word.specs.Standard.{Reading}
use Rattle.gier_word.specs.declared.alarm.Alarm.{Alarm}
use Rattle.gier_word.specs.declared.int40.Spoil.{Spoil}
use Rattle.gier_io.specs.Device.{Puts, PutsPart}
use Rattle.gier_library.specs.Data.{Makes}
use Rattle.gier_library.proofs.LongerData.{IsSettled, makes_on_all}
use Rattle.gier_frames.specs.State.{State}
use Rattle.gier_order.specs.Table.{operation_at}
use Rattle.gier_order.specs.declared.object.Object.{Object}
use Rattle.gier_order.specs.declared.order.Order.{Order}
use Rattle.gier_order.specs.declared.operation.Operation.TheVariants.{Lib}
use Rattle.gier_order.specs.Flat.Row.{Regs, On, Ends, Alarmed as AlarmedEnd, Row, plain, needs, odd, behind_bytes}
use Rattle.gier_order.specs.Flat.Rows.{on, answered, prints, prints_or_alarms, received, receives, procedure, effect, does}
use Rattle.gier_exec.specs.declared.stop.Stop.TheVariants.{Ended, Alarm as Alarmed, Steps, Odd}
use Rattle.gier_exec.specs.declared.stop.Miss.TheVariants.{Drum, Stop as Stopped}
use Rattle.gier_exec.specs.declared.stop.Quit.{Quit}
use Rattle.gier_exec.specs.declared.stop.Quit.TheVariants.{Miss as Missed, Read, Write}
use Rattle.gier_exec.specs.Registers.{Registers}
use Rattle.gier_exec.specs.Rows.{regs_of, code_in}
use Rattle.gier_exec.specs.Turning.{printing_row, IsRest, StartsWith, left_by, IsCut, RefinesExecution}
use Rattle.gier_exec.specs.Standards.{on_from, Sends, Computes, Receives, after_both, Starts, PrintsOn}
use Rattle.gier_exec.proofs.RowResults.{on_is, gives_is, answered_comes}
use Rattle.gier_exec.proofs.Referrings.{length_code}
use Rattle.gier_exec.proofs.Starting.{starts_alike}

-- the order after is one of the object's
pub next_in : (tracks : List (List ℕ)) (object : Object) (place : ℕ) → place + 1 < object.words → place + 1 < length (code_in tracks object)
next_in tracks object place lt = let all : length (code_in tracks object) ≡ object.words = length_code tracks object in omega (arith, all, lt)

-- Texts

puts_same : (old new : Option (List ℕ)) → new ≡ old → Puts old [] new
puts_same None new e = e
puts_same (Some held) new e = e ∙ ap Some (sym (append-nil held))

-- the bytes that were put before the sink failed
pub part : (old new : Option (List ℕ)) (bytes : List ℕ) → PutsPart old bytes new → (put : List ℕ) × Puts old put new × StartsWith put bytes
part None new bytes h = ([], h, (bytes, refl))
part (Some held) new bytes h = (take h.0 bytes, h.1, (drop h.0 bytes, sym (take-append-drop h.0 bytes)))

cut_quiet : (row : Row) (m : Regs) (put : List ℕ) → StartsWith put row.printed → IsCut row m [] put []
cut_quiet row m put h = record { refs = (row.refs, refl); printed = h; input = omega arith }

printed_is : (code : List ℕ) (size : ℕ) (m : Regs) (bytes : List ℕ) → m.place + 1 < length code → prints code size m bytes ≡ printing_row [] bytes (On (record m { place = m.place + 1 }))
printed_is code size m bytes lt = ap (λ r. behind_bytes bytes r) (on_is code size m m lt) ∙ ap (λ xs. printing_row [] xs (On (record m { place = m.place + 1 }))) (append-nil bytes)

-- what a text is printed as in all rows
abbrev pub InRows : Result (List ℕ) Alarm → List ℕ → Result (Unit {0}) Quit → Type 0
InRows text put result = (code : List ℕ) (size : ℕ) (m : Regs) → m.place + 1 < length code → RefinesExecution (prints_or_alarms code size m text) m m [] put [] (on_from m.place result)

pub sends_obeys : {K : Type 0} (holds : K → Option (List ℕ)) (text : Result (List ℕ) Alarm) (old : K) (result : Result (Unit {0}) Quit) (new : K) → Sends holds text old result new
    → (put : List ℕ) × Puts (holds old) put (holds new) × InRows text put result
sends_obeys holds text old (Ok done) new h = (h.0, h.2, λ code size m lt. ap (λ t. prints_or_alarms code size m t) h.1 ∙ printed_is code size m h.0 lt)
sends_obeys holds text old (Err (Missed (Stopped (Alarmed alarm)))) new h = ([], puts_same (holds old) (holds new) h.1, λ code size m lt. ap (λ t. prints_or_alarms code size m t) h.0)
sends_obeys holds text old (Err (Missed (Stopped Ended))) new h = absurd h
sends_obeys holds text old (Err (Missed (Stopped Steps))) new h = absurd h
sends_obeys holds text old (Err (Missed (Stopped Odd))) new h = absurd h
sends_obeys holds text old (Err (Missed Drum)) new h = absurd h
sends_obeys holds text old (Err Read) new h = absurd h
sends_obeys holds text old (Err Write) new h =
    let some = part (holds old) (holds new) h.0 h.2 in
    (some.0, some.1, λ code size m lt. cut_quiet _ m some.0 (some.2.0, ap (λ (r : Row). r.printed) (ap (λ t. prints_or_alarms code size m t) h.1 ∙ printed_is code size m h.0 lt) ∙ some.2.1))

-- Numbers

pub computes_obeys : (code : List ℕ) (m m1 : Registers) (s : State) (given : Result ℤ Spoil) (result : Result (Unit {0}) Quit) → Computes m given m1 result → m.place + 1 < length code → (rest : List ℕ)
    → RefinesExecution (answered code (length s.words) (regs_of m s rest) given) (regs_of m s rest) (regs_of m1 s rest) [] [] [] (on_from m.place result)
computes_obeys code m m1 s (Ok z) result h lt rest =
    let row = answered code (length s.words) (regs_of m s rest) (Ok z) in
    subst (λ r. RefinesExecution row (regs_of m s rest) (regs_of m1 s rest) [] [] [] (on_from m.place r)) (sym h.0)
    (subst (λ x. row ≡ printing_row [] [] (On (record (regs_of x s rest) { place = m.place + 1 }))) (sym h.1) (gives_is code (length s.words) (regs_of m s rest) (word_of_int z) lt))
computes_obeys code m m1 s (Err spoil) result h lt rest =
    let row = answered code (length s.words) (regs_of m s rest) (Err spoil) in
    subst (λ r. RefinesExecution row (regs_of m s rest) (regs_of m1 s rest) [] [] [] (on_from m.place r)) (sym h.0)
    (subst (λ x. row ≡ printing_row [] [] (Ends (AlarmedEnd (alarm_of spoil)) (regs_of x s rest))) (sym h.1) (answered_comes code (length s.words) (regs_of m s rest) (Err spoil) lt))

-- Data

none_behind : (ended : Bool) (rest : List ℕ) → IsRest ended rest → ended ≡ true → rest ≡ []
none_behind true rest is e = is
none_behind false rest is e = absurd cc

-- what was made of these bytes is made of them with more behind, and the rest is left
receives_is : (reads : List ℕ → Reading) → ((bytes rest : List ℕ) → IsSettled reads bytes rest) → (code : List ℕ) (m : Registers) (s : State) (bytes rest : List ℕ) (outcome : Result ℤ Alarm) (ended : Bool)
    → Makes (reads bytes) bytes outcome ended → IsRest ended rest
    → receives code (length s.words) (regs_of m s (bytes ++ rest)) (reads (bytes ++ rest)) ≡ received code (length s.words) (regs_of m s (bytes ++ rest)) outcome rest
receives_is reads settled code m s bytes rest outcome ended made is =
    let all = makes_on_all reads bytes rest outcome ended (settled bytes rest) made (none_behind ended rest is) in
    let row = received code (length s.words) (regs_of m s (bytes ++ rest)) in
    ap (λ x. row x (drop (reads (bytes ++ rest)).taken (bytes ++ rest))) all.answer
    ∙ ap (λ n. row outcome (drop n (bytes ++ rest))) all.whole
    ∙ ap (λ xs. row outcome xs) (drop-append_seam bytes rest)

left_received : (code : List ℕ) (size : ℕ) (m : Regs) (outcome : Result ℤ Alarm) (input : List ℕ) → m.place + 1 < length code → left_by m (received code size m outcome input).step ≡ input
left_received code size m (Ok z) input lt = ap (λ (r : Row). left_by m r.step) (on_is code size m (record m { r = word_of_int z; input = input }) lt)
left_received code size m (Err alarm) input lt = refl

cut_data : (code : List ℕ) (m : Registers) (s : State) (bytes rest : List ℕ) (reading : Reading) → m.place + 1 < length code → length bytes ≤ reading.taken
    → IsCut (receives code (length s.words) (regs_of m s (bytes ++ rest)) reading) (regs_of m s (bytes ++ rest)) [] [] bytes
cut_data code m s bytes rest reading lt most =
    let row = receives code (length s.words) (regs_of m s (bytes ++ rest)) reading in
    let left : left_by (regs_of m s (bytes ++ rest)) row.step ≡ drop reading.taken (bytes ++ rest) = left_received code (length s.words) (regs_of m s (bytes ++ rest)) reading.outcome (drop reading.taken (bytes ++ rest)) lt in
    let all : length (bytes ++ rest) ≡ length bytes + length rest = length-append bytes rest in
    let fewer : length (left_by (regs_of m s (bytes ++ rest)) row.step) ≡ length (bytes ++ rest) - reading.taken = ap length left ∙ length-drop reading.taken (bytes ++ rest) in
    record { refs = (row.refs, refl); printed = (row.printed, refl); input = omega (arith, fewer, all, most) }

pub receives_obeys : (reads : List ℕ → Reading) → ((bytes rest : List ℕ) → IsSettled reads bytes rest) → (code : List ℕ) (m m1 : Registers) (s : State) (bytes : List ℕ) (ended : Bool) (result : Result (Unit {0}) Quit)
    → Receives reads bytes ended m result m1 → m.place + 1 < length code → (rest : List ℕ) → IsRest ended rest
    → RefinesExecution (receives code (length s.words) (regs_of m s (bytes ++ rest)) (reads (bytes ++ rest))) (regs_of m s (bytes ++ rest)) (regs_of m1 s rest) [] [] bytes (on_from m.place result)
receives_obeys reads settled code m m1 s bytes ended (Ok done) h lt rest is =
    receives_is reads settled code m s bytes rest (Ok h.0) ended h.1 is
    ∙ on_is code (length s.words) (regs_of m s (bytes ++ rest)) (record (regs_of m s rest) { r = word_of_int h.0 }) lt
    ∙ ap (λ x. printing_row [] [] (On (record (regs_of x s rest) { place = m.place + 1 }))) (sym h.2)
receives_obeys reads settled code m m1 s bytes ended (Err (Missed (Stopped (Alarmed alarm)))) h lt rest is =
    receives_is reads settled code m s bytes rest (Err alarm) ended h.0 is
    ∙ ap (λ x. printing_row [] [] (Ends (AlarmedEnd alarm) (regs_of x s rest))) (sym h.1)
receives_obeys reads settled code m m1 s bytes ended (Err (Missed (Stopped Ended))) h lt rest is = absurd h
receives_obeys reads settled code m m1 s bytes ended (Err (Missed (Stopped Steps))) h lt rest is = absurd h
receives_obeys reads settled code m m1 s bytes ended (Err (Missed (Stopped Odd))) h lt rest is = absurd h
receives_obeys reads settled code m m1 s bytes ended (Err (Missed Drum)) h lt rest is = absurd h
receives_obeys reads settled code m m1 s bytes ended (Err Read) h lt rest is = cut_data code m s bytes rest (reads (bytes ++ rest)) lt (h rest)
receives_obeys reads settled code m m1 s bytes ended (Err Write) h lt rest is = absurd h

-- Strings

cut_part : (row : Row) (m : Regs) (read put : List ℕ) → Starts row read put → IsCut row m read put []
cut_part row m read put h = record { refs = h.0; printed = h.1; input = omega arith }

nothing_behind : (read put : List ℕ) (m : Regs) → after_both read put (plain (On m)) ≡ printing_row read put (On m)
nothing_behind read put m = ap (λ xs. printing_row xs (put ++ []) (On m)) (append-nil read) ∙ ap (λ xs. printing_row read xs (On m)) (append-nil put)

pub string_obeys : (code : List ℕ) (size : ℕ) (m : Regs) (row : Row) (read put : List ℕ) (result : Result (Unit {0}) Quit) → PrintsOn row (on code size m m) read put result → m.place + 1 < length code
    → RefinesExecution row m m read put [] (on_from m.place result)
string_obeys code size m row read put (Ok done) h lt = h ∙ ap (λ r. after_both read put r) (on_is code size m m lt) ∙ nothing_behind read put (record m { place = m.place + 1 })
string_obeys code size m row read put (Err (Missed (Stopped (Alarmed alarm)))) h lt = absurd h
string_obeys code size m row read put (Err (Missed (Stopped Ended))) h lt = absurd h
string_obeys code size m row read put (Err (Missed (Stopped Steps))) h lt = absurd h
string_obeys code size m row read put (Err (Missed (Stopped Odd))) h lt = h
string_obeys code size m row read put (Err (Missed Drum)) h lt = cut_part row m read put h
string_obeys code size m row read put (Err Read) h lt = absurd h
string_obeys code size m row read put (Err Write) h lt = cut_part row m read put h

-- other numbers

pub procedure_odd : (code : List ℕ) (size : ℕ) (m : Regs) (n : ℕ) → n ≢ 1 → n ≢ 2 → n ≢ 3 → n ≢ 4 → n ≢ 5 → n ≢ 6 → n ≢ 7 → n ≢ 8 → procedure code size m n ≡ odd
procedure_odd code size m zero a b c d e f g h = refl
procedure_odd code size m (suc zero) a b c d e f g h = absurd (a refl)
procedure_odd code size m (suc (suc zero)) a b c d e f g h = absurd (b refl)
procedure_odd code size m (suc (suc (suc zero))) a b c d e f g h = absurd (c refl)
procedure_odd code size m (suc (suc (suc (suc zero)))) a b c d e f g h = absurd (d refl)
procedure_odd code size m (suc (suc (suc (suc (suc zero))))) a b c d e f g h = absurd (e refl)
procedure_odd code size m (suc (suc (suc (suc (suc (suc zero)))))) a b c d e f g h = absurd (f refl)
procedure_odd code size m (suc (suc (suc (suc (suc (suc (suc zero))))))) a b c d e f g h = absurd (g refl)
procedure_odd code size m (suc (suc (suc (suc (suc (suc (suc (suc zero)))))))) a b c d e f g h = absurd (h refl)
procedure_odd code size m (suc (suc (suc (suc (suc (suc (suc (suc (suc n))))))))) a b c d e f g h = refl

-- The order

none_needed : (b : Bool) (row : Row) → b ≡ false → needs b row ≡ odd
none_needed true row e = absurd cc
none_needed false row e = refl

all_needed : (b : Bool) (row : Row) → b ≡ true → needs b row ≡ row
all_needed true row e = refl
all_needed false row e = absurd cc

or_false : (b : Bool) → (b || false) ≡ b
or_false true = refl
or_false false = refl

pub lib_alone : (entered : Bool) (row : Row) → entered ≡ false → needs entered row ≡ odd
lib_alone entered row e = none_needed entered row e

past_odd : (entered : Bool) (row : Row) → row ≡ odd → needs entered row ≡ odd
past_odd true row e = e
past_odd false row e = refl

pub lib_past : (entered : Bool) (code : List ℕ) (size : ℕ) (m : Regs) (l a : ℕ) → length code ≤ m.place + 1 → needs entered (effect code size m Lib l a) ≡ odd
lib_past entered code size m l a past = past_odd entered (effect code size m Lib l a) (none_needed (nat_lt (m.place + 1) (length code)) (procedure code size m a) (grind (arith, nat_tests, past)))

pub lib_is : (entered : Bool) (code : List ℕ) (size : ℕ) (m : Regs) (l a : ℕ) → entered ≡ true → m.place + 1 < length code → needs entered (effect code size m Lib l a) ≡ procedure code size m a
lib_is entered code size m l a e lt = all_needed entered (effect code size m Lib l a) e ∙ all_needed (nat_lt (m.place + 1) (length code)) (procedure code size m a) (grind (arith, nat_tests, lt))

pub does_lib : (code : List ℕ) (size : ℕ) (m : Regs) (order : Order) → operation_at order.op ≡ Some Lib
    → does code size m order (operation_at order.op) ≡ needs m.started (effect code size m Lib order.level order.address)
does_lib code size m order e =
    ap (λ found. does code size m order found) e
    ∙ ap (λ b. needs b (effect code size m Lib order.level order.address)) (ap (λ b. m.started || b) (starts_alike order.op Lib e) ∙ or_false m.started)

pub obeys_by : (row mid : Row) (before after : Regs) (read put taken : List ℕ) (result : Result ℕ Quit) → row ≡ mid → RefinesExecution mid before after read put taken result → RefinesExecution row before after read put taken result
obeys_by row mid before after read put taken result e h = subst (λ r. RefinesExecution r before after read put taken result) (sym e) h
