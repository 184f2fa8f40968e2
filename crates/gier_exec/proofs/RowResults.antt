-- From what a part of the machine finds to what the row comes to.
use Rattle.std.specs.Prelude.{◌≡◌, ◌≢◌, ◌+◌, ◌<◌, ◌||◌, ℕ, ℤ, pos, Bool, true, false, nat_lt, int_le, IsTrue, List, [], length, Result, Ok, Err}
use Rattle.std.proofs.Common.{refl, ◌∙◌}
use Rattle.std.proofs.lemmas.Bool.{lt-ltb}
use Rattle.gier_word.specs.Words.{int_of_word, word_of_int}
use Rattle.gier_word.specs.Operations.{sum_of, difference_of, product_of, quotient_of, power_of, sign_of}
use Rattle.gier_word.specs.declared.alarm.Alarm.{Alarm}
use Rattle.gier_word.specs.declared.int40.Spoil.{Spoil}
use Rattle.gier_order.specs.declared.operation.Operation.{Operation}
use Rattle.gier_order.specs.declared.operation.Operation.TheVariants.{Keep, Put, Block, Leave, Array, Lab, Start, Take, Short, Addr, Fetch, Neg, Not, Index, Base, Add, Sub, Mul, Div, Pow, Lt, Le, Eq, Ge, Gt, Ne, And, Or, Impl, Equiv, Test}
use Rattle.gier_order.specs.Flat.Row.{Regs, On, Row, plain, needs}
use Rattle.gier_order.specs.Flat.Rows.{on, gives, answered, tested, local, effect, truth}
use Rattle.gier_exec.specs.declared.stop.Stop.{Stop}
use Rattle.gier_exec.specs.declared.stop.Stop.TheVariants.{Ended, Alarm as AlarmStop, Steps, Odd}
use Rattle.gier_exec.specs.Numbers.{word_result, sign_result, test, is_value, is_plain, is_start, is_combined, combination}
use Rattle.gier_exec.specs.Rows.{reading_row}
use Rattle.gier_exec.specs.References.{stop_step}
use Rattle.gier_exec.specs.Following.{RefinesValue, RefinesRefusal, RefinesStop, RefinesNext, RefinesResult}

needed : (b : Bool) (row : Row) → b ≡ true → needs b row ≡ row
needed true row e = refl
needed false row e = absurd cc

pub on_is : (code : List ℕ) (size : ℕ) (m m1 : Regs) → m.place + 1 < length code → on code size m m1 ≡ plain (On (record m1 { place = m.place + 1 }))
on_is code size m m1 lt = needed (nat_lt (m.place + 1) (length code)) _ (lt-ltb (m.place + 1) (length code) lt)

pub gives_is : (code : List ℕ) (size : ℕ) (m : Regs) (word : ℕ) → m.place + 1 < length code → gives code size m word ≡ plain (On (record m { r = word; place = m.place + 1 }))
gives_is code size m word lt = on_is code size m (record m { r = word }) lt

pub refused_halts : (row : Row) (regs : Regs) (stop : Stop) → RefinesRefusal row stop → RefinesStop row regs stop
refused_halts row regs Ended h = absurd h
refused_halts row regs (AlarmStop alarm) h = absurd h
refused_halts row regs Steps h = absurd h
refused_halts row regs Odd h = h

-- a word that was found is given to R
pub gets_comes : (code : List ℕ) (size : ℕ) (m : Regs) (row : Row) (result : Result ℕ Stop) → m.place + 1 < length code → RefinesValue row (λ word. gives code size m word) result → RefinesResult row m result
gets_comes code size m row (Ok word) lt h = h ∙ on_is code size m (record m { r = word }) lt
gets_comes code size m row (Err stop) lt h = refused_halts row m stop h

abbrev pub alarm_stop : Result ℕ Alarm → Result ℕ Stop
alarm_stop (Ok word) = Ok word
alarm_stop (Err alarm) = Err (AlarmStop alarm)

pub answered_comes : (code : List ℕ) (size : ℕ) (m : Regs) (x : Result ℤ Spoil) → m.place + 1 < length code → RefinesResult (answered code size m x) m (alarm_stop (word_result x))
answered_comes code size m (Ok z) lt = on_is code size m (record m { r = word_of_int z }) lt
answered_comes code size m (Err spoil) lt = needed (nat_lt (m.place + 1) (length code)) _ (lt-ltb (m.place + 1) (length code) lt)

tested_comes : (code : List ℕ) (size : ℕ) (m : Regs) (x : Result ℤ Spoil) → m.place + 1 < length code → RefinesResult (tested code size m x) m (alarm_stop (sign_result x))
tested_comes code size m (Ok z) lt = on_is code size m (record m { r = truth (int_le z (pos 0)) }) lt
tested_comes code size m (Err spoil) lt = needed (nat_lt (m.place + 1) (length code)) _ (lt-ltb (m.place + 1) (length code) lt)

-- an order on w and R: what follows when w was read
abbrev Meets : (code : List ℕ) (size : ℕ) (m : Regs) → Operation → (l a : ℕ) → Type 0
Meets code size m operation l a = (go : ℕ → Row) × ((effect code size m operation l a ≡ local code size m a go) × ((w : ℕ) → RefinesResult (go w) m (alarm_stop (combination operation w m.r))))

meets : (code : List ℕ) (size : ℕ) (m : Regs) (operation : Operation) (l a : ℕ) → is_combined operation ≡ true → m.place + 1 < length code → Meets code size m operation l a
meets code size m Add l a e lt = (_, (refl, λ w. answered_comes code size m (sum_of (int_of_word w) (int_of_word m.r)) lt))
meets code size m Sub l a e lt = (_, (refl, λ w. answered_comes code size m (difference_of (int_of_word w) (int_of_word m.r)) lt))
meets code size m Mul l a e lt = (_, (refl, λ w. answered_comes code size m (product_of (int_of_word w) (int_of_word m.r)) lt))
meets code size m Div l a e lt = (_, (refl, λ w. answered_comes code size m (quotient_of (int_of_word w) (int_of_word m.r)) lt))
meets code size m Pow l a e lt = (_, (refl, λ w. answered_comes code size m (power_of (int_of_word w) (int_of_word m.r)) lt))
meets code size m Test l a e lt = (_, (refl, λ w. tested_comes code size m (product_of (int_of_word w) (sign_of (int_of_word m.r))) lt))
meets code size m Lt l a e lt = (_, (refl, λ w. gives_is code size m (truth (test Lt w m.r)) lt))
meets code size m Le l a e lt = (_, (refl, λ w. gives_is code size m (truth (test Le w m.r)) lt))
meets code size m Eq l a e lt = (_, (refl, λ w. gives_is code size m (truth (test Eq w m.r)) lt))
meets code size m Ge l a e lt = (_, (refl, λ w. gives_is code size m (truth (test Ge w m.r)) lt))
meets code size m Gt l a e lt = (_, (refl, λ w. gives_is code size m (truth (test Gt w m.r)) lt))
meets code size m Ne l a e lt = (_, (refl, λ w. gives_is code size m (truth (test Ne w m.r)) lt))
meets code size m And l a e lt = (_, (refl, λ w. gives_is code size m (truth (test And w m.r)) lt))
meets code size m Or l a e lt = (_, (refl, λ w. gives_is code size m (truth (test Or w m.r)) lt))
meets code size m Impl l a e lt = (_, (refl, λ w. gives_is code size m (truth (test Impl w m.r)) lt))
meets code size m Equiv l a e lt = (_, (refl, λ w. gives_is code size m (truth (test Equiv w m.r)) lt))
meets code size m operation l a e lt = absurd cc

abbrev GetsLocal : (code : List ℕ) (size : ℕ) (m : Regs) (a : ℕ) → Result ℕ Stop → Type 0
GetsLocal code size m a result = (go : ℕ → Row) → RefinesValue (local code size m a go) go result

comes_by : (row mid : Row) (m : Regs) (result : Result ℕ Stop) → row ≡ mid → RefinesResult mid m result → RefinesResult row m result
comes_by row mid m result e h = rw e h

pub combined_comes : (code : List ℕ) (size : ℕ) (m : Regs) (operation : Operation) (l a w : ℕ) (result : Result ℕ Alarm) → is_combined operation ≡ true → m.place + 1 < length code → GetsLocal code size m a (Ok w) → result ≡ combination operation w m.r → RefinesResult (effect code size m operation l a) m (alarm_stop result)
combined_comes code size m operation l a w result e lt found is =
    let met = meets code size m operation l a e lt in
    comes_by _ _ m (alarm_stop result) (met.1.0 ∙ found met.0) (rw is (met.1.1 w))

pub combined_refused : (code : List ℕ) (size : ℕ) (m : Regs) (operation : Operation) (l a : ℕ) (stop : Stop) → is_combined operation ≡ true → m.place + 1 < length code → GetsLocal code size m a (Err stop) → RefinesResult (effect code size m operation l a) m (Err stop)
combined_refused code size m operation l a stop e lt found =
    let met = meets code size m operation l a e lt in
    comes_by _ _ m (Err stop) met.1.0 (refused_halts _ m stop (found met.0))

-- a row that is another one comes to what that comes to
pub comes_on : (row mid : Row) (m : Regs) (result : Result (Unit {0}) Stop) → row ≡ mid → RefinesNext mid m result → RefinesNext row m result
comes_on row mid m result e h = rw e h

pub comes_with : (row mid : Row) (m : Regs) (result : Result ℕ Stop) → row ≡ mid → RefinesResult mid m result → RefinesResult row m result
comes_with row mid m result e h = rw e h

pub value_combined : (operation : Operation) → operation ≢ Take → operation ≢ Short → operation ≢ Addr → operation ≢ Fetch → operation ≢ Neg → operation ≢ Not → operation ≢ Index → operation ≢ Base → is_value operation ≡ true → is_combined operation ≡ true
value_combined Take a b c d e f g h is = absurd (a refl)
value_combined Short a b c d e f g h is = absurd (b refl)
value_combined Addr a b c d e f g h is = absurd (c refl)
value_combined Fetch a b c d e f g h is = absurd (d refl)
value_combined Neg a b c d e f g h is = absurd (e refl)
value_combined Not a b c d e f g h is = absurd (f refl)
value_combined Index a b c d e f g h is = absurd (g refl)
value_combined Base a b c d e f g h is = absurd (h refl)
value_combined operation a b c d e f g h is = is

pub entered_of : (entered : Bool) → IsTrue (entered || false) → entered ≡ true
entered_of true h = refl
entered_of false h = absurd cc

abbrev pub NotOthers : Operation → Type 0
NotOthers operation = (operation ≢ Keep) × (operation ≢ Put) × (operation ≢ Block) × (operation ≢ Leave) × (operation ≢ Array) × (operation ≢ Lab) × (operation ≢ Start)

pub plain_value : (operation : Operation) → NotOthers operation → is_plain operation ≡ true → is_value operation ≡ true
plain_value Keep h is = absurd (h.0 refl)
plain_value Put h is = absurd (h.1 refl)
plain_value Block h is = absurd (h.2 refl)
plain_value Leave h is = absurd (h.3 refl)
plain_value Array h is = absurd (h.4 refl)
plain_value Lab h is = absurd (h.5 refl)
plain_value Start h is = absurd (h.6 refl)
plain_value operation h is = is

pub value_starts : (operation : Operation) → is_value operation ≡ true → is_start operation ≡ false
value_starts Start is = absurd cc
value_starts operation is = refl

pub comes_halts : (row mid : Row) (m : Regs) (stop : Stop) → row ≡ mid → RefinesStop mid m stop → RefinesStop row m stop
comes_halts row mid m stop e h = rw e h

pub halts_does : (row : Row) (m : Regs) (stop : Stop) → RefinesStop row m stop → row ≡ reading_row [] (stop_step m stop)
halts_does row m Ended h = h
halts_does row m (AlarmStop alarm) h = h
halts_does row m Steps h = h
halts_does row m Odd h = h
