-- What an order makes of w and R, and what the flat run's row makes of that.
use Rattle.std.specs.Prelude.{◌&&◌, ◌||◌, ℕ, ℤ, pos, Bool, true, false, not, int_le, int_lt, if◌then◌else◌, Result, Ok, Err}
use Rattle.gier_word.specs.Words.{int_of_word, word_of_int}
use Rattle.gier_word.specs.Operations.{sum_of, difference_of, product_of, quotient_of, power_of, sign_of}
use Rattle.gier_word.specs.Alarm.{alarm_of}
use Rattle.gier_word.specs.declared.alarm.Alarm.{Alarm}
use Rattle.gier_word.specs.declared.int40.Spoil.{Spoil}
use Rattle.gier_order.specs.declared.operation.Operation.{Operation}
use Rattle.gier_order.specs.declared.operation.Operation.TheVariants.{Return, Back, Give, Value, Place, NameL, Pass, Switch}
use Rattle.gier_order.specs.declared.operation.Operation.TheVariants.{SwForm, Jump, False, Turn, Go, Long, Stop, Proc, Thunk}
use Rattle.gier_order.specs.declared.operation.Operation.TheVariants.{Kinds, Take, Short, Addr, Fetch, Neg, Not, Index, Base}
use Rattle.gier_order.specs.declared.operation.Operation.TheVariants.{Keep, Put, Block, Leave, Array, Lab, Start, Add, Sub, Mul}
use Rattle.gier_order.specs.declared.operation.Operation.TheVariants.{Div, Pow, Lt, Le, Eq, Ge, Gt, Ne, And, Or, Impl, Equiv}
use Rattle.gier_order.specs.declared.operation.Operation.TheVariants.{Test, Call, Formal, CallF, Agree, ByVal, Lib}
use Rattle.gier_order.specs.Flat.Rows.{truth, is_true, are_equal}

-- the word of a number, or the alarm in its place
abbrev pub word_result : Result ℤ Spoil → Result ℕ Alarm
word_result (Ok z) = Ok (word_of_int z)
word_result (Err spoil) = Err (alarm_of spoil)

-- 0 for a number above 0, and else 1
abbrev pub sign_result : Result ℤ Spoil → Result ℕ Alarm
sign_result (Ok z) = Ok (truth (int_le z (pos 0)))
sign_result (Err spoil) = Err (alarm_of spoil)

-- ADD to POW
abbrev pub is_arithmetic : Operation → Bool
is_arithmetic Add = true
is_arithmetic Sub = true
is_arithmetic Mul = true
is_arithmetic Div = true
is_arithmetic Pow = true
is_arithmetic operation = false

abbrev pub arithmetic : Operation → (w r : ℕ) → Result ℕ Alarm
arithmetic Add w r = word_result (sum_of (int_of_word w) (int_of_word r))
arithmetic Sub w r = word_result (difference_of (int_of_word w) (int_of_word r))
arithmetic Mul w r = word_result (product_of (int_of_word w) (int_of_word r))
arithmetic Div w r = word_result (quotient_of (int_of_word w) (int_of_word r))
arithmetic Pow w r = word_result (power_of (int_of_word w) (int_of_word r))
arithmetic operation w r = Ok r

-- LT to NE and AND to EQUIV
abbrev pub is_test : Operation → Bool
is_test Lt = true
is_test Le = true
is_test Eq = true
is_test Ge = true
is_test Gt = true
is_test Ne = true
is_test And = true
is_test Or = true
is_test Impl = true
is_test Equiv = true
is_test operation = false

abbrev pub test : Operation → (w r : ℕ) → Bool
test Lt w r = int_lt (int_of_word w) (int_of_word r)
test Le w r = int_le (int_of_word w) (int_of_word r)
test Eq w r = are_equal (int_of_word w) (int_of_word r)
test Ge w r = int_le (int_of_word r) (int_of_word w)
test Gt w r = int_lt (int_of_word r) (int_of_word w)
test Ne w r = not (are_equal (int_of_word w) (int_of_word r))
test And w r = is_true w && is_true r
test Or w r = is_true w || is_true r
test Impl w r = not (is_true w) || is_true r
test Equiv w r = (is_true w && is_true r) || (not (is_true w) && not (is_true r))
test operation w r = false

-- the orders on w and R
abbrev pub is_combined : Operation → Bool
is_combined Test = true
is_combined operation = is_arithmetic operation || is_test operation

abbrev pub combination : Operation → (w r : ℕ) → Result ℕ Alarm
combination Test w r = sign_result (product_of (int_of_word w) (sign_of (int_of_word r)))
combination operation w r = if is_arithmetic operation then arithmetic operation w r else Ok (truth (test operation w r))

-- the orders that give a word to R, and change nothing else
abbrev pub is_value : Operation → Bool
is_value Take = true
is_value Short = true
is_value Addr = true
is_value Fetch = true
is_value Neg = true
is_value Not = true
is_value Index = true
is_value Base = true
is_value operation = is_combined operation

-- the orders that go on with the next one, and read nothing of the object
abbrev pub is_plain : Operation → Bool
is_plain Keep = true
is_plain Put = true
is_plain Block = true
is_plain Leave = true
is_plain Array = true
is_plain Lab = true
is_plain Start = true
is_plain operation = is_value operation

abbrev pub is_start : Operation → Bool
is_start Start = true
is_start operation = false

-- the orders that read nothing of the object, and choose the next one
abbrev pub is_jump : Operation → Bool
is_jump Jump = true
is_jump False = true
is_jump Turn = true
is_jump Go = true
is_jump Return = true
is_jump Back = true
is_jump Give = true
is_jump operation = false

-- the orders that enter the evaluation in a cell
abbrev pub is_evaluation : Operation → Bool
is_evaluation Value = true
is_evaluation Place = true
is_evaluation NameL = true
is_evaluation Pass = true
is_evaluation operation = false

-- the orders that enter the evaluation of a switch's element
abbrev pub is_choice : Operation → Bool
is_choice Switch = true
is_choice SwForm = true
is_choice operation = false

-- the orders that enter a procedure
abbrev pub is_call : Operation → Bool
is_call Call = true
is_call Formal = true
is_call CallF = true
is_call operation = false
