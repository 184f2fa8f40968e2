-- Numbers and operations belong to each other one to one, and no word past the last number is the code of an order.
use Rattle.std.proofs.Common.{◌≡◌, ◌==◌, ◌&&◌, ◌||◌, ◌-◌, ◌/◌, ◌^◌, ◌<◌, ◌≤◌, ℕ, zero, suc, Bool, true, false, nat_lt, IsTrue, List, [], ◌∷◌, length, map, get_or, None, Some, refl, sym, ap, ◌∙◌, arith}
use Rattle.std.specs.List.{slice_get}
use Rattle.std.specs.Option.{option_map}
use Rattle.std.proofs.lemmas.Option.{slice_get_past, slice_get-map}
use Rattle.std.proofs.lemmas.List.{length-map}
use Rattle.std.proofs.lemmas.Bool.{ltb-true, ltb-false}
use Rattle.gier_order.specs.declared.operation.Operation.{Operation}
use Rattle.gier_order.specs.declared.operation.Operation.TheVariants.{Start, Stop, Take, Short, Long, Keep, Addr, Fetch, Put, Add, Sub, Mul, Div, Pow, Neg, Lt, Le, Eq, Ge, Gt, Ne, Not, And, Or, Impl, Equiv, Jump, False, Test, Turn, Block, Leave, Array, Index, Proc, Call, Formal, Return, Thunk, Value, Place, NameL, Pass, Back, Give, Lib, Switch, SwForm, Lab, Go, Base, Kinds, Agree, ByVal, CallF}
use Rattle.gier_order.specs.declared.operation.Row.{Row}
use Rattle.gier_order.specs.declared.order.Order.{Order}
use Rattle.gier_order.specs.Table.{row_of, operations, operation_at}
use Rattle.gier_order.specs.declared.operation.Fields.{Fields}
use Rattle.gier_order.specs.declared.operation.Fields.TheVariants.{Both, Level, Address, Neither}
use Rattle.gier_order.specs.Codes.{IsOrder, code_of, is_row, order_at, unused_are_zero, level_used, address_used}

and_true : (b : Bool) → (b && true) ≡ b
and_true true = refl
and_true false = refl

pub unused_by_use : (fields : Fields) (level address : ℕ) → ((level_used fields || (level == 0)) && (address_used fields || (address == 0))) ≡ unused_are_zero fields level address
unused_by_use Both level address = refl
unused_by_use Level level address = refl
unused_by_use Address level address = and_true (level == 0)
unused_by_use Neither level address = refl

pub operation_at-number : (operation : Operation) → operation_at (row_of operation).number ≡ Some operation
unfolding operation_at operations
operation_at-number Start = refl
operation_at-number Stop = refl
operation_at-number Take = refl
operation_at-number Short = refl
operation_at-number Long = refl
operation_at-number Keep = refl
operation_at-number Addr = refl
operation_at-number Fetch = refl
operation_at-number Put = refl
operation_at-number Add = refl
operation_at-number Sub = refl
operation_at-number Mul = refl
operation_at-number Div = refl
operation_at-number Pow = refl
operation_at-number Neg = refl
operation_at-number Lt = refl
operation_at-number Le = refl
operation_at-number Eq = refl
operation_at-number Ge = refl
operation_at-number Gt = refl
operation_at-number Ne = refl
operation_at-number Not = refl
operation_at-number And = refl
operation_at-number Or = refl
operation_at-number Impl = refl
operation_at-number Equiv = refl
operation_at-number Jump = refl
operation_at-number False = refl
operation_at-number Test = refl
operation_at-number Turn = refl
operation_at-number Block = refl
operation_at-number Leave = refl
operation_at-number Array = refl
operation_at-number Index = refl
operation_at-number Proc = refl
operation_at-number Call = refl
operation_at-number Formal = refl
operation_at-number Return = refl
operation_at-number Thunk = refl
operation_at-number Value = refl
operation_at-number Place = refl
operation_at-number NameL = refl
operation_at-number Pass = refl
operation_at-number Back = refl
operation_at-number Give = refl
operation_at-number Lib = refl
operation_at-number Switch = refl
operation_at-number SwForm = refl
operation_at-number Lab = refl
operation_at-number Go = refl
operation_at-number Base = refl
operation_at-number Kinds = refl
operation_at-number Agree = refl
operation_at-number ByVal = refl
operation_at-number CallF = refl

pub operation_at-zero : (n : ℕ) → n ≡ 0 → operation_at n ≡ None
unfolding operation_at
operation_at-zero zero e = refl
operation_at-zero (suc n) e = absurd (omega arith)

pub operation_at-past : (n : ℕ) → 55 < n → operation_at n ≡ None
unfolding operation_at operations
operation_at-past zero past = absurd (omega arith)
operation_at-past (suc n) past =
    let beyond : 55 ≤ n = omega arith in
    slice_get_past operations n beyond

slice_get-get_or : {X : Type 0} → (xs : List X) (k : ℕ) (d : X) → k < length xs → slice_get xs k ≡ Some (get_or xs k d)
slice_get-get_or [] k d within = absurd (omega arith)
slice_get-get_or (x ∷ xs) zero d within = refl
slice_get-get_or (x ∷ xs) (suc k) d within = slice_get-get_or xs k d (omega arith)

-- a row that stands at a place of a table, and a place past its end
pub slice_get-row : (rows : List Row) (place : ℕ) (row : Row) → true ≡ nat_lt place (length rows) → row ≡ get_or rows place row → Some row.0 ≡ slice_get (map (λ (r : Row). r.0) rows) place
slice_get-row rows place row within here =
    ap (λ (r : Row). Some r.0) here
    ∙ sym (ap (option_map (λ (r : Row). r.0)) (slice_get-get_or rows place row (ltb-true place (length rows) (sym within))))
    ∙ sym (slice_get-map (λ (r : Row). r.0) rows place)

pub slice_get-no_row : (rows : List Row) (place : ℕ) → false ≡ nat_lt place (length rows) → None ≡ slice_get (map (λ (r : Row). r.0) rows) place
slice_get-no_row rows place past =
    let beyond : length rows ≤ place = ltb-false place (length rows) (sym past) in
    sym (slice_get_past (map (λ (r : Row). r.0) rows) place (rw (length-map rows (λ (r : Row). r.0)) beyond))

pub operation_at-place : (n : ℕ) → 0 < n → operation_at n ≡ slice_get operations (n - 1)
unfolding operation_at
operation_at-place zero first = absurd (omega arith)
operation_at-place (suc n) first =
    let place : suc n - 1 ≡ n = omega arith in
    rw place refl

pub order_at-past : (word : ℕ) → 55 < word / 2 ^ 32 → order_at word ≡ None
order_at-past word past = rw (operation_at-past (word / 2 ^ 32) past) refl

pub no_order_past : (word : ℕ) → 55 < word / 2 ^ 32 → (order : Order) → IsOrder order → code_of order ≡ word → ⊥
no_order_past word past order right code =
    let number : 55 < order.op = omega (arith, right.level_fits, right.address_fits) in
    let none : IsTrue (is_row None order.level order.address) = rw (operation_at-past order.op number) at right.in_table in
    cc
