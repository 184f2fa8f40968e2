-- What piece of text 7 an order is, and that its number is not that of STOP if it is another one.
use Rattle.std.proofs.Common.{◌≡◌, ℕ, ◌+◌, false, refl}
use Rattle.std.specs.Prelude.{◌==◌}
use Rattle.gier_symbol.specs.Texts.{order_base}
use Rattle.gier_order.specs.declared.operation.Operation.{Operation}
use Rattle.gier_order.specs.declared.operation.Operation.TheVariants.{Start, Stop, Take, Short, Long, Keep, Addr, Fetch, Put}
use Rattle.gier_order.specs.declared.operation.Operation.TheVariants.{Add, Sub, Mul, Div, Pow, Neg, Lt, Le, Eq, Ge, Gt, Ne, Not}
use Rattle.gier_order.specs.declared.operation.Operation.TheVariants.{And, Or, Impl, Equiv, Jump, False, Test, Turn, Block}
use Rattle.gier_order.specs.declared.operation.Operation.TheVariants.{Leave, Array, Index, Proc, Call, Formal, Return, Thunk}
use Rattle.gier_order.specs.declared.operation.Operation.TheVariants.{Value, Place, NameL, Pass, Back, Give, Lib, Switch}
use Rattle.gier_order.specs.declared.operation.Operation.TheVariants.{SwForm, Lab, Go, Base, Kinds, Agree, ByVal, CallF}
use Rattle.gier_tree.specs.Orders.{number_of}
use Rattle.gier_tree.specs.Object.{AnOrder, piece_of}
use Rattle.gier_complete.proofs.Passing.{IsNoStop}

pub piece_is : (op : Operation) (value line : ℕ) → piece_of (record { tag = order_base + number_of op; value = value; line = line }) ≡ AnOrder (number_of op) value
piece_is Start value line = refl
piece_is Stop value line = refl
piece_is Take value line = refl
piece_is Short value line = refl
piece_is Long value line = refl
piece_is Keep value line = refl
piece_is Addr value line = refl
piece_is Fetch value line = refl
piece_is Put value line = refl
piece_is Add value line = refl
piece_is Sub value line = refl
piece_is Mul value line = refl
piece_is Div value line = refl
piece_is Pow value line = refl
piece_is Neg value line = refl
piece_is Lt value line = refl
piece_is Le value line = refl
piece_is Eq value line = refl
piece_is Ge value line = refl
piece_is Gt value line = refl
piece_is Ne value line = refl
piece_is Not value line = refl
piece_is And value line = refl
piece_is Or value line = refl
piece_is Impl value line = refl
piece_is Equiv value line = refl
piece_is Jump value line = refl
piece_is False value line = refl
piece_is Test value line = refl
piece_is Turn value line = refl
piece_is Block value line = refl
piece_is Leave value line = refl
piece_is Array value line = refl
piece_is Index value line = refl
piece_is Proc value line = refl
piece_is Call value line = refl
piece_is Formal value line = refl
piece_is Return value line = refl
piece_is Thunk value line = refl
piece_is Value value line = refl
piece_is Place value line = refl
piece_is NameL value line = refl
piece_is Pass value line = refl
piece_is Back value line = refl
piece_is Give value line = refl
piece_is Lib value line = refl
piece_is Switch value line = refl
piece_is SwForm value line = refl
piece_is Lab value line = refl
piece_is Go value line = refl
piece_is Base value line = refl
piece_is Kinds value line = refl
piece_is Agree value line = refl
piece_is ByVal value line = refl
piece_is CallF value line = refl

pub is_another : (op : Operation) → IsNoStop op → (number_of op == number_of Stop) ≡ false
is_another Start other = refl
is_another Stop other = elim other [ ]
is_another Take other = refl
is_another Short other = refl
is_another Long other = refl
is_another Keep other = refl
is_another Addr other = refl
is_another Fetch other = refl
is_another Put other = refl
is_another Add other = refl
is_another Sub other = refl
is_another Mul other = refl
is_another Div other = refl
is_another Pow other = refl
is_another Neg other = refl
is_another Lt other = refl
is_another Le other = refl
is_another Eq other = refl
is_another Ge other = refl
is_another Gt other = refl
is_another Ne other = refl
is_another Not other = refl
is_another And other = refl
is_another Or other = refl
is_another Impl other = refl
is_another Equiv other = refl
is_another Jump other = refl
is_another False other = refl
is_another Test other = refl
is_another Turn other = refl
is_another Block other = refl
is_another Leave other = refl
is_another Array other = refl
is_another Index other = refl
is_another Proc other = refl
is_another Call other = refl
is_another Formal other = refl
is_another Return other = refl
is_another Thunk other = refl
is_another Value other = refl
is_another Place other = refl
is_another NameL other = refl
is_another Pass other = refl
is_another Back other = refl
is_another Give other = refl
is_another Lib other = refl
is_another Switch other = refl
is_another SwForm other = refl
is_another Lab other = refl
is_another Go other = refl
is_another Base other = refl
is_another Kinds other = refl
is_another Agree other = refl
is_another ByVal other = refl
is_another CallF other = refl
