-- The order table: the number, the name and the fields of each order. What an order does stands in Flat/Rows.
use Rattle.std.specs.Prelude.{ℕ, zero, suc, List, [], ◌∷◌, Option, None, codes}
use Rattle.std.specs.List.{slice_get}
use Rattle.gier_order.specs.declared.operation.Operation.{Operation}
use Rattle.gier_order.specs.declared.operation.Operation.TheVariants.{Start, Stop, Take, Short, Long, Keep, Addr, Fetch, Put, Add}
use Rattle.gier_order.specs.declared.operation.Operation.TheVariants.{Sub, Mul, Div, Pow, Neg, Lt, Le, Eq, Ge, Gt, Ne, Not, And}
use Rattle.gier_order.specs.declared.operation.Operation.TheVariants.{Or, Impl, Equiv, Jump, False, Test, Turn, Block, Leave}
use Rattle.gier_order.specs.declared.operation.Operation.TheVariants.{Array, Index, Proc, Call, Formal, Return, Thunk, Value}
use Rattle.gier_order.specs.declared.operation.Operation.TheVariants.{Place, NameL, Pass, Back, Give, Lib, Switch, SwForm, Lab}
use Rattle.gier_order.specs.declared.operation.Operation.TheVariants.{Go, Base, Kinds, Agree, ByVal, CallF}
use Rattle.gier_order.specs.declared.operation.Fields.{Fields}
use Rattle.gier_order.specs.declared.operation.Fields.TheVariants.{Both, Level, Address, Neither}

pub record OrderRow : Type 0 where
  pub number : ℕ
  pub name : List ℕ
  pub fields : Fields

abbrev pub row : ℕ → List ℕ → Fields → OrderRow
row number name fields = record { number = number; name = name; fields = fields }

abbrev pub row_of : Operation → OrderRow
row_of Start = row 1 (codes "START") Both
row_of Stop = row 2 (codes "STOP") Neither
row_of Take = row 3 (codes "TAKE") Both
row_of Short = row 4 (codes "SHORT") Address
row_of Long = row 5 (codes "LONG") Neither
row_of Keep = row 6 (codes "KEEP") Address
row_of Addr = row 7 (codes "ADDR") Both
row_of Fetch = row 8 (codes "FETCH") Neither
row_of Put = row 9 (codes "PUT") Address
row_of Add = row 10 (codes "ADD") Address
row_of Sub = row 11 (codes "SUB") Address
row_of Mul = row 12 (codes "MUL") Address
row_of Div = row 13 (codes "DIV") Address
row_of Pow = row 14 (codes "POW") Address
row_of Neg = row 15 (codes "NEG") Neither
row_of Lt = row 16 (codes "LT") Address
row_of Le = row 17 (codes "LE") Address
row_of Eq = row 18 (codes "EQ") Address
row_of Ge = row 19 (codes "GE") Address
row_of Gt = row 20 (codes "GT") Address
row_of Ne = row 21 (codes "NE") Address
row_of Not = row 22 (codes "NOT") Neither
row_of And = row 23 (codes "AND") Address
row_of Or = row 24 (codes "OR") Address
row_of Impl = row 25 (codes "IMPL") Address
row_of Equiv = row 26 (codes "EQUIV") Address
row_of Jump = row 27 (codes "JUMP") Address
row_of False = row 28 (codes "FALSE") Address
row_of Test = row 29 (codes "TEST") Address
row_of Turn = row 30 (codes "TURN") Address
row_of Block = row 31 (codes "BLOCK") Both
row_of Leave = row 32 (codes "LEAVE") Neither
row_of Array = row 33 (codes "ARRAY") Both
row_of Index = row 34 (codes "INDEX") Both
row_of Proc = row 35 (codes "PROC") Both
row_of Call = row 36 (codes "CALL") Both
row_of Formal = row 37 (codes "FORMAL") Both
row_of Return = row 38 (codes "RETURN") Address
row_of Thunk = row 39 (codes "THUNK") Both
row_of Value = row 40 (codes "VALUE") Both
row_of Place = row 41 (codes "PLACE") Both
row_of NameL = row 42 (codes "NAMEL") Both
row_of Pass = row 43 (codes "PASS") Both
row_of Back = row 44 (codes "BACK") Neither
row_of Give = row 45 (codes "GIVE") Neither
row_of Lib = row 46 (codes "LIB") Address
row_of Switch = row 47 (codes "SWITCH") Both
row_of SwForm = row 48 (codes "SWFORM") Both
row_of Lab = row 49 (codes "LAB") Both
row_of Go = row 50 (codes "GO") Neither
row_of Base = row 51 (codes "BASE") Level
row_of Kinds = row 52 (codes "KINDS") Both
row_of Agree = row 53 (codes "AGREE") Both
row_of ByVal = row 54 (codes "BYVAL") Both
row_of CallF = row 55 (codes "CALLF") Both

-- the operations in the order of their numbers
unfoldable pub operations : List Operation
operations =
    Start ∷ Stop ∷ Take ∷ Short ∷ Long ∷ Keep ∷ Addr ∷ Fetch ∷ Put ∷ Add ∷ Sub ∷ Mul ∷ Div ∷ Pow ∷ Neg ∷ Lt ∷
    Le ∷ Eq ∷ Ge ∷ Gt ∷ Ne ∷ Not ∷ And ∷ Or ∷ Impl ∷ Equiv ∷ Jump ∷ False ∷ Test ∷ Turn ∷ Block ∷ Leave ∷
    Array ∷ Index ∷ Proc ∷ Call ∷ Formal ∷ Return ∷ Thunk ∷ Value ∷ Place ∷ NameL ∷ Pass ∷ Back ∷ Give ∷ Lib ∷
    Switch ∷ SwForm ∷ Lab ∷ Go ∷ Base ∷ Kinds ∷ Agree ∷ ByVal ∷ CallF ∷ []

-- the operation with this number
unfoldable pub operation_at : ℕ → Option Operation
operation_at zero = None
operation_at (suc n) = slice_get operations n
