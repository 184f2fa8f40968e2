-- The orders and the types of operators.
use Rattle.std.specs.Prelude.{Option, Some}
use Rattle.gier_order.specs.declared.operation.Operation.TheVariants.{Add, Sub, Mul, Div as DivOrder, Pow, Lt, Le, Eq, Ge, Gt}
use Rattle.gier_order.specs.declared.operation.Operation.TheVariants.{Ne, And as AndOrder, Or as OrOrder, Impl as ImplOrder}
use Rattle.gier_order.specs.declared.operation.Operation.TheVariants.{Equiv as EquivOrder, Not as NotOrder, Neg}
use Rattle.gier_symbol.specs.declared.tag.Tag.{Tag}
use Rattle.gier_symbol.specs.declared.tag.Tag.TheVariants.{Plus, Minus, Times, Div, Power, Less, NotGreater, Equal, NotLess}
use Rattle.gier_symbol.specs.declared.tag.Tag.TheVariants.{Greater, NotEqual, And, Or, Impl, Equiv, Not, LeadingPlus}
use Rattle.gier_symbol.specs.declared.tag.Tag.TheVariants.{LeadingMinus}
use Rattle.gier_pass7.specs.declared.kinds.ValueType.{ValueType}
use Rattle.gier_pass7.specs.declared.kinds.ValueType.TheVariants.{Integer, Boolean}
use Rattle.gier_pass7.specs.declared.operations.Operator.{Operator}
use Rattle.gier_pass7.specs.declared.operations.Operator.TheVariants.{Binary, Unary, Nothing}

-- how the operator with this tag is coded
abbrev pub operator_of : Option Tag → Operator
operator_of (Some Plus) = Binary Add
operator_of (Some Minus) = Binary Sub
operator_of (Some Times) = Binary Mul
operator_of (Some Div) = Binary DivOrder
operator_of (Some Power) = Binary Pow
operator_of (Some Less) = Binary Lt
operator_of (Some NotGreater) = Binary Le
operator_of (Some Equal) = Binary Eq
operator_of (Some NotLess) = Binary Ge
operator_of (Some Greater) = Binary Gt
operator_of (Some NotEqual) = Binary Ne
operator_of (Some And) = Binary AndOrder
operator_of (Some Or) = Binary OrOrder
operator_of (Some Impl) = Binary ImplOrder
operator_of (Some Equiv) = Binary EquivOrder
operator_of (Some Not) = Unary NotOrder
operator_of (Some LeadingMinus) = Unary Neg
operator_of other = Nothing

-- arithmetic gives integers, and all else gives Boolean values
abbrev pub result_type : Option Tag → ValueType
result_type (Some Plus) = Integer
result_type (Some Minus) = Integer
result_type (Some Times) = Integer
result_type (Some Div) = Integer
result_type (Some Power) = Integer
result_type (Some LeadingPlus) = Integer
result_type (Some LeadingMinus) = Integer
result_type other = Boolean
