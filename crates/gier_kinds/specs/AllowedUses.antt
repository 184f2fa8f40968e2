-- Which uses of an identifier its description allows, and the type that it has there (Report 3.1, 3.2, 3.5, 4.2, 4.6.3, 4.7). Each
-- function has one way of use; what it doesn't name is the fault of a wrong use. Where the use has a type, a wrong one has none.
use Rattle.std.specs.Prelude.{ℕ, zero, suc, Bool, true, false}
use Rattle.gier_tree.specs.declared.kind.Kind.{Kind}
use Rattle.gier_tree.specs.declared.kind.Kind.TheVariants.{IntegerVariable, BooleanVariable, IntegerArray, BooleanArray, Label}
use Rattle.gier_tree.specs.declared.kind.Kind.TheVariants.{Switch, Procedure, IntegerProcedure, BooleanProcedure, IntegerValue}
use Rattle.gier_tree.specs.declared.kind.Kind.TheVariants.{BooleanValue, IntegerFormal, BooleanFormal, IntegerArrayFormal}
use Rattle.gier_tree.specs.declared.kind.Kind.TheVariants.{BooleanArrayFormal, LabelFormal, SwitchFormal, ProcedureFormal}
use Rattle.gier_tree.specs.declared.kind.Kind.TheVariants.{IntegerProcedureFormal, BooleanProcedureFormal, OutInteger, OutText}
use Rattle.gier_tree.specs.declared.kind.Kind.TheVariants.{OutCr, OutChar, InInteger, InChar, Abs, Sign}
use Rattle.gier_kinds.specs.Types.{ExprType, OfInteger, OfBoolean, OfLabel, Unknown}

-- of a procedure with this number of formals, where it has none, and where it has some
abbrev pub without_formals : (formals : ℕ) → ExprType → ExprType
without_formals zero t = t
without_formals (suc n) t = Unknown

abbrev pub with_formals : (formals : ℕ) → ExprType → ExprType
with_formals zero t = Unknown
with_formals (suc n) t = t

abbrev pub has_none : (formals : ℕ) → Bool
has_none zero = true
has_none (suc n) = false

abbrev pub has_some : (formals : ℕ) → Bool
has_some zero = false
has_some (suc n) = true

-- a variable, which is also an integer or Boolean formal
abbrev pub variable_type : Kind → ExprType
variable_type IntegerVariable = OfInteger
variable_type BooleanVariable = OfBoolean
variable_type IntegerValue = OfInteger
variable_type BooleanValue = OfBoolean
variable_type IntegerFormal = OfInteger
variable_type BooleanFormal = OfBoolean
variable_type kind = Unknown

-- alone in an expression: a variable, a label, a call of a function
abbrev pub alone_type : Kind → (formals : ℕ) → ExprType
alone_type Label formals = OfLabel
alone_type LabelFormal formals = OfLabel
alone_type IntegerProcedure formals = without_formals formals OfInteger
alone_type BooleanProcedure formals = without_formals formals OfBoolean
alone_type IntegerProcedureFormal formals = OfInteger
alone_type BooleanProcedureFormal formals = OfBoolean
alone_type InInteger formals = OfInteger
alone_type InChar formals = OfInteger
alone_type kind formals = variable_type kind

-- with subscripts: an array
abbrev pub array_type : Kind → ExprType
array_type IntegerArray = OfInteger
array_type BooleanArray = OfBoolean
array_type IntegerArrayFormal = OfInteger
array_type BooleanArrayFormal = OfBoolean
array_type kind = Unknown

-- with subscripts in an expression: also a switch
abbrev pub element_type : Kind → ExprType
element_type Switch = OfLabel
element_type SwitchFormal = OfLabel
element_type kind = array_type kind

-- with actuals in an expression: a function
abbrev pub called_type : Kind → (formals : ℕ) → ExprType
called_type IntegerProcedure formals = with_formals formals OfInteger
called_type BooleanProcedure formals = with_formals formals OfBoolean
called_type IntegerProcedureFormal formals = OfInteger
called_type BooleanProcedureFormal formals = OfBoolean
called_type Abs formals = OfInteger
called_type Sign formals = OfInteger
called_type kind formals = Unknown

-- a left part alone: a variable; within its own declaration also a function, whose value is assigned (5.4.4)
abbrev pub left_type : Kind → (within : Bool) → ExprType
left_type IntegerProcedure true = OfInteger
left_type BooleanProcedure true = OfBoolean
left_type kind within = variable_type kind

-- a controlled variable
abbrev pub is_controllable : Kind → Bool
is_controllable IntegerVariable = true
is_controllable IntegerValue = true
is_controllable IntegerFormal = true
is_controllable kind = false

-- a statement alone
abbrev pub is_statement : Kind → (formals : ℕ) → Bool
is_statement Procedure formals = has_none formals
is_statement IntegerProcedure formals = has_none formals
is_statement BooleanProcedure formals = has_none formals
is_statement ProcedureFormal formals = true
is_statement IntegerProcedureFormal formals = true
is_statement BooleanProcedureFormal formals = true
is_statement OutCr formals = true
is_statement InInteger formals = true
is_statement InChar formals = true
is_statement kind formals = false

-- a statement with actuals
abbrev pub is_called_statement : Kind → (formals : ℕ) → Bool
is_called_statement Procedure formals = has_some formals
is_called_statement IntegerProcedure formals = has_some formals
is_called_statement BooleanProcedure formals = has_some formals
is_called_statement ProcedureFormal formals = true
is_called_statement IntegerProcedureFormal formals = true
is_called_statement BooleanProcedureFormal formals = true
is_called_statement OutInteger formals = true
is_called_statement OutText formals = true
is_called_statement OutChar formals = true
is_called_statement Abs formals = true
is_called_statement Sign formals = true
is_called_statement kind formals = false
