-- What each use of an identifier allows, by its kind and the number of its dimensions or formals.
use Rattle.std.specs.Prelude.{◌==◌, ◌&&◌, ℕ, Bool, true, false, nat_lt}
use Rattle.gier_pass6.specs.declared.kind.Kind.{Kind}
use Rattle.gier_pass6.specs.declared.kind.Kind.TheVariants.{Undeclared, IntegerVariable, BooleanVariable, IntegerArray}
use Rattle.gier_pass6.specs.declared.kind.Kind.TheVariants.{BooleanArray, Label, Switch, Procedure, IntegerProcedure}
use Rattle.gier_pass6.specs.declared.kind.Kind.TheVariants.{BooleanProcedure, IntegerValue, BooleanValue, IntegerFormal}
use Rattle.gier_pass6.specs.declared.kind.Kind.TheVariants.{BooleanFormal, IntegerArrayFormal, BooleanArrayFormal, LabelFormal}
use Rattle.gier_pass6.specs.declared.kind.Kind.TheVariants.{SwitchFormal, StringFormal, ProcedureFormal, IntegerProcedureFormal}
use Rattle.gier_pass6.specs.declared.kind.Kind.TheVariants.{BooleanProcedureFormal, OutInteger, OutText, OutCr, OutChar}
use Rattle.gier_pass6.specs.declared.kind.Kind.TheVariants.{InInteger, InChar, Abs, Sign}
use Rattle.gier_pass6.specs.declared.types.ValueType.{ValueType}
use Rattle.gier_pass6.specs.declared.types.ValueType.TheVariants.{Unknown, Integer, Boolean, Label as LabelType}
use Rattle.gier_pass6.specs.declared.uses.Meaning.{Meaning}

-- where any number of subscripts or actuals will do
abbrev pub any_number : ℕ
any_number = 1099511627775

-- variables and formals that have a value
abbrev pub value_type : Kind → ValueType
value_type IntegerVariable = Integer
value_type IntegerValue = Integer
value_type IntegerFormal = Integer
value_type BooleanVariable = Boolean
value_type BooleanValue = Boolean
value_type BooleanFormal = Boolean
value_type other = Unknown

-- procedures that have a type
abbrev pub function_type : Kind → ValueType
function_type IntegerProcedure = Integer
function_type IntegerProcedureFormal = Integer
function_type InInteger = Integer
function_type InChar = Integer
function_type Abs = Integer
function_type Sign = Integer
function_type BooleanProcedure = Boolean
function_type BooleanProcedureFormal = Boolean
function_type other = Unknown

-- functions that are called by their name alone
abbrev pub may_stand : Kind → ℕ → Bool
may_stand IntegerProcedure count = count == 0
may_stand BooleanProcedure count = count == 0
may_stand IntegerProcedureFormal count = true
may_stand BooleanProcedureFormal count = true
may_stand InInteger count = true
may_stand InChar count = true
may_stand other count = false

-- alone as a statement
abbrev pub may_be_statement : Kind → ℕ → Bool
may_be_statement Procedure count = count == 0
may_be_statement IntegerProcedure count = count == 0
may_be_statement BooleanProcedure count = count == 0
may_be_statement ProcedureFormal count = true
may_be_statement IntegerProcedureFormal count = true
may_be_statement BooleanProcedureFormal count = true
may_be_statement OutCr count = true
may_be_statement InInteger count = true
may_be_statement InChar count = true
may_be_statement other count = false

-- with subscripts: the type of the element
abbrev pub element_type : Kind → ValueType
element_type IntegerArray = Integer
element_type IntegerArrayFormal = Integer
element_type BooleanArray = Boolean
element_type BooleanArrayFormal = Boolean
element_type Switch = LabelType
element_type SwitchFormal = LabelType
element_type other = Unknown

-- how many subscripts there must be
abbrev pub subscripts_of : Kind → ℕ → ℕ
subscripts_of IntegerArray count = count
subscripts_of BooleanArray count = count
subscripts_of Switch count = 1
subscripts_of SwitchFormal count = 1
subscripts_of other count = any_number

-- with actuals, as a statement or in an expression
abbrev pub may_be_called : Kind → ℕ → Bool → Bool
may_be_called Procedure count statement = statement && nat_lt 0 count
may_be_called IntegerProcedure count statement = nat_lt 0 count
may_be_called BooleanProcedure count statement = nat_lt 0 count
may_be_called ProcedureFormal count statement = statement
may_be_called IntegerProcedureFormal count statement = true
may_be_called BooleanProcedureFormal count statement = true
may_be_called OutInteger count statement = statement
may_be_called OutText count statement = statement
may_be_called OutChar count statement = statement
may_be_called Abs count statement = true
may_be_called Sign count statement = true
may_be_called other count statement = false

-- how many actuals there must be
abbrev pub formals_of : Kind → ℕ → ℕ
formals_of Procedure count = count
formals_of IntegerProcedure count = count
formals_of BooleanProcedure count = count
formals_of OutInteger count = 1
formals_of OutText count = 1
formals_of OutChar count = 1
formals_of Abs count = 1
formals_of Sign count = 1
formals_of OutCr count = 0
formals_of InInteger count = 0
formals_of InChar count = 0
formals_of other count = any_number

-- the formal of a standard procedure
abbrev pub standard_formal : Kind → Kind
standard_formal OutInteger = IntegerValue
standard_formal OutChar = IntegerValue
standard_formal Abs = IntegerValue
standard_formal Sign = IntegerValue
standard_formal OutText = StringFormal
standard_formal other = Undeclared

-- controlled variables
abbrev pub may_be_controlled : Kind → Bool
may_be_controlled IntegerVariable = true
may_be_controlled IntegerValue = true
may_be_controlled IntegerFormal = true
may_be_controlled other = false

abbrev pub is_procedure : Kind → Bool
is_procedure Procedure = true
is_procedure IntegerProcedure = true
is_procedure BooleanProcedure = true
is_procedure other = false

abbrev pub is_procedure_formal : Kind → Bool
is_procedure_formal ProcedureFormal = true
is_procedure_formal IntegerProcedureFormal = true
is_procedure_formal BooleanProcedureFormal = true
is_procedure_formal other = false

-- formals by value
abbrev pub is_value : Kind → Bool
is_value IntegerValue = true
is_value BooleanValue = true
is_value other = false

-- labels, switches and procedures
abbrev pub has_number : Kind → Bool
has_number Label = true
has_number Switch = true
has_number other = is_procedure other

abbrev pub meaning : ValueType → Bool → Meaning
meaning type call = record { value = type; call = call }

-- a function without formals is a call, and another one may not stand alone
abbrev pub meaning_if : Bool → ValueType → Meaning
meaning_if true type = meaning type true
meaning_if false type = meaning Unknown false

-- alone in an expression
abbrev pub meaning_alone : Kind → ℕ → Meaning
meaning_alone IntegerProcedure count = meaning_if (count == 0) Integer
meaning_alone BooleanProcedure count = meaning_if (count == 0) Boolean
meaning_alone IntegerProcedureFormal count = meaning Integer true
meaning_alone BooleanProcedureFormal count = meaning Boolean true
meaning_alone InInteger count = meaning Integer true
meaning_alone InChar count = meaning Integer true
meaning_alone Label count = meaning LabelType false
meaning_alone LabelFormal count = meaning LabelType false
meaning_alone other count = meaning (value_type other) false
