-- What the kinds of identifiers mean for code.
use Rattle.std.specs.Prelude.{ℕ, Bool, true, false, Option, None, Some}
use Rattle.gier_tree.specs.declared.kind.Kind.{Kind}
use Rattle.gier_tree.specs.declared.kind.Kind.TheVariants.{Undeclared, IntegerVariable, BooleanVariable, IntegerArray}
use Rattle.gier_tree.specs.declared.kind.Kind.TheVariants.{BooleanArray, Label, Switch, Procedure, IntegerProcedure}
use Rattle.gier_tree.specs.declared.kind.Kind.TheVariants.{BooleanProcedure, IntegerValue, BooleanValue, IntegerFormal}
use Rattle.gier_tree.specs.declared.kind.Kind.TheVariants.{BooleanFormal, IntegerArrayFormal, BooleanArrayFormal, LabelFormal}
use Rattle.gier_tree.specs.declared.kind.Kind.TheVariants.{SwitchFormal, StringFormal, ProcedureFormal, IntegerProcedureFormal}
use Rattle.gier_tree.specs.declared.kind.Kind.TheVariants.{BooleanProcedureFormal, OutInteger, OutText, OutCr, OutChar}
use Rattle.gier_tree.specs.declared.kind.Kind.TheVariants.{InInteger, InChar, Abs, Sign}
use Rattle.gier_agree.specs.declared.kind.Kind.{Kind as Agreed}
use Rattle.gier_agree.specs.declared.kind.Kind.TheVariants.{IntegerByValue as AnIntegerByValue}
use Rattle.gier_agree.specs.declared.kind.Kind.TheVariants.{BooleanByValue as ABooleanByValue, Integer as AnInteger}
use Rattle.gier_agree.specs.declared.kind.Kind.TheVariants.{Boolean as ABoolean, Label as ALabel}
use Rattle.gier_agree.specs.declared.kind.Kind.TheVariants.{IntegerArray as AnIntegerArray, BooleanArray as ABooleanArray}
use Rattle.gier_agree.specs.declared.kind.Kind.TheVariants.{Switch as ASwitch, String as AString, Procedure as AProcedure}
use Rattle.gier_agree.specs.declared.kind.Kind.TheVariants.{IntegerProcedure as AnIntegerProcedure}
use Rattle.gier_agree.specs.declared.kind.Kind.TheVariants.{BooleanProcedure as ABooleanProcedure}
use Rattle.gier_agree.specs.Kinds.{number_of}
use Rattle.gier_pass7.specs.declared.kinds.ValueType.{ValueType}
use Rattle.gier_pass7.specs.declared.kinds.ValueType.TheVariants.{Unknown, Integer, Boolean, Label as LabelType, Text}

-- the cell holds the value itself
abbrev pub is_cell : Kind → Bool
is_cell IntegerVariable = true
is_cell BooleanVariable = true
is_cell IntegerValue = true
is_cell BooleanValue = true
is_cell other = false

-- formals by value
abbrev pub is_value : Kind → Bool
is_value IntegerValue = true
is_value BooleanValue = true
is_value other = false

-- integer and Boolean formals by name
abbrev pub is_name : Kind → Bool
is_name IntegerFormal = true
is_name BooleanFormal = true
is_name other = false

-- declared arrays
abbrev pub is_array : Kind → Bool
is_array IntegerArray = true
is_array BooleanArray = true
is_array other = false

-- array formals
abbrev pub is_array_formal : Kind → Bool
is_array_formal IntegerArrayFormal = true
is_array_formal BooleanArrayFormal = true
is_array_formal other = false

-- declared and formal switches
abbrev pub is_switch : Kind → Bool
is_switch Switch = true
is_switch SwitchFormal = true
is_switch other = false

-- declared procedures
abbrev pub is_procedure : Kind → Bool
is_procedure Procedure = true
is_procedure IntegerProcedure = true
is_procedure BooleanProcedure = true
is_procedure other = false

-- formal procedures
abbrev pub is_procedure_formal : Kind → Bool
is_procedure_formal ProcedureFormal = true
is_procedure_formal IntegerProcedureFormal = true
is_procedure_formal BooleanProcedureFormal = true
is_procedure_formal other = false

-- labels, switches and declared procedures
abbrev pub is_numbered : Kind → Bool
is_numbered Label = true
is_numbered Switch = true
is_numbered other = is_procedure other

-- the numbers of the standard procedures
abbrev pub library_number : Kind → ℕ
library_number OutInteger = 1
library_number OutText = 2
library_number OutCr = 3
library_number OutChar = 4
library_number InInteger = 5
library_number InChar = 6
library_number Abs = 7
library_number Sign = 8
library_number other = 0

-- formals whose actuals are evaluations; where the formal is unknown, each expression is one
abbrev pub is_evaluated : Kind → Bool
is_evaluated IntegerFormal = true
is_evaluated BooleanFormal = true
is_evaluated LabelFormal = true
is_evaluated Undeclared = true
is_evaluated other = false

-- the type of an identifier, of its elements or of its value
abbrev pub value_type : Kind → ValueType
value_type IntegerVariable = Integer
value_type IntegerValue = Integer
value_type IntegerFormal = Integer
value_type IntegerArray = Integer
value_type IntegerArrayFormal = Integer
value_type IntegerProcedure = Integer
value_type IntegerProcedureFormal = Integer
value_type InInteger = Integer
value_type InChar = Integer
value_type Abs = Integer
value_type Sign = Integer
value_type BooleanVariable = Boolean
value_type BooleanValue = Boolean
value_type BooleanFormal = Boolean
value_type BooleanArray = Boolean
value_type BooleanArrayFormal = Boolean
value_type BooleanProcedure = Boolean
value_type BooleanProcedureFormal = Boolean
value_type Label = LabelType
value_type LabelFormal = LabelType
value_type Switch = LabelType
value_type SwitchFormal = LabelType
value_type StringFormal = Text
value_type other = Unknown

-- the kind of an expression or a string as an actual of a formal procedure's call
abbrev pub actual_of_value : ValueType → Option Agreed
actual_of_value Integer = Some AnInteger
actual_of_value Boolean = Some ABoolean
actual_of_value LabelType = Some ALabel
actual_of_value Text = Some AString
actual_of_value Unknown = None

-- the kind of an identifier alone there
abbrev pub actual_of_name : Kind → Option Agreed
actual_of_name IntegerArray = Some AnIntegerArray
actual_of_name IntegerArrayFormal = Some AnIntegerArray
actual_of_name BooleanArray = Some ABooleanArray
actual_of_name BooleanArrayFormal = Some ABooleanArray
actual_of_name Switch = Some ASwitch
actual_of_name SwitchFormal = Some ASwitch
actual_of_name Procedure = Some AProcedure
actual_of_name ProcedureFormal = Some AProcedure
actual_of_name IntegerProcedure = Some AnIntegerProcedure
actual_of_name IntegerProcedureFormal = Some AnIntegerProcedure
actual_of_name BooleanProcedure = Some ABooleanProcedure
actual_of_name BooleanProcedureFormal = Some ABooleanProcedure
actual_of_name other = actual_of_value (value_type other)

-- the kind of a formal there
abbrev pub formal_kind : Kind → Option Agreed
formal_kind IntegerValue = Some AnIntegerByValue
formal_kind BooleanValue = Some ABooleanByValue
formal_kind other = actual_of_name other

-- its number in a packed word
abbrev pub packed_number : Option Agreed → ℕ
packed_number None = 0
packed_number (Some kind) = number_of kind
