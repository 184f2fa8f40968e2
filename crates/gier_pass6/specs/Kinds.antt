-- The numbers of the kinds of identifiers, as descriptions tell them.
use Rattle.std.specs.Prelude.{ℕ}
use Rattle.gier_pass6.specs.declared.kind.Kind.{Kind}
use Rattle.gier_pass6.specs.declared.kind.Kind.TheVariants.{Undeclared, IntegerVariable, BooleanVariable, IntegerArray}
use Rattle.gier_pass6.specs.declared.kind.Kind.TheVariants.{BooleanArray, Label, Switch, Procedure, IntegerProcedure}
use Rattle.gier_pass6.specs.declared.kind.Kind.TheVariants.{BooleanProcedure, IntegerValue, BooleanValue, IntegerFormal}
use Rattle.gier_pass6.specs.declared.kind.Kind.TheVariants.{BooleanFormal, IntegerArrayFormal, BooleanArrayFormal, LabelFormal}
use Rattle.gier_pass6.specs.declared.kind.Kind.TheVariants.{SwitchFormal, StringFormal, ProcedureFormal, IntegerProcedureFormal}
use Rattle.gier_pass6.specs.declared.kind.Kind.TheVariants.{BooleanProcedureFormal, OutInteger, OutText, OutCr, OutChar}
use Rattle.gier_pass6.specs.declared.kind.Kind.TheVariants.{InInteger, InChar, Abs, Sign}

abbrev pub number_of : Kind → ℕ
number_of Undeclared = 0
number_of IntegerVariable = 1
number_of BooleanVariable = 2
number_of IntegerArray = 3
number_of BooleanArray = 4
number_of Label = 5
number_of Switch = 6
number_of Procedure = 7
number_of IntegerProcedure = 8
number_of BooleanProcedure = 9
number_of IntegerValue = 11
number_of BooleanValue = 12
number_of IntegerFormal = 13
number_of BooleanFormal = 14
number_of IntegerArrayFormal = 15
number_of BooleanArrayFormal = 16
number_of LabelFormal = 17
number_of SwitchFormal = 18
number_of StringFormal = 19
number_of ProcedureFormal = 20
number_of IntegerProcedureFormal = 21
number_of BooleanProcedureFormal = 22
number_of OutInteger = 31
number_of OutText = 32
number_of OutCr = 33
number_of OutChar = 34
number_of InInteger = 35
number_of InChar = 36
number_of Abs = 37
number_of Sign = 38
