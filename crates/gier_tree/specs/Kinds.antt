-- The numbers of the kinds of identifiers, as descriptions tell them.
use Rattle.std.specs.Prelude.{ℕ}
use Rattle.gier_tree.specs.declared.kind.Kind.{Kind}
use Rattle.gier_tree.specs.declared.kind.Kind.TheVariants.{Undeclared, IntegerVariable, BooleanVariable, IntegerArray}
use Rattle.gier_tree.specs.declared.kind.Kind.TheVariants.{BooleanArray, Label, Switch, Procedure, IntegerProcedure}
use Rattle.gier_tree.specs.declared.kind.Kind.TheVariants.{BooleanProcedure, IntegerValue, BooleanValue, IntegerFormal}
use Rattle.gier_tree.specs.declared.kind.Kind.TheVariants.{BooleanFormal, IntegerArrayFormal, BooleanArrayFormal, LabelFormal}
use Rattle.gier_tree.specs.declared.kind.Kind.TheVariants.{SwitchFormal, StringFormal, ProcedureFormal, IntegerProcedureFormal}
use Rattle.gier_tree.specs.declared.kind.Kind.TheVariants.{BooleanProcedureFormal, OutInteger, OutText, OutCr, OutChar, InInteger}
use Rattle.gier_tree.specs.declared.kind.Kind.TheVariants.{InChar, Abs, Sign}

abbrev pub kind_number : Kind → ℕ
kind_number Undeclared = 0
kind_number IntegerVariable = 1
kind_number BooleanVariable = 2
kind_number IntegerArray = 3
kind_number BooleanArray = 4
kind_number Label = 5
kind_number Switch = 6
kind_number Procedure = 7
kind_number IntegerProcedure = 8
kind_number BooleanProcedure = 9
kind_number IntegerValue = 11
kind_number BooleanValue = 12
kind_number IntegerFormal = 13
kind_number BooleanFormal = 14
kind_number IntegerArrayFormal = 15
kind_number BooleanArrayFormal = 16
kind_number LabelFormal = 17
kind_number SwitchFormal = 18
kind_number StringFormal = 19
kind_number ProcedureFormal = 20
kind_number IntegerProcedureFormal = 21
kind_number BooleanProcedureFormal = 22
kind_number OutInteger = 31
kind_number OutText = 32
kind_number OutCr = 33
kind_number OutChar = 34
kind_number InInteger = 35
kind_number InChar = 36
kind_number Abs = 37
kind_number Sign = 38
