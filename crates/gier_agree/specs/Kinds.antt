-- The kinds at the call of a formal procedure, and which actual fits which formal.
use Rattle.std.specs.Prelude.{◌≡◌, ℕ}
use Rattle.gier_agree.specs.declared.kind.Kind.{Kind}
use Rattle.gier_agree.specs.declared.kind.Kind.TheVariants.{IntegerByValue, BooleanByValue, Integer, Boolean, Label}
use Rattle.gier_agree.specs.declared.kind.Kind.TheVariants.{IntegerArray, BooleanArray, Switch, String, Procedure}
use Rattle.gier_agree.specs.declared.kind.Kind.TheVariants.{IntegerProcedure, BooleanProcedure}

-- the number of a kind in a packed word
abbrev pub number_of : Kind → ℕ
number_of IntegerByValue = 1
number_of BooleanByValue = 2
number_of Integer = 3
number_of Boolean = 4
number_of Label = 5
number_of IntegerArray = 6
number_of BooleanArray = 7
number_of Switch = 8
number_of String = 9
number_of Procedure = 10
number_of IntegerProcedure = 11
number_of BooleanProcedure = 12

-- the kind of the actuals that fit a formal: a formal by value takes an expression of its type, each other one its own kind
abbrev pub wanted_by : Kind → Kind
wanted_by IntegerByValue = Integer
wanted_by BooleanByValue = Boolean
wanted_by Integer = Integer
wanted_by Boolean = Boolean
wanted_by Label = Label
wanted_by IntegerArray = IntegerArray
wanted_by BooleanArray = BooleanArray
wanted_by Switch = Switch
wanted_by String = String
wanted_by Procedure = Procedure
wanted_by IntegerProcedure = IntegerProcedure
wanted_by BooleanProcedure = BooleanProcedure

-- a formal and an actual with these numbers fit
abbrev pub Fits : ℕ → ℕ → Type 0
Fits formal actual = (kind : Kind) × (number_of kind ≡ formal) × (number_of (wanted_by kind) ≡ actual)

abbrev pub IsNoKind : ℕ → Type 0
IsNoKind number = (kind : Kind) → number_of kind ≡ number → ⊥
