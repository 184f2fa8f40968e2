-- The types of expressions, and for each operator how strongly it binds, what it takes and what it gives.
use Rattle.std.specs.Prelude.{ℕ, Bool, true, false, if◌then◌else◌, Option, None, Some}
use Rattle.gier_symbol.specs.declared.tag.Tag.{Tag}
use Rattle.gier_symbol.specs.declared.tag.Tag.TheVariants.{Plus, Minus, Times, Div, Power, Less, NotGreater, Equal, NotLess}
use Rattle.gier_symbol.specs.declared.tag.Tag.TheVariants.{Greater, NotEqual, Not, And, Or, Impl, Equiv, LeadingPlus}
use Rattle.gier_symbol.specs.declared.tag.Tag.TheVariants.{LeadingMinus}
use Rattle.gier_pass6.specs.declared.types.ValueType.{ValueType}
use Rattle.gier_pass6.specs.declared.types.ValueType.TheVariants.{Unknown, Integer, Boolean, Label, Text}
use Rattle.gier_pass6.specs.declared.types.Row.{Row}

-- whether an expression of the first type may stand where one of the second is wanted; an unknown one fits everywhere
abbrev pub fits : ValueType → ValueType → Bool
fits Unknown wanted = true
fits Integer Integer = true
fits Boolean Boolean = true
fits Label Label = true
fits Text Text = true
fits is wanted = false

-- the type of two branches: that of both, that of the other where one is unknown, and none where they differ
abbrev pub common_type : ValueType → ValueType → Option ValueType
common_type Unknown second = Some second
common_type first second = if fits second first then Some first else None

-- two types that are known and the same
abbrev pub agree : ValueType → ValueType → Bool
agree Integer Integer = true
agree Boolean Boolean = true
agree Label Label = true
agree Text Text = true
agree is wanted = false

abbrev pub row : ℕ → ValueType → ValueType → Row
row level takes gives = record { level = level; takes = takes; gives = gives }

-- from the weakest operator to the strongest one; a sign binds as a sum
abbrev pub row_of : Tag → Row
row_of Equiv = row 1 Boolean Boolean
row_of Impl = row 2 Boolean Boolean
row_of Or = row 3 Boolean Boolean
row_of And = row 4 Boolean Boolean
row_of Not = row 5 Boolean Boolean
row_of Less = row 6 Integer Boolean
row_of NotGreater = row 6 Integer Boolean
row_of Equal = row 6 Integer Boolean
row_of NotLess = row 6 Integer Boolean
row_of Greater = row 6 Integer Boolean
row_of NotEqual = row 6 Integer Boolean
row_of Plus = row 7 Integer Integer
row_of Minus = row 7 Integer Integer
row_of LeadingPlus = row 7 Integer Integer
row_of LeadingMinus = row 7 Integer Integer
row_of Times = row 8 Integer Integer
row_of Div = row 8 Integer Integer
row_of Power = row 9 Integer Integer
row_of other = row 0 Unknown Unknown

abbrev pub row_if : Option Tag → Row
row_if None = row 0 Unknown Unknown
row_if (Some tag) = row_of tag

-- the number of a type, as entries of the stack keep it
abbrev pub number_of : ValueType → ℕ
number_of Unknown = 0
number_of Integer = 1
number_of Boolean = 2
number_of Label = 3
number_of Text = 4
