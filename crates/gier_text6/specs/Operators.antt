-- A row for each operator: how strongly it binds, what type its operands have and which it gives (Report 3.3.5, 3.4.6).
use Rattle.std.specs.Prelude.{ℕ}
use Rattle.gier_symbol.specs.declared.tag.Tag.{Tag}
use Rattle.gier_symbol.specs.declared.tag.Tag.TheVariants.{Plus, Minus, Times, Div, Power, Less, NotGreater, Equal, NotLess}
use Rattle.gier_symbol.specs.declared.tag.Tag.TheVariants.{Greater, NotEqual, Not, And, Or, Impl, Equiv, LeadingPlus}
use Rattle.gier_symbol.specs.declared.tag.Tag.TheVariants.{LeadingMinus}
use Rattle.gier_kinds.specs.Types.{ExprType, OfInteger, OfBoolean}

-- those of a higher level bind more strongly; 0 is no operator
abbrev pub level_of : Tag → ℕ
level_of Equiv = 1
level_of Impl = 2
level_of Or = 3
level_of And = 4
level_of Not = 5
level_of Less = 6
level_of NotGreater = 6
level_of Equal = 6
level_of NotLess = 6
level_of Greater = 6
level_of NotEqual = 6
level_of Plus = 7
level_of Minus = 7
level_of LeadingPlus = 7
level_of LeadingMinus = 7
level_of Times = 8
level_of Div = 8
level_of Power = 9
level_of tag = 0

abbrev pub takes_of : Tag → ExprType
takes_of Equiv = OfBoolean
takes_of Impl = OfBoolean
takes_of Or = OfBoolean
takes_of And = OfBoolean
takes_of Not = OfBoolean
takes_of tag = OfInteger

abbrev pub gives_of : Tag → ExprType
gives_of Plus = OfInteger
gives_of Minus = OfInteger
gives_of LeadingPlus = OfInteger
gives_of LeadingMinus = OfInteger
gives_of Times = OfInteger
gives_of Div = OfInteger
gives_of Power = OfInteger
gives_of tag = OfBoolean
