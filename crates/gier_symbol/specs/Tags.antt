-- The tags: their numbers, and the letters or signs with which the source spells them.
use Rattle.std.specs.Prelude.{ℕ, List, [], codes}
use Rattle.gier_symbol.specs.declared.tag.Tag.{Tag}
use Rattle.gier_symbol.specs.declared.tag.Tag.TheVariants.{Letter, Digit, Identifier, Number, StringBegin, StringByte}
use Rattle.gier_symbol.specs.declared.tag.Tag.TheVariants.{StringEnd, TextEnd, Plus, Minus, Times, Div, Power, Less, NotGreater}
use Rattle.gier_symbol.specs.declared.tag.Tag.TheVariants.{Equal, NotLess, Greater, NotEqual, Not, And, Or, Impl, Equiv, True}
use Rattle.gier_symbol.specs.declared.tag.Tag.TheVariants.{False, Comma, Colon, Semicolon, Becomes, LeftParenthesis}
use Rattle.gier_symbol.specs.declared.tag.Tag.TheVariants.{RightParenthesis, LeftBracket, RightBracket, Begin, End, If, Then}
use Rattle.gier_symbol.specs.declared.tag.Tag.TheVariants.{Else, For, Step, Until, While, Do, Goto, Integer, Boolean, Array}
use Rattle.gier_symbol.specs.declared.tag.Tag.TheVariants.{Switch, Procedure, String, Label, Value, Own, LeadingPlus}
use Rattle.gier_symbol.specs.declared.tag.Tag.TheVariants.{LeadingMinus, LabelColon, Declaring, Formal, ValueListed, Specified}
use Rattle.gier_symbol.specs.declared.tag.Tag.TheVariants.{OpenMark, ShutMark, Entry, Description, Used, Place, Count}
use Rattle.gier_symbol.specs.declared.tag.Tag.TheVariants.{Operation, Subscripted, Called, OwnNumber, OwnEntry, Word}
use Rattle.gier_symbol.specs.declared.tag.Tag.TheVariants.{LabelPlace, LabelOrder, LabelWord, OpenRoom, Need, ObjectWords}

-- the tag's number
abbrev pub number_of : Tag → ℕ
number_of Letter = 1
number_of Digit = 2
number_of Identifier = 3
number_of Number = 4
number_of StringBegin = 5
number_of StringByte = 6
number_of StringEnd = 7
number_of TextEnd = 8
number_of Plus = 10
number_of Minus = 11
number_of Times = 12
number_of Div = 13
number_of Power = 14
number_of Less = 15
number_of NotGreater = 16
number_of Equal = 17
number_of NotLess = 18
number_of Greater = 19
number_of NotEqual = 20
number_of Not = 21
number_of And = 22
number_of Or = 23
number_of Impl = 24
number_of Equiv = 25
number_of True = 26
number_of False = 27
number_of Comma = 28
number_of Colon = 29
number_of Semicolon = 30
number_of Becomes = 31
number_of LeftParenthesis = 32
number_of RightParenthesis = 33
number_of LeftBracket = 34
number_of RightBracket = 35
number_of Begin = 36
number_of End = 37
number_of If = 38
number_of Then = 39
number_of Else = 40
number_of For = 41
number_of Step = 42
number_of Until = 43
number_of While = 44
number_of Do = 45
number_of Goto = 46
number_of Integer = 47
number_of Boolean = 48
number_of Array = 49
number_of Switch = 50
number_of Procedure = 51
number_of String = 52
number_of Label = 53
number_of Value = 54
number_of Own = 55
number_of LeadingPlus = 60
number_of LeadingMinus = 61
number_of LabelColon = 62
number_of Declaring = 63
number_of Formal = 64
number_of ValueListed = 65
number_of Specified = 66
number_of OpenMark = 67
number_of ShutMark = 68
number_of Entry = 69
number_of Description = 70
number_of Used = 71
number_of Place = 72
number_of Count = 73
number_of Operation = 74
number_of Subscripted = 75
number_of Called = 76
number_of OwnNumber = 77
number_of OwnEntry = 78
number_of Word = 120
number_of LabelPlace = 121
number_of LabelOrder = 122
number_of LabelWord = 123
number_of OpenRoom = 124
number_of Need = 125
number_of ObjectWords = 126

-- the letters of a word or the bytes of a sign, and nothing for what has no spelling of its own
abbrev pub name_of : Tag → List ℕ
name_of Plus = codes "+"
name_of Minus = codes "-"
name_of Times = codes "*"
name_of Div = codes "div"
name_of Power = codes "^"
name_of Less = codes "<"
name_of NotGreater = codes "<="
name_of Equal = codes "="
name_of NotLess = codes ">="
name_of Greater = codes ">"
name_of NotEqual = codes "<>"
name_of Not = codes "not"
name_of And = codes "and"
name_of Or = codes "or"
name_of Impl = codes "impl"
name_of Equiv = codes "equiv"
name_of True = codes "true"
name_of False = codes "false"
name_of Comma = codes ","
name_of Colon = codes ":"
name_of Semicolon = codes ";"
name_of Becomes = codes ":="
name_of LeftParenthesis = codes "("
name_of RightParenthesis = codes ")"
name_of LeftBracket = codes "["
name_of RightBracket = codes "]"
name_of Begin = codes "begin"
name_of End = codes "end"
name_of If = codes "if"
name_of Then = codes "then"
name_of Else = codes "else"
name_of For = codes "for"
name_of Step = codes "step"
name_of Until = codes "until"
name_of While = codes "while"
name_of Do = codes "do"
name_of Goto = codes "goto"
name_of Integer = codes "integer"
name_of Boolean = codes "boolean"
name_of Array = codes "array"
name_of Switch = codes "switch"
name_of Procedure = codes "procedure"
name_of String = codes "string"
name_of Label = codes "label"
name_of Value = codes "value"
name_of Own = codes "own"
name_of _ = []
