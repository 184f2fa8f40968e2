-- What entries of the stack stand for: the numbers that keep it.
use Rattle.std.specs.Prelude.{ℕ}
use Rattle.gier_pass6.specs.declared.open.EntryKind.{EntryKind}
use Rattle.gier_pass6.specs.declared.open.EntryKind.TheVariants.{Nothing, Operator, FaultyOperator, Parenthesis, LeftPart}
use Rattle.gier_pass6.specs.declared.open.EntryKind.TheVariants.{Element, LeftElement, Callee, Wanted, FaultyWanted, Bracket}
use Rattle.gier_pass6.specs.declared.open.EntryKind.TheVariants.{Call, Plain, Block, Segment, Procedure, IfStatement, Actual}
use Rattle.gier_pass6.specs.declared.open.EntryKind.TheVariants.{Subscript, Bound, SwitchElement, ForElement, WhileElement}
use Rattle.gier_pass6.specs.declared.open.EntryKind.TheVariants.{Goto, Conditional}

abbrev pub number_of : EntryKind → ℕ
number_of Nothing = 0
number_of Operator = 1
number_of FaultyOperator = 2
number_of Parenthesis = 3
number_of LeftPart = 4
number_of Element = 5
number_of LeftElement = 6
number_of Callee = 7
number_of Wanted = 8
number_of FaultyWanted = 9
number_of Bracket = 10
number_of Call = 11
number_of Plain = 12
number_of Block = 13
number_of Segment = 14
number_of Procedure = 15
number_of IfStatement = 16
number_of Actual = 17
number_of Subscript = 18
number_of Bound = 19
number_of SwitchElement = 20
number_of ForElement = 21
number_of WhileElement = 22
number_of Goto = 23
number_of Conditional = 24
