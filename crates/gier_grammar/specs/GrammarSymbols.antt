-- The grammar symbols: their numbers, the marks of those that want no symbol of the text, and what they may still write.
use Rattle.gier_tree.specs.declared.construct.Construct.TheVariants.{Program as CProgram, Block as CBlock, Compound as CCompound}
use Rattle.gier_tree.specs.declared.construct.Construct.TheVariants.{TypeDeclaration as CTypeDeclaration}
use Rattle.gier_tree.specs.declared.construct.Construct.TheVariants.{ArraySegment as CArraySegment}
use Rattle.gier_tree.specs.declared.construct.Construct.TheVariants.{SwitchDeclaration as CSwitchDeclaration}
use Rattle.gier_tree.specs.declared.construct.Construct.TheVariants.{ProcedureDeclaration as CProcedureDeclaration}
use Rattle.gier_tree.specs.declared.construct.Construct.TheVariants.{ProcedureBody as CProcedureBody, ForStatement as CForStatement}
use Rattle.gier_tree.specs.declared.construct.Construct.TheVariants.{ControlledStatement as CControlledStatement}
use Rattle.gier_tree.specs.declared.construct.Construct.TheVariants.{ConditionalStatement as CConditionalStatement}
use Rattle.gier_tree.specs.declared.construct.Construct.TheVariants.{Actual as CActual, Subscript as CSubscript, Bound as CBound}
use Rattle.gier_tree.specs.declared.construct.Construct.TheVariants.{SwitchElement as CSwitchElement, ForElement as CForElement}
use Rattle.gier_tree.specs.declared.construct.Construct.TheVariants.{GoTo as CGoTo, ConditionalExpression as CConditionalExpression}
use Rattle.gier_grammar.specs.declared.grammar_symbol.Mark.{Mark}
use Rattle.gier_grammar.specs.declared.grammar_symbol.Mark.TheVariants.{Open, Shut}
use Rattle.std.specs.Prelude.{Option, None, Some, ◌+◌, ℕ, nat_lt, if◌then◌else◌, List, [], ◌∷◌}
use Rattle.gier_grammar.specs.declared.grammar_symbol.GrammarSymbol.{GrammarSymbol}
use Rattle.gier_grammar.specs.declared.grammar_symbol.GrammarSymbol.TheVariants.{OpenProgram, OpenArraySegment, OpenProcedureBody}
use Rattle.gier_grammar.specs.declared.grammar_symbol.GrammarSymbol.TheVariants.{OpenControlledStatement, OpenActual, OpenSubscript}
use Rattle.gier_grammar.specs.declared.grammar_symbol.GrammarSymbol.TheVariants.{OpenBound, OpenSwitchElement, OpenForElement}
use Rattle.gier_grammar.specs.declared.grammar_symbol.GrammarSymbol.TheVariants.{ShutProgram, ShutBlock, ShutCompound}
use Rattle.gier_grammar.specs.declared.grammar_symbol.GrammarSymbol.TheVariants.{ShutTypeDeclaration, ShutArraySegment}
use Rattle.gier_grammar.specs.declared.grammar_symbol.GrammarSymbol.TheVariants.{ShutSwitchDeclaration, ShutProcedureDeclaration}
use Rattle.gier_grammar.specs.declared.grammar_symbol.GrammarSymbol.TheVariants.{ShutProcedureBody, ShutForStatement}
use Rattle.gier_grammar.specs.declared.grammar_symbol.GrammarSymbol.TheVariants.{ShutControlledStatement, ShutConditionalStatement}
use Rattle.gier_grammar.specs.declared.grammar_symbol.GrammarSymbol.TheVariants.{ShutActual, ShutSubscript, ShutBound}
use Rattle.gier_grammar.specs.declared.grammar_symbol.GrammarSymbol.TheVariants.{ShutSwitchElement, ShutForElement, ShutGoTo}
use Rattle.gier_grammar.specs.declared.grammar_symbol.GrammarSymbol.TheVariants.{ShutConditionalExpression, AfterOwnType, Program}
use Rattle.gier_grammar.specs.declared.grammar_symbol.GrammarSymbol.TheVariants.{ProgramColon, TextEnd, AfterBegin, BlockTail}
use Rattle.gier_grammar.specs.declared.grammar_symbol.GrammarSymbol.TheVariants.{CompoundTail, FirstDeclared, Declared}
use Rattle.gier_grammar.specs.declared.grammar_symbol.GrammarSymbol.TheVariants.{MoreDeclarations, OwnType, OwnName, MoreOwnNames}
use Rattle.gier_grammar.specs.declared.grammar_symbol.GrammarSymbol.TheVariants.{FixedBounds, FixedColon, MorePairs}
use Rattle.gier_grammar.specs.declared.grammar_symbol.GrammarSymbol.TheVariants.{MoreFixedSegments, AfterType, Name, MoreNames}
use Rattle.gier_grammar.specs.declared.grammar_symbol.GrammarSymbol.TheVariants.{Bounds, BoundColon, BoundTail, MoreSegments}
use Rattle.gier_grammar.specs.declared.grammar_symbol.GrammarSymbol.TheVariants.{SwitchBecomes, MoreSwitchElements, MayFormals}
use Rattle.gier_grammar.specs.declared.grammar_symbol.GrammarSymbol.TheVariants.{Formal, FormalTail, Heading, MayValues, ValueName}
use Rattle.gier_grammar.specs.declared.grammar_symbol.GrammarSymbol.TheVariants.{MoreValueNames, Semicolon, MoreSpecifications}
use Rattle.gier_grammar.specs.declared.grammar_symbol.GrammarSymbol.TheVariants.{MaySpecifier, SpecifiedName, MoreSpecifiedNames}
use Rattle.gier_grammar.specs.declared.grammar_symbol.GrammarSymbol.TheVariants.{Statement, AfterName, Branch, AfterBranchName}
use Rattle.gier_grammar.specs.declared.grammar_symbol.GrammarSymbol.TheVariants.{MayElse, ForVariable, ForBecomes, MayStep, ForTail}
use Rattle.gier_grammar.specs.declared.grammar_symbol.GrammarSymbol.TheVariants.{Until, Becomes, Right, AfterRightName}
use Rattle.gier_grammar.specs.declared.grammar_symbol.GrammarSymbol.TheVariants.{AfterRightElement, Expression, Simple, Then, Else}
use Rattle.gier_grammar.specs.declared.grammar_symbol.GrammarSymbol.TheVariants.{MayNot, MaySign, Number, Primary, MayPower}
use Rattle.gier_grammar.specs.declared.grammar_symbol.GrammarSymbol.TheVariants.{MayTimes, MaySum, MayRelation, MayAnd, MayOr}
use Rattle.gier_grammar.specs.declared.grammar_symbol.GrammarSymbol.TheVariants.{MayImplication, MayEquivalence, MayPart}
use Rattle.gier_grammar.specs.declared.grammar_symbol.GrammarSymbol.TheVariants.{SubscriptTail, Actual, StringRest, ActualTail}
use Rattle.gier_grammar.specs.declared.grammar_symbol.GrammarSymbol.TheVariants.{RightParenthesis}

-- the place of a grammar symbol in the list of them
abbrev pub number_of : GrammarSymbol → ℕ
number_of OpenProgram = 0
number_of OpenArraySegment = 1
number_of OpenProcedureBody = 2
number_of OpenControlledStatement = 3
number_of OpenActual = 4
number_of OpenSubscript = 5
number_of OpenBound = 6
number_of OpenSwitchElement = 7
number_of OpenForElement = 8
number_of ShutProgram = 9
number_of ShutBlock = 10
number_of ShutCompound = 11
number_of ShutTypeDeclaration = 12
number_of ShutArraySegment = 13
number_of ShutSwitchDeclaration = 14
number_of ShutProcedureDeclaration = 15
number_of ShutProcedureBody = 16
number_of ShutForStatement = 17
number_of ShutControlledStatement = 18
number_of ShutConditionalStatement = 19
number_of ShutActual = 20
number_of ShutSubscript = 21
number_of ShutBound = 22
number_of ShutSwitchElement = 23
number_of ShutForElement = 24
number_of ShutGoTo = 25
number_of ShutConditionalExpression = 26
number_of AfterOwnType = 27
number_of Program = 28
number_of ProgramColon = 29
number_of TextEnd = 30
number_of AfterBegin = 31
number_of BlockTail = 32
number_of CompoundTail = 33
number_of FirstDeclared = 34
number_of Declared = 35
number_of MoreDeclarations = 36
number_of OwnType = 37
number_of OwnName = 38
number_of MoreOwnNames = 39
number_of FixedBounds = 40
number_of FixedColon = 41
number_of MorePairs = 42
number_of MoreFixedSegments = 43
number_of AfterType = 44
number_of Name = 45
number_of MoreNames = 46
number_of Bounds = 47
number_of BoundColon = 48
number_of BoundTail = 49
number_of MoreSegments = 50
number_of SwitchBecomes = 51
number_of MoreSwitchElements = 52
number_of MayFormals = 53
number_of Formal = 54
number_of FormalTail = 55
number_of Heading = 56
number_of MayValues = 57
number_of ValueName = 58
number_of MoreValueNames = 59
number_of Semicolon = 60
number_of MoreSpecifications = 61
number_of MaySpecifier = 62
number_of SpecifiedName = 63
number_of MoreSpecifiedNames = 64
number_of Statement = 65
number_of AfterName = 66
number_of Branch = 67
number_of AfterBranchName = 68
number_of MayElse = 69
number_of ForVariable = 70
number_of ForBecomes = 71
number_of MayStep = 72
number_of ForTail = 73
number_of Until = 74
number_of Becomes = 75
number_of Right = 76
number_of AfterRightName = 77
number_of AfterRightElement = 78
number_of Expression = 79
number_of Simple = 80
number_of Then = 81
number_of Else = 82
number_of MayNot = 83
number_of MaySign = 84
number_of Number = 85
number_of Primary = 86
number_of MayPower = 87
number_of MayTimes = 88
number_of MaySum = 89
number_of MayRelation = 90
number_of MayAnd = 91
number_of MayOr = 92
number_of MayImplication = 93
number_of MayEquivalence = 94
number_of MayPart = 95
number_of SubscriptTail = 96
number_of Actual = 97
number_of StringRest = 98
number_of ActualTail = 99
number_of RightParenthesis = 100

-- the mark that a grammar symbol writes, if it wants no symbol of the text
abbrev pub mark_of : GrammarSymbol → Option Mark
mark_of OpenProgram = Some (Open CProgram)
mark_of OpenArraySegment = Some (Open CArraySegment)
mark_of OpenProcedureBody = Some (Open CProcedureBody)
mark_of OpenControlledStatement = Some (Open CControlledStatement)
mark_of OpenActual = Some (Open CActual)
mark_of OpenSubscript = Some (Open CSubscript)
mark_of OpenBound = Some (Open CBound)
mark_of OpenSwitchElement = Some (Open CSwitchElement)
mark_of OpenForElement = Some (Open CForElement)
mark_of ShutProgram = Some (Shut CProgram)
mark_of ShutBlock = Some (Shut CBlock)
mark_of ShutCompound = Some (Shut CCompound)
mark_of ShutTypeDeclaration = Some (Shut CTypeDeclaration)
mark_of ShutArraySegment = Some (Shut CArraySegment)
mark_of ShutSwitchDeclaration = Some (Shut CSwitchDeclaration)
mark_of ShutProcedureDeclaration = Some (Shut CProcedureDeclaration)
mark_of ShutProcedureBody = Some (Shut CProcedureBody)
mark_of ShutForStatement = Some (Shut CForStatement)
mark_of ShutControlledStatement = Some (Shut CControlledStatement)
mark_of ShutConditionalStatement = Some (Shut CConditionalStatement)
mark_of ShutActual = Some (Shut CActual)
mark_of ShutSubscript = Some (Shut CSubscript)
mark_of ShutBound = Some (Shut CBound)
mark_of ShutSwitchElement = Some (Shut CSwitchElement)
mark_of ShutForElement = Some (Shut CForElement)
mark_of ShutGoTo = Some (Shut CGoTo)
mark_of ShutConditionalExpression = Some (Shut CConditionalExpression)
mark_of _ = None

-- how many symbols a grammar symbol may write beyond what is paid for by the symbol that it takes: a mark is one
abbrev pub credit_at : ℕ → ℕ
credit_at number = if nat_lt number 28 then 1 else 0

abbrev pub credit_of : GrammarSymbol → ℕ
credit_of item = credit_at (number_of item)

abbrev pub credits : List GrammarSymbol → ℕ
credits [] = 0
credits (item ∷ items) = credit_of item + credits items
