-- The LL(1) table: what each grammar symbol does with each kind of symbol.
use Rattle.std.specs.Prelude.{◌==◌, ℕ, nat_lt, if◌then◌else◌}
use Rattle.gier_symbol.specs.declared.tag.Tag.{Tag}
use Rattle.gier_symbol.specs.declared.tag.Tag.TheVariants.{And as TAnd, Array as TArray, Becomes as TBecomes, Begin as TBegin}
use Rattle.gier_symbol.specs.declared.tag.Tag.TheVariants.{Boolean as TBoolean, Colon as TColon, Comma as TComma, Div as TDiv}
use Rattle.gier_symbol.specs.declared.tag.Tag.TheVariants.{Do as TDo, Else as TElse, End as TEnd, Equal as TEqual, Equiv as TEquiv}
use Rattle.gier_symbol.specs.declared.tag.Tag.TheVariants.{False as TFalse, For as TFor, Goto as TGoto, Greater as TGreater}
use Rattle.gier_symbol.specs.declared.tag.Tag.TheVariants.{Identifier as TIdentifier, If as TIf, Impl as TImpl, Integer as TInteger}
use Rattle.gier_symbol.specs.declared.tag.Tag.TheVariants.{Label as TLabel, LeftBracket as TLeftBracket}
use Rattle.gier_symbol.specs.declared.tag.Tag.TheVariants.{LeftParenthesis as TLeftParenthesis, Less as TLess, Minus as TMinus}
use Rattle.gier_symbol.specs.declared.tag.Tag.TheVariants.{Not as TNot, NotEqual as TNotEqual, NotGreater as TNotGreater}
use Rattle.gier_symbol.specs.declared.tag.Tag.TheVariants.{NotLess as TNotLess, Number as TNumber, Or as TOr, Own as TOwn}
use Rattle.gier_symbol.specs.declared.tag.Tag.TheVariants.{Plus as TPlus, Power as TPower, Procedure as TProcedure}
use Rattle.gier_symbol.specs.declared.tag.Tag.TheVariants.{RightBracket as TRightBracket, RightParenthesis as TRightParenthesis}
use Rattle.gier_symbol.specs.declared.tag.Tag.TheVariants.{Semicolon as TSemicolon, Step as TStep, String as TString}
use Rattle.gier_symbol.specs.declared.tag.Tag.TheVariants.{StringBegin as TStringBegin, StringByte as TStringByte}
use Rattle.gier_symbol.specs.declared.tag.Tag.TheVariants.{StringEnd as TStringEnd, Switch as TSwitch, TextEnd as TTextEnd}
use Rattle.gier_symbol.specs.declared.tag.Tag.TheVariants.{Then as TThen, Times as TTimes, True as TTrue, Until as TUntil}
use Rattle.gier_symbol.specs.declared.tag.Tag.TheVariants.{Value as TValue, While as TWhile}
use Rattle.gier_symbol.specs.Tags.{number_of}
use Rattle.gier_grammar.specs.declared.grammar_symbol.GrammarSymbol.{GrammarSymbol}
use Rattle.gier_grammar.specs.declared.grammar_symbol.GrammarSymbol.TheVariants.{Program as GProgram, ProgramColon as GProgramColon}
use Rattle.gier_grammar.specs.declared.grammar_symbol.GrammarSymbol.TheVariants.{TextEnd as GTextEnd, AfterBegin as GAfterBegin}
use Rattle.gier_grammar.specs.declared.grammar_symbol.GrammarSymbol.TheVariants.{BlockTail as GBlockTail}
use Rattle.gier_grammar.specs.declared.grammar_symbol.GrammarSymbol.TheVariants.{CompoundTail as GCompoundTail}
use Rattle.gier_grammar.specs.declared.grammar_symbol.GrammarSymbol.TheVariants.{FirstDeclared as GFirstDeclared}
use Rattle.gier_grammar.specs.declared.grammar_symbol.GrammarSymbol.TheVariants.{Declared as GDeclared}
use Rattle.gier_grammar.specs.declared.grammar_symbol.GrammarSymbol.TheVariants.{MoreDeclarations as GMoreDeclarations}
use Rattle.gier_grammar.specs.declared.grammar_symbol.GrammarSymbol.TheVariants.{MorePairs as GMorePairs, OwnType as GOwnType}
use Rattle.gier_grammar.specs.declared.grammar_symbol.GrammarSymbol.TheVariants.{AfterOwnType as GAfterOwnType, OwnName as GOwnName}
use Rattle.gier_grammar.specs.declared.grammar_symbol.GrammarSymbol.TheVariants.{MoreOwnNames as GMoreOwnNames}
use Rattle.gier_grammar.specs.declared.grammar_symbol.GrammarSymbol.TheVariants.{FixedBounds as GFixedBounds}
use Rattle.gier_grammar.specs.declared.grammar_symbol.GrammarSymbol.TheVariants.{FixedColon as GFixedColon}
use Rattle.gier_grammar.specs.declared.grammar_symbol.GrammarSymbol.TheVariants.{MoreFixedSegments as GMoreFixedSegments}
use Rattle.gier_grammar.specs.declared.grammar_symbol.GrammarSymbol.TheVariants.{AfterType as GAfterType, Name as GName}
use Rattle.gier_grammar.specs.declared.grammar_symbol.GrammarSymbol.TheVariants.{MoreNames as GMoreNames, Bounds as GBounds}
use Rattle.gier_grammar.specs.declared.grammar_symbol.GrammarSymbol.TheVariants.{BoundColon as GBoundColon, BoundTail as GBoundTail}
use Rattle.gier_grammar.specs.declared.grammar_symbol.GrammarSymbol.TheVariants.{MoreSegments as GMoreSegments}
use Rattle.gier_grammar.specs.declared.grammar_symbol.GrammarSymbol.TheVariants.{SwitchBecomes as GSwitchBecomes}
use Rattle.gier_grammar.specs.declared.grammar_symbol.GrammarSymbol.TheVariants.{MoreSwitchElements as GMoreSwitchElements}
use Rattle.gier_grammar.specs.declared.grammar_symbol.GrammarSymbol.TheVariants.{MayFormals as GMayFormals, Formal as GFormal}
use Rattle.gier_grammar.specs.declared.grammar_symbol.GrammarSymbol.TheVariants.{FormalTail as GFormalTail, Heading as GHeading}
use Rattle.gier_grammar.specs.declared.grammar_symbol.GrammarSymbol.TheVariants.{MayValues as GMayValues, ValueName as GValueName}
use Rattle.gier_grammar.specs.declared.grammar_symbol.GrammarSymbol.TheVariants.{MoreValueNames as GMoreValueNames}
use Rattle.gier_grammar.specs.declared.grammar_symbol.GrammarSymbol.TheVariants.{Semicolon as GSemicolon}
use Rattle.gier_grammar.specs.declared.grammar_symbol.GrammarSymbol.TheVariants.{MoreSpecifications as GMoreSpecifications}
use Rattle.gier_grammar.specs.declared.grammar_symbol.GrammarSymbol.TheVariants.{MaySpecifier as GMaySpecifier}
use Rattle.gier_grammar.specs.declared.grammar_symbol.GrammarSymbol.TheVariants.{SpecifiedName as GSpecifiedName}
use Rattle.gier_grammar.specs.declared.grammar_symbol.GrammarSymbol.TheVariants.{MoreSpecifiedNames as GMoreSpecifiedNames}
use Rattle.gier_grammar.specs.declared.grammar_symbol.GrammarSymbol.TheVariants.{Statement as GStatement, AfterName as GAfterName}
use Rattle.gier_grammar.specs.declared.grammar_symbol.GrammarSymbol.TheVariants.{Branch as GBranch}
use Rattle.gier_grammar.specs.declared.grammar_symbol.GrammarSymbol.TheVariants.{AfterBranchName as GAfterBranchName}
use Rattle.gier_grammar.specs.declared.grammar_symbol.GrammarSymbol.TheVariants.{MayElse as GMayElse, ForVariable as GForVariable}
use Rattle.gier_grammar.specs.declared.grammar_symbol.GrammarSymbol.TheVariants.{ForBecomes as GForBecomes, MayStep as GMayStep}
use Rattle.gier_grammar.specs.declared.grammar_symbol.GrammarSymbol.TheVariants.{ForTail as GForTail, Until as GUntil}
use Rattle.gier_grammar.specs.declared.grammar_symbol.GrammarSymbol.TheVariants.{Becomes as GBecomes, Right as GRight}
use Rattle.gier_grammar.specs.declared.grammar_symbol.GrammarSymbol.TheVariants.{AfterRightName as GAfterRightName}
use Rattle.gier_grammar.specs.declared.grammar_symbol.GrammarSymbol.TheVariants.{AfterRightElement as GAfterRightElement}
use Rattle.gier_grammar.specs.declared.grammar_symbol.GrammarSymbol.TheVariants.{Expression as GExpression, Simple as GSimple}
use Rattle.gier_grammar.specs.declared.grammar_symbol.GrammarSymbol.TheVariants.{Then as GThen, Else as GElse, MayNot as GMayNot}
use Rattle.gier_grammar.specs.declared.grammar_symbol.GrammarSymbol.TheVariants.{MaySign as GMaySign, Number as GNumber}
use Rattle.gier_grammar.specs.declared.grammar_symbol.GrammarSymbol.TheVariants.{Primary as GPrimary, MayPart as GMayPart}
use Rattle.gier_grammar.specs.declared.grammar_symbol.GrammarSymbol.TheVariants.{SubscriptTail as GSubscriptTail, Actual as GActual}
use Rattle.gier_grammar.specs.declared.grammar_symbol.GrammarSymbol.TheVariants.{StringRest as GStringRest}
use Rattle.gier_grammar.specs.declared.grammar_symbol.GrammarSymbol.TheVariants.{ActualTail as GActualTail}
use Rattle.gier_grammar.specs.declared.grammar_symbol.GrammarSymbol.TheVariants.{RightParenthesis as GRightParenthesis}
use Rattle.gier_grammar.specs.declared.grammar_symbol.GrammarSymbol.TheVariants.{MayPower as GMayPower, MayTimes as GMayTimes}
use Rattle.gier_grammar.specs.declared.grammar_symbol.GrammarSymbol.TheVariants.{MaySum as GMaySum, MayRelation as GMayRelation}
use Rattle.gier_grammar.specs.declared.grammar_symbol.GrammarSymbol.TheVariants.{MayAnd as GMayAnd, MayOr as GMayOr}
use Rattle.gier_grammar.specs.declared.grammar_symbol.GrammarSymbol.TheVariants.{MayImplication as GMayImplication}
use Rattle.gier_grammar.specs.declared.grammar_symbol.GrammarSymbol.TheVariants.{MayEquivalence as GMayEquivalence}
use Rattle.gier_grammar.specs.declared.production.Production.{Production}
use Rattle.gier_grammar.specs.declared.production.Production.TheVariants.{Actual as RActual, And as RAnd, Array as RArray}
use Rattle.gier_grammar.specs.declared.production.Production.TheVariants.{Assignment as RAssignment, Begin as RBegin}
use Rattle.gier_grammar.specs.declared.production.Production.TheVariants.{BlockEnd as RBlockEnd, BlockNext as RBlockNext}
use Rattle.gier_grammar.specs.declared.production.Production.TheVariants.{Bound as RBound, BranchAssignment as RBranchAssignment}
use Rattle.gier_grammar.specs.declared.production.Production.TheVariants.{BranchBegin as RBranchBegin, BranchCall as RBranchCall}
use Rattle.gier_grammar.specs.declared.production.Production.TheVariants.{BranchElement as RBranchElement}
use Rattle.gier_grammar.specs.declared.production.Production.TheVariants.{BranchElse as RBranchElse, BranchGoTo as RBranchGoTo}
use Rattle.gier_grammar.specs.declared.production.Production.TheVariants.{BranchLabel as RBranchLabel, BranchName as RBranchName}
use Rattle.gier_grammar.specs.declared.production.Production.TheVariants.{Call as RCall, Comma as RComma}
use Rattle.gier_grammar.specs.declared.production.Production.TheVariants.{CompoundBegin as RCompoundBegin}
use Rattle.gier_grammar.specs.declared.production.Production.TheVariants.{CompoundEmpty as RCompoundEmpty}
use Rattle.gier_grammar.specs.declared.production.Production.TheVariants.{CompoundEnd as RCompoundEnd, CompoundFor as RCompoundFor}
use Rattle.gier_grammar.specs.declared.production.Production.TheVariants.{CompoundGoTo as RCompoundGoTo, CompoundIf as RCompoundIf}
use Rattle.gier_grammar.specs.declared.production.Production.TheVariants.{CompoundName as RCompoundName}
use Rattle.gier_grammar.specs.declared.production.Production.TheVariants.{CompoundNext as RCompoundNext}
use Rattle.gier_grammar.specs.declared.production.Production.TheVariants.{CompoundNothing as RCompoundNothing}
use Rattle.gier_grammar.specs.declared.production.Production.TheVariants.{Condition as RCondition, Do as RDo, Element as RElement}
use Rattle.gier_grammar.specs.declared.production.Production.TheVariants.{Else as RElse, End as REnd, Equivalence as REquivalence}
use Rattle.gier_grammar.specs.declared.production.Production.TheVariants.{FirstConstant as RFirstConstant}
use Rattle.gier_grammar.specs.declared.production.Production.TheVariants.{FirstEnded as RFirstEnded, FirstGroup as RFirstGroup}
use Rattle.gier_grammar.specs.declared.production.Production.TheVariants.{FirstMinus as RFirstMinus, FirstName as RFirstName}
use Rattle.gier_grammar.specs.declared.production.Production.TheVariants.{FirstNot as RFirstNot, FirstOwn as RFirstOwn}
use Rattle.gier_grammar.specs.declared.production.Production.TheVariants.{FirstPair as RFirstPair, FirstPlus as RFirstPlus}
use Rattle.gier_grammar.specs.declared.production.Production.TheVariants.{FirstProcedure as RFirstProcedure}
use Rattle.gier_grammar.specs.declared.production.Production.TheVariants.{FirstSwitch as RFirstSwitch, FirstType as RFirstType}
use Rattle.gier_grammar.specs.declared.production.Production.TheVariants.{FixedSegment as RFixedSegment, FixedUpper as RFixedUpper}
use Rattle.gier_grammar.specs.declared.production.Production.TheVariants.{For as RFor, ForElement as RForElement, Formal as RFormal}
use Rattle.gier_grammar.specs.declared.production.Production.TheVariants.{Formals as RFormals, GoTo as RGoTo, Group as RGroup}
use Rattle.gier_grammar.specs.declared.production.Production.TheVariants.{Headed as RHeaded, If as RIf, Implication as RImplication}
use Rattle.gier_grammar.specs.declared.production.Production.TheVariants.{Label as RLabel, LeadingMinus as RLeadingMinus}
use Rattle.gier_grammar.specs.declared.production.Production.TheVariants.{LeadingPlus as RLeadingPlus, Name as RName}
use Rattle.gier_grammar.specs.declared.production.Production.TheVariants.{StatementName as RStatementName, NextEnded as RNextEnded}
use Rattle.gier_grammar.specs.declared.production.Production.TheVariants.{NextOwn as RNextOwn, NextPair as RNextPair}
use Rattle.gier_grammar.specs.declared.production.Production.TheVariants.{NextProcedure as RNextProcedure}
use Rattle.gier_grammar.specs.declared.production.Production.TheVariants.{NextSwitch as RNextSwitch, NextType as RNextType}
use Rattle.gier_grammar.specs.declared.production.Production.TheVariants.{Or as ROr, OwnArray as ROwnArray, OwnComma as ROwnComma}
use Rattle.gier_grammar.specs.declared.production.Production.TheVariants.{OwnName as ROwnName, OwnNames as ROwnNames}
use Rattle.gier_grammar.specs.declared.production.Production.TheVariants.{OwnType as ROwnType, Plain as RPlain, Power as RPower}
use Rattle.gier_grammar.specs.declared.production.Production.TheVariants.{PrimaryName as RPrimaryName}
use Rattle.gier_grammar.specs.declared.production.Production.TheVariants.{ProgramColon as RProgramColon}
use Rattle.gier_grammar.specs.declared.production.Production.TheVariants.{ProgramLabel as RProgramLabel, Relation as RRelation}
use Rattle.gier_grammar.specs.declared.production.Production.TheVariants.{Right as RRight, RightArithmetic as RRightArithmetic}
use Rattle.gier_grammar.specs.declared.production.Production.TheVariants.{RightCall as RRightCall, RightElement as RRightElement}
use Rattle.gier_grammar.specs.declared.production.Production.TheVariants.{RightLogic as RRightLogic, RightName as RRightName}
use Rattle.gier_grammar.specs.declared.production.Production.TheVariants.{RightRelation as RRightRelation, Segment as RSegment}
use Rattle.gier_grammar.specs.declared.production.Production.TheVariants.{Specification as RSpecification}
use Rattle.gier_grammar.specs.declared.production.Production.TheVariants.{SpecifiedComma as RSpecifiedComma}
use Rattle.gier_grammar.specs.declared.production.Production.TheVariants.{SpecifiedName as RSpecifiedName, Step as RStep}
use Rattle.gier_grammar.specs.declared.production.Production.TheVariants.{StringMore as RStringMore, Subscript as RSubscript}
use Rattle.gier_grammar.specs.declared.production.Production.TheVariants.{Sum as RSum, SwitchElement as RSwitchElement}
use Rattle.gier_grammar.specs.declared.production.Production.TheVariants.{Times as RTimes, TypeNames as RTypeNames}
use Rattle.gier_grammar.specs.declared.production.Production.TheVariants.{TypeSpecification as RTypeSpecification}
use Rattle.gier_grammar.specs.declared.production.Production.TheVariants.{TypedProcedure as RTypedProcedure}
use Rattle.gier_grammar.specs.declared.production.Production.TheVariants.{UpperBound as RUpperBound, ValueComma as RValueComma}
use Rattle.gier_grammar.specs.declared.production.Production.TheVariants.{ValueName as RValueName, Values as RValues}
use Rattle.gier_grammar.specs.declared.production.Production.TheVariants.{While as RWhile}
use Rattle.gier_grammar.specs.declared.parse_table.ParseAction.{ParseAction}
use Rattle.gier_grammar.specs.declared.parse_table.ParseAction.TheVariants.{Error, Epsilon, Expand}

-- one kind of symbol is taken, and all others are errors
abbrev pub only : Tag → Tag → Production → ParseAction
only kind wanted production = if number_of kind == number_of wanted then Expand production else Error

-- one kind of symbol is taken, and before all others this is nothing
abbrev pub may : Tag → Tag → Production → ParseAction
may kind wanted production = if number_of kind == number_of wanted then Expand production else Epsilon

abbrev pub program : Tag → ParseAction
program TIdentifier = Expand RProgramLabel
program TBegin = Expand RBegin
program _ = Error

abbrev pub after_begin : Tag → ParseAction
after_begin TOwn = Expand RFirstOwn
after_begin TInteger = Expand RFirstType
after_begin TBoolean = Expand RFirstType
after_begin TSwitch = Expand RFirstSwitch
after_begin TProcedure = Expand RFirstProcedure
after_begin TIdentifier = Expand RCompoundName
after_begin TBegin = Expand RCompoundBegin
after_begin TIf = Expand RCompoundIf
after_begin TFor = Expand RCompoundFor
after_begin TGoto = Expand RCompoundGoTo
after_begin TSemicolon = Expand RCompoundNothing
after_begin TEnd = Expand RCompoundEmpty
after_begin _ = Error

abbrev pub block_tail : Tag → ParseAction
block_tail TSemicolon = Expand RBlockNext
block_tail TEnd = Expand RBlockEnd
block_tail _ = Error

abbrev pub compound_tail : Tag → ParseAction
compound_tail TSemicolon = Expand RCompoundNext
compound_tail TEnd = Expand RCompoundEnd
compound_tail _ = Error

abbrev pub more_declarations : Tag → ParseAction
more_declarations TOwn = Expand RNextOwn
more_declarations TInteger = Expand RNextType
more_declarations TBoolean = Expand RNextType
more_declarations TSwitch = Expand RNextSwitch
more_declarations TProcedure = Expand RNextProcedure
more_declarations _ = Epsilon

abbrev pub more_pairs : Tag → ℕ → ParseAction
more_pairs TComma left = if nat_lt 0 left then Expand RNextPair else Error
more_pairs TRightBracket left = Expand RPlain
more_pairs _ left = Error

abbrev pub a_type : Tag → Production → ParseAction
a_type TInteger production = Expand production
a_type TBoolean production = Expand production
a_type _ production = Error

abbrev pub after_own_type : Tag → ParseAction
after_own_type TIdentifier = Expand ROwnNames
after_own_type TArray = Expand ROwnArray
after_own_type _ = Error

abbrev pub after_type : Tag → ParseAction
after_type TIdentifier = Expand RTypeNames
after_type TArray = Expand RArray
after_type TProcedure = Expand RTypedProcedure
after_type _ = Error

abbrev pub bound_tail : Tag → ParseAction
bound_tail TComma = Expand RBound
bound_tail TRightBracket = Expand RPlain
bound_tail _ = Error

abbrev pub formal_tail : Tag → ParseAction
formal_tail TComma = Expand RFormals
formal_tail TRightParenthesis = Expand RPlain
formal_tail _ = Error

abbrev pub more_specifications : Tag → ParseAction
more_specifications TInteger = Expand RTypeSpecification
more_specifications TBoolean = Expand RTypeSpecification
more_specifications TLabel = Expand RSpecification
more_specifications TSwitch = Expand RSpecification
more_specifications TString = Expand RSpecification
more_specifications TProcedure = Expand RSpecification
more_specifications _ = Epsilon

abbrev pub may_specifier : Tag → ParseAction
may_specifier TArray = Expand RPlain
may_specifier TProcedure = Expand RPlain
may_specifier _ = Epsilon

abbrev pub a_statement : Tag → ParseAction
a_statement TIdentifier = Expand RStatementName
a_statement TBegin = Expand RBegin
a_statement TIf = Expand RIf
a_statement TFor = Expand RFor
a_statement TGoto = Expand RGoTo
a_statement _ = Epsilon

abbrev pub after_name : Tag → ParseAction
after_name TColon = Expand RLabel
after_name TBecomes = Expand RAssignment
after_name TLeftParenthesis = Expand RCall
after_name TLeftBracket = Expand RElement
after_name _ = Epsilon

abbrev pub branch : Tag → ParseAction
branch TIdentifier = Expand RBranchName
branch TBegin = Expand RBranchBegin
branch TFor = Expand RFor
branch TGoto = Expand RBranchGoTo
branch TElse = Expand RBranchElse
branch TIf = Error
branch _ = Epsilon

abbrev pub after_branch_name : Tag → ParseAction
after_branch_name TColon = Expand RBranchLabel
after_branch_name TBecomes = Expand RBranchAssignment
after_branch_name TLeftParenthesis = Expand RBranchCall
after_branch_name TLeftBracket = Expand RBranchElement
after_branch_name TElse = Expand RBranchElse
after_branch_name _ = Epsilon

abbrev pub may_step : Tag → ParseAction
may_step TStep = Expand RStep
may_step TWhile = Expand RWhile
may_step _ = Epsilon

abbrev pub for_tail : Tag → ParseAction
for_tail TComma = Expand RForElement
for_tail TDo = Expand RDo
for_tail _ = Error

abbrev pub simple : Tag → ParseAction
simple TNot = Expand RFirstNot
simple TPlus = Expand RFirstPlus
simple TMinus = Expand RFirstMinus
simple TNumber = Expand RFirstConstant
simple TTrue = Expand RFirstConstant
simple TFalse = Expand RFirstConstant
simple TIdentifier = Expand RFirstName
simple TLeftParenthesis = Expand RFirstGroup
simple _ = Error

abbrev pub an_expression : Tag → ParseAction
an_expression TIf = Expand RCondition
an_expression kind = simple kind

abbrev pub right : Tag → ParseAction
right TIdentifier = Expand RRightName
right kind = an_expression kind

abbrev pub relation : Tag → Production → ParseAction
relation TLess production = Expand production
relation TNotGreater production = Expand production
relation TEqual production = Expand production
relation TNotLess production = Expand production
relation TGreater production = Expand production
relation TNotEqual production = Expand production
relation _ production = Epsilon

abbrev pub after_right_element : Tag → ParseAction
after_right_element TBecomes = Expand RRight
after_right_element TPlus = Expand RRightArithmetic
after_right_element TMinus = Expand RRightArithmetic
after_right_element TTimes = Expand RRightArithmetic
after_right_element TDiv = Expand RRightArithmetic
after_right_element TPower = Expand RRightArithmetic
after_right_element TAnd = Expand RRightLogic
after_right_element TOr = Expand RRightLogic
after_right_element TImpl = Expand RRightLogic
after_right_element TEquiv = Expand RRightLogic
after_right_element kind = relation kind RRightRelation

abbrev pub after_right_name : Tag → ParseAction
after_right_name TLeftBracket = Expand RRightElement
after_right_name TLeftParenthesis = Expand RRightCall
after_right_name kind = after_right_element kind

abbrev pub may_sign : Tag → ParseAction
may_sign TPlus = Expand RLeadingPlus
may_sign TMinus = Expand RLeadingMinus
may_sign _ = Epsilon

abbrev pub primary : Tag → ParseAction
primary TNumber = Expand RPlain
primary TTrue = Expand RPlain
primary TFalse = Expand RPlain
primary TIdentifier = Expand RPrimaryName
primary TLeftParenthesis = Expand RGroup
primary _ = Error

abbrev pub may_part : Tag → ParseAction
may_part TLeftBracket = Expand RSubscript
may_part TLeftParenthesis = Expand RActual
may_part _ = Epsilon

abbrev pub subscript_tail : Tag → ParseAction
subscript_tail TComma = Expand RSubscript
subscript_tail TRightBracket = Expand RPlain
subscript_tail _ = Error

abbrev pub actual : Tag → ParseAction
actual TStringBegin = Expand RStringMore
actual kind = an_expression kind

abbrev pub string_rest : Tag → ParseAction
string_rest TStringByte = Expand RStringMore
string_rest TStringEnd = Expand RPlain
string_rest _ = Error

abbrev pub actual_tail : Tag → ParseAction
actual_tail TComma = Expand RActual
actual_tail TRightParenthesis = Expand RPlain
actual_tail _ = Error

abbrev pub may_times : Tag → ParseAction
may_times TTimes = Expand RTimes
may_times TDiv = Expand RTimes
may_times _ = Epsilon

abbrev pub may_sum : Tag → ParseAction
may_sum TPlus = Expand RSum
may_sum TMinus = Expand RSum
may_sum _ = Epsilon

-- one row for each grammar symbol; all others are marks, which want no symbol
abbrev pub parse_action : GrammarSymbol → Tag → ℕ → ParseAction
parse_action GProgram kind left = program kind
parse_action GProgramColon kind left = only kind TColon RProgramColon
parse_action GTextEnd kind left = only kind TTextEnd REnd
parse_action GAfterBegin kind left = after_begin kind
parse_action GBlockTail kind left = block_tail kind
parse_action GCompoundTail kind left = compound_tail kind
parse_action GFirstDeclared kind left = only kind TSemicolon RFirstEnded
parse_action GDeclared kind left = only kind TSemicolon RNextEnded
parse_action GMoreDeclarations kind left = more_declarations kind
parse_action GMorePairs kind left = more_pairs kind left
parse_action GOwnType kind left = a_type kind ROwnType
parse_action GAfterOwnType kind left = after_own_type kind
parse_action GOwnName kind left = only kind TIdentifier ROwnName
parse_action GMoreOwnNames kind left = may kind TComma ROwnComma
parse_action GFixedBounds kind left = only kind TLeftBracket RFirstPair
parse_action GFixedColon kind left = only kind TColon RFixedUpper
parse_action GMoreFixedSegments kind left = may kind TComma RFixedSegment
parse_action GAfterType kind left = after_type kind
parse_action GName kind left = only kind TIdentifier RName
parse_action GMoreNames kind left = may kind TComma RComma
parse_action GBounds kind left = only kind TLeftBracket RBound
parse_action GBoundColon kind left = only kind TColon RUpperBound
parse_action GBoundTail kind left = bound_tail kind
parse_action GMoreSegments kind left = may kind TComma RSegment
parse_action GSwitchBecomes kind left = only kind TBecomes RSwitchElement
parse_action GMoreSwitchElements kind left = may kind TComma RSwitchElement
parse_action GMayFormals kind left = may kind TLeftParenthesis RFormals
parse_action GFormal kind left = only kind TIdentifier RFormal
parse_action GFormalTail kind left = formal_tail kind
parse_action GHeading kind left = only kind TSemicolon RHeaded
parse_action GMayValues kind left = may kind TValue RValues
parse_action GValueName kind left = only kind TIdentifier RValueName
parse_action GMoreValueNames kind left = may kind TComma RValueComma
parse_action GSemicolon kind left = only kind TSemicolon RPlain
parse_action GMoreSpecifications kind left = more_specifications kind
parse_action GMaySpecifier kind left = may_specifier kind
parse_action GSpecifiedName kind left = only kind TIdentifier RSpecifiedName
parse_action GMoreSpecifiedNames kind left = may kind TComma RSpecifiedComma
parse_action GStatement kind left = a_statement kind
parse_action GAfterName kind left = after_name kind
parse_action GBranch kind left = branch kind
parse_action GAfterBranchName kind left = after_branch_name kind
parse_action GMayElse kind left = may kind TElse RElse
parse_action GForVariable kind left = only kind TIdentifier RPlain
parse_action GForBecomes kind left = only kind TBecomes RForElement
parse_action GMayStep kind left = may_step kind
parse_action GForTail kind left = for_tail kind
parse_action GUntil kind left = only kind TUntil RPlain
parse_action GBecomes kind left = only kind TBecomes RRight
parse_action GRight kind left = right kind
parse_action GAfterRightName kind left = after_right_name kind
parse_action GAfterRightElement kind left = after_right_element kind
parse_action GExpression kind left = an_expression kind
parse_action GSimple kind left = simple kind
parse_action GThen kind left = only kind TThen RPlain
parse_action GElse kind left = only kind TElse RPlain
parse_action GMayNot kind left = may kind TNot RPlain
parse_action GMaySign kind left = may_sign kind
parse_action GNumber kind left = only kind TNumber RPlain
parse_action GPrimary kind left = primary kind
parse_action GMayPart kind left = may_part kind
parse_action GSubscriptTail kind left = subscript_tail kind
parse_action GActual kind left = actual kind
parse_action GStringRest kind left = string_rest kind
parse_action GActualTail kind left = actual_tail kind
parse_action GRightParenthesis kind left = only kind TRightParenthesis RPlain
parse_action GMayPower kind left = may kind TPower RPower
parse_action GMayTimes kind left = may_times kind
parse_action GMaySum kind left = may_sum kind
parse_action GMayRelation kind left = relation kind RRelation
parse_action GMayAnd kind left = may kind TAnd RAnd
parse_action GMayOr kind left = may kind TOr ROr
parse_action GMayImplication kind left = may kind TImpl RImplication
parse_action GMayEquivalence kind left = may kind TEquiv REquivalence
parse_action _ kind left = Epsilon
