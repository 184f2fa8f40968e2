-- The productions: what is done with the symbol that a grammar symbol takes, and what is wanted then, the next one first.
use Rattle.std.specs.Prelude.{◌-◌, ℕ, List, [], ◌∷◌}
use Rattle.gier_symbol.specs.declared.tag.Tag.{Tag}
use Rattle.gier_grammar.specs.declared.production.Role.{Role}
use Rattle.gier_grammar.specs.declared.production.Role.TheVariants.{Declaring as LDeclaring, Formal as LFormal}
use Rattle.gier_grammar.specs.declared.production.Role.TheVariants.{ValueListed as LValueListed, Specified as LSpecified}
use Rattle.gier_grammar.specs.declared.production.Role.TheVariants.{LabelColon as LLabelColon, LeadingPlus as LLeadingPlus}
use Rattle.gier_grammar.specs.declared.production.Role.TheVariants.{LeadingMinus as LLeadingMinus}
use Rattle.gier_symbol.specs.declared.tag.Tag.TheVariants.{Declaring as TDeclaring, Formal as TFormal, LabelColon as TLabelColon}
use Rattle.gier_symbol.specs.declared.tag.Tag.TheVariants.{LeadingMinus as TLeadingMinus, LeadingPlus as TLeadingPlus}
use Rattle.gier_symbol.specs.declared.tag.Tag.TheVariants.{Specified as TSpecified, ValueListed as TValueListed}
use Rattle.gier_tree.specs.declared.construct.Construct.TheVariants.{Block as CBlock, Compound as CCompound}
use Rattle.gier_tree.specs.declared.construct.Construct.TheVariants.{ConditionalExpression as CConditionalExpression}
use Rattle.gier_tree.specs.declared.construct.Construct.TheVariants.{ConditionalStatement as CConditionalStatement}
use Rattle.gier_tree.specs.declared.construct.Construct.TheVariants.{ForStatement as CForStatement, GoTo as CGoTo}
use Rattle.gier_tree.specs.declared.construct.Construct.TheVariants.{ProcedureDeclaration as CProcedureDeclaration}
use Rattle.gier_tree.specs.declared.construct.Construct.TheVariants.{SwitchDeclaration as CSwitchDeclaration}
use Rattle.gier_tree.specs.declared.construct.Construct.TheVariants.{TypeDeclaration as CTypeDeclaration}
use Rattle.gier_grammar.specs.declared.grammar_symbol.GrammarSymbol.{GrammarSymbol}
use Rattle.gier_grammar.specs.declared.grammar_symbol.GrammarSymbol.TheVariants.{OpenArraySegment, OpenProcedureBody}
use Rattle.gier_grammar.specs.declared.grammar_symbol.GrammarSymbol.TheVariants.{OpenControlledStatement, OpenActual, OpenSubscript}
use Rattle.gier_grammar.specs.declared.grammar_symbol.GrammarSymbol.TheVariants.{OpenBound, OpenSwitchElement, OpenForElement}
use Rattle.gier_grammar.specs.declared.grammar_symbol.GrammarSymbol.TheVariants.{ShutBlock, ShutCompound, ShutTypeDeclaration}
use Rattle.gier_grammar.specs.declared.grammar_symbol.GrammarSymbol.TheVariants.{ShutArraySegment, ShutSwitchDeclaration}
use Rattle.gier_grammar.specs.declared.grammar_symbol.GrammarSymbol.TheVariants.{ShutProcedureDeclaration, ShutProcedureBody}
use Rattle.gier_grammar.specs.declared.grammar_symbol.GrammarSymbol.TheVariants.{ShutForStatement, ShutControlledStatement}
use Rattle.gier_grammar.specs.declared.grammar_symbol.GrammarSymbol.TheVariants.{ShutConditionalStatement, ShutActual}
use Rattle.gier_grammar.specs.declared.grammar_symbol.GrammarSymbol.TheVariants.{ShutSubscript, ShutBound, ShutSwitchElement}
use Rattle.gier_grammar.specs.declared.grammar_symbol.GrammarSymbol.TheVariants.{ShutForElement, ShutGoTo}
use Rattle.gier_grammar.specs.declared.grammar_symbol.GrammarSymbol.TheVariants.{ShutConditionalExpression}
use Rattle.gier_grammar.specs.declared.grammar_symbol.GrammarSymbol.TheVariants.{AfterOwnType as GAfterOwnType, Program as GProgram}
use Rattle.gier_grammar.specs.declared.grammar_symbol.GrammarSymbol.TheVariants.{ProgramColon as GProgramColon}
use Rattle.gier_grammar.specs.declared.grammar_symbol.GrammarSymbol.TheVariants.{AfterBegin as GAfterBegin, BlockTail as GBlockTail}
use Rattle.gier_grammar.specs.declared.grammar_symbol.GrammarSymbol.TheVariants.{CompoundTail as GCompoundTail}
use Rattle.gier_grammar.specs.declared.grammar_symbol.GrammarSymbol.TheVariants.{FirstDeclared as GFirstDeclared}
use Rattle.gier_grammar.specs.declared.grammar_symbol.GrammarSymbol.TheVariants.{Declared as GDeclared}
use Rattle.gier_grammar.specs.declared.grammar_symbol.GrammarSymbol.TheVariants.{MoreDeclarations as GMoreDeclarations}
use Rattle.gier_grammar.specs.declared.grammar_symbol.GrammarSymbol.TheVariants.{OwnType as GOwnType, OwnName as GOwnName}
use Rattle.gier_grammar.specs.declared.grammar_symbol.GrammarSymbol.TheVariants.{MoreOwnNames as GMoreOwnNames}
use Rattle.gier_grammar.specs.declared.grammar_symbol.GrammarSymbol.TheVariants.{FixedBounds as GFixedBounds}
use Rattle.gier_grammar.specs.declared.grammar_symbol.GrammarSymbol.TheVariants.{FixedColon as GFixedColon, MorePairs as GMorePairs}
use Rattle.gier_grammar.specs.declared.grammar_symbol.GrammarSymbol.TheVariants.{MoreFixedSegments as GMoreFixedSegments}
use Rattle.gier_grammar.specs.declared.grammar_symbol.GrammarSymbol.TheVariants.{AfterType as GAfterType, Name as GName}
use Rattle.gier_grammar.specs.declared.grammar_symbol.GrammarSymbol.TheVariants.{MoreNames as GMoreNames, Bounds as GBounds}
use Rattle.gier_grammar.specs.declared.grammar_symbol.GrammarSymbol.TheVariants.{BoundColon as GBoundColon, BoundTail as GBoundTail}
use Rattle.gier_grammar.specs.declared.grammar_symbol.GrammarSymbol.TheVariants.{MoreSegments as GMoreSegments}
use Rattle.gier_grammar.specs.declared.grammar_symbol.GrammarSymbol.TheVariants.{SwitchBecomes as GSwitchBecomes}
use Rattle.gier_grammar.specs.declared.grammar_symbol.GrammarSymbol.TheVariants.{MoreSwitchElements as GMoreSwitchElements}
use Rattle.gier_grammar.specs.declared.grammar_symbol.GrammarSymbol.TheVariants.{MayFormals as GMayFormals, Formal as GFormal}
use Rattle.gier_grammar.specs.declared.grammar_symbol.GrammarSymbol.TheVariants.{FormalTail as GFormalTail, Heading as GHeading}
use Rattle.gier_grammar.specs.declared.grammar_symbol.GrammarSymbol.TheVariants.{MayValues as GMayValues, ValueName as GValueName}
use Rattle.gier_grammar.specs.declared.grammar_symbol.GrammarSymbol.TheVariants.{MoreValueNames as GMoreValueNames}
use Rattle.gier_grammar.specs.declared.grammar_symbol.GrammarSymbol.TheVariants.{Semicolon as GSemicolon}
use Rattle.gier_grammar.specs.declared.grammar_symbol.GrammarSymbol.TheVariants.{MoreSpecifications as GMoreSpecifications}
use Rattle.gier_grammar.specs.declared.grammar_symbol.GrammarSymbol.TheVariants.{MaySpecifier as GMaySpecifier}
use Rattle.gier_grammar.specs.declared.grammar_symbol.GrammarSymbol.TheVariants.{SpecifiedName as GSpecifiedName}
use Rattle.gier_grammar.specs.declared.grammar_symbol.GrammarSymbol.TheVariants.{MoreSpecifiedNames as GMoreSpecifiedNames}
use Rattle.gier_grammar.specs.declared.grammar_symbol.GrammarSymbol.TheVariants.{Statement as GStatement, AfterName as GAfterName}
use Rattle.gier_grammar.specs.declared.grammar_symbol.GrammarSymbol.TheVariants.{Branch as GBranch}
use Rattle.gier_grammar.specs.declared.grammar_symbol.GrammarSymbol.TheVariants.{AfterBranchName as GAfterBranchName}
use Rattle.gier_grammar.specs.declared.grammar_symbol.GrammarSymbol.TheVariants.{MayElse as GMayElse, ForVariable as GForVariable}
use Rattle.gier_grammar.specs.declared.grammar_symbol.GrammarSymbol.TheVariants.{ForBecomes as GForBecomes, MayStep as GMayStep}
use Rattle.gier_grammar.specs.declared.grammar_symbol.GrammarSymbol.TheVariants.{ForTail as GForTail, Until as GUntil}
use Rattle.gier_grammar.specs.declared.grammar_symbol.GrammarSymbol.TheVariants.{Becomes as GBecomes, Right as GRight}
use Rattle.gier_grammar.specs.declared.grammar_symbol.GrammarSymbol.TheVariants.{AfterRightName as GAfterRightName}
use Rattle.gier_grammar.specs.declared.grammar_symbol.GrammarSymbol.TheVariants.{AfterRightElement as GAfterRightElement}
use Rattle.gier_grammar.specs.declared.grammar_symbol.GrammarSymbol.TheVariants.{Expression as GExpression, Simple as GSimple}
use Rattle.gier_grammar.specs.declared.grammar_symbol.GrammarSymbol.TheVariants.{Then as GThen, Else as GElse, MayNot as GMayNot}
use Rattle.gier_grammar.specs.declared.grammar_symbol.GrammarSymbol.TheVariants.{MaySign as GMaySign, Number as GNumber}
use Rattle.gier_grammar.specs.declared.grammar_symbol.GrammarSymbol.TheVariants.{Primary as GPrimary, MayPower as GMayPower}
use Rattle.gier_grammar.specs.declared.grammar_symbol.GrammarSymbol.TheVariants.{MayTimes as GMayTimes, MaySum as GMaySum}
use Rattle.gier_grammar.specs.declared.grammar_symbol.GrammarSymbol.TheVariants.{MayRelation as GMayRelation, MayAnd as GMayAnd}
use Rattle.gier_grammar.specs.declared.grammar_symbol.GrammarSymbol.TheVariants.{MayOr as GMayOr, MayImplication as GMayImplication}
use Rattle.gier_grammar.specs.declared.grammar_symbol.GrammarSymbol.TheVariants.{MayEquivalence as GMayEquivalence}
use Rattle.gier_grammar.specs.declared.grammar_symbol.GrammarSymbol.TheVariants.{MayPart as GMayPart}
use Rattle.gier_grammar.specs.declared.grammar_symbol.GrammarSymbol.TheVariants.{SubscriptTail as GSubscriptTail, Actual as GActual}
use Rattle.gier_grammar.specs.declared.grammar_symbol.GrammarSymbol.TheVariants.{StringRest as GStringRest}
use Rattle.gier_grammar.specs.declared.grammar_symbol.GrammarSymbol.TheVariants.{ActualTail as GActualTail}
use Rattle.gier_grammar.specs.declared.grammar_symbol.GrammarSymbol.TheVariants.{RightParenthesis as GRightParenthesis}
use Rattle.gier_grammar.specs.declared.production.Action.{Action}
use Rattle.gier_grammar.specs.declared.production.Action.TheVariants.{Open, WriteLookahead, Write, WriteAs, WriteOwn, WriteEnd}
use Rattle.gier_grammar.specs.declared.production.Action.TheVariants.{Lookahead, LookaheadName, LookaheadLabel}
use Rattle.gier_grammar.specs.declared.production.Production.{Production}
use Rattle.gier_grammar.specs.declared.production.Production.TheVariants.{Plain as RPlain, ProgramLabel as RProgramLabel}
use Rattle.gier_grammar.specs.declared.production.Production.TheVariants.{ProgramColon as RProgramColon, End as REnd}
use Rattle.gier_grammar.specs.declared.production.Production.TheVariants.{Begin as RBegin, FirstOwn as RFirstOwn}
use Rattle.gier_grammar.specs.declared.production.Production.TheVariants.{FirstType as RFirstType, FirstSwitch as RFirstSwitch}
use Rattle.gier_grammar.specs.declared.production.Production.TheVariants.{FirstProcedure as RFirstProcedure}
use Rattle.gier_grammar.specs.declared.production.Production.TheVariants.{FirstEnded as RFirstEnded, NextOwn as RNextOwn}
use Rattle.gier_grammar.specs.declared.production.Production.TheVariants.{NextType as RNextType, NextSwitch as RNextSwitch}
use Rattle.gier_grammar.specs.declared.production.Production.TheVariants.{NextProcedure as RNextProcedure, NextEnded as RNextEnded}
use Rattle.gier_grammar.specs.declared.production.Production.TheVariants.{BlockNext as RBlockNext, BlockEnd as RBlockEnd}
use Rattle.gier_grammar.specs.declared.production.Production.TheVariants.{CompoundName as RCompoundName}
use Rattle.gier_grammar.specs.declared.production.Production.TheVariants.{CompoundBegin as RCompoundBegin}
use Rattle.gier_grammar.specs.declared.production.Production.TheVariants.{CompoundIf as RCompoundIf, CompoundFor as RCompoundFor}
use Rattle.gier_grammar.specs.declared.production.Production.TheVariants.{CompoundGoTo as RCompoundGoTo}
use Rattle.gier_grammar.specs.declared.production.Production.TheVariants.{CompoundNothing as RCompoundNothing}
use Rattle.gier_grammar.specs.declared.production.Production.TheVariants.{CompoundEmpty as RCompoundEmpty}
use Rattle.gier_grammar.specs.declared.production.Production.TheVariants.{CompoundNext as RCompoundNext}
use Rattle.gier_grammar.specs.declared.production.Production.TheVariants.{CompoundEnd as RCompoundEnd, OwnType as ROwnType}
use Rattle.gier_grammar.specs.declared.production.Production.TheVariants.{OwnNames as ROwnNames, OwnName as ROwnName}
use Rattle.gier_grammar.specs.declared.production.Production.TheVariants.{OwnComma as ROwnComma, OwnArray as ROwnArray}
use Rattle.gier_grammar.specs.declared.production.Production.TheVariants.{FixedSegment as RFixedSegment, FirstPair as RFirstPair}
use Rattle.gier_grammar.specs.declared.production.Production.TheVariants.{NextPair as RNextPair, FixedUpper as RFixedUpper}
use Rattle.gier_grammar.specs.declared.production.Production.TheVariants.{TypeNames as RTypeNames, Name as RName, Comma as RComma}
use Rattle.gier_grammar.specs.declared.production.Production.TheVariants.{Array as RArray, Segment as RSegment, Bound as RBound}
use Rattle.gier_grammar.specs.declared.production.Production.TheVariants.{UpperBound as RUpperBound}
use Rattle.gier_grammar.specs.declared.production.Production.TheVariants.{SwitchElement as RSwitchElement}
use Rattle.gier_grammar.specs.declared.production.Production.TheVariants.{TypedProcedure as RTypedProcedure, Formals as RFormals}
use Rattle.gier_grammar.specs.declared.production.Production.TheVariants.{Formal as RFormal, Headed as RHeaded, Values as RValues}
use Rattle.gier_grammar.specs.declared.production.Production.TheVariants.{ValueComma as RValueComma, ValueName as RValueName}
use Rattle.gier_grammar.specs.declared.production.Production.TheVariants.{TypeSpecification as RTypeSpecification}
use Rattle.gier_grammar.specs.declared.production.Production.TheVariants.{Specification as RSpecification}
use Rattle.gier_grammar.specs.declared.production.Production.TheVariants.{SpecifiedComma as RSpecifiedComma}
use Rattle.gier_grammar.specs.declared.production.Production.TheVariants.{SpecifiedName as RSpecifiedName}
use Rattle.gier_grammar.specs.declared.production.Production.TheVariants.{StatementName as RStatementName, Label as RLabel}
use Rattle.gier_grammar.specs.declared.production.Production.TheVariants.{If as RIf, For as RFor, GoTo as RGoTo}
use Rattle.gier_grammar.specs.declared.production.Production.TheVariants.{Assignment as RAssignment, Call as RCall}
use Rattle.gier_grammar.specs.declared.production.Production.TheVariants.{Element as RElement, BranchName as RBranchName}
use Rattle.gier_grammar.specs.declared.production.Production.TheVariants.{BranchLabel as RBranchLabel, BranchBegin as RBranchBegin}
use Rattle.gier_grammar.specs.declared.production.Production.TheVariants.{BranchGoTo as RBranchGoTo}
use Rattle.gier_grammar.specs.declared.production.Production.TheVariants.{BranchAssignment as RBranchAssignment}
use Rattle.gier_grammar.specs.declared.production.Production.TheVariants.{BranchCall as RBranchCall}
use Rattle.gier_grammar.specs.declared.production.Production.TheVariants.{BranchElement as RBranchElement}
use Rattle.gier_grammar.specs.declared.production.Production.TheVariants.{BranchElse as RBranchElse, Else as RElse}
use Rattle.gier_grammar.specs.declared.production.Production.TheVariants.{ForElement as RForElement, Do as RDo, Step as RStep}
use Rattle.gier_grammar.specs.declared.production.Production.TheVariants.{While as RWhile, Right as RRight, RightName as RRightName}
use Rattle.gier_grammar.specs.declared.production.Production.TheVariants.{RightElement as RRightElement, RightCall as RRightCall}
use Rattle.gier_grammar.specs.declared.production.Production.TheVariants.{RightArithmetic as RRightArithmetic}
use Rattle.gier_grammar.specs.declared.production.Production.TheVariants.{RightRelation as RRightRelation}
use Rattle.gier_grammar.specs.declared.production.Production.TheVariants.{RightLogic as RRightLogic, Condition as RCondition}
use Rattle.gier_grammar.specs.declared.production.Production.TheVariants.{FirstNot as RFirstNot, FirstPlus as RFirstPlus}
use Rattle.gier_grammar.specs.declared.production.Production.TheVariants.{FirstMinus as RFirstMinus}
use Rattle.gier_grammar.specs.declared.production.Production.TheVariants.{FirstConstant as RFirstConstant, FirstName as RFirstName}
use Rattle.gier_grammar.specs.declared.production.Production.TheVariants.{FirstGroup as RFirstGroup, LeadingPlus as RLeadingPlus}
use Rattle.gier_grammar.specs.declared.production.Production.TheVariants.{LeadingMinus as RLeadingMinus}
use Rattle.gier_grammar.specs.declared.production.Production.TheVariants.{PrimaryName as RPrimaryName, Group as RGroup}
use Rattle.gier_grammar.specs.declared.production.Production.TheVariants.{Power as RPower, Times as RTimes, Sum as RSum}
use Rattle.gier_grammar.specs.declared.production.Production.TheVariants.{Relation as RRelation, And as RAnd, Or as ROr}
use Rattle.gier_grammar.specs.declared.production.Production.TheVariants.{Implication as RImplication, Equivalence as REquivalence}
use Rattle.gier_grammar.specs.declared.production.Production.TheVariants.{Subscript as RSubscript, Actual as RActual}
use Rattle.gier_grammar.specs.declared.production.Production.TheVariants.{StringMore as RStringMore}

-- the tag of a role
abbrev pub tag_of : Role → Tag
tag_of LDeclaring = TDeclaring
tag_of LFormal = TFormal
tag_of LValueListed = TValueListed
tag_of LSpecified = TSpecified
tag_of LLabelColon = TLabelColon
tag_of LLeadingPlus = TLeadingPlus
tag_of LLeadingMinus = TLeadingMinus

abbrev pub actions_of : Production → List Action
actions_of RProgramLabel = WriteAs LDeclaring ∷ []
actions_of RProgramColon = WriteAs LLabelColon ∷ []
actions_of REnd = WriteEnd ∷ []
actions_of RBegin = WriteLookahead ∷ Lookahead ∷ []
actions_of RFirstOwn = Open CBlock ∷ WriteLookahead ∷ Lookahead ∷ []
actions_of RFirstType = Open CBlock ∷ WriteLookahead ∷ Lookahead ∷ []
actions_of RFirstSwitch = Open CBlock ∷ WriteLookahead ∷ Open CSwitchDeclaration ∷ Write ∷ []
actions_of RFirstProcedure = Open CBlock ∷ WriteLookahead ∷ Open CProcedureDeclaration ∷ Write ∷ []
actions_of RNextOwn = Lookahead ∷ []
actions_of RNextType = Lookahead ∷ []
actions_of RNextSwitch = Open CSwitchDeclaration ∷ Write ∷ []
actions_of RNextProcedure = Open CProcedureDeclaration ∷ Write ∷ []
actions_of RCompoundName = Open CCompound ∷ WriteLookahead ∷ LookaheadName ∷ []
actions_of RCompoundBegin = Open CCompound ∷ WriteLookahead ∷ Lookahead ∷ []
actions_of RCompoundIf = Open CCompound ∷ WriteLookahead ∷ Open CConditionalStatement ∷ Write ∷ []
actions_of RCompoundFor = Open CCompound ∷ WriteLookahead ∷ Open CForStatement ∷ Write ∷ []
actions_of RCompoundGoTo = Open CCompound ∷ WriteLookahead ∷ Open CGoTo ∷ Write ∷ []
actions_of RCompoundNothing = Open CCompound ∷ WriteLookahead ∷ Write ∷ []
actions_of RCompoundEmpty = Open CCompound ∷ WriteLookahead ∷ Write ∷ []
actions_of ROwnType = Lookahead ∷ []
actions_of ROwnNames = Open CTypeDeclaration ∷ WriteLookahead ∷ WriteAs LDeclaring ∷ WriteOwn ∷ []
actions_of ROwnName = WriteAs LDeclaring ∷ WriteOwn ∷ []
actions_of ROwnArray = WriteLookahead ∷ Write ∷ []
actions_of RTypeNames = Open CTypeDeclaration ∷ WriteLookahead ∷ WriteAs LDeclaring ∷ []
actions_of RName = WriteAs LDeclaring ∷ []
actions_of RArray = WriteLookahead ∷ Write ∷ []
actions_of RTypedProcedure = Open CProcedureDeclaration ∷ WriteLookahead ∷ Write ∷ []
actions_of RFormal = WriteAs LFormal ∷ []
actions_of RValueName = WriteAs LValueListed ∷ []
actions_of RSpecifiedName = WriteAs LSpecified ∷ []
actions_of RStatementName = LookaheadName ∷ []
actions_of RLabel = LookaheadLabel ∷ []
actions_of RIf = Open CConditionalStatement ∷ WriteLookahead ∷ Write ∷ []
actions_of RFor = Open CForStatement ∷ WriteLookahead ∷ Write ∷ []
actions_of RGoTo = WriteLookahead ∷ Open CGoTo ∷ Write ∷ []
actions_of RAssignment = WriteLookahead ∷ Write ∷ []
actions_of RCall = WriteLookahead ∷ Write ∷ []
actions_of RElement = WriteLookahead ∷ Write ∷ []
actions_of RBranchName = LookaheadName ∷ []
actions_of RBranchLabel = LookaheadLabel ∷ []
actions_of RBranchBegin = WriteLookahead ∷ Lookahead ∷ []
actions_of RBranchGoTo = WriteLookahead ∷ Open CGoTo ∷ Write ∷ []
actions_of RBranchAssignment = WriteLookahead ∷ Write ∷ []
actions_of RBranchCall = WriteLookahead ∷ Write ∷ []
actions_of RBranchElement = WriteLookahead ∷ Write ∷ []
actions_of RBranchElse = WriteLookahead ∷ Write ∷ []
actions_of RCondition = Open CConditionalExpression ∷ Write ∷ []
actions_of RFirstPlus = WriteAs LLeadingPlus ∷ []
actions_of RFirstMinus = WriteAs LLeadingMinus ∷ []
actions_of RLeadingPlus = WriteAs LLeadingPlus ∷ []
actions_of RLeadingMinus = WriteAs LLeadingMinus ∷ []
actions_of _ = Write ∷ []

abbrev pub right_side_of : Production → List GrammarSymbol
right_side_of RPlain = []
right_side_of RProgramLabel = GProgramColon ∷ GProgram ∷ []
right_side_of RProgramColon = []
right_side_of REnd = []
right_side_of RBegin = GAfterBegin ∷ []
right_side_of RFirstOwn = GOwnType ∷ GFirstDeclared ∷ []
right_side_of RFirstType = GAfterType ∷ GFirstDeclared ∷ []
right_side_of RFirstSwitch = GName ∷ GSwitchBecomes ∷ ShutSwitchDeclaration ∷ GFirstDeclared ∷ []
right_side_of RFirstProcedure = GName ∷ GMayFormals ∷ GHeading ∷ ShutProcedureDeclaration ∷ GFirstDeclared ∷ []
right_side_of RFirstEnded = GMoreDeclarations ∷ GStatement ∷ GBlockTail ∷ []
right_side_of RNextOwn = GOwnType ∷ GDeclared ∷ []
right_side_of RNextType = GAfterType ∷ GDeclared ∷ []
right_side_of RNextSwitch = GName ∷ GSwitchBecomes ∷ ShutSwitchDeclaration ∷ GDeclared ∷ []
right_side_of RNextProcedure = GName ∷ GMayFormals ∷ GHeading ∷ ShutProcedureDeclaration ∷ GDeclared ∷ []
right_side_of RNextEnded = GMoreDeclarations ∷ []
right_side_of RBlockNext = GStatement ∷ GBlockTail ∷ []
right_side_of RBlockEnd = ShutBlock ∷ []
right_side_of RCompoundName = GAfterName ∷ GCompoundTail ∷ []
right_side_of RCompoundBegin = GAfterBegin ∷ GCompoundTail ∷ []
right_side_of RCompoundIf = GExpression ∷ GThen ∷ GBranch ∷ ShutConditionalStatement ∷ GCompoundTail ∷ []
right_side_of RCompoundFor = GForVariable ∷ GForBecomes ∷ GCompoundTail ∷ []
right_side_of RCompoundGoTo = GExpression ∷ ShutGoTo ∷ GCompoundTail ∷ []
right_side_of RCompoundNothing = GStatement ∷ GCompoundTail ∷ []
right_side_of RCompoundEmpty = ShutCompound ∷ []
right_side_of RCompoundNext = GStatement ∷ GCompoundTail ∷ []
right_side_of RCompoundEnd = ShutCompound ∷ []
right_side_of ROwnType = GAfterOwnType ∷ []
right_side_of ROwnNames = GMoreOwnNames ∷ ShutTypeDeclaration ∷ []
right_side_of ROwnName = []
right_side_of ROwnComma = GOwnName ∷ GMoreOwnNames ∷ []
right_side_of ROwnArray = OpenArraySegment ∷ GOwnName ∷ GMoreOwnNames ∷ GFixedBounds ∷ ShutArraySegment ∷ GMoreFixedSegments ∷ []
right_side_of RFixedSegment =
    OpenArraySegment ∷ GOwnName ∷ GMoreOwnNames ∷ GFixedBounds ∷ ShutArraySegment ∷ GMoreFixedSegments ∷ []
right_side_of RFirstPair = OpenBound ∷ GMaySign ∷ GNumber ∷ ShutBound ∷ GFixedColon ∷ GMorePairs ∷ []
right_side_of RNextPair = OpenBound ∷ GMaySign ∷ GNumber ∷ ShutBound ∷ GFixedColon ∷ GMorePairs ∷ []
right_side_of RFixedUpper = OpenBound ∷ GMaySign ∷ GNumber ∷ ShutBound ∷ []
right_side_of RTypeNames = GMoreNames ∷ ShutTypeDeclaration ∷ []
right_side_of RName = []
right_side_of RComma = GName ∷ GMoreNames ∷ []
right_side_of RArray = OpenArraySegment ∷ GName ∷ GMoreNames ∷ GBounds ∷ ShutArraySegment ∷ GMoreSegments ∷ []
right_side_of RSegment = OpenArraySegment ∷ GName ∷ GMoreNames ∷ GBounds ∷ ShutArraySegment ∷ GMoreSegments ∷ []
right_side_of RBound = OpenBound ∷ GExpression ∷ ShutBound ∷ GBoundColon ∷ GBoundTail ∷ []
right_side_of RUpperBound = OpenBound ∷ GExpression ∷ ShutBound ∷ []
right_side_of RSwitchElement = OpenSwitchElement ∷ GExpression ∷ ShutSwitchElement ∷ GMoreSwitchElements ∷ []
right_side_of RTypedProcedure = GName ∷ GMayFormals ∷ GHeading ∷ ShutProcedureDeclaration ∷ []
right_side_of RFormals = GFormal ∷ GFormalTail ∷ []
right_side_of RFormal = []
right_side_of RHeaded = GMayValues ∷ GMoreSpecifications ∷ OpenProcedureBody ∷ GStatement ∷ ShutProcedureBody ∷ []
right_side_of RValues = GValueName ∷ GMoreValueNames ∷ GSemicolon ∷ []
right_side_of RValueComma = GValueName ∷ GMoreValueNames ∷ []
right_side_of RValueName = []
right_side_of RTypeSpecification = GMaySpecifier ∷ GSpecifiedName ∷ GMoreSpecifiedNames ∷ GSemicolon ∷ GMoreSpecifications ∷ []
right_side_of RSpecification = GSpecifiedName ∷ GMoreSpecifiedNames ∷ GSemicolon ∷ GMoreSpecifications ∷ []
right_side_of RSpecifiedComma = GSpecifiedName ∷ GMoreSpecifiedNames ∷ []
right_side_of RSpecifiedName = []
right_side_of RStatementName = GAfterName ∷ []
right_side_of RLabel = GStatement ∷ []
right_side_of RIf = GExpression ∷ GThen ∷ GBranch ∷ ShutConditionalStatement ∷ []
right_side_of RFor = GForVariable ∷ GForBecomes ∷ []
right_side_of RGoTo = GExpression ∷ ShutGoTo ∷ []
right_side_of RAssignment = GRight ∷ []
right_side_of RCall = OpenActual ∷ GActual ∷ ShutActual ∷ GActualTail ∷ []
right_side_of RElement = OpenSubscript ∷ GExpression ∷ ShutSubscript ∷ GSubscriptTail ∷ GBecomes ∷ []
right_side_of RBranchName = GAfterBranchName ∷ []
right_side_of RBranchLabel = GBranch ∷ []
right_side_of RBranchBegin = GAfterBegin ∷ GMayElse ∷ []
right_side_of RBranchGoTo = GExpression ∷ ShutGoTo ∷ GMayElse ∷ []
right_side_of RBranchAssignment = GRight ∷ GMayElse ∷ []
right_side_of RBranchCall = OpenActual ∷ GActual ∷ ShutActual ∷ GActualTail ∷ GMayElse ∷ []
right_side_of RBranchElement = OpenSubscript ∷ GExpression ∷ ShutSubscript ∷ GSubscriptTail ∷ GBecomes ∷ GMayElse ∷ []
right_side_of RBranchElse = GStatement ∷ []
right_side_of RElse = GStatement ∷ []
right_side_of RForElement = OpenForElement ∷ GExpression ∷ GMayStep ∷ ShutForElement ∷ GForTail ∷ []
right_side_of RDo = OpenControlledStatement ∷ GStatement ∷ ShutControlledStatement ∷ ShutForStatement ∷ []
right_side_of RStep = GExpression ∷ GUntil ∷ GExpression ∷ []
right_side_of RWhile = GExpression ∷ []
right_side_of RRight = GRight ∷ []
right_side_of RRightName = GAfterRightName ∷ []
right_side_of RRightElement = OpenSubscript ∷ GExpression ∷ ShutSubscript ∷ GSubscriptTail ∷ GAfterRightElement ∷ []
right_side_of RRightCall =
    OpenActual ∷ GActual ∷ ShutActual ∷ GActualTail ∷ GMayPower ∷ GMayTimes ∷ GMaySum ∷ GMayRelation ∷ GMayAnd ∷ GMayOr ∷
    GMayImplication ∷ GMayEquivalence ∷ []
right_side_of RRightArithmetic =
    GPrimary ∷ GMayPower ∷ GMayTimes ∷ GMaySum ∷ GMayRelation ∷ GMayAnd ∷ GMayOr ∷ GMayImplication ∷ GMayEquivalence ∷ []
right_side_of RRightRelation =
    GMaySign ∷ GPrimary ∷ GMayPower ∷ GMayTimes ∷ GMaySum ∷ GMayAnd ∷ GMayOr ∷ GMayImplication ∷ GMayEquivalence ∷ []
right_side_of RRightLogic =
    GMayNot ∷ GMaySign ∷ GPrimary ∷ GMayPower ∷ GMayTimes ∷ GMaySum ∷ GMayRelation ∷ GMayAnd ∷ GMayOr ∷ GMayImplication ∷
    GMayEquivalence ∷ []
right_side_of RCondition = GExpression ∷ GThen ∷ GSimple ∷ GElse ∷ GExpression ∷ ShutConditionalExpression ∷ []
right_side_of RFirstNot =
    GMaySign ∷ GPrimary ∷ GMayPower ∷ GMayTimes ∷ GMaySum ∷ GMayRelation ∷ GMayAnd ∷ GMayOr ∷ GMayImplication ∷ GMayEquivalence ∷ []
right_side_of RFirstPlus =
    GPrimary ∷ GMayPower ∷ GMayTimes ∷ GMaySum ∷ GMayRelation ∷ GMayAnd ∷ GMayOr ∷ GMayImplication ∷ GMayEquivalence ∷ []
right_side_of RFirstMinus =
    GPrimary ∷ GMayPower ∷ GMayTimes ∷ GMaySum ∷ GMayRelation ∷ GMayAnd ∷ GMayOr ∷ GMayImplication ∷ GMayEquivalence ∷ []
right_side_of RFirstConstant =
    GMayPower ∷ GMayTimes ∷ GMaySum ∷ GMayRelation ∷ GMayAnd ∷ GMayOr ∷ GMayImplication ∷ GMayEquivalence ∷ []
right_side_of RFirstName =
    GMayPart ∷ GMayPower ∷ GMayTimes ∷ GMaySum ∷ GMayRelation ∷ GMayAnd ∷ GMayOr ∷ GMayImplication ∷ GMayEquivalence ∷ []
right_side_of RFirstGroup =
    GExpression ∷ GRightParenthesis ∷ GMayPower ∷ GMayTimes ∷ GMaySum ∷ GMayRelation ∷ GMayAnd ∷ GMayOr ∷ GMayImplication ∷
    GMayEquivalence ∷ []
right_side_of RLeadingPlus = []
right_side_of RLeadingMinus = []
right_side_of RPrimaryName = GMayPart ∷ []
right_side_of RGroup = GExpression ∷ GRightParenthesis ∷ []
right_side_of RPower = GPrimary ∷ GMayPower ∷ []
right_side_of RTimes = GPrimary ∷ GMayPower ∷ GMayTimes ∷ []
right_side_of RSum = GPrimary ∷ GMayPower ∷ GMayTimes ∷ GMaySum ∷ []
right_side_of RRelation = GMaySign ∷ GPrimary ∷ GMayPower ∷ GMayTimes ∷ GMaySum ∷ []
right_side_of RAnd = GMayNot ∷ GMaySign ∷ GPrimary ∷ GMayPower ∷ GMayTimes ∷ GMaySum ∷ GMayRelation ∷ GMayAnd ∷ []
right_side_of ROr = GMayNot ∷ GMaySign ∷ GPrimary ∷ GMayPower ∷ GMayTimes ∷ GMaySum ∷ GMayRelation ∷ GMayAnd ∷ GMayOr ∷ []
right_side_of RImplication =
    GMayNot ∷ GMaySign ∷ GPrimary ∷ GMayPower ∷ GMayTimes ∷ GMaySum ∷ GMayRelation ∷ GMayAnd ∷ GMayOr ∷ GMayImplication ∷ []
right_side_of REquivalence =
    GMayNot ∷ GMaySign ∷ GPrimary ∷ GMayPower ∷ GMayTimes ∷ GMaySum ∷ GMayRelation ∷ GMayAnd ∷ GMayOr ∷ GMayImplication ∷
    GMayEquivalence ∷ []
right_side_of RSubscript = OpenSubscript ∷ GExpression ∷ ShutSubscript ∷ GSubscriptTail ∷ []
right_side_of RActual = OpenActual ∷ GActual ∷ ShutActual ∷ GActualTail ∷ []
right_side_of RStringMore = GStringRest ∷ []

-- how many pairs of constants may follow what a production wants, where so many could follow before
abbrev pub left_after : Production → ℕ → ℕ
left_after RFirstPair left = 29
left_after RNextPair left = left - 1
left_after _ left = 0

-- what it costs beyond what a symbol pays for: the first own variable is written with the marks of its declaration
abbrev pub needs : Production → ℕ
needs ROwnNames = 1
needs _ = 0
