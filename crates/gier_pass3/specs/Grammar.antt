-- What the pass wants next, said by the items of the definition of structure.
use Rattle.std.specs.Prelude.{◌≡◌, ◌==◌, ◌+◌, ◌*◌, ◌/◌, ◌%◌, ℕ, List, [], ◌∷◌, ◌++◌, Option, None, Some}
use Rattle.std.specs.List.{find}
use Rattle.gier_tree.specs.Signs.{SBecomes, SColon, SElse, SLeftBracket, SRightParenthesis, SSemicolon, STextEnd, SThen, SUntil}
use Rattle.gier_tree.specs.Trees.{most_further}
use Rattle.gier_tree.specs.Wanted.{Item as GrammarItem, WantProgram, Want, MayDeclarations, WantStatement, WantStatements, WantType}
use Rattle.gier_tree.specs.Wanted.{WantAfterOwnType, WantName, MayNames, WantConstant, WantFurther, MayFixed, WantAfterType}
use Rattle.gier_tree.specs.Wanted.{WantExpr, WantPairs, MaySegments, MayExprs, MayFormals, MayValues, MaySpecifications, MayWord}
use Rattle.gier_tree.specs.Wanted.{WantAfterName, WantBranch, WantAfterBranchName, MayElse, MayStep, WantTurns, WantRight}
use Rattle.gier_tree.specs.Wanted.{WantAfterRight, WantAfterElement, WantSimple, MayNot, MaySign, WantNumber, WantPrimary, MayPart}
use Rattle.gier_tree.specs.Wanted.{WantSubscripts, WantActual, WantBytes, WantActuals, MayPower, MayTimes, MaySum, MayRelation}
use Rattle.gier_tree.specs.Wanted.{MayAnd, MayOr, MayImpl, MayEquiv}
use Rattle.gier_text.specs.TablesModel.{TablesModel}
use Rattle.gier_grammar.specs.declared.grammar_symbol.GrammarSymbol.{GrammarSymbol}
use Rattle.gier_grammar.specs.declared.grammar_symbol.GrammarSymbol.TheVariants.{OpenProgram, OpenArraySegment, OpenProcedureBody}
use Rattle.gier_grammar.specs.declared.grammar_symbol.GrammarSymbol.TheVariants.{OpenControlledStatement, OpenActual, OpenSubscript}
use Rattle.gier_grammar.specs.declared.grammar_symbol.GrammarSymbol.TheVariants.{OpenBound, OpenSwitchElement, OpenForElement}
use Rattle.gier_grammar.specs.declared.grammar_symbol.GrammarSymbol.TheVariants.{ShutProgram, ShutBlock, ShutCompound}
use Rattle.gier_grammar.specs.declared.grammar_symbol.GrammarSymbol.TheVariants.{ShutTypeDeclaration, ShutArraySegment}
use Rattle.gier_grammar.specs.declared.grammar_symbol.GrammarSymbol.TheVariants.{ShutSwitchDeclaration, ShutProcedureDeclaration}
use Rattle.gier_grammar.specs.declared.grammar_symbol.GrammarSymbol.TheVariants.{ShutProcedureBody, ShutForStatement}
use Rattle.gier_grammar.specs.declared.grammar_symbol.GrammarSymbol.TheVariants.{ShutControlledStatement, ShutConditionalStatement}
use Rattle.gier_grammar.specs.declared.grammar_symbol.GrammarSymbol.TheVariants.{ShutActual, ShutSubscript, ShutBound}
use Rattle.gier_grammar.specs.declared.grammar_symbol.GrammarSymbol.TheVariants.{ShutSwitchElement, ShutForElement, ShutGoTo}
use Rattle.gier_grammar.specs.declared.grammar_symbol.GrammarSymbol.TheVariants.{ShutConditionalExpression}
use Rattle.gier_grammar.specs.declared.grammar_symbol.GrammarSymbol.TheVariants.{AfterOwnType as GAfterOwnType, Program as GProgram}
use Rattle.gier_grammar.specs.declared.grammar_symbol.GrammarSymbol.TheVariants.{ProgramColon as GProgramColon, TextEnd as GTextEnd}
use Rattle.gier_grammar.specs.declared.grammar_symbol.GrammarSymbol.TheVariants.{AfterBegin as GAfterBegin, BlockTail as GBlockTail}
use Rattle.gier_grammar.specs.declared.grammar_symbol.GrammarSymbol.TheVariants.{CompoundTail as GCompoundTail}
use Rattle.gier_grammar.specs.declared.grammar_symbol.GrammarSymbol.TheVariants.{FirstDeclared as GFirstDeclared}
use Rattle.gier_grammar.specs.declared.grammar_symbol.GrammarSymbol.TheVariants.{Declared as GDeclared}
use Rattle.gier_grammar.specs.declared.grammar_symbol.GrammarSymbol.TheVariants.{MoreDeclarations as GMoreDeclarations}
use Rattle.gier_grammar.specs.declared.grammar_symbol.GrammarSymbol.TheVariants.{OwnType as GOwnType, OwnName as GOwnName}
use Rattle.gier_grammar.specs.declared.grammar_symbol.GrammarSymbol.TheVariants.{MoreOwnNames as GMoreOwnNames}
use Rattle.gier_grammar.specs.declared.grammar_symbol.GrammarSymbol.TheVariants.{FixedBounds as GFixedBounds}
use Rattle.gier_grammar.specs.declared.grammar_symbol.GrammarSymbol.TheVariants.{FixedColon as GFixedColon, MorePairs as GMorePairs}
use Rattle.gier_grammar.specs.declared.grammar_symbol.GrammarSymbol.TheVariants.{MoreFixedSegments as GMoreFixedSegments}
use Rattle.gier_grammar.specs.declared.grammar_symbol.GrammarSymbol.TheVariants.{AfterType as GAfterType, Name as GName}
use Rattle.gier_grammar.specs.declared.grammar_symbol.GrammarSymbol.TheVariants.{MoreNames as GMoreNames, Bounds as GBounds}
use Rattle.gier_grammar.specs.declared.grammar_symbol.GrammarSymbol.TheVariants.{BoundColon as GBoundColon, BoundTail as GBoundTail}
use Rattle.gier_grammar.specs.declared.grammar_symbol.GrammarSymbol.TheVariants.{MoreSegments as GMoreSegments}
use Rattle.gier_grammar.specs.declared.grammar_symbol.GrammarSymbol.TheVariants.{SwitchBecomes as GSwitchBecomes}
use Rattle.gier_grammar.specs.declared.grammar_symbol.GrammarSymbol.TheVariants.{MoreSwitchElements as GMoreSwitchElements}
use Rattle.gier_grammar.specs.declared.grammar_symbol.GrammarSymbol.TheVariants.{MayFormals as GMayFormals, Formal as GFormal}
use Rattle.gier_grammar.specs.declared.grammar_symbol.GrammarSymbol.TheVariants.{FormalTail as GFormalTail, Heading as GHeading}
use Rattle.gier_grammar.specs.declared.grammar_symbol.GrammarSymbol.TheVariants.{MayValues as GMayValues, ValueName as GValueName}
use Rattle.gier_grammar.specs.declared.grammar_symbol.GrammarSymbol.TheVariants.{MoreValueNames as GMoreValueNames}
use Rattle.gier_grammar.specs.declared.grammar_symbol.GrammarSymbol.TheVariants.{Semicolon as GSemicolon}
use Rattle.gier_grammar.specs.declared.grammar_symbol.GrammarSymbol.TheVariants.{MoreSpecifications as GMoreSpecifications}
use Rattle.gier_grammar.specs.declared.grammar_symbol.GrammarSymbol.TheVariants.{MaySpecifier as GMaySpecifier}
use Rattle.gier_grammar.specs.declared.grammar_symbol.GrammarSymbol.TheVariants.{SpecifiedName as GSpecifiedName}
use Rattle.gier_grammar.specs.declared.grammar_symbol.GrammarSymbol.TheVariants.{MoreSpecifiedNames as GMoreSpecifiedNames}
use Rattle.gier_grammar.specs.declared.grammar_symbol.GrammarSymbol.TheVariants.{Statement as GStatement, AfterName as GAfterName}
use Rattle.gier_grammar.specs.declared.grammar_symbol.GrammarSymbol.TheVariants.{Branch as GBranch}
use Rattle.gier_grammar.specs.declared.grammar_symbol.GrammarSymbol.TheVariants.{AfterBranchName as GAfterBranchName}
use Rattle.gier_grammar.specs.declared.grammar_symbol.GrammarSymbol.TheVariants.{MayElse as GMayElse, ForVariable as GForVariable}
use Rattle.gier_grammar.specs.declared.grammar_symbol.GrammarSymbol.TheVariants.{ForBecomes as GForBecomes, MayStep as GMayStep}
use Rattle.gier_grammar.specs.declared.grammar_symbol.GrammarSymbol.TheVariants.{ForTail as GForTail, Until as GUntil}
use Rattle.gier_grammar.specs.declared.grammar_symbol.GrammarSymbol.TheVariants.{Becomes as GBecomes, Right as GRight}
use Rattle.gier_grammar.specs.declared.grammar_symbol.GrammarSymbol.TheVariants.{AfterRightName as GAfterRightName}
use Rattle.gier_grammar.specs.declared.grammar_symbol.GrammarSymbol.TheVariants.{AfterRightElement as GAfterRightElement}
use Rattle.gier_grammar.specs.declared.grammar_symbol.GrammarSymbol.TheVariants.{Expression as GExpression, Simple as GSimple}
use Rattle.gier_grammar.specs.declared.grammar_symbol.GrammarSymbol.TheVariants.{Then as GThen, Else as GElse, MayNot as GMayNot}
use Rattle.gier_grammar.specs.declared.grammar_symbol.GrammarSymbol.TheVariants.{MaySign as GMaySign, Number as GNumber}
use Rattle.gier_grammar.specs.declared.grammar_symbol.GrammarSymbol.TheVariants.{Primary as GPrimary, MayPower as GMayPower}
use Rattle.gier_grammar.specs.declared.grammar_symbol.GrammarSymbol.TheVariants.{MayTimes as GMayTimes, MaySum as GMaySum}
use Rattle.gier_grammar.specs.declared.grammar_symbol.GrammarSymbol.TheVariants.{MayRelation as GMayRelation, MayAnd as GMayAnd}
use Rattle.gier_grammar.specs.declared.grammar_symbol.GrammarSymbol.TheVariants.{MayOr as GMayOr, MayImplication as GMayImplication}
use Rattle.gier_grammar.specs.declared.grammar_symbol.GrammarSymbol.TheVariants.{MayEquivalence as GMayEquivalence}
use Rattle.gier_grammar.specs.declared.grammar_symbol.GrammarSymbol.TheVariants.{MayPart as GMayPart}
use Rattle.gier_grammar.specs.declared.grammar_symbol.GrammarSymbol.TheVariants.{SubscriptTail as GSubscriptTail, Actual as GActual}
use Rattle.gier_grammar.specs.declared.grammar_symbol.GrammarSymbol.TheVariants.{StringRest as GStringRest}
use Rattle.gier_grammar.specs.declared.grammar_symbol.GrammarSymbol.TheVariants.{ActualTail as GActualTail}
use Rattle.gier_grammar.specs.declared.grammar_symbol.GrammarSymbol.TheVariants.{RightParenthesis as GRightParenthesis}
use Rattle.gier_grammar.specs.declared.stack_entry.StackEntry.{StackEntry}
use Rattle.gier_grammar.specs.GrammarSymbols.{number_of}
use Rattle.gier_grammar.specs.StackEntries.{beside}
use Rattle.gier_pass3.specs.Lists.{stack_in}

-- the items of the definition that a grammar symbol stands for, where so many more pairs of constants are allowed; one that
-- writes a
-- mark wants no symbol, and stands for none
abbrev pub meant_by : GrammarSymbol → (left : ℕ) → List GrammarItem
meant_by GProgram left = WantProgram ∷ []
meant_by GProgramColon left = Want SColon ∷ []
meant_by GTextEnd left = Want STextEnd ∷ []
meant_by GAfterBegin left = MayDeclarations ∷ WantStatement ∷ WantStatements ∷ []
meant_by GBlockTail left = WantStatements ∷ []
meant_by GCompoundTail left = WantStatements ∷ []
meant_by GFirstDeclared left = Want SSemicolon ∷ MayDeclarations ∷ WantStatement ∷ WantStatements ∷ []
meant_by GDeclared left = Want SSemicolon ∷ MayDeclarations ∷ []
meant_by GMoreDeclarations left = MayDeclarations ∷ []
meant_by GOwnType left = WantType ∷ WantAfterOwnType ∷ []
meant_by GAfterOwnType left = WantAfterOwnType ∷ []
meant_by GOwnName left = WantName ∷ []
meant_by GMoreOwnNames left = MayNames ∷ []
meant_by GFixedBounds left = Want SLeftBracket ∷ WantConstant ∷ Want SColon ∷ WantConstant ∷ WantFurther most_further ∷ []
meant_by GFixedColon left = Want SColon ∷ WantConstant ∷ []
meant_by GMorePairs left = WantFurther left ∷ []
meant_by GMoreFixedSegments left = MayFixed ∷ []
meant_by GAfterType left = WantAfterType ∷ []
meant_by GName left = WantName ∷ []
meant_by GMoreNames left = MayNames ∷ []
meant_by GBounds left = Want SLeftBracket ∷ WantExpr ∷ Want SColon ∷ WantExpr ∷ WantPairs ∷ []
meant_by GBoundColon left = Want SColon ∷ WantExpr ∷ []
meant_by GBoundTail left = WantPairs ∷ []
meant_by GMoreSegments left = MaySegments ∷ []
meant_by GSwitchBecomes left = Want SBecomes ∷ WantExpr ∷ MayExprs ∷ []
meant_by GMoreSwitchElements left = MayExprs ∷ []
meant_by GMayFormals left = MayFormals ∷ []
meant_by GFormal left = WantName ∷ []
meant_by GFormalTail left = MayNames ∷ Want SRightParenthesis ∷ []
meant_by GHeading left = Want SSemicolon ∷ MayValues ∷ MaySpecifications ∷ WantStatement ∷ []
meant_by GMayValues left = MayValues ∷ []
meant_by GValueName left = WantName ∷ []
meant_by GMoreValueNames left = MayNames ∷ []
meant_by GSemicolon left = Want SSemicolon ∷ []
meant_by GMoreSpecifications left = MaySpecifications ∷ []
meant_by GMaySpecifier left = MayWord ∷ []
meant_by GSpecifiedName left = WantName ∷ []
meant_by GMoreSpecifiedNames left = MayNames ∷ []
meant_by GStatement left = WantStatement ∷ []
meant_by GAfterName left = WantAfterName ∷ []
meant_by GBranch left = WantBranch ∷ []
meant_by GAfterBranchName left = WantAfterBranchName ∷ []
meant_by GMayElse left = MayElse ∷ []
meant_by GForVariable left = WantName ∷ []
meant_by GForBecomes left = Want SBecomes ∷ WantExpr ∷ MayStep ∷ WantTurns ∷ WantStatement ∷ []
meant_by GMayStep left = MayStep ∷ []
meant_by GForTail left = WantTurns ∷ WantStatement ∷ []
meant_by GUntil left = Want SUntil ∷ []
meant_by GBecomes left = Want SBecomes ∷ WantRight ∷ []
meant_by GRight left = WantRight ∷ []
meant_by GAfterRightName left = WantAfterRight ∷ []
meant_by GAfterRightElement left = WantAfterElement ∷ []
meant_by GExpression left = WantExpr ∷ []
meant_by GSimple left = WantSimple ∷ []
meant_by GThen left = Want SThen ∷ []
meant_by GElse left = Want SElse ∷ []
meant_by GMayNot left = MayNot ∷ []
meant_by GMaySign left = MaySign ∷ []
meant_by GNumber left = WantNumber ∷ []
meant_by GPrimary left = WantPrimary ∷ []
meant_by GMayPart left = MayPart ∷ []
meant_by GSubscriptTail left = WantSubscripts ∷ []
meant_by GActual left = WantActual ∷ []
meant_by GStringRest left = WantBytes ∷ []
meant_by GActualTail left = WantActuals ∷ []
meant_by GRightParenthesis left = Want SRightParenthesis ∷ []
meant_by GMayPower left = MayPower ∷ []
meant_by GMayTimes left = MayTimes ∷ []
meant_by GMaySum left = MaySum ∷ []
meant_by GMayRelation left = MayRelation ∷ []
meant_by GMayAnd left = MayAnd ∷ []
meant_by GMayOr left = MayOr ∷ []
meant_by GMayImplication left = MayImpl ∷ []
meant_by GMayEquivalence left = MayEquiv ∷ []
meant_by _ left = []

-- what is wanted where a grammar symbol stands above these; in the definition a program has the end of the text with it, so that
-- there is nothing
-- below it
abbrev pub wanted_above : GrammarSymbol → (left : ℕ) → (below : List GrammarItem) → List GrammarItem
wanted_above GProgram left below = WantProgram ∷ []
wanted_above item left below = meant_by item left ++ below

-- the same of several of them
abbrev pub all_above : List GrammarSymbol → (left : ℕ) → (below : List GrammarItem) → List GrammarItem
all_above [] left below = below
all_above (item ∷ items) left below = wanted_above item left (all_above items left below)

-- below a program the end of the text is wanted
abbrev pub IsAbove : GrammarSymbol → (below : List GrammarItem) → Type 0
IsAbove GProgram below = below ≡ Want STextEnd ∷ []
IsAbove _ below = Unit {0}

abbrev pub AreAbove : List GrammarSymbol → (left : ℕ) → (below : List GrammarItem) → Type 0
AreAbove [] left below = Unit {0}
AreAbove (item ∷ items) left below = IsAbove item (all_above items left below) × AreAbove items left below

abbrev pub all_items : List GrammarSymbol
all_items =
    OpenProgram ∷ OpenArraySegment ∷ OpenProcedureBody ∷ OpenControlledStatement ∷ OpenActual ∷ OpenSubscript ∷ OpenBound ∷
    OpenSwitchElement ∷ OpenForElement ∷ ShutProgram ∷ ShutBlock ∷ ShutCompound ∷ ShutTypeDeclaration ∷ ShutArraySegment ∷
    ShutSwitchDeclaration ∷ ShutProcedureDeclaration ∷ ShutProcedureBody ∷ ShutForStatement ∷ ShutControlledStatement ∷
    ShutConditionalStatement ∷ ShutActual ∷ ShutSubscript ∷ ShutBound ∷ ShutSwitchElement ∷ ShutForElement ∷ ShutGoTo ∷
    ShutConditionalExpression ∷ GAfterOwnType ∷ GProgram ∷ GProgramColon ∷ GTextEnd ∷ GAfterBegin ∷ GBlockTail ∷ GCompoundTail ∷
    GFirstDeclared ∷ GDeclared ∷ GMoreDeclarations ∷ GOwnType ∷ GOwnName ∷ GMoreOwnNames ∷ GFixedBounds ∷ GFixedColon ∷ GMorePairs ∷
    GMoreFixedSegments ∷ GAfterType ∷ GName ∷ GMoreNames ∷ GBounds ∷ GBoundColon ∷ GBoundTail ∷ GMoreSegments ∷ GSwitchBecomes ∷
    GMoreSwitchElements ∷ GMayFormals ∷ GFormal ∷ GFormalTail ∷ GHeading ∷ GMayValues ∷ GValueName ∷ GMoreValueNames ∷ GSemicolon ∷
    GMoreSpecifications ∷ GMaySpecifier ∷ GSpecifiedName ∷ GMoreSpecifiedNames ∷ GStatement ∷ GAfterName ∷ GBranch ∷
    GAfterBranchName ∷ GMayElse ∷ GForVariable ∷ GForBecomes ∷ GMayStep ∷ GForTail ∷ GUntil ∷ GBecomes ∷ GRight ∷ GAfterRightName ∷
    GAfterRightElement ∷ GExpression ∷ GSimple ∷ GThen ∷ GElse ∷ GMayNot ∷ GMaySign ∷ GNumber ∷ GPrimary ∷ GMayPower ∷ GMayTimes ∷
    GMaySum ∷ GMayRelation ∷ GMayAnd ∷ GMayOr ∷ GMayImplication ∷ GMayEquivalence ∷ GMayPart ∷ GSubscriptTail ∷ GActual ∷
    GStringRest ∷ GActualTail ∷ GRightParenthesis ∷ []

-- the grammar symbol with this number
unfoldable pub item_at : (number : ℕ) → Option GrammarSymbol
item_at number = find (λ item. number_of item == number) all_items

-- the word of a grammar symbol on the stack
abbrev pub word_of : GrammarSymbol → (left : ℕ) → ℕ
word_of item left = number_of item + beside item left * 256

abbrev pub read_by : Option GrammarSymbol → (left : ℕ) → (below : List GrammarItem) → List GrammarItem
read_by None left below = below
read_by (Some item) left below = wanted_above item left below

abbrev pub read_word : ℕ → (below : List GrammarItem) → List GrammarItem
read_word word below = read_by (item_at (word % 256)) (word / 256) below

-- what the words of a stack want above these; the last word is the next grammar symbol
abbrev pub read_words : List ℕ → (below : List GrammarItem) → List GrammarItem
read_words [] below = below
read_words (word ∷ words) below = read_words words (read_word word below)

-- each word is a grammar symbol's, and each program has the end of the text below it
abbrev pub IsItem : Option GrammarSymbol → (below : List GrammarItem) → Type 0
IsItem None below = ⊥
IsItem (Some item) below = IsAbove item below

abbrev pub AreItems : List ℕ → (below : List GrammarItem) → Type 0
AreItems [] below = Unit {0}
AreItems (word ∷ words) below = IsItem (item_at (word % 256)) below × AreItems words (read_word word below)

-- what the pass wants
abbrev pub wanted_in : TablesModel → List GrammarItem
wanted_in t = read_words (stack_in t).words []

abbrev pub StackInvariant : TablesModel → Type 0
StackInvariant t = AreItems (stack_in t).words []

-- the next entry was taken away, or there was none
abbrev pub Pops : (before : List GrammarItem) → Option StackEntry → TablesModel → Type 0
Pops before None t = before ≡ []
Pops before (Some next) t =
    (before ≡ wanted_above next.symbol next.left (wanted_in t)) × IsAbove next.symbol (wanted_in t) × StackInvariant t
