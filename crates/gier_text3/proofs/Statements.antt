-- What ends statements, what stands before them, and the parts of statements that hold no other one.
use Rattle.std.proofs.Common.{◌≡◌, ◌∙◌, ◌+◌, ◌-◌, ◌++◌, ℕ, zero, suc, Bool, true, false, List, [], ◌∷◌, length, refl, sym as back, ap, arith}
use Rattle.std.specs.Prelude.{Option, None, Some, map, nat_lt, if◌then◌else◌}
use Rattle.std.proofs.lemmas.Bool.Decides.{nat_tests}
use Rattle.std.proofs.lemmas.Bool.{false≢true}
use Rattle.gier_symbol.specs.declared.symbol.Symbol.{Symbol}
use Rattle.gier_symbol.specs.declared.tag.Tag.TheVariants.{Number, Comma, Colon, Semicolon, Becomes, LeftParenthesis, RightParenthesis, LeftBracket, RightBracket, Begin, End, If, Then, Else, For, Step, Until, While, Do, Goto, Array, Switch, Procedure, Value, Own, LabelColon, Declaring, Formal, ValueListed, Specified, OwnNumber, TextEnd}
use Rattle.gier_symbol.specs.ByTag.{sym, word}
use Rattle.gier_tree.specs.declared.construct.Construct.TheVariants.{Program as MProgram, Block as MBlock, Compound as MCompound, TypeDeclaration as MType, ArraySegment as MSegment, SwitchDeclaration as MSwitch, ProcedureDeclaration as MProcedure, ProcedureBody as MBody, ForStatement as MFor, ControlledStatement as MControlled, ConditionalStatement as MConditional, Bound as MBound, SwitchElement as MElement, ForElement as MForElement, GoTo as MGoTo, Subscript as MSubscript}
use Rattle.gier_tree.specs.Declaring.{list_of, own_names}
use Rattle.gier_tree.specs.Places.{Places}
use Rattle.gier_tree.specs.Spell.{ident, type_tag, spell_expr, spell_exprs, spell_call, spell_element, spell_actual, spell_actuals, spell_next_names, spell_names, spell_type, spell_option_type, spell_pair, spell_next_pairs, spell_segment, spell_next_segments, spell_constant, spell_fixed_pair, spell_further_pairs, spell_fixed, spell_next_fixed, spell_formals, spell_values, spell_specifier, spell_specifications, spell_heading, spell_labels, spell_left, spell_lefts, spell_turns, spell_next_turns, spell_declaration, spell_declarations, spell_group, spell_statements, spell_statement, spell_unconditional, spell_basic, spell_conditional, spell_loop, spell_program}
use Rattle.gier_tree.specs.Lines.{first_expr, last_expr, first_turns, last_turns, first_name, last_name, last_next_name, last_exprs, last_call, first_left as first_of_left, last_labelled, first_labelled, first_statement, last_statement, first_conditional, last_conditional, first_unconditional, last_unconditional, last_basic, first_loop, last_loop, first_heading, last_heading, last_values, last_specifications, group_begin, group_end, first_program}
use Rattle.gier_tree.specs.OwnCount.{owns_of_declaration, owns_of_declarations, owns_of_group, owns_of_statements, owns_of_statement, owns_of_unconditional, owns_of_basic, owns_of_conditional, owns_of_loop, owns_of_program, count_owns, owns_in_declaration, owns_in_declarations, owns_in_statement, owns_in_unconditional}
use Rattle.gier_tree.specs.Written.{Text, Marked, opens, shuts, leading_tag, text_name, text_expr, text_call, text_element, text_actual, text_actuals, text_subscripts, Expected, expected_kinds, further_expected}
use Rattle.gier_tree.specs.Texts.{next_names, names_as, own_place, next_owns, owns_as, text_bound, text_pair, text_pairs, text_segment, text_segments, text_constant, text_fixed_pair, text_further_pairs, text_fixed, fixed_count, text_fixeds, text_switch_element, text_switch_elements, text_formals, text_values, text_specifications, text_heading, text_labels, text_left, text_lefts, text_turn, text_turns, text_next_turns, text_call_statement, next_line, Where, further, behind_statement, behind_declaration, behind_declarations, inner, text_declaration, text_declarations, text_group, text_statements, text_statement, text_unconditional, text_basic, text_conditional, text_loop}
use Rattle.gier_tree.specs.Trees.{Name, Adding, Add, Subtract, Expr, OneSimple, IfExpr, Call, Alone, WithActuals, Element, Subscripted, Actual, Actuals, Exprs, NoExprs, MoreExprs, NextName, Names, MkNames, ValueType, IntegerType, BooleanType, TypeWord, BoundPair, MkPair, NextPair, Segment, MkSegment, NextSegment, Constant, Unsigned, WithSign, FixedPair, MkFixedPair, Further, NoFurther, MoreFurther, FurtherPairs, most_further, FixedSegment, MkFixed, NextFixed, Formals, NoFormals, FormalList, ValuePart, NoValues, ValueList, Specifier, ValueSpec, ArraySpec, LabelSpec, SwitchSpec, StringSpec, ProcedureSpec, FunctionSpec, Specification, Heading, MkHeading, LabelPlace, LeftSide, OneName, LeftElement, LeftPart, Turns, OneValue, StepUntil, WhileTrue, NextTurns, Declaration, DeclareType, DeclareOwn, DeclareArrays, DeclareOwnArrays, DeclareSwitch, DeclareProcedure, Declarations, NoDeclarations, MoreDeclarations, Group, MkBlock, MkCompound, Statements, NoStatements, MoreStatements, Statement, OneUnconditional, OneConditional, OneLoop, Unconditional, MkUnconditional, Basic, OneGroup, Assign, Jump, CallStatement, Dummy, Conditional, IfThen, IfElse, IfLoop, Loop, MkLoop, Program, MkProgram}
use Rattle.gier_grammar.specs.declared.grammar_symbol.GrammarSymbol.TheVariants.{OpenProgram, OpenArraySegment, OpenProcedureBody, OpenControlledStatement, OpenActual, OpenSubscript, OpenBound, OpenSwitchElement, OpenForElement, ShutProgram, ShutBlock, ShutCompound, ShutTypeDeclaration, ShutArraySegment, ShutSwitchDeclaration, ShutProcedureDeclaration, ShutProcedureBody, ShutForStatement, ShutControlledStatement, ShutConditionalStatement, ShutActual, ShutSubscript, ShutBound, ShutSwitchElement, ShutForElement, ShutGoTo, AfterOwnType as GAfterOwnType, Program as GProgram, ProgramColon as GProgramColon, TextEnd as GTextEnd, AfterBegin as GAfterBegin, BlockTail as GBlockTail, CompoundTail as GCompoundTail, FirstDeclared as GFirstDeclared, Declared as GDeclared, MoreDeclarations as GMoreDeclarations, OwnType as GOwnType, OwnName as GOwnName, MoreOwnNames as GMoreOwnNames, FixedBounds as GFixedBounds, FixedColon as GFixedColon, MorePairs as GMorePairs, MoreFixedSegments as GMoreFixedSegments, AfterType as GAfterType, Name as GName, MoreNames as GMoreNames, Bounds as GBounds, BoundColon as GBoundColon, BoundTail as GBoundTail, MoreSegments as GMoreSegments, SwitchBecomes as GSwitchBecomes, MoreSwitchElements as GMoreSwitchElements, MayFormals as GMayFormals, Formal as GFormal, FormalTail as GFormalTail, Heading as GHeading, MayValues as GMayValues, ValueName as GValueName, MoreValueNames as GMoreValueNames, Semicolon as GSemicolon, MoreSpecifications as GMoreSpecifications, MaySpecifier as GMaySpecifier, SpecifiedName as GSpecifiedName, MoreSpecifiedNames as GMoreSpecifiedNames, Statement as GStatement, AfterName as GAfterName, Branch as GBranch, AfterBranchName as GAfterBranchName, MayElse as GMayElse, ForVariable as GForVariable, ForBecomes as GForBecomes, MayStep as GMayStep, ForTail as GForTail, Until as GUntil, Becomes as GBecomes, AfterRightElement as GAfterRightElement, Right as GRight, Expression as GExpression, Then as GThen, MaySign as GMaySign, Number as GNumber, SubscriptTail as GSubscriptTail, Actual as GActual, ActualTail as GActualTail}
use Rattle.gier_grammar.specs.declared.production.Production.TheVariants.{NextPair as RNextPair}
use Rattle.gier_grammar.specs.declared.stack_entry.StackEntry.{StackEntry}
use Rattle.gier_grammar.specs.declared.parse_table.ParseAction.TheVariants.{Error, Expand}
use Rattle.gier_text3.specs.PurePass.{WriterState, pass3, pass3_from, first_line}
use Rattle.gier_grammar.specs.StackEntries.{entry}
use Rattle.gier_text3.proofs.Operands.{at, tail, Skips, Begins, Comes, Same, EndsExpr, WExpression, WActual, WRight, ends_comma, ends_colon, ends_semicolon, ends_right_bracket, ends_then, ends_else, ends_end, ends_step, ends_until, ends_while, ends_do, open_bound, shut_bound, open_array_segment, shut_array_segment, open_switch_element, shut_switch_element, open_for_element, shut_for_element, open_procedure_body, shut_procedure_body, open_controlled_statement, shut_controlled_statement, shut_procedure_declaration, shut_switch_declaration, shut_type_declaration, shut_for_statement, shut_conditional_statement, shut_go_to, shut_block, shut_compound, shut_program}
use Rattle.gier_text3.proofs.Expressions.{marked, begins_expr, expr, called, subscripted, name_same, exprs_end}
use Rattle.std.proofs.lemmas.List.{append_assoc}
use Rattle.gier_text3.proofs.Parts.{comes_of}

-- symbols are looked ahead, or an identifier behind them
abbrev pub lookahead : List Symbol → (last owns : ℕ) → WriterState
lookahead h l n = record { lookahead = h; name = None; last = l; owns = n }

abbrev pub named : List Symbol → Symbol → (last owns : ℕ) → WriterState
named h x l n = record { lookahead = h; name = Some x; last = l; owns = n }

-- what is nothing before a statement
pub record Headless (k : List Symbol) : Type 0 where
  pub declarations : Skips (entry GMoreDeclarations 0) k
  pub values : Skips (entry GMayValues 0) k
  pub specifications : Skips (entry GMoreSpecifications 0) k

-- what ends a statement, on this line
pub record EndsStatement (k : List Symbol) (next : ℕ) : Type 0 where
  pub begins : Begins k next
  pub expr : EndsExpr k
  pub none : (op : Bool) (h : List Symbol) (st : List StackEntry) (l n : ℕ) → pass3_from op k (entry GStatement 0 ∷ st) (lookahead h l n) ≡ h ++ pass3_from op k st (at l n)
  pub name : (h : List Symbol) (x : Symbol) (st : List StackEntry) (l n : ℕ) → pass3 k (entry GAfterName 0 ∷ st) (named h x l n) ≡ h ++ (x ∷ pass3 k st (at l n))
  pub branch : (h : List Symbol) (st : List StackEntry) (l n : ℕ) → pass3 k (entry GBranch 0 ∷ st) (lookahead h l n) ≡ pass3 k (entry GStatement 0 ∷ entry GMayElse 0 ∷ st) (lookahead h l n)
  pub branch_name : (h : List Symbol) (x : Symbol) (st : List StackEntry) (l n : ℕ) → pass3 k (entry GAfterBranchName 0 ∷ st) (named h x l n) ≡ pass3 k (entry GAfterName 0 ∷ entry GMayElse 0 ∷ st) (named h x l n)

-- and no statement behind `_then`
pub record EndsWhole (k : List Symbol) (next : ℕ) : Type 0 where
  pub lower : EndsStatement k next
  pub no_else : Skips (entry GMayElse 0) k
  pub headless : Headless k
  pub compound : (b : ℕ) (st : List StackEntry) (l n : ℕ) → pass3 k (entry GAfterBegin 0 ∷ st) (lookahead (word Begin b ∷ []) l n) ≡ opens MCompound b ∷ word Begin b ∷ pass3 k (entry GStatement 0 ∷ entry GCompoundTail 0 ∷ st) (at l n)

pub statement_semicolon : (i : ℕ) (k : List Symbol) → EndsStatement (word Semicolon i ∷ k) i
statement_semicolon i k = record { begins = record { first = word Semicolon i; rest = k; is = refl; on = refl }; expr = ends_semicolon i k; none = λ op h st l n. refl; name = λ h x st l n. refl; branch = λ h st l n. refl; branch_name = λ h x st l n. refl }

pub statement_end : (i : ℕ) (k : List Symbol) → EndsStatement (word End i ∷ k) i
statement_end i k = record { begins = record { first = word End i; rest = k; is = refl; on = refl }; expr = ends_end i k; none = λ op h st l n. refl; name = λ h x st l n. refl; branch = λ h st l n. refl; branch_name = λ h x st l n. refl }

pub statement_else : (i : ℕ) (k : List Symbol) → EndsStatement (word Else i ∷ k) i
statement_else i k = record { begins = record { first = word Else i; rest = k; is = refl; on = refl }; expr = ends_else i k; none = λ op h st l n. refl; name = λ h x st l n. refl; branch = λ h st l n. refl; branch_name = λ h x st l n. refl }

pub whole_semicolon : (i : ℕ) (k : List Symbol) → EndsWhole (word Semicolon i ∷ k) i
whole_semicolon i k = record { lower = statement_semicolon i k; no_else = λ st l n. refl; headless = record { declarations = λ st l n. refl; values = λ st l n. refl; specifications = λ st l n. refl }; compound = λ b st l n. refl }

pub whole_end : (i : ℕ) (k : List Symbol) → EndsWhole (word End i ∷ k) i
whole_end i k = record { lower = statement_end i k; no_else = λ st l n. refl; headless = record { declarations = λ st l n. refl; values = λ st l n. refl; specifications = λ st l n. refl }; compound = λ b st l n. refl }

pub statements_end : (ss : Statements) (d : ℕ) (k : List Symbol) → EndsWhole (spell_statements ss (word End d ∷ k)) (next_line ss d)
statements_end NoStatements d k = whole_end d k
statements_end (MoreStatements j s ss) d k = whole_semicolon j _

-- labels are looked ahead
joined_labels : (h r : List Symbol) (a b : Symbol) → ((h ++ a ∷ []) ++ b ∷ []) ++ r ≡ h ++ a ∷ b ∷ r
joined_labels h r a b = append_assoc (h ++ a ∷ []) (b ∷ []) r ∙ append_assoc h (a ∷ []) (b ∷ r)

no_labels : (h : List Symbol) → h ++ [] ≡ h
no_labels [] = refl
no_labels (x ∷ h) = ap (λ w. x ∷ w) (no_labels h)

pub labels_ahead : (ls : List LabelPlace) (k h : List Symbol) (st : List StackEntry) (l n : ℕ) → pass3 (spell_labels ls k) (entry GStatement 0 ∷ st) (lookahead h l n) ≡ pass3 k (entry GStatement 0 ∷ st) (lookahead (h ++ text_labels ls []) (last_labelled ls l) n)
labels_ahead [] k h st l n = ap (λ r. pass3 k (entry GStatement 0 ∷ st) (lookahead r l n)) (back (no_labels h))
labels_ahead (x ∷ ls) k h st l n =
    let a = sym Declaring x.name.number x.name.line in
    let b = word LabelColon x.colon in
    labels_ahead ls k ((h ++ a ∷ []) ++ b ∷ []) st x.colon n ∙ ap (λ r. pass3 k (entry GStatement 0 ∷ st) (lookahead r (last_labelled ls x.colon) n)) (joined_labels h (text_labels ls []) a b)

pub labels_text : (ls : List LabelPlace) (rest : List Symbol) → text_labels ls [] ++ rest ≡ text_labels ls rest
labels_text [] rest = refl
labels_text (x ∷ ls) rest = ap (λ w. sym Declaring x.name.number x.name.line ∷ word LabelColon x.colon ∷ w) (labels_text ls rest)

labels_line : (ls : List LabelPlace) (i : ℕ) → first_line (text_labels ls []) None i ≡ first_labelled ls i
labels_line [] i = refl
labels_line (x ∷ ls) i = refl

-- a construct is opened before its labels
pub if_taken : (ls : List LabelPlace) (i : ℕ) (k : List Symbol) (st : List StackEntry) (l n : ℕ) → pass3 (spell_labels ls (word If i ∷ k)) (entry GStatement 0 ∷ st) (at l n) ≡ opens MConditional (first_labelled ls i) ∷ text_labels ls (word If i ∷ pass3 k (entry GExpression 0 ∷ entry GThen 0 ∷ entry GBranch 0 ∷ entry ShutConditionalStatement 0 ∷ st) (at i n))
if_taken ls i k st l n = labels_ahead ls (word If i ∷ k) [] st l n ∙ ap (λ a. opens MConditional a ∷ text_labels ls [] ++ (word If i ∷ pass3 k (entry GExpression 0 ∷ entry GThen 0 ∷ entry GBranch 0 ∷ entry ShutConditionalStatement 0 ∷ st) (at i n))) (labels_line ls i) ∙ ap (λ w. opens MConditional (first_labelled ls i) ∷ w) (labels_text ls _)

pub for_taken : (ls : List LabelPlace) (i : ℕ) (k : List Symbol) (st : List StackEntry) (l n : ℕ) → pass3 (spell_labels ls (word For i ∷ k)) (entry GStatement 0 ∷ st) (at l n) ≡ opens MFor (first_labelled ls i) ∷ text_labels ls (word For i ∷ pass3 k (entry GForVariable 0 ∷ entry GForBecomes 0 ∷ st) (at i n))
for_taken ls i k st l n = labels_ahead ls (word For i ∷ k) [] st l n ∙ ap (λ a. opens MFor a ∷ text_labels ls [] ++ (word For i ∷ pass3 k (entry GForVariable 0 ∷ entry GForBecomes 0 ∷ st) (at i n))) (labels_line ls i) ∙ ap (λ w. opens MFor (first_labelled ls i) ∷ w) (labels_text ls _)

-- behind `_then` stands a statement, and maybe `_else`
labels_branch : (ls : List LabelPlace) (k : List Symbol) (st : List StackEntry) (h : List Symbol) (l n : ℕ) → ((h : List Symbol) (l : ℕ) → pass3 k (entry GBranch 0 ∷ st) (lookahead h l n) ≡ pass3 k (entry GStatement 0 ∷ entry GMayElse 0 ∷ st) (lookahead h l n)) → pass3 (spell_labels ls k) (entry GBranch 0 ∷ st) (lookahead h l n) ≡ pass3 (spell_labels ls k) (entry GStatement 0 ∷ entry GMayElse 0 ∷ st) (lookahead h l n)
labels_branch [] k st h l n e = e h l
labels_branch (x ∷ ls) k st h l n e = labels_branch ls k st _ x.colon n e

left_branch : (q : LeftSide) (b : ℕ) (w : List Symbol) (st : List StackEntry) (h : List Symbol) (l n : ℕ) → pass3 (spell_left q (word Becomes b ∷ w)) (entry GBranch 0 ∷ st) (lookahead h l n) ≡ pass3 (spell_left q (word Becomes b ∷ w)) (entry GStatement 0 ∷ entry GMayElse 0 ∷ st) (lookahead h l n)
left_branch (OneName x) b w st h l n = refl
left_branch (LeftElement (Subscripted x i y ys m)) b w st h l n = refl

left_compound : (q : LeftSide) (i : ℕ) (w : List Symbol) (b : ℕ) (st : List StackEntry) (l n : ℕ) → pass3 (spell_left q (word Becomes i ∷ w)) (entry GAfterBegin 0 ∷ st) (lookahead (word Begin b ∷ []) l n) ≡ opens MCompound b ∷ word Begin b ∷ pass3 (spell_left q (word Becomes i ∷ w)) (entry GStatement 0 ∷ entry GCompoundTail 0 ∷ st) (at l n)
left_compound (OneName x) i w b st l n = refl
left_compound (LeftElement (Subscripted x j y ys m)) i w b st l n = refl

begin_next : (k : List Symbol) (s : Symbol) → Begins (s ∷ k) s.line
begin_next k s = record { first = s; rest = k; is = refl; on = refl }

left_begins : (q : LeftSide) (b : ℕ) (w : List Symbol) → Begins (spell_left q (word Becomes b ∷ w)) (first_of_left q)
left_begins (OneName x) b w = begin_next _ (ident x)
left_begins (LeftElement (Subscripted x j y ys m)) b w = begin_next _ (ident x)

left_any : (q : LeftSide) (b : ℕ) (w : List Symbol) (st : List StackEntry) (l n : ℕ) → pass3_from true (spell_left q (word Becomes b ∷ w)) (entry GStatement 0 ∷ st) (at l n) ≡ pass3 (spell_left q (word Becomes b ∷ w)) (entry GStatement 0 ∷ st) (at l n)
left_any (OneName x) b w st l n = refl
left_any (LeftElement (Subscripted x j y ys m)) b w st l n = refl

left_headless : (q : LeftSide) (i : ℕ) (w : List Symbol) → Headless (spell_left q (word Becomes i ∷ w))
left_headless (OneName x) i w = record { declarations = λ st l n. refl; values = λ st l n. refl; specifications = λ st l n. refl }
left_headless (LeftElement (Subscripted x j y ys m)) i w = record { declarations = λ st l n. refl; values = λ st l n. refl; specifications = λ st l n. refl }

basic_branch : (b : Basic) (k : List Symbol) (next : ℕ) (st : List StackEntry) (h : List Symbol) (l n : ℕ) → EndsStatement k next → pass3 (spell_basic b k) (entry GBranch 0 ∷ st) (lookahead h l n) ≡ pass3 (spell_basic b k) (entry GStatement 0 ∷ entry GMayElse 0 ∷ st) (lookahead h l n)
basic_branch (OneGroup (MkBlock i d m ds s ss j)) k next st h l n e = refl
basic_branch (OneGroup (MkCompound i s ss j)) k next st h l n e = refl
basic_branch (Assign q qs x) k next st h l n e = left_branch q.left q.becomes _ st h l n
basic_branch (Jump i x) k next st h l n e = refl
basic_branch (CallStatement (Alone x)) k next st h l n e = e.branch_name h (ident x) st x.line n
basic_branch (CallStatement (WithActuals x i a more m)) k next st h l n e = refl
basic_branch Dummy k next st h l n e = e.branch h st l n

pub branch : (u : Unconditional) (k : List Symbol) (next : ℕ) (st : List StackEntry) (l n : ℕ) → EndsStatement k next → pass3 (spell_unconditional u k) (entry GBranch 0 ∷ st) (at l n) ≡ pass3 (spell_unconditional u k) (entry GStatement 0 ∷ entry GMayElse 0 ∷ st) (at l n)
branch (MkUnconditional ls b) k next st l n e = labels_branch ls (spell_basic b k) st [] l n (λ h l. basic_branch b k next st h l n e)

loop_labels : (ls : List LabelPlace) (i : ℕ) (k : List Symbol) (st : List StackEntry) (h : List Symbol) (l n : ℕ) → pass3 (spell_labels ls (word For i ∷ k)) (entry GBranch 0 ∷ st) (lookahead h l n) ≡ pass3 (spell_labels ls (word For i ∷ k)) (entry GStatement 0 ∷ st) (lookahead h l n)
loop_labels [] i k st h l n = refl
loop_labels (x ∷ ls) i k st h l n = loop_labels ls i k st _ x.colon n

pub loop_branch : (f : Loop) (k : List Symbol) (st : List StackEntry) (l n : ℕ) → pass3 (spell_loop f k) (entry GBranch 0 ∷ st) (at l n) ≡ pass3 (spell_loop f k) (entry GStatement 0 ∷ st) (at l n)
loop_branch (MkLoop ls i x j u us d s) k st l n = loop_labels ls i _ st [] l n

-- the first statement of a compound
pub compound : (s : Statement) (k : List Symbol) (next b : ℕ) (st : List StackEntry) (l n : ℕ) → EndsWhole k next → pass3 (spell_statement s k) (entry GAfterBegin 0 ∷ st) (lookahead (word Begin b ∷ []) l n) ≡ opens MCompound b ∷ word Begin b ∷ pass3 (spell_statement s k) (entry GStatement 0 ∷ entry GCompoundTail 0 ∷ st) (at l n)
compound (OneUnconditional (MkUnconditional (x ∷ ls) v)) k next b st l n e = refl
compound (OneUnconditional (MkUnconditional [] (OneGroup (MkBlock i d m ds t ss j)))) k next b st l n e = refl
compound (OneUnconditional (MkUnconditional [] (OneGroup (MkCompound i t ss j)))) k next b st l n e = refl
compound (OneUnconditional (MkUnconditional [] (Assign q qs x))) k next b st l n e = left_compound q.left q.becomes _ b st l n
compound (OneUnconditional (MkUnconditional [] (Jump i x))) k next b st l n e = refl
compound (OneUnconditional (MkUnconditional [] (CallStatement (Alone x)))) k next b st l n e = refl
compound (OneUnconditional (MkUnconditional [] (CallStatement (WithActuals x i a more m)))) k next b st l n e = refl
compound (OneConditional (IfThen [] i x m u)) k next b st l n e = refl
compound (OneConditional (IfThen (y ∷ ls) i x m u)) k next b st l n e = refl
compound (OneConditional (IfElse [] i x m u j t)) k next b st l n e = refl
compound (OneConditional (IfElse (y ∷ ls) i x m u j t)) k next b st l n e = refl
compound (OneConditional (IfLoop [] i x m f)) k next b st l n e = refl
compound (OneConditional (IfLoop (y ∷ ls) i x m f)) k next b st l n e = refl
compound (OneLoop (MkLoop [] i x j u us d t)) k next b st l n e = refl
compound (OneLoop (MkLoop (y ∷ ls) i x j u us d t)) k next b st l n e = refl
compound (OneUnconditional (MkUnconditional [] Dummy)) k next b st l n e = e.compound b st l n

pub headless : (s : Statement) (k : List Symbol) (next : ℕ) → EndsWhole k next → Headless (spell_statement s k)
headless (OneUnconditional (MkUnconditional (x ∷ ls) v)) k next e = record { declarations = λ st l n. refl; values = λ st l n. refl; specifications = λ st l n. refl }
headless (OneUnconditional (MkUnconditional [] (OneGroup (MkBlock i d m ds t ss j)))) k next e = record { declarations = λ st l n. refl; values = λ st l n. refl; specifications = λ st l n. refl }
headless (OneUnconditional (MkUnconditional [] (OneGroup (MkCompound i t ss j)))) k next e = record { declarations = λ st l n. refl; values = λ st l n. refl; specifications = λ st l n. refl }
headless (OneUnconditional (MkUnconditional [] (Assign q qs x))) k next e = left_headless q.left q.becomes _
headless (OneUnconditional (MkUnconditional [] (Jump i x))) k next e = record { declarations = λ st l n. refl; values = λ st l n. refl; specifications = λ st l n. refl }
headless (OneUnconditional (MkUnconditional [] (CallStatement (Alone x)))) k next e = record { declarations = λ st l n. refl; values = λ st l n. refl; specifications = λ st l n. refl }
headless (OneUnconditional (MkUnconditional [] (CallStatement (WithActuals x i a more m)))) k next e = record { declarations = λ st l n. refl; values = λ st l n. refl; specifications = λ st l n. refl }
headless (OneConditional (IfThen [] i x m u)) k next e = record { declarations = λ st l n. refl; values = λ st l n. refl; specifications = λ st l n. refl }
headless (OneConditional (IfThen (y ∷ ls) i x m u)) k next e = record { declarations = λ st l n. refl; values = λ st l n. refl; specifications = λ st l n. refl }
headless (OneConditional (IfElse [] i x m u j t)) k next e = record { declarations = λ st l n. refl; values = λ st l n. refl; specifications = λ st l n. refl }
headless (OneConditional (IfElse (y ∷ ls) i x m u j t)) k next e = record { declarations = λ st l n. refl; values = λ st l n. refl; specifications = λ st l n. refl }
headless (OneConditional (IfLoop [] i x m f)) k next e = record { declarations = λ st l n. refl; values = λ st l n. refl; specifications = λ st l n. refl }
headless (OneConditional (IfLoop (y ∷ ls) i x m f)) k next e = record { declarations = λ st l n. refl; values = λ st l n. refl; specifications = λ st l n. refl }
headless (OneLoop (MkLoop [] i x j u us d t)) k next e = record { declarations = λ st l n. refl; values = λ st l n. refl; specifications = λ st l n. refl }
headless (OneLoop (MkLoop (y ∷ ls) i x j u us d t)) k next e = record { declarations = λ st l n. refl; values = λ st l n. refl; specifications = λ st l n. refl }
headless (OneUnconditional (MkUnconditional [] Dummy)) k next e = e.headless

-- a statement with a symbol: whether something was opened before it doesn't count, nor what stood before it
pub record HasSymbols (s : Statement) (k : List Symbol) (next : ℕ) : Type 0 where
  pub begins : Begins (spell_statement s k) (first_statement s next)
  pub any : (st : List StackEntry) (l n : ℕ) → pass3_from true (spell_statement s k) (entry GStatement 0 ∷ st) (at l n) ≡ pass3 (spell_statement s k) (entry GStatement 0 ∷ st) (at l n)
  pub last : (a b : ℕ) → last_statement s a ≡ last_statement s b

abbrev pub Enclosed : Statement → (k : List Symbol) → (next : ℕ) → Type 0
Enclosed (OneUnconditional (MkUnconditional [] Dummy)) k next = Unit {0}
Enclosed s k next = HasSymbols s k next

pub enclosed : (s : Statement) (k : List Symbol) (next : ℕ) → Enclosed s k next
enclosed (OneUnconditional (MkUnconditional (x ∷ ls) v)) k next = record { begins = begin_next _ (ident x.name); any = λ st l n. refl; last = λ a b. refl }
enclosed (OneUnconditional (MkUnconditional [] (OneGroup (MkBlock i d m ds t ss j)))) k next = record { begins = begin_next _ (word Begin i); any = λ st l n. refl; last = λ a b. refl }
enclosed (OneUnconditional (MkUnconditional [] (OneGroup (MkCompound i t ss j)))) k next = record { begins = begin_next _ (word Begin i); any = λ st l n. refl; last = λ a b. refl }
enclosed (OneUnconditional (MkUnconditional [] (Assign q qs x))) k next = record { begins = left_begins q.left q.becomes _; any = left_any q.left q.becomes _; last = λ a b. refl }
enclosed (OneUnconditional (MkUnconditional [] (Jump i x))) k next = record { begins = begin_next _ (word Goto i); any = λ st l n. refl; last = λ a b. refl }
enclosed (OneUnconditional (MkUnconditional [] (CallStatement (Alone x)))) k next = record { begins = begin_next _ (ident x); any = λ st l n. refl; last = λ a b. refl }
enclosed (OneUnconditional (MkUnconditional [] (CallStatement (WithActuals x i a more m)))) k next = record { begins = begin_next _ (ident x); any = λ st l n. refl; last = λ a b. refl }
enclosed (OneConditional (IfThen [] i x m u)) k next = record { begins = begin_next _ (word If i); any = λ st l n. refl; last = λ a b. refl }
enclosed (OneConditional (IfThen (y ∷ ls) i x m u)) k next = record { begins = begin_next _ (ident y.name); any = λ st l n. refl; last = λ a b. refl }
enclosed (OneConditional (IfElse [] i x m u j t)) k next = record { begins = begin_next _ (word If i); any = λ st l n. refl; last = λ a b. refl }
enclosed (OneConditional (IfElse (y ∷ ls) i x m u j t)) k next = record { begins = begin_next _ (ident y.name); any = λ st l n. refl; last = λ a b. refl }
enclosed (OneConditional (IfLoop [] i x m f)) k next = record { begins = begin_next _ (word If i); any = λ st l n. refl; last = λ a b. refl }
enclosed (OneConditional (IfLoop (y ∷ ls) i x m f)) k next = record { begins = begin_next _ (ident y.name); any = λ st l n. refl; last = λ a b. refl }
enclosed (OneLoop (MkLoop [] i x j u us d t)) k next = record { begins = begin_next _ (word For i); any = λ st l n. refl; last = λ a b. refl }
enclosed (OneLoop (MkLoop (y ∷ ls) i x j u us d t)) k next = record { begins = begin_next _ (ident y.name); any = λ st l n. refl; last = λ a b. refl }
enclosed (OneUnconditional (MkUnconditional [] Dummy)) k next = tt

abbrev pub is_empty : Statement → Bool
is_empty (OneUnconditional (MkUnconditional [] Dummy)) = true
is_empty s = false

pub no_owns : (n m : ℕ) → n + 0 ≡ m → n ≡ m
no_owns n m e = omega (arith, e)

empty_controlled : (k : List Symbol) (next : ℕ) (st : List StackEntry) (c : WriterState) → Begins k next → pass3_from true k (entry ShutControlledStatement 0 ∷ st) c ≡ shuts MControlled next ∷ pass3 k st c
empty_controlled k next st c b = rw (b.is) (ap (λ i. shuts MControlled i ∷ pass3 (b.first ∷ b.rest) st c) b.on)

enclose_controlled_by : (s : Statement) (k : List Symbol) (next : ℕ) (st : List StackEntry) (l n m : ℕ) (text : List Symbol → List Symbol) → HasSymbols s k next → EndsWhole k next → pass3 (spell_statement s k) (entry GStatement 0 ∷ entry ShutControlledStatement 0 ∷ st) (at l n) ≡ text (pass3 k (entry ShutControlledStatement 0 ∷ st) (at (last_statement s l) m)) → pass3 (spell_statement s k) (entry OpenControlledStatement 0 ∷ entry GStatement 0 ∷ entry ShutControlledStatement 0 ∷ st) (at l n) ≡ opens MControlled (first_statement s next) ∷ text (shuts MControlled (last_statement s next) ∷ pass3 k st (at (last_statement s l) m))
enclose_controlled_by s k next st l n m text x e go_on =
    open_controlled_statement (spell_statement s k) (first_statement s next) false (entry GStatement 0 ∷ entry ShutControlledStatement 0 ∷ st) (at l n) x.begins
    ∙ ap (λ w. opens MControlled (first_statement s next) ∷ w) (x.any (entry ShutControlledStatement 0 ∷ st) l n ∙ go_on ∙ ap text (shut_controlled_statement k st (at (last_statement s l) m) (comes_of e.lower.expr) ∙ ap (λ a. shuts MControlled a ∷ pass3 k st (at (last_statement s l) m)) (x.last l next)))

pub enclose_controlled : (s : Statement) (k : List Symbol) (next : ℕ) (st : List StackEntry) (l n m : ℕ) (text : List Symbol → List Symbol) → Enclosed s k next → EndsWhole k next → n + owns_in_statement s ≡ m → (is_empty s ≡ true → (w : List Symbol) → text w ≡ w) → pass3 (spell_statement s k) (entry GStatement 0 ∷ entry ShutControlledStatement 0 ∷ st) (at l n) ≡ text (pass3 k (entry ShutControlledStatement 0 ∷ st) (at (last_statement s l) m)) → pass3 (spell_statement s k) (entry OpenControlledStatement 0 ∷ entry GStatement 0 ∷ entry ShutControlledStatement 0 ∷ st) (at l n) ≡ opens MControlled (first_statement s next) ∷ text (shuts MControlled (last_statement s next) ∷ pass3 k st (at (last_statement s l) m))
enclose_controlled (OneUnconditional (MkUnconditional [] Dummy)) k next st l n m text x e owns same go_on =
    open_controlled_statement k next false (entry GStatement 0 ∷ entry ShutControlledStatement 0 ∷ st) (at l n) e.lower.begins
    ∙ ap (λ w. opens MControlled next ∷ w) (e.lower.none true [] (entry ShutControlledStatement 0 ∷ st) l n ∙ empty_controlled k next st (at l n) e.lower.begins ∙ ap (λ a. shuts MControlled next ∷ pass3 k st (at l a)) (no_owns n m owns) ∙ back (same refl _))
enclose_controlled (OneUnconditional (MkUnconditional (z ∷ ls) v)) k next st l n m text x e owns same go_on = enclose_controlled_by (OneUnconditional (MkUnconditional (z ∷ ls) v)) k next st l n m text x e go_on
enclose_controlled (OneUnconditional (MkUnconditional [] (OneGroup (MkBlock i d c ds t ss j)))) k next st l n m text x e owns same go_on = enclose_controlled_by (OneUnconditional (MkUnconditional [] (OneGroup (MkBlock i d c ds t ss j)))) k next st l n m text x e go_on
enclose_controlled (OneUnconditional (MkUnconditional [] (OneGroup (MkCompound i t ss j)))) k next st l n m text x e owns same go_on = enclose_controlled_by (OneUnconditional (MkUnconditional [] (OneGroup (MkCompound i t ss j)))) k next st l n m text x e go_on
enclose_controlled (OneUnconditional (MkUnconditional [] (Assign q qs z))) k next st l n m text x e owns same go_on = enclose_controlled_by (OneUnconditional (MkUnconditional [] (Assign q qs z))) k next st l n m text x e go_on
enclose_controlled (OneUnconditional (MkUnconditional [] (Jump i z))) k next st l n m text x e owns same go_on = enclose_controlled_by (OneUnconditional (MkUnconditional [] (Jump i z))) k next st l n m text x e go_on
enclose_controlled (OneUnconditional (MkUnconditional [] (CallStatement (Alone z)))) k next st l n m text x e owns same go_on = enclose_controlled_by (OneUnconditional (MkUnconditional [] (CallStatement (Alone z)))) k next st l n m text x e go_on
enclose_controlled (OneUnconditional (MkUnconditional [] (CallStatement (WithActuals z i a more c)))) k next st l n m text x e owns same go_on = enclose_controlled_by (OneUnconditional (MkUnconditional [] (CallStatement (WithActuals z i a more c)))) k next st l n m text x e go_on
enclose_controlled (OneConditional (IfThen [] i z c u)) k next st l n m text x e owns same go_on = enclose_controlled_by (OneConditional (IfThen [] i z c u)) k next st l n m text x e go_on
enclose_controlled (OneConditional (IfThen (y ∷ ls) i z c u)) k next st l n m text x e owns same go_on = enclose_controlled_by (OneConditional (IfThen (y ∷ ls) i z c u)) k next st l n m text x e go_on
enclose_controlled (OneConditional (IfElse [] i z c u j t)) k next st l n m text x e owns same go_on = enclose_controlled_by (OneConditional (IfElse [] i z c u j t)) k next st l n m text x e go_on
enclose_controlled (OneConditional (IfElse (y ∷ ls) i z c u j t)) k next st l n m text x e owns same go_on = enclose_controlled_by (OneConditional (IfElse (y ∷ ls) i z c u j t)) k next st l n m text x e go_on
enclose_controlled (OneConditional (IfLoop [] i z c f)) k next st l n m text x e owns same go_on = enclose_controlled_by (OneConditional (IfLoop [] i z c f)) k next st l n m text x e go_on
enclose_controlled (OneConditional (IfLoop (y ∷ ls) i z c f)) k next st l n m text x e owns same go_on = enclose_controlled_by (OneConditional (IfLoop (y ∷ ls) i z c f)) k next st l n m text x e go_on
enclose_controlled (OneLoop (MkLoop [] i z j u us d t)) k next st l n m text x e owns same go_on = enclose_controlled_by (OneLoop (MkLoop [] i z j u us d t)) k next st l n m text x e go_on
enclose_controlled (OneLoop (MkLoop (y ∷ ls) i z j u us d t)) k next st l n m text x e owns same go_on = enclose_controlled_by (OneLoop (MkLoop (y ∷ ls) i z j u us d t)) k next st l n m text x e go_on

empty_body : (k : List Symbol) (next : ℕ) (st : List StackEntry) (c : WriterState) → Begins k next → pass3_from true k (entry ShutProcedureBody 0 ∷ st) c ≡ shuts MBody next ∷ pass3 k st c
empty_body k next st c b = rw (b.is) (ap (λ i. shuts MBody i ∷ pass3 (b.first ∷ b.rest) st c) b.on)

enclose_body_by : (s : Statement) (k : List Symbol) (next : ℕ) (st : List StackEntry) (l n m : ℕ) (text : List Symbol → List Symbol) → HasSymbols s k next → EndsWhole k next → pass3 (spell_statement s k) (entry GStatement 0 ∷ entry ShutProcedureBody 0 ∷ st) (at l n) ≡ text (pass3 k (entry ShutProcedureBody 0 ∷ st) (at (last_statement s l) m)) → pass3 (spell_statement s k) (entry OpenProcedureBody 0 ∷ entry GStatement 0 ∷ entry ShutProcedureBody 0 ∷ st) (at l n) ≡ opens MBody (first_statement s next) ∷ text (shuts MBody (last_statement s next) ∷ pass3 k st (at (last_statement s l) m))
enclose_body_by s k next st l n m text x e go_on =
    open_procedure_body (spell_statement s k) (first_statement s next) false (entry GStatement 0 ∷ entry ShutProcedureBody 0 ∷ st) (at l n) x.begins
    ∙ ap (λ w. opens MBody (first_statement s next) ∷ w) (x.any (entry ShutProcedureBody 0 ∷ st) l n ∙ go_on ∙ ap text (shut_procedure_body k st (at (last_statement s l) m) (comes_of e.lower.expr) ∙ ap (λ a. shuts MBody a ∷ pass3 k st (at (last_statement s l) m)) (x.last l next)))

pub enclose_body : (s : Statement) (k : List Symbol) (next : ℕ) (st : List StackEntry) (l n m : ℕ) (text : List Symbol → List Symbol) → Enclosed s k next → EndsWhole k next → n + owns_in_statement s ≡ m → (is_empty s ≡ true → (w : List Symbol) → text w ≡ w) → pass3 (spell_statement s k) (entry GStatement 0 ∷ entry ShutProcedureBody 0 ∷ st) (at l n) ≡ text (pass3 k (entry ShutProcedureBody 0 ∷ st) (at (last_statement s l) m)) → pass3 (spell_statement s k) (entry OpenProcedureBody 0 ∷ entry GStatement 0 ∷ entry ShutProcedureBody 0 ∷ st) (at l n) ≡ opens MBody (first_statement s next) ∷ text (shuts MBody (last_statement s next) ∷ pass3 k st (at (last_statement s l) m))
enclose_body (OneUnconditional (MkUnconditional [] Dummy)) k next st l n m text x e owns same go_on =
    open_procedure_body k next false (entry GStatement 0 ∷ entry ShutProcedureBody 0 ∷ st) (at l n) e.lower.begins
    ∙ ap (λ w. opens MBody next ∷ w) (e.lower.none true [] (entry ShutProcedureBody 0 ∷ st) l n ∙ empty_body k next st (at l n) e.lower.begins ∙ ap (λ a. shuts MBody next ∷ pass3 k st (at l a)) (no_owns n m owns) ∙ back (same refl _))
enclose_body (OneUnconditional (MkUnconditional (z ∷ ls) v)) k next st l n m text x e owns same go_on = enclose_body_by (OneUnconditional (MkUnconditional (z ∷ ls) v)) k next st l n m text x e go_on
enclose_body (OneUnconditional (MkUnconditional [] (OneGroup (MkBlock i d c ds t ss j)))) k next st l n m text x e owns same go_on = enclose_body_by (OneUnconditional (MkUnconditional [] (OneGroup (MkBlock i d c ds t ss j)))) k next st l n m text x e go_on
enclose_body (OneUnconditional (MkUnconditional [] (OneGroup (MkCompound i t ss j)))) k next st l n m text x e owns same go_on = enclose_body_by (OneUnconditional (MkUnconditional [] (OneGroup (MkCompound i t ss j)))) k next st l n m text x e go_on
enclose_body (OneUnconditional (MkUnconditional [] (Assign q qs z))) k next st l n m text x e owns same go_on = enclose_body_by (OneUnconditional (MkUnconditional [] (Assign q qs z))) k next st l n m text x e go_on
enclose_body (OneUnconditional (MkUnconditional [] (Jump i z))) k next st l n m text x e owns same go_on = enclose_body_by (OneUnconditional (MkUnconditional [] (Jump i z))) k next st l n m text x e go_on
enclose_body (OneUnconditional (MkUnconditional [] (CallStatement (Alone z)))) k next st l n m text x e owns same go_on = enclose_body_by (OneUnconditional (MkUnconditional [] (CallStatement (Alone z)))) k next st l n m text x e go_on
enclose_body (OneUnconditional (MkUnconditional [] (CallStatement (WithActuals z i a more c)))) k next st l n m text x e owns same go_on = enclose_body_by (OneUnconditional (MkUnconditional [] (CallStatement (WithActuals z i a more c)))) k next st l n m text x e go_on
enclose_body (OneConditional (IfThen [] i z c u)) k next st l n m text x e owns same go_on = enclose_body_by (OneConditional (IfThen [] i z c u)) k next st l n m text x e go_on
enclose_body (OneConditional (IfThen (y ∷ ls) i z c u)) k next st l n m text x e owns same go_on = enclose_body_by (OneConditional (IfThen (y ∷ ls) i z c u)) k next st l n m text x e go_on
enclose_body (OneConditional (IfElse [] i z c u j t)) k next st l n m text x e owns same go_on = enclose_body_by (OneConditional (IfElse [] i z c u j t)) k next st l n m text x e go_on
enclose_body (OneConditional (IfElse (y ∷ ls) i z c u j t)) k next st l n m text x e owns same go_on = enclose_body_by (OneConditional (IfElse (y ∷ ls) i z c u j t)) k next st l n m text x e go_on
enclose_body (OneConditional (IfLoop [] i z c f)) k next st l n m text x e owns same go_on = enclose_body_by (OneConditional (IfLoop [] i z c f)) k next st l n m text x e go_on
enclose_body (OneConditional (IfLoop (y ∷ ls) i z c f)) k next st l n m text x e owns same go_on = enclose_body_by (OneConditional (IfLoop (y ∷ ls) i z c f)) k next st l n m text x e go_on
enclose_body (OneLoop (MkLoop [] i z j u us d t)) k next st l n m text x e owns same go_on = enclose_body_by (OneLoop (MkLoop [] i z j u us d t)) k next st l n m text x e go_on
enclose_body (OneLoop (MkLoop (y ∷ ls) i z j u us d t)) k next st l n m text x e owns same go_on = enclose_body_by (OneLoop (MkLoop (y ∷ ls) i z j u us d t)) k next st l n m text x e go_on

-- left parts and the right side
pub first_left : (os : List Name) (p : Places) (q : LeftSide) (b : ℕ) (k h : List Symbol) (st : List StackEntry) (l n : ℕ) → pass3 (spell_left q (word Becomes b ∷ k)) (entry GStatement 0 ∷ st) (lookahead h l n) ≡ h ++ text_left (marked os) p q (word Becomes b ∷ pass3 k (entry GRight 0 ∷ st) (at b n))
first_left os p (OneName x) b k h st l n = refl
first_left os p (LeftElement (Subscripted x i y ys m)) b k h st l n = ap (λ w. h ++ (ident x ∷ word LeftBracket i ∷ w)) (subscripted os p y ys m (entry GBecomes 0 ∷ st) (word Becomes b ∷ k) i n)

next_left : (os : List Name) (p : Places) (q : LeftSide) (b : ℕ) (k : List Symbol) (st : List StackEntry) (l n : ℕ) → pass3 (spell_left q (word Becomes b ∷ k)) (entry GRight 0 ∷ st) (at l n) ≡ text_left (marked os) p q (word Becomes b ∷ pass3 k (entry GRight 0 ∷ st) (at b n))
next_left os p (OneName x) b k st l n = refl
next_left os p (LeftElement (Subscripted x i y ys m)) b k st l n = ap (λ w. ident x ∷ word LeftBracket i ∷ w) (subscripted os p y ys m (entry GAfterRightElement 0 ∷ st) (word Becomes b ∷ k) i n)

pub right : (os : List Name) (p : Places) (qs : List LeftPart) (x : Expr) (k : List Symbol) (st : List StackEntry) (l n : ℕ) → EndsExpr k → pass3 (spell_lefts qs (spell_expr x k)) (entry GRight 0 ∷ st) (at l n) ≡ text_lefts (marked os) p qs (text_expr (marked os) p x (pass3 k st (at (last_expr x) n)))
right os p [] x k st l n e = expr os p WRight st x k false l n e
right os p (q ∷ qs) x k st l n e = next_left os p q.left q.becomes (spell_lefts qs (spell_expr x k)) st l n ∙ ap (λ w. text_left (marked os) p q.left (word Becomes q.becomes ∷ w)) (right os p qs x k st q.becomes n e)

-- the elements of a for list
pub turn : (os : List Name) (p : Places) (u : Turns) (k : List Symbol) (st : List StackEntry) (l n : ℕ) → EndsExpr k → Skips (entry GMayStep 0) k → pass3 (spell_turns u k) (entry OpenForElement 0 ∷ entry GExpression 0 ∷ entry GMayStep 0 ∷ entry ShutForElement 0 ∷ st) (at l n) ≡ text_turns (marked os) p u (pass3 k st (at (last_turns u) n))
turn os p (OneValue x) k st l n e skip =
    open_for_element (spell_expr x k) (first_expr x) false (entry GExpression 0 ∷ entry GMayStep 0 ∷ entry ShutForElement 0 ∷ st) (at l n) (begins_expr x k)
    ∙ ap (λ w. opens MForElement (first_expr x) ∷ w) (expr os p WExpression (entry GMayStep 0 ∷ entry ShutForElement 0 ∷ st) x k true l n e ∙ ap (text_expr (marked os) p x) (skip (entry ShutForElement 0 ∷ st) (last_expr x) n ∙ shut_for_element k st (at (last_expr x) n) (comes_of e)))
turn os p (StepUntil x i y j z) k st l n e skip =
    open_for_element (spell_expr x (word Step i ∷ spell_expr y (word Until j ∷ spell_expr z k))) (first_expr x) false (entry GExpression 0 ∷ entry GMayStep 0 ∷ entry ShutForElement 0 ∷ st) (at l n) (begins_expr x _)
    ∙ ap (λ w. opens MForElement (first_expr x) ∷ w) (expr os p WExpression (entry GMayStep 0 ∷ entry ShutForElement 0 ∷ st) x (word Step i ∷ spell_expr y (word Until j ∷ spell_expr z k)) true l n (ends_step i _)
    ∙ ap (λ w. text_expr (marked os) p x (word Step i ∷ w)) (expr os p WExpression (entry GUntil 0 ∷ entry GExpression 0 ∷ entry ShutForElement 0 ∷ st) y (word Until j ∷ spell_expr z k) false i n (ends_until j _)
    ∙ ap (λ w. text_expr (marked os) p y (word Until j ∷ w)) (expr os p WExpression (entry ShutForElement 0 ∷ st) z k false j n e ∙ ap (text_expr (marked os) p z) (shut_for_element k st (at (last_expr z) n) (comes_of e)))))
turn os p (WhileTrue x i y) k st l n e skip =
    open_for_element (spell_expr x (word While i ∷ spell_expr y k)) (first_expr x) false (entry GExpression 0 ∷ entry GMayStep 0 ∷ entry ShutForElement 0 ∷ st) (at l n) (begins_expr x _)
    ∙ ap (λ w. opens MForElement (first_expr x) ∷ w) (expr os p WExpression (entry GMayStep 0 ∷ entry ShutForElement 0 ∷ st) x (word While i ∷ spell_expr y k) true l n (ends_while i _)
    ∙ ap (λ w. text_expr (marked os) p x (word While i ∷ w)) (expr os p WExpression (entry ShutForElement 0 ∷ st) y k false i n e ∙ ap (text_expr (marked os) p y) (shut_for_element k st (at (last_expr y) n) (comes_of e))))

turns_end : (us : List NextTurns) (d : ℕ) (k : List Symbol) → EndsExpr (spell_next_turns us (word Do d ∷ k)) × Skips (entry GMayStep 0) (spell_next_turns us (word Do d ∷ k))
turns_end [] d k = (ends_do d k, λ st l n. refl)
turns_end (u ∷ us) d k = (ends_comma u.comma _, λ st l n. refl)

pub turns : (os : List Name) (p : Places) (u : Turns) (us : List NextTurns) (d : ℕ) (k : List Symbol) (st : List StackEntry) (l n : ℕ) → pass3 (spell_turns u (spell_next_turns us (word Do d ∷ k))) (entry OpenForElement 0 ∷ entry GExpression 0 ∷ entry GMayStep 0 ∷ entry ShutForElement 0 ∷ entry GForTail 0 ∷ st) (at l n) ≡ text_turns (marked os) p u (text_next_turns (marked os) p us (word Do d ∷ pass3 k (entry OpenControlledStatement 0 ∷ entry GStatement 0 ∷ entry ShutControlledStatement 0 ∷ entry ShutForStatement 0 ∷ st) (at d n)))
turns os p u [] d k st l n = turn os p u (word Do d ∷ k) (entry GForTail 0 ∷ st) l n (ends_do d k) (λ st l n. refl)
turns os p u (v ∷ us) d k st l n =
    let rest = spell_turns v.turns (spell_next_turns us (word Do d ∷ k)) in
    turn os p u (word Comma v.comma ∷ rest) (entry GForTail 0 ∷ st) l n (ends_comma v.comma rest) (λ st l n. refl)
    ∙ ap (λ w. text_turns (marked os) p u (word Comma v.comma ∷ w)) (turns os p v.turns us d k st v.comma n)

-- the elements of a switch
pub switch_elements : (os : List Name) (p : Places) (x : Expr) (xs : Exprs) (j : ℕ) (k : List Symbol) (st : List StackEntry) (l n : ℕ) → pass3 (spell_expr x (spell_exprs xs (word Semicolon j ∷ k))) (entry OpenSwitchElement 0 ∷ entry GExpression 0 ∷ entry ShutSwitchElement 0 ∷ entry GMoreSwitchElements 0 ∷ st) (at l n) ≡ text_switch_element (marked os) p x (text_switch_elements (marked os) p xs (pass3 (word Semicolon j ∷ k) st (at (last_exprs (last_expr x) xs) n)))
switch_elements os p x NoExprs j k st l n =
    open_switch_element (spell_expr x (word Semicolon j ∷ k)) (first_expr x) false (entry GExpression 0 ∷ entry ShutSwitchElement 0 ∷ entry GMoreSwitchElements 0 ∷ st) (at l n) (begins_expr x _)
    ∙ ap (λ w. opens MElement (first_expr x) ∷ w) (expr os p WExpression (entry ShutSwitchElement 0 ∷ entry GMoreSwitchElements 0 ∷ st) x (word Semicolon j ∷ k) true l n (ends_semicolon j k))
switch_elements os p x (MoreExprs i y ys) j k st l n =
    let rest = spell_expr y (spell_exprs ys (word Semicolon j ∷ k)) in
    open_switch_element (spell_expr x (word Comma i ∷ rest)) (first_expr x) false (entry GExpression 0 ∷ entry ShutSwitchElement 0 ∷ entry GMoreSwitchElements 0 ∷ st) (at l n) (begins_expr x _)
    ∙ ap (λ w. opens MElement (first_expr x) ∷ w) (expr os p WExpression (entry ShutSwitchElement 0 ∷ entry GMoreSwitchElements 0 ∷ st) x (word Comma i ∷ rest) true l n (ends_comma i rest)
    ∙ ap (λ w. text_expr (marked os) p x (shuts MElement (last_expr x) ∷ word Comma i ∷ w)) (switch_elements os p y ys j k st i n))
