-- Over the spelling of a program the pass writes text 3.
use Rattle.std.proofs.Common.{◌≡◌, ◌∙◌, ◌+◌, ◌-◌, ◌++◌, ℕ, zero, suc, Bool, true, false, List, [], ◌∷◌, length, refl, sym as back, ap, arith}
use Rattle.std.specs.Prelude.{Option, None, Some, map, nat_lt, if◌then◌else◌}
use Rattle.std.proofs.lemmas.Bool.Decides.{nat_tests}
use Rattle.std.proofs.lemmas.Bool.{false≢true}
use Rattle.gier_symbol.specs.declared.symbol.Symbol.{Symbol}
use Rattle.gier_symbol.specs.declared.tag.Tag.TheVariants.{Number, Comma, Colon, Semicolon, Becomes, LeftParenthesis, RightParenthesis, LeftBracket, RightBracket, Begin, End, If, Then, Else, For, Step, Until, While, Do, Goto, Array, Switch, Procedure, Value, Own, LabelColon, Declaring, Formal, ValueListed, Specified, OwnNumber, TextEnd}
use Rattle.gier_symbol.specs.ByTag.{sym, word}
use Rattle.gier_tree.specs.declared.construct.Construct.TheVariants.{Program as MProgram, Block as MBlock, Compound as MCompound, TypeDeclaration as MType, ArraySegment as MSegment, SwitchDeclaration as MSwitch, ProcedureDeclaration as MProcedure, ProcedureBody as MBody, ForStatement as MFor, ControlledStatement as MControlled, ConditionalStatement as MConditional, Bound as MBound, SwitchElement as MElement, ForElement as MForElement, GoTo as MGoTo, Subscript as MSubscript}
use Rattle.gier_tree.specs.Declaring.{list_of, own_names}
use Rattle.gier_tree.specs.Places.{Places}
use Rattle.gier_tree.specs.Spell.{ident, type_tag, spell_expr, spell_exprs, spell_call, spell_element, spell_actual, spell_actuals, spell_next_names, spell_names, spell_type, spell_option_type, spell_pair, spell_next_pairs, spell_segment, spell_next_segments, spell_constant, spell_fixed_pair, spell_further_pairs, spell_fixed, spell_next_fixed, spell_formals, spell_values, spell_specifier, spell_specifications, spell_heading, spell_labels, spell_left, spell_lefts, spell_turns, spell_next_turns, spell_declaration, spell_declarations, spell_group, spell_statements, spell_statement, spell_unconditional, spell_basic, spell_conditional, spell_loop, spell_program}
use Rattle.gier_tree.specs.Lines.{first_expr, last_expr, first_turns, last_turns, first_name, last_name, last_next_name, last_exprs, last_call, last_labelled, first_labelled, first_statement, last_statement, first_conditional, last_conditional, first_unconditional, last_unconditional, last_basic, first_loop, last_loop, first_heading, last_heading, last_values, last_specifications, group_begin, group_end, first_program}
use Rattle.gier_tree.specs.OwnCount.{owns_of_declaration, owns_of_declarations, owns_of_group, owns_of_statements, owns_of_statement, owns_of_unconditional, owns_of_basic, owns_of_conditional, owns_of_loop, owns_of_program, count_owns, owns_in_declaration, owns_in_declarations, owns_in_statement, owns_in_unconditional}
use Rattle.gier_tree.specs.Written.{Text, Marked, opens, shuts, leading_tag, text_name, text_expr, text_call, text_element, text_actual, text_actuals, text_subscripts, Expected, expected_kinds, further_expected}
use Rattle.gier_tree.specs.Texts.{next_names, names_as, own_place, next_owns, owns_as, text_bound, text_pair, text_pairs, text_segment, text_segments, text_constant, text_fixed_pair, text_further_pairs, text_fixed, fixed_count, text_fixeds, text_switch_element, text_switch_elements, text_formals, text_values, text_specifications, text_heading, text_labels, text_left, text_lefts, text_turn, text_turns, text_next_turns, text_call_statement, next_line, Where, further, behind_statement, behind_declaration, behind_declarations, inner, text_declaration, text_declarations, text_group, text_statements, text_statement, text_unconditional, text_basic, text_conditional, text_loop}
use Rattle.gier_tree.specs.Trees.{Name, Adding, Add, Subtract, Expr, OneSimple, IfExpr, Call, Alone, WithActuals, Element, Subscripted, Actual, Actuals, Exprs, NoExprs, MoreExprs, NextName, Names, MkNames, ValueType, IntegerType, BooleanType, TypeWord, BoundPair, MkPair, NextPair, Segment, MkSegment, NextSegment, Constant, Unsigned, WithSign, FixedPair, MkFixedPair, Further, NoFurther, MoreFurther, FurtherPairs, most_further, FixedSegment, MkFixed, NextFixed, Formals, NoFormals, FormalList, ValuePart, NoValues, ValueList, Specifier, ValueSpec, ArraySpec, LabelSpec, SwitchSpec, StringSpec, ProcedureSpec, FunctionSpec, Specification, Heading, MkHeading, LabelPlace, LeftSide, OneName, LeftElement, LeftPart, Turns, OneValue, StepUntil, WhileTrue, NextTurns, Declaration, DeclareType, DeclareOwn, DeclareArrays, DeclareOwnArrays, DeclareSwitch, DeclareProcedure, Declarations, NoDeclarations, MoreDeclarations, Group, MkBlock, MkCompound, Statements, NoStatements, MoreStatements, Statement, OneUnconditional, OneConditional, OneLoop, Unconditional, MkUnconditional, Basic, OneGroup, Assign, Jump, CallStatement, Dummy, Conditional, IfThen, IfElse, IfLoop, Loop, MkLoop, Program, MkProgram}
use Rattle.gier_grammar.specs.declared.grammar_symbol.GrammarSymbol.TheVariants.{OpenProgram, OpenArraySegment, OpenProcedureBody, OpenControlledStatement, OpenActual, OpenSubscript, OpenBound, OpenSwitchElement, OpenForElement, ShutProgram, ShutBlock, ShutCompound, ShutTypeDeclaration, ShutArraySegment, ShutSwitchDeclaration, ShutProcedureDeclaration, ShutProcedureBody, ShutForStatement, ShutControlledStatement, ShutConditionalStatement, ShutActual, ShutSubscript, ShutBound, ShutSwitchElement, ShutForElement, ShutGoTo, AfterOwnType as GAfterOwnType, Program as GProgram, ProgramColon as GProgramColon, TextEnd as GTextEnd, AfterBegin as GAfterBegin, BlockTail as GBlockTail, CompoundTail as GCompoundTail, FirstDeclared as GFirstDeclared, Declared as GDeclared, MoreDeclarations as GMoreDeclarations, OwnType as GOwnType, OwnName as GOwnName, MoreOwnNames as GMoreOwnNames, FixedBounds as GFixedBounds, FixedColon as GFixedColon, MorePairs as GMorePairs, MoreFixedSegments as GMoreFixedSegments, AfterType as GAfterType, Name as GName, MoreNames as GMoreNames, Bounds as GBounds, BoundColon as GBoundColon, BoundTail as GBoundTail, MoreSegments as GMoreSegments, SwitchBecomes as GSwitchBecomes, MoreSwitchElements as GMoreSwitchElements, MayFormals as GMayFormals, Formal as GFormal, FormalTail as GFormalTail, Heading as GHeading, MayValues as GMayValues, ValueName as GValueName, MoreValueNames as GMoreValueNames, Semicolon as GSemicolon, MoreSpecifications as GMoreSpecifications, MaySpecifier as GMaySpecifier, SpecifiedName as GSpecifiedName, MoreSpecifiedNames as GMoreSpecifiedNames, Statement as GStatement, AfterName as GAfterName, Branch as GBranch, AfterBranchName as GAfterBranchName, MayElse as GMayElse, ForVariable as GForVariable, ForBecomes as GForBecomes, MayStep as GMayStep, ForTail as GForTail, Until as GUntil, Becomes as GBecomes, Right as GRight, Expression as GExpression, Then as GThen, MaySign as GMaySign, Number as GNumber, SubscriptTail as GSubscriptTail, Actual as GActual, ActualTail as GActualTail}
use Rattle.gier_grammar.specs.declared.production.Production.TheVariants.{NextPair as RNextPair}
use Rattle.gier_grammar.specs.declared.stack_entry.StackEntry.{StackEntry}
use Rattle.gier_grammar.specs.declared.parse_table.ParseAction.TheVariants.{Error, Expand}
use Rattle.gier_text3.specs.PurePass.{WriterState, pass3, pass3_from}
use Rattle.gier_grammar.specs.StackEntries.{entry}
use Rattle.gier_text3.proofs.Operands.{at, tail, Skips, Begins, Comes, Same, EndsExpr, WExpression, WActual, WRight, ends_comma, ends_colon, ends_semicolon, ends_right_bracket, ends_then, ends_else, ends_end, ends_step, ends_until, ends_while, ends_do, open_bound, shut_bound, open_array_segment, shut_array_segment, open_switch_element, shut_switch_element, open_for_element, shut_for_element, open_procedure_body, shut_procedure_body, open_controlled_statement, shut_controlled_statement, shut_procedure_declaration, shut_switch_declaration, shut_type_declaration, shut_for_statement, shut_conditional_statement, shut_go_to, shut_block, shut_compound, shut_program}
use Rattle.gier_text3.proofs.Expressions.{marked, begins_expr, expr, called, subscripted, name_same, exprs_end}
use Rattle.std.proofs.Common.{length-append}
use Rattle.gier_tree.specs.Declaring.{names_of_fixed, names_of_fixeds}
use Rattle.gier_tree.specs.Texts.{entries_of_all}
use Rattle.gier_tree.specs.Places.{program_places, block_places, procedure_places, turn_places}
use Rattle.gier_tree.specs.Entries.{entries_numbers, program_entries, block_entries, procedure_entries, turn_entries, numbers_unconditional}
use Rattle.gier_tree.specs.TextsOf.{names_of_owns, text_program, text_by, text3}
use Rattle.gier_text3.specs.PurePass.{pass3_text}
use Rattle.gier_text3.proofs.Operands.{open_program}
use Rattle.gier_text3.proofs.Parts.{comes_of, more_names, more_owns, all_segments, fixed, fixeds, fixeds_come, fixeds_count, formals, values, specifications, last_segment, last_segments, last_fixed, last_fixeds, last_formals}
use Rattle.gier_text3.proofs.Statements.{lookahead, named, Headless, EndsStatement, EndsWhole, statement_else, whole_semicolon, statements_end, labels_ahead, labels_text, if_taken, for_taken, branch, loop_branch, compound, headless, enclosed, enclose_controlled, enclose_body, is_empty, no_owns, first_left, right, turns, switch_elements}

-- how many own quantities there are in parts
mutual
  owns_declaration : (x : Declaration) (r : List Declaration) → count_owns (owns_of_declaration x r) ≡ count_owns (owns_of_declaration x []) + count_owns r
  owns_declaration (DeclareType t ns) r = omega arith
  owns_declaration (DeclareOwn l t ns) r = omega arith
  owns_declaration (DeclareArrays t l s ss) r = omega arith
  owns_declaration (DeclareOwnArrays k t l s ss) r = omega arith
  owns_declaration (DeclareSwitch l x m e es) r = omega arith
  owns_declaration (DeclareProcedure h s) r = owns_statement s r

  owns_declarations : (x : Declarations) (r : List Declaration) → count_owns (owns_of_declarations x r) ≡ count_owns (owns_of_declarations x []) + count_owns r
  owns_declarations NoDeclarations r = omega arith
  owns_declarations (MoreDeclarations d l ds) r = omega (arith, owns_declaration d (owns_of_declarations ds r), owns_declaration d (owns_of_declarations ds []), owns_declarations ds r)

  owns_group : (x : Group) (r : List Declaration) → count_owns (owns_of_group x r) ≡ count_owns (owns_of_group x []) + count_owns r
  owns_group (MkBlock l d m ds s ss n) r = omega (arith, owns_declaration d (owns_of_declarations ds (owns_of_statement s (owns_of_statements ss r))), owns_declarations ds (owns_of_statement s (owns_of_statements ss r)), owns_statement s (owns_of_statements ss r), owns_statements ss r, owns_declaration d (owns_of_declarations ds (owns_of_statement s (owns_of_statements ss []))), owns_declarations ds (owns_of_statement s (owns_of_statements ss [])), owns_statement s (owns_of_statements ss []))
  owns_group (MkCompound l s ss m) r = omega (arith, owns_statement s (owns_of_statements ss r), owns_statements ss r, owns_statement s (owns_of_statements ss []))

  owns_statements : (x : Statements) (r : List Declaration) → count_owns (owns_of_statements x r) ≡ count_owns (owns_of_statements x []) + count_owns r
  owns_statements NoStatements r = omega arith
  owns_statements (MoreStatements l s ss) r = omega (arith, owns_statement s (owns_of_statements ss r), owns_statements ss r, owns_statement s (owns_of_statements ss []))

  owns_statement : (x : Statement) (r : List Declaration) → count_owns (owns_of_statement x r) ≡ count_owns (owns_of_statement x []) + count_owns r
  owns_statement (OneUnconditional u) r = owns_unconditional u r
  owns_statement (OneConditional c) r = owns_conditional c r
  owns_statement (OneLoop f) r = owns_loop f r

  owns_unconditional : (x : Unconditional) (r : List Declaration) → count_owns (owns_of_unconditional x r) ≡ count_owns (owns_of_unconditional x []) + count_owns r
  owns_unconditional (MkUnconditional ls b) r = owns_basic b r

  owns_basic : (x : Basic) (r : List Declaration) → count_owns (owns_of_basic x r) ≡ count_owns (owns_of_basic x []) + count_owns r
  owns_basic (OneGroup g) r = owns_group g r
  owns_basic (Assign p ps e) r = omega arith
  owns_basic (Jump l e) r = omega arith
  owns_basic (CallStatement c) r = omega arith
  owns_basic Dummy r = omega arith

  owns_conditional : (x : Conditional) (r : List Declaration) → count_owns (owns_of_conditional x r) ≡ count_owns (owns_of_conditional x []) + count_owns r
  owns_conditional (IfThen ls l e m u) r = owns_unconditional u r
  owns_conditional (IfElse ls l e m u n s) r = omega (arith, owns_unconditional u (owns_of_statement s r), owns_unconditional u (owns_of_statement s []), owns_statement s r)
  owns_conditional (IfLoop ls l e m f) r = owns_loop f r

  owns_loop : (x : Loop) (r : List Declaration) → count_owns (owns_of_loop x r) ≡ count_owns (owns_of_loop x []) + count_owns r
  owns_loop (MkLoop ls l x m t ts n s) r = owns_statement s r

count_fixed : (s : FixedSegment) → length (names_of_fixed s) ≡ fixed_count s
count_fixed (MkFixed ns l q qs m) = refl

count_fixeds : (ss : List NextFixed) → length (names_of_fixeds ss) ≡ fixeds_count ss
count_fixeds [] = refl
count_fixeds (s ∷ ss) = omega (arith, length-append (names_of_fixed s.segment) (names_of_fixeds ss), count_fixed s.segment, count_fixeds ss)

count_names : (ds : List Declaration) → length (names_of_owns ds) ≡ count_owns ds
count_names [] = refl
count_names (d ∷ ds) = omega (arith, length-append (own_names d) (names_of_owns ds), count_names ds)

-- where a declaration may begin: it is the first one of a block, whose `_begin` is in the lookahead, or a further one
data Place : Type 0 where
  First : (begin : ℕ) → Place
  Next : Place

abbrev before_it : Place → List StackEntry → List StackEntry
before_it (First b) st = entry GAfterBegin 0 ∷ st
before_it Next st = entry GMoreDeclarations 0 ∷ st

abbrev after_it : Place → List StackEntry → List StackEntry
after_it (First b) st = entry GFirstDeclared 0 ∷ st
after_it Next st = entry GDeclared 0 ∷ st

abbrev behind_it : Place → List StackEntry → List StackEntry
behind_it (First b) st = entry GMoreDeclarations 0 ∷ entry GStatement 0 ∷ entry GBlockTail 0 ∷ st
behind_it Next st = entry GMoreDeclarations 0 ∷ st

abbrev held_before : Place → List Symbol
held_before (First b) = word Begin b ∷ []
held_before Next = []

abbrev opening : Place → List Symbol → List Symbol
opening (First b) rest = opens MBlock b ∷ word Begin b ∷ rest
opening Next rest = rest

take_type : (a : Place) (t : ValueType) (i : ℕ) (k : List Symbol) (st : List StackEntry) (l n : ℕ) → pass3 (word (type_tag t) i ∷ k) (before_it a st) (lookahead (held_before a) l n) ≡ opening a (pass3 k (entry GAfterType 0 ∷ after_it a st) (lookahead (word (type_tag t) i ∷ []) i n))
take_type (First b) IntegerType i k st l n = refl
take_type (First b) BooleanType i k st l n = refl
take_type Next IntegerType i k st l n = refl
take_type Next BooleanType i k st l n = refl

take_own : (a : Place) (i : ℕ) (t : ValueType) (j : ℕ) (k : List Symbol) (st : List StackEntry) (l n : ℕ) → pass3 (word Own i ∷ word (type_tag t) j ∷ k) (before_it a st) (lookahead (held_before a) l n) ≡ opening a (pass3 k (entry GAfterOwnType 0 ∷ after_it a st) (lookahead (word Own i ∷ word (type_tag t) j ∷ []) j n))
take_own (First b) i IntegerType j k st l n = refl
take_own (First b) i BooleanType j k st l n = refl
take_own Next i IntegerType j k st l n = refl
take_own Next i BooleanType j k st l n = refl

take_switch : (a : Place) (i : ℕ) (k : List Symbol) (st : List StackEntry) (l n : ℕ) → pass3 (word Switch i ∷ k) (before_it a st) (lookahead (held_before a) l n) ≡ opening a (opens MSwitch i ∷ word Switch i ∷ pass3 k (entry GName 0 ∷ entry GSwitchBecomes 0 ∷ entry ShutSwitchDeclaration 0 ∷ after_it a st) (at i n))
take_switch (First b) i k st l n = refl
take_switch Next i k st l n = refl

take_procedure : (a : Place) (i : ℕ) (k : List Symbol) (st : List StackEntry) (l n : ℕ) → pass3 (word Procedure i ∷ k) (before_it a st) (lookahead (held_before a) l n) ≡ opening a (opens MProcedure i ∷ word Procedure i ∷ pass3 k (entry GName 0 ∷ entry GMayFormals 0 ∷ entry GHeading 0 ∷ entry ShutProcedureDeclaration 0 ∷ after_it a st) (at i n))
take_procedure (First b) i k st l n = refl
take_procedure Next i k st l n = refl

-- a declaration ends with its `;`
take_end : (a : Place) (j : ℕ) (k : List Symbol) (st : List StackEntry) (l n : ℕ) → pass3 (word Semicolon j ∷ k) (after_it a st) (at l n) ≡ word Semicolon j ∷ pass3 k (behind_it a st) (at j n)
take_end (First b) j k st l n = refl
take_end Next j k st l n = refl

-- the rest of a list of statements
data Tail : Type 0 where
  TBlock : Tail
  TCompound : Tail

abbrev more_of : Tail → List StackEntry → List StackEntry
more_of TBlock st = entry GBlockTail 0 ∷ st
more_of TCompound st = entry GCompoundTail 0 ∷ st

abbrev shut_of : Tail → List StackEntry → List StackEntry
shut_of TBlock st = entry ShutBlock 0 ∷ st
shut_of TCompound st = entry ShutCompound 0 ∷ st

take_next : (t : Tail) (j : ℕ) (k : List Symbol) (st : List StackEntry) (l n : ℕ) → pass3 (word Semicolon j ∷ k) (more_of t st) (at l n) ≡ word Semicolon j ∷ pass3 k (entry GStatement 0 ∷ more_of t st) (at j n)
take_next TBlock j k st l n = refl
take_next TCompound j k st l n = refl

take_last : (t : Tail) (j : ℕ) (k : List Symbol) (st : List StackEntry) (l n : ℕ) → pass3 (word End j ∷ k) (more_of t st) (at l n) ≡ word End j ∷ pass3 k (shut_of t st) (at j n)
take_last TBlock j k st l n = refl
take_last TCompound j k st l n = refl

-- headings
specified_headless : (ss : List Specification) (k : List Symbol) → Headless k → Skips (entry GMayValues 0) (spell_specifications ss k)
specified_headless [] k e = e.values
specified_headless (s ∷ ss) k e = one_headless s.specifier _
  where
    typed_headless : (t : ValueType) (i : ℕ) (k : List Symbol) → Skips (entry GMayValues 0) (word (type_tag t) i ∷ k)
    typed_headless IntegerType i k = λ st l n. refl
    typed_headless BooleanType i k = λ st l n. refl

    one_headless : (s : Specifier) (k : List Symbol) → Skips (entry GMayValues 0) (spell_specifier s k)
    one_headless (ValueSpec t) k = typed_headless t.type t.line k
    one_headless (ArraySpec t l) k = typed_headless t.type t.line (word Array l ∷ k)
    one_headless (LabelSpec l) k = λ st l n. refl
    one_headless (SwitchSpec l) k = λ st l n. refl
    one_headless (StringSpec l) k = λ st l n. refl
    one_headless (ProcedureSpec l) k = λ st l n. refl
    one_headless (FunctionSpec t l) k = typed_headless t.type t.line (word Procedure l ∷ k)

heading_rest : (x : Name) (fs : Formals) (m : ℕ) (vs : ValuePart) (ss : List Specification) (k : List Symbol) (st : List StackEntry) (l n : ℕ) → Headless k → pass3 (ident x ∷ spell_formals fs (word Semicolon m ∷ spell_values vs (spell_specifications ss k))) (entry GName 0 ∷ entry GMayFormals 0 ∷ entry GHeading 0 ∷ st) (at l n) ≡ sym Declaring x.number x.line ∷ text_formals fs (word Semicolon m ∷ text_values vs (text_specifications ss (pass3 k (entry OpenProcedureBody 0 ∷ entry GStatement 0 ∷ entry ShutProcedureBody 0 ∷ st) (at (last_specifications ss (last_values vs m)) n))))
heading_rest x fs m vs ss k st l n e =
    ap (λ w. sym Declaring x.number x.line ∷ w) (formals fs (word Semicolon m ∷ spell_values vs (spell_specifications ss k)) (entry GHeading 0 ∷ st) x.line n (λ st l n. refl)
    ∙ ap (λ w. text_formals fs (word Semicolon m ∷ w)) (values vs (spell_specifications ss k) (entry GMoreSpecifications 0 ∷ entry OpenProcedureBody 0 ∷ entry GStatement 0 ∷ entry ShutProcedureBody 0 ∷ st) m n (specified_headless ss k e)
    ∙ ap (text_values vs) (specifications ss k (entry OpenProcedureBody 0 ∷ entry GStatement 0 ∷ entry ShutProcedureBody 0 ∷ st) (last_values vs m) n e.specifications)))

abbrev last_declarations : (line : ℕ) → Declarations → ℕ
last_declarations line NoDeclarations = line
last_declarations line (MoreDeclarations d j ds) = last_declarations j ds

-- in text 3 there are no entries
no_entries : (ds : Declarations) (i line : ℕ) (rest : List Symbol) → entries_of_all Marked ds i line rest ≡ rest
no_entries NoDeclarations i line rest = refl
no_entries (MoreDeclarations d j ds) i line rest = no_entries ds (i + owns_in_declaration d) line rest

empty_text : (os : List Name) (p : Places) (w : Where) (next : ℕ) (s : Statement) → is_empty s ≡ true → (k : List Symbol) → text_statement (marked os) p w next s k ≡ k
empty_text os p w next (OneUnconditional (MkUnconditional [] Dummy)) h k = refl
empty_text os p w next _ h k = absurd (false≢true h)

declarations_headless : (ds : Declarations) (k : List Symbol) → Headless k → Skips (entry GMoreDeclarations 0) k
declarations_headless ds k e = e.declarations

mutual
  declaration : (os : List Name) (p : Places) (w : Where) (a : Place) (x : Declaration) (j : ℕ) (k : List Symbol) (st : List StackEntry) (l n m : ℕ) → w.owns ≡ n → n + owns_in_declaration x ≡ m → pass3 (spell_declaration x (word Semicolon j ∷ k)) (before_it a st) (lookahead (held_before a) l n) ≡ opening a (text_declaration (marked os) p w j x (word Semicolon j ∷ pass3 k (behind_it a st) (at j m)))
  declaration os p w a (DeclareType y (MkNames x xs)) j k st l n m e f =
      take_type a y.type y.line (ident x ∷ spell_next_names xs (word Semicolon j ∷ k)) st l n
      ∙ ap (λ z. opening a (opens MType y.line ∷ word (type_tag y.type) y.line ∷ sym Declaring x.number x.line ∷ z)) (more_names xs (word Semicolon j ∷ k) (entry ShutTypeDeclaration 0 ∷ after_it a st) x.line n (λ st l n. refl)
      ∙ ap (λ z. next_names Declaring xs (shuts MType (last_next_name x.line xs) ∷ z)) (take_end a j k st (last_next_name x.line xs) n ∙ ap (λ b. word Semicolon j ∷ pass3 k (behind_it a st) (at j b)) (no_owns n m f)))
  declaration os p w a (DeclareOwn i y (MkNames x xs)) j k st l n m e f =
      take_own a i y.type y.line (ident x ∷ spell_next_names xs (word Semicolon j ∷ k)) st l n
      ∙ ap (λ z. opening a (opens MType i ∷ word Own i ∷ word (type_tag y.type) y.line ∷ sym Declaring x.number x.line ∷ sym OwnNumber n x.line ∷ z)) (more_owns xs (word Semicolon j ∷ k) (entry ShutTypeDeclaration 0 ∷ after_it a st) x.line (suc n) (λ st l n. refl)
      ∙ ap (λ z. next_owns xs (suc n) (shuts MType (last_next_name x.line xs) ∷ z)) (take_end a j k st (last_next_name x.line xs) _ ∙ ap (λ b. word Semicolon j ∷ pass3 k (behind_it a st) (at j b)) (omega (arith, f))))
      ∙ ap (λ b. opening a (opens MType i ∷ word Own i ∷ word (type_tag y.type) y.line ∷ owns_as (MkNames x xs) b (shuts MType (last_next_name x.line xs) ∷ word Semicolon j ∷ pass3 k (behind_it a st) (at j m)))) (back e)
  declaration os p w a (DeclareArrays y i s ss) j k st l n m e f =
      take_type a y.type y.line (word Array i ∷ spell_segment s (spell_next_segments ss (word Semicolon j ∷ k))) st l n
      ∙ ap (λ z. opening a (word (type_tag y.type) y.line ∷ word Array i ∷ z)) (all_segments os p s ss (word Semicolon j ∷ k) (after_it a st) i n (word Semicolon j, (k, refl)) (λ st l n. refl)
      ∙ ap (λ z. text_segment (marked os) p s (text_segments (marked os) p ss z)) (take_end a j k st _ n ∙ ap (λ b. word Semicolon j ∷ pass3 k (behind_it a st) (at j b)) (no_owns n m f)))
  declaration os p w a (DeclareOwnArrays i y h s ss) j k st l n m e f =
      take_own a i y.type y.line (word Array h ∷ spell_fixed s (spell_next_fixed ss (word Semicolon j ∷ k))) st l n
      ∙ ap (λ z. opening a (word Own i ∷ word (type_tag y.type) y.line ∷ word Array h ∷ z)) (fixed s (spell_next_fixed ss (word Semicolon j ∷ k)) (entry GMoreFixedSegments 0 ∷ after_it a st) h n (fixeds_come ss (word Semicolon j ∷ k) (word Semicolon j, (k, refl)))
      ∙ ap (text_fixed s n) (fixeds ss (word Semicolon j ∷ k) (after_it a st) (last_fixed s) (n + fixed_count s) (word Semicolon j, (k, refl)) (λ st l n. refl)
      ∙ ap (text_fixeds ss (n + fixed_count s)) (take_end a j k st _ _ ∙ ap (λ b. word Semicolon j ∷ pass3 k (behind_it a st) (at j b)) (omega (arith, f, length-append (names_of_fixed s) (names_of_fixeds ss), count_fixed s, count_fixeds ss)))))
      ∙ ap (λ b. opening a (word Own i ∷ word (type_tag y.type) y.line ∷ word Array h ∷ text_fixed s b (text_fixeds ss (b + fixed_count s) (word Semicolon j ∷ pass3 k (behind_it a st) (at j m))))) (back e)
  declaration os p w a (DeclareSwitch i x b y ys) j k st l n m e f =
      take_switch a i (ident x ∷ word Becomes b ∷ spell_expr y (spell_exprs ys (word Semicolon j ∷ k))) st l n
      ∙ ap (λ z. opening a (opens MSwitch i ∷ word Switch i ∷ sym Declaring x.number x.line ∷ word Becomes b ∷ z)) (switch_elements os p y ys j k (entry ShutSwitchDeclaration 0 ∷ after_it a st) b n
      ∙ ap (λ z. text_switch_element (marked os) p y (text_switch_elements (marked os) p ys (shuts MSwitch (last_exprs (last_expr y) ys) ∷ z))) (take_end a j k st (last_exprs (last_expr y) ys) n ∙ ap (λ b. word Semicolon j ∷ pass3 k (behind_it a st) (at j b)) (no_owns n m f)))
  declaration os p w a (DeclareProcedure (MkHeading None i x fs c vs ss) s) j k st l n m e f =
      let h = MkHeading None i x fs c vs ss in
      let q = procedure_places (suc w.level) w.numbers h s p in
      let v = inner w (procedure_entries h s) in
      let from = last_specifications ss (last_values vs c) in
      take_procedure a i (ident x ∷ spell_formals fs (word Semicolon c ∷ spell_values vs (spell_specifications ss (spell_statement s (word Semicolon j ∷ k))))) st l n
      ∙ ap (λ z. opening a (opens MProcedure i ∷ word Procedure i ∷ z)) (heading_rest x fs c vs ss (spell_statement s (word Semicolon j ∷ k)) (entry ShutProcedureDeclaration 0 ∷ after_it a st) i n (headless s (word Semicolon j ∷ k) j (whole_semicolon j k))
      ∙ ap (λ z. sym Declaring x.number x.line ∷ text_formals fs (word Semicolon c ∷ text_values vs (text_specifications ss z))) (enclose_body s (word Semicolon j ∷ k) j (entry ShutProcedureDeclaration 0 ∷ after_it a st) from n m (text_statement (marked os) q v j s) (enclosed s _ j) (whole_semicolon j k) f (empty_text os q v j s) (statement os q v s (word Semicolon j ∷ k) j (entry ShutProcedureBody 0 ∷ entry ShutProcedureDeclaration 0 ∷ after_it a st) from n m e f (whole_semicolon j k))
      ∙ ap (λ z. opens MBody (first_statement s j) ∷ text_statement (marked os) q v j s (shuts MBody (last_statement s j) ∷ shuts MProcedure (last_statement s from) ∷ z)) (take_end a j k st _ m)))
  declaration os p w a (DeclareProcedure (MkHeading (Some y) i x fs c vs ss) s) j k st l n m e f =
      let h = MkHeading (Some y) i x fs c vs ss in
      let q = procedure_places (suc w.level) w.numbers h s p in
      let v = inner w (procedure_entries h s) in
      let from = last_specifications ss (last_values vs c) in
      take_type a y.type y.line (word Procedure i ∷ ident x ∷ spell_formals fs (word Semicolon c ∷ spell_values vs (spell_specifications ss (spell_statement s (word Semicolon j ∷ k))))) st l n
      ∙ ap (λ z. opening a (opens MProcedure y.line ∷ word (type_tag y.type) y.line ∷ word Procedure i ∷ z)) (heading_rest x fs c vs ss (spell_statement s (word Semicolon j ∷ k)) (entry ShutProcedureDeclaration 0 ∷ after_it a st) i n (headless s (word Semicolon j ∷ k) j (whole_semicolon j k))
      ∙ ap (λ z. sym Declaring x.number x.line ∷ text_formals fs (word Semicolon c ∷ text_values vs (text_specifications ss z))) (enclose_body s (word Semicolon j ∷ k) j (entry ShutProcedureDeclaration 0 ∷ after_it a st) from n m (text_statement (marked os) q v j s) (enclosed s _ j) (whole_semicolon j k) f (empty_text os q v j s) (statement os q v s (word Semicolon j ∷ k) j (entry ShutProcedureBody 0 ∷ entry ShutProcedureDeclaration 0 ∷ after_it a st) from n m e f (whole_semicolon j k))
      ∙ ap (λ z. opens MBody (first_statement s j) ∷ text_statement (marked os) q v j s (shuts MBody (last_statement s j) ∷ shuts MProcedure (last_statement s from) ∷ z)) (take_end a j k st _ m)))

  declarations : (os : List Name) (p : Places) (w : Where) (xs : Declarations) (k : List Symbol) (st : List StackEntry) (l n m : ℕ) → w.owns ≡ n → n + owns_in_declarations xs ≡ m → Headless k → pass3 (spell_declarations xs k) (entry GMoreDeclarations 0 ∷ st) (at l n) ≡ text_declarations (marked os) p w xs (pass3 k st (at (last_declarations l xs) m))
  declarations os p w NoDeclarations k st l n m e f h = h.declarations st l n ∙ ap (λ b. pass3 k st (at l b)) (no_owns n m f)
  declarations os p w (MoreDeclarations d j ds) k st l n m e f h =
      declaration os p w Next d j (spell_declarations ds k) st l n (n + owns_in_declaration d) e refl
      ∙ ap (λ z. text_declaration (marked os) p w j d (word Semicolon j ∷ z)) (declarations os p (behind_declaration w d) ds k st j (n + owns_in_declaration d) m (ap (λ b. b + owns_in_declaration d) e) (omega (arith, f, owns_declaration d (owns_of_declarations ds []))) h)

  group : (os : List Name) (p : Places) (w : Where) (x : Group) (k h : List Symbol) (st : List StackEntry) (l n m : ℕ) → w.owns ≡ n → n + count_owns (owns_of_group x []) ≡ m → Comes k → pass3 (spell_group x k) (entry GStatement 0 ∷ st) (lookahead h l n) ≡ h ++ text_group (marked os) p w x (pass3 k st (at (group_end x) m))
  group os p w (MkBlock i d c ds s ss z) k h st l n m e f comes =
      let q = block_places (suc w.level) w.numbers d ds s ss p in
      let w1 = inner w (block_entries d ds s ss) in
      let w2 = behind_declaration w1 d in
      let w3 = behind_declarations w2 ds in
      let n2 = n + owns_in_declaration d in
      let n3 = n2 + owns_in_declarations ds in
      let e2 : w2.owns ≡ n2 = ap (λ b. b + owns_in_declaration d) e in
      let e3 : w3.owns ≡ n3 = ap (λ b. b + owns_in_declarations ds) e2 in
      let e4 : (behind_statement w3 s).owns ≡ n3 + owns_in_statement s = ap (λ b. b + owns_in_statement s) e3 in
      let last = spell_statements ss (word End z ∷ k) in
      let ends = statements_end ss z k in
      ap (λ y. h ++ y) (declaration os q w1 (First i) d c (spell_declarations ds (spell_statement s last)) st i n n2 e refl
      ∙ ap (λ y. opens MBlock i ∷ word Begin i ∷ text_declaration (marked os) q w1 c d (word Semicolon c ∷ y)) (declarations os q w2 ds (spell_statement s last) (entry GStatement 0 ∷ entry GBlockTail 0 ∷ st) c n2 n3 e2 refl (headless s last (next_line ss z) ends)
      ∙ ap (text_declarations (marked os) q w2 ds) (statement os q w3 s last (next_line ss z) (entry GBlockTail 0 ∷ st) _ n3 (n3 + owns_in_statement s) e3 refl ends
      ∙ ap (text_statement (marked os) q w3 (next_line ss z) s) (statements os q (behind_statement w3 s) TBlock ss z k st _ (n3 + owns_in_statement s) m e4 (omega (arith, f, owns_declaration d (owns_of_declarations ds (owns_of_statement s (owns_of_statements ss []))), owns_declarations ds (owns_of_statement s (owns_of_statements ss [])), owns_statement s (owns_of_statements ss [])))
      ∙ ap (λ y. text_statements (marked os) q (behind_statement w3 s) z ss (word End z ∷ y)) (shut_block k st (at z m) comes))))
      ∙ ap (λ y. opens MBlock i ∷ y) (back (no_entries ds _ i _)))
  group os p w (MkCompound i s ss z) k h st l n m e f comes =
      let last = spell_statements ss (word End z ∷ k) in
      let ends = statements_end ss z k in
      let n2 = n + owns_in_statement s in
      ap (λ y. h ++ y) (compound s last (next_line ss z) i st i n ends
      ∙ ap (λ y. opens MCompound i ∷ word Begin i ∷ y) (statement os p w s last (next_line ss z) (entry GCompoundTail 0 ∷ st) i n n2 e refl ends
      ∙ ap (text_statement (marked os) p w (next_line ss z) s) (statements os p (behind_statement w s) TCompound ss z k st _ n2 m (ap (λ b. b + owns_in_statement s) e) (omega (arith, f, owns_statement s (owns_of_statements ss [])))
      ∙ ap (λ y. text_statements (marked os) p (behind_statement w s) z ss (word End z ∷ y)) (shut_compound k st (at z m) comes))))

  statements : (os : List Name) (p : Places) (w : Where) (t : Tail) (xs : Statements) (z : ℕ) (k : List Symbol) (st : List StackEntry) (l n m : ℕ) → w.owns ≡ n → n + count_owns (owns_of_statements xs []) ≡ m → pass3 (spell_statements xs (word End z ∷ k)) (more_of t st) (at l n) ≡ text_statements (marked os) p w z xs (word End z ∷ pass3 k (shut_of t st) (at z m))
  statements os p w t NoStatements z k st l n m e f = take_last t z k st l n ∙ ap (λ b. word End z ∷ pass3 k (shut_of t st) (at z b)) (no_owns n m f)
  statements os p w t (MoreStatements j s ss) z k st l n m e f =
      take_next t j (spell_statement s (spell_statements ss (word End z ∷ k))) st l n
      ∙ ap (λ y. word Semicolon j ∷ y) (statement os p w s (spell_statements ss (word End z ∷ k)) (next_line ss z) (more_of t st) j n (n + owns_in_statement s) e refl (statements_end ss z k)
      ∙ ap (text_statement (marked os) p w (next_line ss z) s) (statements os p (behind_statement w s) t ss z k st _ (n + owns_in_statement s) m (ap (λ b. b + owns_in_statement s) e) (omega (arith, f, owns_statement s (owns_of_statements ss [])))))

  statement : (os : List Name) (p : Places) (w : Where) (x : Statement) (k : List Symbol) (next : ℕ) (st : List StackEntry) (l n m : ℕ) → w.owns ≡ n → n + owns_in_statement x ≡ m → EndsWhole k next → pass3 (spell_statement x k) (entry GStatement 0 ∷ st) (at l n) ≡ text_statement (marked os) p w next x (pass3 k st (at (last_statement x l) m))
  statement os p w (OneUnconditional u) k next st l n m e f ends = unconditional os p w u k next st l n m e f ends.lower
  statement os p w (OneConditional c) k next st l n m e f ends = conditional os p w c k next st l n m e f ends
  statement os p w (OneLoop x) k next st l n m e f ends = loop os p w x k next st l n m e f ends

  unconditional : (os : List Name) (p : Places) (w : Where) (x : Unconditional) (k : List Symbol) (next : ℕ) (st : List StackEntry) (l n m : ℕ) → w.owns ≡ n → n + owns_in_unconditional x ≡ m → EndsStatement k next → pass3 (spell_unconditional x k) (entry GStatement 0 ∷ st) (at l n) ≡ text_unconditional (marked os) p w next x (pass3 k st (at (last_unconditional x l) m))
  unconditional os p w (MkUnconditional ls b) k next st l n m e f ends = labels_ahead ls (spell_basic b k) [] st l n ∙ basic os p w b k (text_labels ls []) next st (last_labelled ls l) n m e f ends ∙ labels_text ls _

  basic : (os : List Name) (p : Places) (w : Where) (x : Basic) (k h : List Symbol) (next : ℕ) (st : List StackEntry) (l n m : ℕ) → w.owns ≡ n → n + count_owns (owns_of_basic x []) ≡ m → EndsStatement k next → pass3 (spell_basic x k) (entry GStatement 0 ∷ st) (lookahead h l n) ≡ h ++ text_basic (marked os) p w x (pass3 k st (at (last_basic x l) m))
  basic os p w (OneGroup g) k h next st l n m e f ends = group os p w g k h st l n m e f (comes_of ends.expr)
  basic os p w (Assign q qs x) k h next st l n m e f ends =
      first_left os p q.left q.becomes (spell_lefts qs (spell_expr x k)) h st l n
      ∙ ap (λ y. h ++ text_left (marked os) p q.left (word Becomes q.becomes ∷ y)) (right os p qs x k st q.becomes n ends.expr ∙ ap (λ b. text_lefts (marked os) p qs (text_expr (marked os) p x (pass3 k st (at (last_expr x) b)))) (no_owns n m f))
  basic os p w (Jump i x) k h next st l n m e f ends =
      ap (λ y. h ++ (opens MGoTo i ∷ word Goto i ∷ y)) (expr os p WExpression (entry ShutGoTo 0 ∷ st) x k false i n ends.expr ∙ ap (text_expr (marked os) p x) (shut_go_to k st (at (last_expr x) n) (comes_of ends.expr) ∙ ap (λ b. shuts MGoTo (last_expr x) ∷ pass3 k st (at (last_expr x) b)) (no_owns n m f)))
  basic os p w (CallStatement (Alone x)) k h next st l n m e f ends = ends.name h (ident x) st x.line n ∙ ap (λ b. h ++ (ident x ∷ pass3 k st (at x.line b))) (no_owns n m f)
  basic os p w (CallStatement (WithActuals x i a more j)) k h next st l n m e f ends =
      ap (λ y. h ++ (ident x ∷ word LeftParenthesis i ∷ y)) (called os p (expected_kinds (p x.number).what) a more j st k i n
      ∙ ap (λ b. text_actual (marked os) p (expected_kinds (p x.number).what) a (text_actuals (marked os) p (further_expected (expected_kinds (p x.number).what)) more (word RightParenthesis j ∷ pass3 k st (at j b)))) (no_owns n m f))
  basic os p w Dummy k h next st l n m e f ends = ends.none false h st l n ∙ ap (λ b. h ++ pass3 k st (at l b)) (no_owns n m f)

  conditional : (os : List Name) (p : Places) (w : Where) (x : Conditional) (k : List Symbol) (next : ℕ) (st : List StackEntry) (l n m : ℕ) → w.owns ≡ n → n + count_owns (owns_of_conditional x []) ≡ m → EndsWhole k next → pass3 (spell_conditional x k) (entry GStatement 0 ∷ st) (at l n) ≡ text_conditional (marked os) p w next x (pass3 k st (at (last_conditional x) m))
  conditional os p w (IfThen ls i y c u) k next st l n m e f ends =
      if_taken ls i (spell_expr y (word Then c ∷ spell_unconditional u k)) st l n
      ∙ ap (λ z. opens MConditional (first_labelled ls i) ∷ text_labels ls (word If i ∷ z)) (expr os p WExpression (entry GThen 0 ∷ entry GBranch 0 ∷ entry ShutConditionalStatement 0 ∷ st) y (word Then c ∷ spell_unconditional u k) false i n (ends_then c _)
      ∙ ap (λ z. text_expr (marked os) p y (word Then c ∷ z)) (branch u k next (entry ShutConditionalStatement 0 ∷ st) c n ends.lower
      ∙ unconditional os p w u k next (entry GMayElse 0 ∷ entry ShutConditionalStatement 0 ∷ st) c n m e f ends.lower
      ∙ ap (text_unconditional (marked os) p w next u) (ends.no_else (entry ShutConditionalStatement 0 ∷ st) (last_unconditional u c) m ∙ shut_conditional_statement k st (at (last_unconditional u c) m) (comes_of ends.lower.expr))))
  conditional os p w (IfElse ls i y c u j s) k next st l n m e f ends =
      let rest = spell_statement s k in
      let n2 = n + owns_in_unconditional u in
      if_taken ls i (spell_expr y (word Then c ∷ spell_unconditional u (word Else j ∷ rest))) st l n
      ∙ ap (λ z. opens MConditional (first_labelled ls i) ∷ text_labels ls (word If i ∷ z)) (expr os p WExpression (entry GThen 0 ∷ entry GBranch 0 ∷ entry ShutConditionalStatement 0 ∷ st) y (word Then c ∷ spell_unconditional u (word Else j ∷ rest)) false i n (ends_then c _)
      ∙ ap (λ z. text_expr (marked os) p y (word Then c ∷ z)) (branch u (word Else j ∷ rest) j (entry ShutConditionalStatement 0 ∷ st) c n (statement_else j rest)
      ∙ unconditional os p w u (word Else j ∷ rest) j (entry GMayElse 0 ∷ entry ShutConditionalStatement 0 ∷ st) c n n2 e refl (statement_else j rest)
      ∙ ap (λ z. text_unconditional (marked os) p w j u (word Else j ∷ z)) (statement os p (further w (numbers_unconditional u) (owns_in_unconditional u)) s k next (entry ShutConditionalStatement 0 ∷ st) j n2 m (ap (λ b. b + owns_in_unconditional u) e) (omega (arith, f, owns_unconditional u (owns_of_statement s []))) ends
      ∙ ap (text_statement (marked os) p (further w (numbers_unconditional u) (owns_in_unconditional u)) next s) (shut_conditional_statement k st (at (last_statement s j) m) (comes_of ends.lower.expr)))))
  conditional os p w (IfLoop ls i y c x) k next st l n m e f ends =
      if_taken ls i (spell_expr y (word Then c ∷ spell_loop x k)) st l n
      ∙ ap (λ z. opens MConditional (first_labelled ls i) ∷ text_labels ls (word If i ∷ z)) (expr os p WExpression (entry GThen 0 ∷ entry GBranch 0 ∷ entry ShutConditionalStatement 0 ∷ st) y (word Then c ∷ spell_loop x k) false i n (ends_then c _)
      ∙ ap (λ z. text_expr (marked os) p y (word Then c ∷ z)) (loop_branch x k (entry ShutConditionalStatement 0 ∷ st) c n
      ∙ loop os p w x k next (entry ShutConditionalStatement 0 ∷ st) c n m e f ends
      ∙ ap (text_loop (marked os) p w next x) (shut_conditional_statement k st (at (last_loop x) m) (comes_of ends.lower.expr))))

  loop : (os : List Name) (p : Places) (w : Where) (x : Loop) (k : List Symbol) (next : ℕ) (st : List StackEntry) (l n m : ℕ) → w.owns ≡ n → n + count_owns (owns_of_loop x []) ≡ m → EndsWhole k next → pass3 (spell_loop x k) (entry GStatement 0 ∷ st) (at l n) ≡ text_loop (marked os) p w next x (pass3 k st (at (last_loop x) m))
  loop os p w (MkLoop ls i x j u us d s) k next st l n m e f ends =
      let q = turn_places w.level w.numbers s p in
      let v = further w (entries_numbers (turn_entries s)) 0 in
      for_taken ls i (ident x ∷ word Becomes j ∷ spell_turns u (spell_next_turns us (word Do d ∷ spell_statement s k))) st l n
      ∙ ap (λ z. opens MFor (first_labelled ls i) ∷ text_labels ls (word For i ∷ ident x ∷ word Becomes j ∷ z)) (turns os p u us d (spell_statement s k) st j n
      ∙ ap (λ z. text_turns (marked os) p u (text_next_turns (marked os) p us (word Do d ∷ z))) (enclose_controlled s k next (entry ShutForStatement 0 ∷ st) d n m (text_statement (marked os) q v next s) (enclosed s k next) ends f (empty_text os q v next s) (statement os q v s k next (entry ShutControlledStatement 0 ∷ entry ShutForStatement 0 ∷ st) d n m (omega (arith, e)) f ends)
      ∙ ap (λ z. opens MControlled (first_statement s next) ∷ text_statement (marked os) q v next s (shuts MControlled (last_statement s next) ∷ z)) (shut_for_statement k st (at (last_statement s d) m) (comes_of ends.lower.expr))))

-- a program
begins_group : (g : Group) (k : List Symbol) → Begins (spell_group g k) (group_begin g)
begins_group (MkBlock l d m ds s ss n) k = record { first = word Begin l; rest = _; is = refl; on = refl }
begins_group (MkCompound l s ss n) k = record { first = word Begin l; rest = _; is = refl; on = refl }

begins_program : (ls : List LabelPlace) (g : Group) (k : List Symbol) → Begins (spell_labels ls (spell_group g k)) (first_labelled ls (group_begin g))
begins_program [] g k = begins_group g k
begins_program (x ∷ ls) g k = record { first = ident x.name; rest = _; is = refl; on = refl }

group_any : (g : Group) (k : List Symbol) (st : List StackEntry) (op : Bool) (l n : ℕ) → pass3_from op (spell_group g k) (entry GProgram 0 ∷ st) (at l n) ≡ pass3 (spell_group g k) (entry GStatement 0 ∷ st) (at l n)
group_any (MkBlock i d m ds s ss j) k st op l n = refl
group_any (MkCompound i s ss j) k st op l n = refl

labels_of_it : (ls : List LabelPlace) (g : Group) (k : List Symbol) (st : List StackEntry) (op : Bool) (l n : ℕ) → pass3_from op (spell_labels ls (spell_group g k)) (entry GProgram 0 ∷ st) (at l n) ≡ text_labels ls (pass3 (spell_group g k) (entry GStatement 0 ∷ st) (at (last_labelled ls l) n))
labels_of_it [] g k st op l n = group_any g k st op l n
labels_of_it (x ∷ ls) g k st op l n = ap (λ w. sym Declaring x.name.number x.name.line ∷ word LabelColon x.colon ∷ w) (labels_of_it ls g k st false x.colon n)

program : (os : List Name) (p : Places) (w : Where) (ls : List LabelPlace) (g : Group) (end : ℕ) → w.owns ≡ 0 → pass3_text (spell_program (MkProgram ls g end)) ≡ opens MProgram (first_labelled ls (group_begin g)) ∷ text_labels ls (text_group (marked os) p w g (shuts MProgram (group_end g) ∷ sym TextEnd (count_owns (owns_of_group g [])) end ∷ []))
program os p w ls g end e =
    let k = word TextEnd end ∷ [] in
    open_program (spell_labels ls (spell_group g k)) (first_labelled ls (group_begin g)) false (entry GProgram 0 ∷ entry ShutProgram 0 ∷ entry GTextEnd 0 ∷ []) (at 0 0) (begins_program ls g k)
    ∙ ap (λ z. opens MProgram (first_labelled ls (group_begin g)) ∷ z) (labels_of_it ls g k (entry ShutProgram 0 ∷ entry GTextEnd 0 ∷ []) true 0 0
    ∙ ap (text_labels ls) (group os p w g k [] (entry ShutProgram 0 ∷ entry GTextEnd 0 ∷ []) (last_labelled ls 0) 0 (count_owns (owns_of_group g [])) e (omega arith) (word TextEnd end, ([], refl))))

-- what the pass writes of the spelling of a program is its text 3
pub program_text : (t : Program) → pass3_text (spell_program t) ≡ text3 t
program_text (MkProgram ls g end) =
    let t = MkProgram ls g end in
    let os = names_of_owns (owns_of_program t) in
    program os (program_places t) (record { level = 1; numbers = entries_numbers (program_entries t); owns = 0 }) ls g end refl
    ∙ ap (λ a. opens MProgram (first_program t) ∷ text_labels ls (text_group (marked os) (program_places t) (record { level = 1; numbers = entries_numbers (program_entries t); owns = 0 }) g (shuts MProgram (group_end g) ∷ sym TextEnd a end ∷ []))) (back (count_names (owns_of_program t)))
