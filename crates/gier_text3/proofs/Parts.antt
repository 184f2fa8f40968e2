-- Over the parts of declarations, and over left parts and the elements of for lists, the pass writes their texts.
use Rattle.std.proofs.Common.{◌≡◌, ◌∙◌, ◌+◌, ◌-◌, ◌++◌, ℕ, zero, suc, Bool, true, false, List, [], ◌∷◌, length, refl, sym as back, ap, arith}
use Rattle.std.specs.Prelude.{Option, None, Some, map, nat_lt, if◌then◌else◌}
use Rattle.std.proofs.lemmas.Bool.Decides.{nat_tests}
use Rattle.std.proofs.lemmas.Bool.{false≢true}
use Rattle.gier_symbol.specs.declared.symbol.Symbol.{Symbol}
use Rattle.gier_symbol.specs.declared.tag.Tag.TheVariants.{Number, Comma, Colon, Semicolon, Becomes, LeftParenthesis, RightParenthesis, LeftBracket, RightBracket, Begin, End, If, Then, Else, For, Step, Until, While, Do, Goto, Array, Switch, Procedure, Value, Own, LabelColon, Declaring, Formal, ValueListed, Specified, OwnNumber, TextEnd}
use Rattle.gier_symbol.specs.ByTag.{sym, word}
use Rattle.gier_tree.specs.declared.construct.Construct.TheVariants.{Program as MProgram, Block as MBlock, Compound as MCompound, TypeDeclaration as MType, ArraySegment as MSegment, SwitchDeclaration as MSwitch, ProcedureDeclaration as MProcedure, ProcedureBody as MBody, ForStatement as MFor, ControlledStatement as MControlled, ConditionalStatement as MConditional, Bound as MBound, SwitchElement as MElement, ForElement as MForElement, GoTo as MGoTo, Subscript as MSubscript}
use Rattle.gier_tree.specs.Declaring.{list_of, own_names}
use Rattle.gier_tree.specs.Places.{Places}
use Rattle.gier_tree.specs.Spell.{ident, type_tag, spell_expr, spell_exprs, spell_call, spell_element, spell_actual, spell_actuals, spell_next_names, spell_names, spell_type, spell_option_type, spell_pair, spell_next_pairs, spell_segment, spell_next_segments, spell_constant, spell_fixed_pair, spell_further_pairs, spell_fixed, spell_next_fixed, spell_formals, spell_values, spell_specifier, spell_specifications, spell_heading, spell_labels, spell_left, spell_lefts, spell_turns, spell_next_turns, spell_declaration, spell_declarations, spell_group, spell_statements, spell_statement, spell_unconditional, spell_basic, spell_conditional, spell_loop, spell_program}
use Rattle.gier_tree.specs.Lines.{first_expr, last_expr, first_turns, last_turns, first_name, last_name, last_next_name, last_exprs, last_call, last_labelled, first_labelled, first_statement, last_statement, first_conditional, last_conditional, first_unconditional, last_unconditional, last_basic, first_loop, last_loop, first_heading, last_heading, last_values, last_specifications, group_begin, group_end, first_program}
use Rattle.gier_tree.specs.OwnCount.{owns_of_declaration, owns_of_declarations, owns_of_group, owns_of_statements, owns_of_statement, owns_of_unconditional, owns_of_basic, owns_of_conditional, owns_of_loop, owns_of_program, count_owns, owns_in_declaration, owns_in_declarations, owns_in_statement, owns_in_unconditional}
use Rattle.gier_tree.specs.Written.{Text, Marked, opens, shuts, leading_tag, text_name, text_expr, text_call, text_element, text_actual, text_actuals, text_subscripts, Expected, expected_kinds, further_expected}
use Rattle.gier_tree.specs.Texts.{next_names, names_as, own_place, next_owns, owns_as, text_bound, text_pair, text_pairs, text_segment, text_segments, text_constant, text_fixed_pair, text_further_pairs, text_fixed, fixed_count, text_fixeds, text_switch_element, text_switch_elements, text_formals, text_values, text_specifications, text_heading, text_labels, text_left, text_lefts, text_turn, text_turns, text_next_turns, text_call_statement, next_line, Where, further, behind_statement, behind_declaration, behind_declarations, inner, text_declaration, text_declarations, text_group, text_statements, text_statement, text_unconditional, text_basic, text_conditional, text_loop}
use Rattle.gier_tree.specs.Trees.{Name, Adding, Add, Subtract, Expr, OneSimple, IfExpr, Call, Alone, WithActuals, Element, Subscripted, Actual, Actuals, Exprs, NoExprs, MoreExprs, NextName, Names, MkNames, ValueType, IntegerType, BooleanType, TypeWord, BoundPair, MkPair, NextPair, Segment, MkSegment, NextSegment, Constant, Unsigned, WithSign, FixedPair, MkFixedPair, Further, NoFurther, MoreFurther, FurtherPairs, most_further, FixedSegment, MkFixed, NextFixed, Formals, NoFormals, FormalList, ValuePart, NoValues, ValueList, Specifier, ValueSpec, ArraySpec, LabelSpec, SwitchSpec, StringSpec, ProcedureSpec, FunctionSpec, Specification, Heading, MkHeading, LabelPlace, LeftSide, OneName, LeftElement, LeftPart, Turns, OneValue, StepUntil, WhileTrue, NextTurns, Declaration, DeclareType, DeclareOwn, DeclareArrays, DeclareOwnArrays, DeclareSwitch, DeclareProcedure, Declarations, NoDeclarations, MoreDeclarations, Group, MkBlock, MkCompound, Statements, NoStatements, MoreStatements, Statement, OneUnconditional, OneConditional, OneLoop, Unconditional, MkUnconditional, Basic, OneGroup, Assign, Jump, CallStatement, Dummy, Conditional, IfThen, IfElse, IfLoop, Loop, MkLoop, Program, MkProgram}
use Rattle.gier_grammar.specs.declared.grammar_symbol.GrammarSymbol.TheVariants.{OpenProgram, OpenArraySegment, OpenProcedureBody, OpenControlledStatement, OpenActual, OpenSubscript, OpenBound, OpenSwitchElement, OpenForElement, ShutProgram, ShutBlock, ShutCompound, ShutTypeDeclaration, ShutArraySegment, ShutSwitchDeclaration, ShutProcedureDeclaration, ShutProcedureBody, ShutForStatement, ShutControlledStatement, ShutConditionalStatement, ShutActual, ShutSubscript, ShutBound, ShutSwitchElement, ShutForElement, ShutGoTo, AfterOwnType as GAfterOwnType, Program as GProgram, ProgramColon as GProgramColon, TextEnd as GTextEnd, AfterBegin as GAfterBegin, BlockTail as GBlockTail, CompoundTail as GCompoundTail, FirstDeclared as GFirstDeclared, Declared as GDeclared, MoreDeclarations as GMoreDeclarations, OwnType as GOwnType, OwnName as GOwnName, MoreOwnNames as GMoreOwnNames, FixedBounds as GFixedBounds, FixedColon as GFixedColon, MorePairs as GMorePairs, MoreFixedSegments as GMoreFixedSegments, AfterType as GAfterType, Name as GName, MoreNames as GMoreNames, Bounds as GBounds, BoundColon as GBoundColon, BoundTail as GBoundTail, MoreSegments as GMoreSegments, SwitchBecomes as GSwitchBecomes, MoreSwitchElements as GMoreSwitchElements, MayFormals as GMayFormals, Formal as GFormal, FormalTail as GFormalTail, Heading as GHeading, MayValues as GMayValues, ValueName as GValueName, MoreValueNames as GMoreValueNames, Semicolon as GSemicolon, MoreSpecifications as GMoreSpecifications, MaySpecifier as GMaySpecifier, SpecifiedName as GSpecifiedName, MoreSpecifiedNames as GMoreSpecifiedNames, Statement as GStatement, AfterName as GAfterName, Branch as GBranch, AfterBranchName as GAfterBranchName, MayElse as GMayElse, ForVariable as GForVariable, ForBecomes as GForBecomes, MayStep as GMayStep, ForTail as GForTail, Until as GUntil, Becomes as GBecomes, Right as GRight, Expression as GExpression, Then as GThen, MaySign as GMaySign, Number as GNumber, SubscriptTail as GSubscriptTail, Actual as GActual, ActualTail as GActualTail}
use Rattle.gier_grammar.specs.declared.production.Production.TheVariants.{NextPair as RNextPair}
use Rattle.gier_grammar.specs.declared.stack_entry.StackEntry.{StackEntry}
use Rattle.gier_grammar.specs.declared.parse_table.ParseAction.TheVariants.{Error, Expand}
use Rattle.gier_text3.specs.PurePass.{WriterState, pass3, pass3_from, parse_action_on, meet}
use Rattle.gier_grammar.specs.StackEntries.{entry}
use Rattle.gier_text3.proofs.Operands.{at, tail, Skips, Begins, Comes, Same, EndsExpr, WExpression, WActual, WRight, ends_comma, ends_colon, ends_semicolon, ends_right_bracket, ends_then, ends_else, ends_end, ends_step, ends_until, ends_while, ends_do, open_bound, shut_bound, open_array_segment, shut_array_segment, open_switch_element, shut_switch_element, open_for_element, shut_for_element, open_procedure_body, shut_procedure_body, open_controlled_statement, shut_controlled_statement, shut_procedure_declaration, shut_switch_declaration, shut_type_declaration, shut_for_statement, shut_conditional_statement, shut_go_to, shut_block, shut_compound, shut_program}
use Rattle.gier_text3.proofs.Expressions.{marked, begins_expr, expr, called, subscripted, name_same, exprs_end}

pub more_names : (ns : List NextName) (k : List Symbol) (st : List StackEntry) (l n : ℕ) → Skips (entry GMoreNames 0) k → pass3 (spell_next_names ns k) (entry GMoreNames 0 ∷ st) (at l n) ≡ next_names Declaring ns (pass3 k st (at (last_next_name l ns) n))
more_names [] k st l n e = e st l n
more_names (x ∷ ns) k st l n e = ap (λ w. word Comma x.comma ∷ sym Declaring x.name.number x.name.line ∷ w) (more_names ns k st x.name.line n e)

pub more_values : (ns : List NextName) (k : List Symbol) (st : List StackEntry) (l n : ℕ) → Skips (entry GMoreValueNames 0) k → pass3 (spell_next_names ns k) (entry GMoreValueNames 0 ∷ st) (at l n) ≡ next_names ValueListed ns (pass3 k st (at (last_next_name l ns) n))
more_values [] k st l n e = e st l n
more_values (x ∷ ns) k st l n e = ap (λ w. word Comma x.comma ∷ sym ValueListed x.name.number x.name.line ∷ w) (more_values ns k st x.name.line n e)

pub more_specified : (ns : List NextName) (k : List Symbol) (st : List StackEntry) (l n : ℕ) → Skips (entry GMoreSpecifiedNames 0) k → pass3 (spell_next_names ns k) (entry GMoreSpecifiedNames 0 ∷ st) (at l n) ≡ next_names Specified ns (pass3 k st (at (last_next_name l ns) n))
more_specified [] k st l n e = e st l n
more_specified (x ∷ ns) k st l n e = ap (λ w. word Comma x.comma ∷ sym Specified x.name.number x.name.line ∷ w) (more_specified ns k st x.name.line n e)

pub more_formals : (ns : List NextName) (m : ℕ) (k : List Symbol) (st : List StackEntry) (l n : ℕ) → pass3 (spell_next_names ns (word RightParenthesis m ∷ k)) (entry GFormalTail 0 ∷ st) (at l n) ≡ next_names Formal ns (word RightParenthesis m ∷ pass3 k st (at m n))
more_formals [] m k st l n = refl
more_formals (x ∷ ns) m k st l n = ap (λ w. word Comma x.comma ∷ sym Formal x.name.number x.name.line ∷ w) (more_formals ns m k st x.name.line n)

-- how many more, one after the other
add_suc : (n m : ℕ) → suc n + m ≡ n + suc m
add_suc n m = omega arith

pub more_owns : (ns : List NextName) (k : List Symbol) (st : List StackEntry) (l n : ℕ) → Skips (entry GMoreOwnNames 0) k → pass3 (spell_next_names ns k) (entry GMoreOwnNames 0 ∷ st) (at l n) ≡ next_owns ns n (pass3 k st (at (last_next_name l ns) (n + length (map (λ (n : NextName). n.name) ns))))
more_owns [] k st l n e = e st l n ∙ ap (λ m. pass3 k st (at l m)) (omega arith)
more_owns (x ∷ ns) k st l n e = ap (λ w. word Comma x.comma ∷ sym Declaring x.name.number x.name.line ∷ sym OwnNumber n x.name.line ∷ w) (more_owns ns k st x.name.line (suc n) e ∙ ap (λ m. next_owns ns (suc n) (pass3 k st (at (last_next_name x.name.line ns) m))) (add_suc n _))

abbrev pub comes_of : {k : List Symbol} → EndsExpr k → Comes k
comes_of e = e.lower.lower.lower.lower.lower.lower.lower.lower.comes

-- the lines of the last symbols
abbrev pub last_pair : BoundPair → ℕ
last_pair (MkPair a j b) = last_expr b

abbrev pub last_segment : Segment → ℕ
last_segment (MkSegment ns j q qs m) = m

abbrev pub last_segments : (line : ℕ) → List NextSegment → ℕ
last_segments line [] = line
last_segments line (s ∷ ss) = last_segments (last_segment s.segment) ss

abbrev pub last_constant : Constant → ℕ
last_constant (Unsigned v i) = i
last_constant (WithSign o i v j) = j

abbrev pub last_fixed_pair : FixedPair → ℕ
last_fixed_pair (MkFixedPair a j b) = last_constant b

abbrev pub last_fixed : FixedSegment → ℕ
last_fixed (MkFixed ns j q qs m) = m

abbrev pub last_fixeds : (line : ℕ) → List NextFixed → ℕ
last_fixeds line [] = line
last_fixeds line (s ∷ ss) = last_fixeds (last_fixed s.segment) ss

abbrev pub fixeds_count : List NextFixed → ℕ
fixeds_count [] = 0
fixeds_count (s ∷ ss) = fixed_count s.segment + fixeds_count ss

abbrev pub last_formals : (line : ℕ) → Formals → ℕ
last_formals line NoFormals = line
last_formals line (FormalList j ns m) = m

-- a bound, a pair, and more pairs
pub bound : (os : List Name) (p : Places) (x : Expr) (k : List Symbol) (st : List StackEntry) (l n : ℕ) → EndsExpr k → pass3 (spell_expr x k) (entry OpenBound 0 ∷ entry GExpression 0 ∷ entry ShutBound 0 ∷ st) (at l n) ≡ text_bound (marked os) p x (pass3 k st (at (last_expr x) n))
bound os p x k st l n e =
    open_bound (spell_expr x k) (first_expr x) false (entry GExpression 0 ∷ entry ShutBound 0 ∷ st) (at l n) (begins_expr x k)
    ∙ ap (λ w. opens MBound (first_expr x) ∷ w) (expr os p WExpression (entry ShutBound 0 ∷ st) x k true l n e ∙ ap (text_expr (marked os) p x) (shut_bound k st (at (last_expr x) n) (comes_of e)))

pub pairs_end : (qs : List NextPair) (m : ℕ) (k : List Symbol) → EndsExpr (spell_next_pairs qs (word RightBracket m ∷ k))
pairs_end [] m k = ends_right_bracket m k
pairs_end (q ∷ qs) m k = ends_comma q.comma _

pub pair : (os : List Name) (p : Places) (q : BoundPair) (k : List Symbol) (st : List StackEntry) (l n : ℕ) → EndsExpr k → pass3 (spell_pair q k) (entry OpenBound 0 ∷ entry GExpression 0 ∷ entry ShutBound 0 ∷ entry GBoundColon 0 ∷ st) (at l n) ≡ text_pair (marked os) p q (pass3 k st (at (last_pair q) n))
pair os p (MkPair a j b) k st l n e =
    bound os p a (word Colon j ∷ spell_expr b k) (entry GBoundColon 0 ∷ st) l n (ends_colon j _)
    ∙ ap (λ w. text_bound (marked os) p a (word Colon j ∷ w)) (bound os p b k st j n e)

pub pairs : (os : List Name) (p : Places) (qs : List NextPair) (m : ℕ) (k : List Symbol) (st : List StackEntry) (l n : ℕ) → pass3 (spell_next_pairs qs (word RightBracket m ∷ k)) (entry GBoundTail 0 ∷ st) (at l n) ≡ text_pairs (marked os) p qs (word RightBracket m ∷ pass3 k st (at m n))
pairs os p [] m k st l n = refl
pairs os p (q ∷ qs) m k st l n = ap (λ w. word Comma q.comma ∷ w) (pair os p q.pair (spell_next_pairs qs (word RightBracket m ∷ k)) (entry GBoundTail 0 ∷ st) q.comma n (pairs_end qs m k) ∙ ap (text_pair (marked os) p q.pair) (pairs os p qs m k st _ n))

-- segments, where what follows is no comma for the last
pub segment : (os : List Name) (p : Places) (s : Segment) (k : List Symbol) (st : List StackEntry) (l n : ℕ) → Comes k → pass3 (spell_segment s k) (entry OpenArraySegment 0 ∷ entry GName 0 ∷ entry GMoreNames 0 ∷ entry GBounds 0 ∷ entry ShutArraySegment 0 ∷ st) (at l n) ≡ text_segment (marked os) p s (pass3 k st (at (last_segment s) n))
segment os p (MkSegment (MkNames x ns) j q qs m) k st l n e =
    ap (λ w. opens MSegment x.line ∷ sym Declaring x.number x.line ∷ w) (more_names ns (word LeftBracket j ∷ spell_pair q (spell_next_pairs qs (word RightBracket m ∷ k))) (entry GBounds 0 ∷ entry ShutArraySegment 0 ∷ st) x.line n (λ st l n. refl)
    ∙ ap (λ w. next_names Declaring ns (word LeftBracket j ∷ w)) (pair os p q (spell_next_pairs qs (word RightBracket m ∷ k)) (entry GBoundTail 0 ∷ entry ShutArraySegment 0 ∷ st) j n (pairs_end qs m k)
    ∙ ap (text_pair (marked os) p q) (pairs os p qs m k (entry ShutArraySegment 0 ∷ st) _ n ∙ ap (λ w. text_pairs (marked os) p qs (word RightBracket m ∷ w)) (shut_array_segment k st (at m n) e))))

segments_come : (ss : List NextSegment) (k : List Symbol) → Comes k → Comes (spell_next_segments ss k)
segments_come [] k e = e
segments_come (s ∷ ss) k e = (word Comma s.comma, (_, refl))

pub segments : (os : List Name) (p : Places) (ss : List NextSegment) (k : List Symbol) (st : List StackEntry) (l n : ℕ) → Comes k → Skips (entry GMoreSegments 0) k → pass3 (spell_next_segments ss k) (entry GMoreSegments 0 ∷ st) (at l n) ≡ text_segments (marked os) p ss (pass3 k st (at (last_segments l ss) n))
segments os p [] k st l n c e = e st l n
segments os p (s ∷ ss) k st l n c e = ap (λ w. word Comma s.comma ∷ w) (segment os p s.segment (spell_next_segments ss k) (entry GMoreSegments 0 ∷ st) s.comma n (segments_come ss k c) ∙ ap (text_segment (marked os) p s.segment) (segments os p ss k st _ n c e))

pub all_segments : (os : List Name) (p : Places) (s : Segment) (ss : List NextSegment) (k : List Symbol) (st : List StackEntry) (l n : ℕ) → Comes k → Skips (entry GMoreSegments 0) k → pass3 (spell_segment s (spell_next_segments ss k)) (entry OpenArraySegment 0 ∷ entry GName 0 ∷ entry GMoreNames 0 ∷ entry GBounds 0 ∷ entry ShutArraySegment 0 ∷ entry GMoreSegments 0 ∷ st) (at l n) ≡ text_segment (marked os) p s (text_segments (marked os) p ss (pass3 k st (at (last_segments (last_segment s) ss) n)))
all_segments os p s ss k st l n c e = segment os p s (spell_next_segments ss k) (entry GMoreSegments 0 ∷ st) l n (segments_come ss k c) ∙ ap (text_segment (marked os) p s) (segments os p ss k st _ n c e)

-- the same of own arrays
pub constant : (c : Constant) (k : List Symbol) (st : List StackEntry) (l n : ℕ) → Comes k → pass3 (spell_constant c k) (entry OpenBound 0 ∷ entry GMaySign 0 ∷ entry GNumber 0 ∷ entry ShutBound 0 ∷ st) (at l n) ≡ text_constant c (pass3 k st (at (last_constant c) n))
constant (Unsigned v i) k st l n e = ap (λ w. opens MBound i ∷ sym Number v i ∷ w) (shut_bound k st (at i n) e)
constant (WithSign Add i v j) k st l n e = ap (λ w. opens MBound i ∷ word (leading_tag Add) i ∷ sym Number v j ∷ w) (shut_bound k st (at j n) e)
constant (WithSign Subtract i v j) k st l n e = ap (λ w. opens MBound i ∷ word (leading_tag Subtract) i ∷ sym Number v j ∷ w) (shut_bound k st (at j n) e)

pub fixed_pair : (q : FixedPair) (k : List Symbol) (st : List StackEntry) (l n : ℕ) → Comes k → pass3 (spell_fixed_pair q k) (entry OpenBound 0 ∷ entry GMaySign 0 ∷ entry GNumber 0 ∷ entry ShutBound 0 ∷ entry GFixedColon 0 ∷ st) (at l n) ≡ text_fixed_pair q (pass3 k st (at (last_fixed_pair q) n))
fixed_pair (MkFixedPair a j b) k st l n e = constant a (word Colon j ∷ spell_constant b k) (entry GFixedColon 0 ∷ st) l n (word Colon j, (_, refl)) ∙ ap (λ w. text_constant a (word Colon j ∷ w)) (constant b k st j n e)

less_one : (j : ℕ) → suc j - 1 ≡ j
less_one j = omega arith

some_left : (j : ℕ) → nat_lt 0 (suc j) ≡ true
some_left j = grind (arith, nat_tests)

further_come : (j : ℕ) (qs : FurtherPairs j) (m : ℕ) (k : List Symbol) → Comes (spell_further_pairs j qs (word RightBracket m ∷ k))
further_come zero qs m k = (word RightBracket m, (k, refl))
further_come (suc j) NoFurther m k = (word RightBracket m, (k, refl))
further_come (suc j) (MoreFurther i q more) m k = (word Comma i, (_, refl))

-- a further pair, where so many more are allowed
take_further : (some : Bool) (i j : ℕ) (w : List Symbol) (st : List StackEntry) (l n : ℕ) → some ≡ true → parse_action_on (if some then Expand RNextPair else Error) (entry GMorePairs (suc j)) (word Comma i) (pass3 w) st (meet Comma (word Comma i) (pass3 w) st) false (at l n) ≡ word Comma i ∷ pass3 w (entry OpenBound 0 ∷ entry GMaySign 0 ∷ entry GNumber 0 ∷ entry ShutBound 0 ∷ entry GFixedColon 0 ∷ entry GMorePairs (suc j - 1) ∷ st) (at i n)
take_further true i j w st l n h = refl
take_further false i j w st l n h = absurd (false≢true h)

pub further_pairs : (j : ℕ) (qs : FurtherPairs j) (m : ℕ) (k : List Symbol) (st : List StackEntry) (l n : ℕ) → pass3 (spell_further_pairs j qs (word RightBracket m ∷ k)) (entry GMorePairs j ∷ st) (at l n) ≡ text_further_pairs j qs (word RightBracket m ∷ pass3 k st (at m n))
further_pairs zero qs m k st l n = refl
further_pairs (suc j) NoFurther m k st l n = refl
further_pairs (suc j) (MoreFurther i q more) m k st l n =
    take_further (nat_lt 0 (suc j)) i j (spell_fixed_pair q (spell_further_pairs j more (word RightBracket m ∷ k))) st l n (some_left j)
    ∙ ap (λ a. word Comma i ∷ pass3 (spell_fixed_pair q (spell_further_pairs j more (word RightBracket m ∷ k))) (entry OpenBound 0 ∷ entry GMaySign 0 ∷ entry GNumber 0 ∷ entry ShutBound 0 ∷ entry GFixedColon 0 ∷ entry GMorePairs a ∷ st) (at i n)) (less_one j)
    ∙ ap (λ w. word Comma i ∷ w) (fixed_pair q (spell_further_pairs j more (word RightBracket m ∷ k)) (entry GMorePairs j ∷ st) i n (further_come j more m k) ∙ ap (text_fixed_pair q) (further_pairs j more m k st _ n))

pub fixed : (s : FixedSegment) (k : List Symbol) (st : List StackEntry) (l n : ℕ) → Comes k → pass3 (spell_fixed s k) (entry OpenArraySegment 0 ∷ entry GOwnName 0 ∷ entry GMoreOwnNames 0 ∷ entry GFixedBounds 0 ∷ entry ShutArraySegment 0 ∷ st) (at l n) ≡ text_fixed s n (pass3 k st (at (last_fixed s) (n + fixed_count s)))
fixed (MkFixed (MkNames x ns) j q qs m) k st l n e =
    ap (λ w. opens MSegment x.line ∷ sym Declaring x.number x.line ∷ sym OwnNumber n x.line ∷ w) (more_owns ns (word LeftBracket j ∷ spell_fixed_pair q (spell_further_pairs most_further qs (word RightBracket m ∷ k))) (entry GFixedBounds 0 ∷ entry ShutArraySegment 0 ∷ st) x.line (suc n) (λ st l n. refl)
    ∙ ap (λ w. next_owns ns (suc n) (word LeftBracket j ∷ w)) (fixed_pair q (spell_further_pairs most_further qs (word RightBracket m ∷ k)) (entry GMorePairs most_further ∷ entry ShutArraySegment 0 ∷ st) j (suc n + length (map (λ (n : NextName). n.name) ns)) (further_come most_further qs m k)
    ∙ ap (text_fixed_pair q) (further_pairs most_further qs m k (entry ShutArraySegment 0 ∷ st) _ _ ∙ ap (λ w. text_further_pairs most_further qs (word RightBracket m ∷ w)) (shut_array_segment k st (at m _) e ∙ ap (λ a. shuts MSegment m ∷ pass3 k st (at m a)) (add_suc n _)))))

pub fixeds_come : (ss : List NextFixed) (k : List Symbol) → Comes k → Comes (spell_next_fixed ss k)
fixeds_come [] k e = e
fixeds_come (s ∷ ss) k e = (word Comma s.comma, (_, refl))

pub fixeds : (ss : List NextFixed) (k : List Symbol) (st : List StackEntry) (l n : ℕ) → Comes k → Skips (entry GMoreFixedSegments 0) k → pass3 (spell_next_fixed ss k) (entry GMoreFixedSegments 0 ∷ st) (at l n) ≡ text_fixeds ss n (pass3 k st (at (last_fixeds l ss) (n + fixeds_count ss)))
fixeds [] k st l n c e = e st l n ∙ ap (λ m. pass3 k st (at l m)) (omega arith)
fixeds (s ∷ ss) k st l n c e = ap (λ w. word Comma s.comma ∷ w) (fixed s.segment (spell_next_fixed ss k) (entry GMoreFixedSegments 0 ∷ st) s.comma n (fixeds_come ss k c)
    ∙ ap (text_fixed s.segment n) (fixeds ss k st _ (n + fixed_count s.segment) c e ∙ ap (λ m. text_fixeds ss (n + fixed_count s.segment) (pass3 k st (at (last_fixeds (last_fixed s.segment) ss) m))) (omega arith)))

-- headings
pub formals : (fs : Formals) (k : List Symbol) (st : List StackEntry) (l n : ℕ) → Skips (entry GMayFormals 0) k → pass3 (spell_formals fs k) (entry GMayFormals 0 ∷ st) (at l n) ≡ text_formals fs (pass3 k st (at (last_formals l fs) n))
formals NoFormals k st l n e = e st l n
formals (FormalList j (MkNames x ns) m) k st l n e = ap (λ w. word LeftParenthesis j ∷ sym Formal x.number x.line ∷ w) (more_formals ns m k st x.line n)

pub values : (vs : ValuePart) (k : List Symbol) (st : List StackEntry) (l n : ℕ) → Skips (entry GMayValues 0) k → pass3 (spell_values vs k) (entry GMayValues 0 ∷ st) (at l n) ≡ text_values vs (pass3 k st (at (last_values vs l) n))
values NoValues k st l n e = e st l n
values (ValueList j (MkNames x ns) m) k st l n e = ap (λ w. word Value j ∷ sym ValueListed x.number x.line ∷ w) (more_values ns (word Semicolon m ∷ k) (entry GSemicolon 0 ∷ st) x.line n (λ st l n. refl))

typed_specification : (t : ValueType) (i : ℕ) (w : List Symbol) (st : List StackEntry) (l n : ℕ) → pass3 (word (type_tag t) i ∷ w) (entry GMoreSpecifications 0 ∷ st) (at l n) ≡ word (type_tag t) i ∷ pass3 w (entry GMaySpecifier 0 ∷ entry GSpecifiedName 0 ∷ entry GMoreSpecifiedNames 0 ∷ entry GSemicolon 0 ∷ entry GMoreSpecifications 0 ∷ st) (at i n)
typed_specification IntegerType i w st l n = refl
typed_specification BooleanType i w st l n = refl

specifier : (s : Specifier) (x : Name) (k : List Symbol) (st : List StackEntry) (l n : ℕ) → pass3 (spell_specifier s (ident x ∷ k)) (entry GMoreSpecifications 0 ∷ st) (at l n) ≡ spell_specifier s (sym Specified x.number x.line ∷ pass3 k (entry GMoreSpecifiedNames 0 ∷ entry GSemicolon 0 ∷ entry GMoreSpecifications 0 ∷ st) (at x.line n))
specifier (ValueSpec t) x k st l n = typed_specification t.type t.line (ident x ∷ k) st l n
specifier (ArraySpec t j) x k st l n = typed_specification t.type t.line (word Array j ∷ ident x ∷ k) st l n
specifier (FunctionSpec t j) x k st l n = typed_specification t.type t.line (word Procedure j ∷ ident x ∷ k) st l n
specifier (LabelSpec j) x k st l n = refl
specifier (SwitchSpec j) x k st l n = refl
specifier (StringSpec j) x k st l n = refl
specifier (ProcedureSpec j) x k st l n = refl

one_specification : (s : Specifier) (ns : Names) (m : ℕ) (k : List Symbol) (st : List StackEntry) (l n : ℕ) → pass3 (spell_specifier s (spell_names ns (word Semicolon m ∷ k))) (entry GMoreSpecifications 0 ∷ st) (at l n) ≡ spell_specifier s (names_as Specified ns (word Semicolon m ∷ pass3 k (entry GMoreSpecifications 0 ∷ st) (at m n)))
one_specification s (MkNames x ns) m k st l n = specifier s x (spell_next_names ns (word Semicolon m ∷ k)) st l n ∙ ap (λ w. spell_specifier s (sym Specified x.number x.line ∷ w)) (more_specified ns (word Semicolon m ∷ k) (entry GSemicolon 0 ∷ entry GMoreSpecifications 0 ∷ st) x.line n (λ st l n. refl))

pub specifications : (ss : List Specification) (k : List Symbol) (st : List StackEntry) (l n : ℕ) → Skips (entry GMoreSpecifications 0) k → pass3 (spell_specifications ss k) (entry GMoreSpecifications 0 ∷ st) (at l n) ≡ text_specifications ss (pass3 k st (at (last_specifications ss l) n))
specifications [] k st l n e = e st l n
specifications (s ∷ ss) k st l n e = one_specification s.specifier s.names s.semicolon (spell_specifications ss k) st l n ∙ ap (λ w. spell_specifier s.specifier (names_as Specified s.names (word Semicolon s.semicolon ∷ w))) (specifications ss k st s.semicolon n e)
