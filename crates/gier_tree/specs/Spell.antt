-- How a tree is spelled: the symbols that the rules of the grammar give for it, each with its line. Each function takes the
-- symbols that follow, so that no list is joined to another.
use Rattle.std.specs.Prelude.{ℕ, zero, suc, Bool, true, false, List, [], ◌∷◌, Option, None, Some}
use Rattle.gier_symbol.specs.declared.symbol.Symbol.{Symbol}
use Rattle.gier_symbol.specs.declared.tag.Tag.{Tag}
use Rattle.gier_symbol.specs.declared.tag.Tag.TheVariants.{Identifier, Number, StringBegin, StringByte, StringEnd, TextEnd, Plus}
use Rattle.gier_symbol.specs.declared.tag.Tag.TheVariants.{Minus, Times, Div, Power, Less, NotGreater, Equal, NotLess, Greater}
use Rattle.gier_symbol.specs.declared.tag.Tag.TheVariants.{NotEqual, Not, And, Or, Impl, Equiv, True, False, Comma, Colon}
use Rattle.gier_symbol.specs.declared.tag.Tag.TheVariants.{Semicolon, Becomes, LeftParenthesis, RightParenthesis, LeftBracket}
use Rattle.gier_symbol.specs.declared.tag.Tag.TheVariants.{RightBracket, Begin, End, If, Then, Else, For, Step, Until, While, Do}
use Rattle.gier_symbol.specs.declared.tag.Tag.TheVariants.{Goto, Integer, Boolean, Array, Switch, Procedure, String, Label, Value}
use Rattle.gier_symbol.specs.declared.tag.Tag.TheVariants.{Own}
use Rattle.gier_symbol.specs.ByTag.{sym, word}
use Rattle.gier_tree.specs.Trees.{Name, Byte, Adding, Add, Subtract, Multiplying, Multiply, Divide, Comparing, LessThan, AtMost}
use Rattle.gier_tree.specs.Trees.{EqualTo, AtLeast, MoreThan, Unequal, Expr, OneSimple, IfExpr, Simple, OneImplication}
use Rattle.gier_tree.specs.Trees.{Equivalent, Implication, OneDisjunction, Implies, Disjunction, OneConjunction, Either}
use Rattle.gier_tree.specs.Trees.{Conjunction, OneNegation, Both, Negation, OneRelation, Negated, Relation, OneArithmetic}
use Rattle.gier_tree.specs.Trees.{Compared, Arithmetic, OneTerm, Signed, Summed, Term, OneFactor, Multiplied, Factor, OnePrimary}
use Rattle.gier_tree.specs.Trees.{Raised, Primary, Numeral, Logical, Bracketed, OneCall, OneElement, Call, Alone, WithActuals}
use Rattle.gier_tree.specs.Trees.{Element, Subscripted, Actual, OneExpr, AString, Actuals, NoActuals, MoreActuals, Exprs, NoExprs}
use Rattle.gier_tree.specs.Trees.{MoreExprs, NextName, Names, MkNames, ValueType, IntegerType, BooleanType, TypeWord, BoundPair}
use Rattle.gier_tree.specs.Trees.{MkPair, NextPair, Segment, MkSegment, NextSegment, Constant, Unsigned, WithSign, FixedPair}
use Rattle.gier_tree.specs.Trees.{MkFixedPair, Further, NoFurther, MoreFurther, FurtherPairs, most_further, FixedSegment, MkFixed}
use Rattle.gier_tree.specs.Trees.{NextFixed, Formals, NoFormals, FormalList, ValuePart, NoValues, ValueList, Specifier, ValueSpec}
use Rattle.gier_tree.specs.Trees.{ArraySpec, LabelSpec, SwitchSpec, StringSpec, ProcedureSpec, FunctionSpec, Specification}
use Rattle.gier_tree.specs.Trees.{Heading, MkHeading, LabelPlace, LeftSide, OneName, LeftElement, LeftPart, Turns, OneValue}
use Rattle.gier_tree.specs.Trees.{StepUntil, WhileTrue, NextTurns, Declaration, DeclareType, DeclareOwn, DeclareArrays}
use Rattle.gier_tree.specs.Trees.{DeclareOwnArrays, DeclareSwitch, DeclareProcedure, Declarations, NoDeclarations}
use Rattle.gier_tree.specs.Trees.{MoreDeclarations, Group, MkBlock, MkCompound, Statements, NoStatements, MoreStatements}
use Rattle.gier_tree.specs.Trees.{Statement, OneUnconditional, OneConditional, OneLoop, Unconditional, MkUnconditional, Basic}
use Rattle.gier_tree.specs.Trees.{OneGroup, Assign, Jump, CallStatement, Dummy, Conditional, IfThen, IfElse, IfLoop, Loop, MkLoop}
use Rattle.gier_tree.specs.Trees.{Program, MkProgram}

abbrev pub ident : Name → Symbol
ident x = sym Identifier x.number x.line

-- the tags of operators
abbrev pub adding_tag : Adding → Tag
adding_tag Add = Plus
adding_tag Subtract = Minus

abbrev pub multiplying_tag : Multiplying → Tag
multiplying_tag Multiply = Times
multiplying_tag Divide = Div

abbrev pub comparing_tag : Comparing → Tag
comparing_tag LessThan = Less
comparing_tag AtMost = NotGreater
comparing_tag EqualTo = Equal
comparing_tag AtLeast = NotLess
comparing_tag MoreThan = Greater
comparing_tag Unequal = NotEqual

abbrev pub logical_tag : Bool → Tag
logical_tag true = True
logical_tag false = False

abbrev pub type_tag : ValueType → Tag
type_tag IntegerType = Integer
type_tag BooleanType = Boolean

abbrev pub spell_bytes : List Byte → List Symbol → List Symbol
spell_bytes [] rest = rest
spell_bytes (b ∷ bs) rest = sym StringByte b.value b.line ∷ spell_bytes bs rest

-- expressions
abbrev mutual
  pub spell_expr : Expr → List Symbol → List Symbol
  spell_expr (OneSimple s) rest = spell_simple s rest
  spell_expr (IfExpr l c m s n e) rest = word If l ∷ spell_expr c (word Then m ∷ spell_simple s (word Else n ∷ spell_expr e rest))

  pub spell_simple : Simple → List Symbol → List Symbol
  spell_simple (OneImplication i) rest = spell_implication i rest
  spell_simple (Equivalent s l i) rest = spell_simple s (word Equiv l ∷ spell_implication i rest)

  pub spell_implication : Implication → List Symbol → List Symbol
  spell_implication (OneDisjunction d) rest = spell_disjunction d rest
  spell_implication (Implies i l d) rest = spell_implication i (word Impl l ∷ spell_disjunction d rest)

  pub spell_disjunction : Disjunction → List Symbol → List Symbol
  spell_disjunction (OneConjunction c) rest = spell_conjunction c rest
  spell_disjunction (Either d l c) rest = spell_disjunction d (word Or l ∷ spell_conjunction c rest)

  pub spell_conjunction : Conjunction → List Symbol → List Symbol
  spell_conjunction (OneNegation n) rest = spell_negation n rest
  spell_conjunction (Both c l n) rest = spell_conjunction c (word And l ∷ spell_negation n rest)

  pub spell_negation : Negation → List Symbol → List Symbol
  spell_negation (OneRelation r) rest = spell_relation r rest
  spell_negation (Negated l r) rest = word Not l ∷ spell_relation r rest

  pub spell_relation : Relation → List Symbol → List Symbol
  spell_relation (OneArithmetic a) rest = spell_arithmetic a rest
  spell_relation (Compared a o l b) rest = spell_arithmetic a (word (comparing_tag o) l ∷ spell_arithmetic b rest)

  pub spell_arithmetic : Arithmetic → List Symbol → List Symbol
  spell_arithmetic (OneTerm t) rest = spell_term t rest
  spell_arithmetic (Signed o l t) rest = word (adding_tag o) l ∷ spell_term t rest
  spell_arithmetic (Summed a o l t) rest = spell_arithmetic a (word (adding_tag o) l ∷ spell_term t rest)

  pub spell_term : Term → List Symbol → List Symbol
  spell_term (OneFactor f) rest = spell_factor f rest
  spell_term (Multiplied t o l f) rest = spell_term t (word (multiplying_tag o) l ∷ spell_factor f rest)

  pub spell_factor : Factor → List Symbol → List Symbol
  spell_factor (OnePrimary p) rest = spell_primary p rest
  spell_factor (Raised f l p) rest = spell_factor f (word Power l ∷ spell_primary p rest)

  pub spell_primary : Primary → List Symbol → List Symbol
  spell_primary (Numeral n l) rest = sym Number n l ∷ rest
  spell_primary (Logical b l) rest = word (logical_tag b) l ∷ rest
  spell_primary (Bracketed l e m) rest = word LeftParenthesis l ∷ spell_expr e (word RightParenthesis m ∷ rest)
  spell_primary (OneCall c) rest = spell_call c rest
  spell_primary (OneElement e) rest = spell_element e rest

  pub spell_call : Call → List Symbol → List Symbol
  spell_call (Alone x) rest = ident x ∷ rest
  spell_call (WithActuals x l a more m) rest =
      ident x ∷ word LeftParenthesis l ∷ spell_actual a (spell_actuals more (word RightParenthesis m ∷ rest))

  pub spell_element : Element → List Symbol → List Symbol
  spell_element (Subscripted x l e es m) rest =
      ident x ∷ word LeftBracket l ∷ spell_expr e (spell_exprs es (word RightBracket m ∷ rest))

  pub spell_actual : Actual → List Symbol → List Symbol
  spell_actual (OneExpr e) rest = spell_expr e rest
  spell_actual (AString l bs m) rest = word StringBegin l ∷ spell_bytes bs (word StringEnd m ∷ rest)

  pub spell_actuals : Actuals → List Symbol → List Symbol
  spell_actuals NoActuals rest = rest
  spell_actuals (MoreActuals l a more) rest = word Comma l ∷ spell_actual a (spell_actuals more rest)

  pub spell_exprs : Exprs → List Symbol → List Symbol
  spell_exprs NoExprs rest = rest
  spell_exprs (MoreExprs l e es) rest = word Comma l ∷ spell_expr e (spell_exprs es rest)

-- identifiers and types
abbrev pub spell_next_names : List NextName → List Symbol → List Symbol
spell_next_names [] rest = rest
spell_next_names (n ∷ ns) rest = word Comma n.comma ∷ ident n.name ∷ spell_next_names ns rest

abbrev pub spell_names : Names → List Symbol → List Symbol
spell_names (MkNames x ns) rest = ident x ∷ spell_next_names ns rest

abbrev pub spell_type : TypeWord → List Symbol → List Symbol
spell_type t rest = word (type_tag t.type) t.line ∷ rest

abbrev pub spell_option_type : Option TypeWord → List Symbol → List Symbol
spell_option_type None rest = rest
spell_option_type (Some t) rest = spell_type t rest

-- array segments
abbrev pub spell_pair : BoundPair → List Symbol → List Symbol
spell_pair (MkPair a l b) rest = spell_expr a (word Colon l ∷ spell_expr b rest)

abbrev pub spell_next_pairs : List NextPair → List Symbol → List Symbol
spell_next_pairs [] rest = rest
spell_next_pairs (p ∷ ps) rest = word Comma p.comma ∷ spell_pair p.pair (spell_next_pairs ps rest)

abbrev pub spell_segment : Segment → List Symbol → List Symbol
spell_segment (MkSegment ns l p ps m) rest =
    spell_names ns (word LeftBracket l ∷ spell_pair p (spell_next_pairs ps (word RightBracket m ∷ rest)))

abbrev pub spell_next_segments : List NextSegment → List Symbol → List Symbol
spell_next_segments [] rest = rest
spell_next_segments (s ∷ ss) rest = word Comma s.comma ∷ spell_segment s.segment (spell_next_segments ss rest)

abbrev pub spell_constant : Constant → List Symbol → List Symbol
spell_constant (Unsigned n l) rest = sym Number n l ∷ rest
spell_constant (WithSign o k n l) rest = word (adding_tag o) k ∷ sym Number n l ∷ rest

abbrev pub spell_fixed_pair : FixedPair → List Symbol → List Symbol
spell_fixed_pair (MkFixedPair a l b) rest = spell_constant a (word Colon l ∷ spell_constant b rest)

abbrev pub spell_further : {T : Type 0} → (T → List Symbol → List Symbol) → Further T → List Symbol → List Symbol
spell_further spell NoFurther rest = rest
spell_further spell (MoreFurther l p more) rest = word Comma l ∷ spell_fixed_pair p (spell more rest)

abbrev pub spell_further_pairs : (n : ℕ) → FurtherPairs n → List Symbol → List Symbol
spell_further_pairs zero more rest = rest
spell_further_pairs (suc n) more rest = spell_further (spell_further_pairs n) more rest

abbrev pub spell_fixed : FixedSegment → List Symbol → List Symbol
spell_fixed (MkFixed ns l p ps m) rest =
    spell_names ns (word LeftBracket l ∷ spell_fixed_pair p (spell_further_pairs most_further ps (word RightBracket m ∷ rest)))

abbrev pub spell_next_fixed : List NextFixed → List Symbol → List Symbol
spell_next_fixed [] rest = rest
spell_next_fixed (s ∷ ss) rest = word Comma s.comma ∷ spell_fixed s.segment (spell_next_fixed ss rest)

-- headings of procedures
abbrev pub spell_formals : Formals → List Symbol → List Symbol
spell_formals NoFormals rest = rest
spell_formals (FormalList l ns m) rest = word LeftParenthesis l ∷ spell_names ns (word RightParenthesis m ∷ rest)

abbrev pub spell_values : ValuePart → List Symbol → List Symbol
spell_values NoValues rest = rest
spell_values (ValueList l ns m) rest = word Value l ∷ spell_names ns (word Semicolon m ∷ rest)

abbrev pub spell_specifier : Specifier → List Symbol → List Symbol
spell_specifier (ValueSpec t) rest = spell_type t rest
spell_specifier (ArraySpec t l) rest = spell_type t (word Array l ∷ rest)
spell_specifier (LabelSpec l) rest = word Label l ∷ rest
spell_specifier (SwitchSpec l) rest = word Switch l ∷ rest
spell_specifier (StringSpec l) rest = word String l ∷ rest
spell_specifier (ProcedureSpec l) rest = word Procedure l ∷ rest
spell_specifier (FunctionSpec t l) rest = spell_type t (word Procedure l ∷ rest)

abbrev pub spell_specifications : List Specification → List Symbol → List Symbol
spell_specifications [] rest = rest
spell_specifications (s ∷ ss) rest =
    spell_specifier s.specifier (spell_names s.names (word Semicolon s.semicolon ∷ spell_specifications ss rest))

abbrev pub spell_heading : Heading → List Symbol → List Symbol
spell_heading (MkHeading t l x fs m vs ss) rest = spell_option_type t (word Procedure l ∷ ident x
    ∷ spell_formals fs (word Semicolon m ∷ spell_values vs (spell_specifications ss rest)))

-- parts of statements
abbrev pub spell_labels : List LabelPlace → List Symbol → List Symbol
spell_labels [] rest = rest
spell_labels (l ∷ ls) rest = ident l.name ∷ word Colon l.colon ∷ spell_labels ls rest

abbrev pub spell_left : LeftSide → List Symbol → List Symbol
spell_left (OneName x) rest = ident x ∷ rest
spell_left (LeftElement e) rest = spell_element e rest

abbrev pub spell_lefts : List LeftPart → List Symbol → List Symbol
spell_lefts [] rest = rest
spell_lefts (p ∷ ps) rest = spell_left p.left (word Becomes p.becomes ∷ spell_lefts ps rest)

abbrev pub spell_turns : Turns → List Symbol → List Symbol
spell_turns (OneValue e) rest = spell_expr e rest
spell_turns (StepUntil a l b m c) rest = spell_expr a (word Step l ∷ spell_expr b (word Until m ∷ spell_expr c rest))
spell_turns (WhileTrue e l f) rest = spell_expr e (word While l ∷ spell_expr f rest)

abbrev pub spell_next_turns : List NextTurns → List Symbol → List Symbol
spell_next_turns [] rest = rest
spell_next_turns (t ∷ ts) rest = word Comma t.comma ∷ spell_turns t.turns (spell_next_turns ts rest)

-- declarations and statements
abbrev mutual
  pub spell_declaration : Declaration → List Symbol → List Symbol
  spell_declaration (DeclareType t ns) rest = spell_type t (spell_names ns rest)
  spell_declaration (DeclareOwn l t ns) rest = word Own l ∷ spell_type t (spell_names ns rest)
  spell_declaration (DeclareArrays t l s ss) rest = spell_type t (word Array l ∷ spell_segment s (spell_next_segments ss rest))
  spell_declaration (DeclareOwnArrays k t l s ss) rest =
      word Own k ∷ spell_type t (word Array l ∷ spell_fixed s (spell_next_fixed ss rest))
  spell_declaration (DeclareSwitch l x m e es) rest = word Switch l ∷ ident x ∷ word Becomes m ∷ spell_expr e (spell_exprs es rest)
  spell_declaration (DeclareProcedure h s) rest = spell_heading h (spell_statement s rest)

  pub spell_declarations : Declarations → List Symbol → List Symbol
  spell_declarations NoDeclarations rest = rest
  spell_declarations (MoreDeclarations d l ds) rest = spell_declaration d (word Semicolon l ∷ spell_declarations ds rest)

  pub spell_group : Group → List Symbol → List Symbol
  spell_group (MkBlock l d m ds s ss n) rest = word Begin l
      ∷ spell_declaration d (word Semicolon m ∷ spell_declarations ds (spell_statement s (spell_statements ss
      (word End n ∷ rest))))
  spell_group (MkCompound l s ss m) rest = word Begin l ∷ spell_statement s (spell_statements ss (word End m ∷ rest))

  pub spell_statements : Statements → List Symbol → List Symbol
  spell_statements NoStatements rest = rest
  spell_statements (MoreStatements l s ss) rest = word Semicolon l ∷ spell_statement s (spell_statements ss rest)

  pub spell_statement : Statement → List Symbol → List Symbol
  spell_statement (OneUnconditional u) rest = spell_unconditional u rest
  spell_statement (OneConditional c) rest = spell_conditional c rest
  spell_statement (OneLoop f) rest = spell_loop f rest

  pub spell_unconditional : Unconditional → List Symbol → List Symbol
  spell_unconditional (MkUnconditional ls b) rest = spell_labels ls (spell_basic b rest)

  pub spell_basic : Basic → List Symbol → List Symbol
  spell_basic (OneGroup g) rest = spell_group g rest
  spell_basic (Assign p ps e) rest = spell_lefts (p ∷ ps) (spell_expr e rest)
  spell_basic (Jump l e) rest = word Goto l ∷ spell_expr e rest
  spell_basic (CallStatement c) rest = spell_call c rest
  spell_basic Dummy rest = rest

  pub spell_conditional : Conditional → List Symbol → List Symbol
  spell_conditional (IfThen ls l e m u) rest = spell_labels ls (word If l ∷ spell_expr e (word Then m ∷ spell_unconditional u rest))
  spell_conditional (IfElse ls l e m u n s) rest =
      spell_labels ls (word If l ∷ spell_expr e (word Then m ∷ spell_unconditional u (word Else n ∷ spell_statement s rest)))
  spell_conditional (IfLoop ls l e m f) rest = spell_labels ls (word If l ∷ spell_expr e (word Then m ∷ spell_loop f rest))

  pub spell_loop : Loop → List Symbol → List Symbol
  spell_loop (MkLoop ls l x m t ts n s) rest = spell_labels ls (word For l ∷ ident x ∷ word Becomes m
      ∷ spell_turns t (spell_next_turns ts (word Do n ∷ spell_statement s rest)))

-- a program and the end of its text
abbrev pub spell_program : Program → List Symbol
spell_program (MkProgram ls g l) = spell_labels ls (spell_group g (word TextEnd l ∷ []))
