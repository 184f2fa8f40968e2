-- How declarations and statements stand in the texts 3 to 6: with a mark before and behind each construct, and from text 4 on
-- with the entries of each scope behind its open mark. A statement is told the line of the symbol that follows it, the level of its
-- activation, how many numbers labels, switches and procedures before it have, and how many own quantities stand before it.
use Rattle.std.specs.Prelude.{ℕ, zero, suc, ◌+◌, true, List, [], ◌∷◌, length}
use Rattle.gier_symbol.specs.declared.symbol.Symbol.{Symbol}
use Rattle.gier_symbol.specs.declared.tag.Tag.{Tag}
use Rattle.gier_symbol.specs.declared.tag.Tag.TheVariants.{Number, Comma, Colon, Semicolon, Becomes, LeftParenthesis}
use Rattle.gier_symbol.specs.declared.tag.Tag.TheVariants.{RightParenthesis, LeftBracket, RightBracket, Begin, End, If, Then}
use Rattle.gier_symbol.specs.declared.tag.Tag.TheVariants.{Else, For, Step, Until, While, Do, Goto, Array, Switch, Procedure}
use Rattle.gier_symbol.specs.declared.tag.Tag.TheVariants.{Value, Own, LabelColon, Declaring, Formal, ValueListed, Specified}
use Rattle.gier_symbol.specs.declared.tag.Tag.TheVariants.{Entry as EntryTag, Description, Count, OwnNumber, OwnEntry}
use Rattle.gier_symbol.specs.ByTag.{sym, word}
use Rattle.gier_tree.specs.declared.construct.Construct.TheVariants.{Block as MBlock, Compound as MCompound}
use Rattle.gier_tree.specs.declared.construct.Construct.TheVariants.{TypeDeclaration as MType, ArraySegment as MSegment}
use Rattle.gier_tree.specs.declared.construct.Construct.TheVariants.{SwitchDeclaration as MSwitch}
use Rattle.gier_tree.specs.declared.construct.Construct.TheVariants.{ProcedureDeclaration as MProcedure, ProcedureBody as MBody}
use Rattle.gier_tree.specs.declared.construct.Construct.TheVariants.{ForStatement as MFor, ControlledStatement as MControlled}
use Rattle.gier_tree.specs.declared.construct.Construct.TheVariants.{ConditionalStatement as MConditional, Bound as MBound}
use Rattle.gier_tree.specs.declared.construct.Construct.TheVariants.{SwitchElement as MElement, ForElement as MForElement}
use Rattle.gier_tree.specs.declared.construct.Construct.TheVariants.{GoTo as MGoTo}
use Rattle.gier_tree.specs.declared.kind.Kind.{Kind}
use Rattle.gier_tree.specs.declared.kind.Kind.TheVariants.{IntegerArray, BooleanArray}
use Rattle.gier_tree.specs.Kinds.{kind_number}
use Rattle.gier_tree.specs.Declaring.{list_of, own_names}
use Rattle.gier_tree.specs.Described.{Described}
use Rattle.gier_tree.specs.Entries.{Entry, declaration_entries, block_entries, procedure_entries, turn_entries, label_entries}
use Rattle.gier_tree.specs.Entries.{entries_numbers, numbers_declaration, numbers_declarations, numbers_statement}
use Rattle.gier_tree.specs.Entries.{numbers_unconditional}
use Rattle.gier_tree.specs.Declaring.{labels_of_statement, labels_of_statements}
use Rattle.gier_tree.specs.Hoist.{fresh}
use Rattle.gier_tree.specs.Lines.{first_expr, last_expr, first_turns, last_turns, first_name, last_name, last_exprs}
use Rattle.gier_tree.specs.Lines.{first_statement, last_statement, first_conditional, last_conditional, first_loop, last_loop}
use Rattle.gier_tree.specs.Lines.{first_heading, last_heading}
use Rattle.gier_tree.specs.OwnCount.{owns_in_declaration, owns_in_declarations, owns_in_statement, owns_in_unconditional}
use Rattle.gier_tree.specs.Places.{Places, block_places, procedure_places, turn_places}
use Rattle.gier_tree.specs.Spell.{spell_type, spell_option_type, spell_specifier}
use Rattle.gier_tree.specs.Written.{Stage, Marked, Collected, Text, opens, shuts, used_name, leading_tag, text_name, text_expr}
use Rattle.gier_tree.specs.Written.{text_call, text_element}
use Rattle.gier_tree.specs.Trees.{Name, Expr, Call, Alone, Exprs, NoExprs, MoreExprs, NextName, Names, MkNames, TypeWord}
use Rattle.gier_tree.specs.Trees.{BoundPair, MkPair, NextPair, Segment, MkSegment, NextSegment, Constant, Unsigned, WithSign}
use Rattle.gier_tree.specs.Trees.{FixedPair, MkFixedPair, Further, NoFurther, MoreFurther, FurtherPairs, most_further}
use Rattle.gier_tree.specs.Trees.{FixedSegment, MkFixed, NextFixed, Formals, NoFormals, FormalList, ValuePart, NoValues}
use Rattle.gier_tree.specs.Trees.{ValueList, Specification, Heading, MkHeading, LabelPlace, LeftSide, OneName, LeftElement}
use Rattle.gier_tree.specs.Trees.{LeftPart, Turns, OneValue, StepUntil, WhileTrue, NextTurns, Declaration, DeclareType}
use Rattle.gier_tree.specs.Trees.{DeclareOwn, DeclareArrays, DeclareOwnArrays, DeclareSwitch, DeclareProcedure, Declarations}
use Rattle.gier_tree.specs.Trees.{NoDeclarations, MoreDeclarations, Group, MkBlock, MkCompound, Statements, NoStatements}
use Rattle.gier_tree.specs.Trees.{MoreStatements, Statement, OneUnconditional, OneConditional, OneLoop, Unconditional}
use Rattle.gier_tree.specs.Trees.{MkUnconditional, Basic, OneGroup, Assign, Jump, CallStatement, Dummy, Conditional, IfThen}
use Rattle.gier_tree.specs.Trees.{IfElse, IfLoop, Loop, MkLoop}

-- the entries of a scope, on the line of its open mark
abbrev pub kinds_listed : List Kind → (line : ℕ) → List Symbol → List Symbol
kinds_listed [] line rest = rest
kinds_listed (k ∷ ks) line rest = sym Description (kind_number k) line ∷ kinds_listed ks line rest

-- of an array stands its count, of a procedure the kinds of its formals
abbrev pub behind_entry : Kind → Described → (line : ℕ) → List Symbol → List Symbol
behind_entry IntegerArray d line rest = sym Count d.count line ∷ rest
behind_entry BooleanArray d line rest = sym Count d.count line ∷ rest
behind_entry kind d line rest = kinds_listed d.formals line rest

abbrev pub all_entries : List Entry → (line : ℕ) → List Symbol → List Symbol
all_entries [] line rest = rest
all_entries (e ∷ es) line rest = sym EntryTag e.name.number line ∷ sym Description (kind_number e.what.kind) line
    ∷ behind_entry e.what.kind e.what line (all_entries es line rest)

abbrev pub entries : Stage → List Entry → (line : ℕ) → List Symbol → List Symbol
entries Marked es line rest = rest
entries stage es line rest = all_entries es line rest

-- in text 4 an own quantity has an entry in its block too, with its fresh identifier
abbrev pub own_entries : List Name → (i line : ℕ) → List Symbol → List Symbol
own_entries [] i line rest = rest
own_entries (x ∷ xs) i line rest = sym EntryTag x.number line ∷ sym OwnEntry (fresh i) line ∷ own_entries xs (suc i) line rest

abbrev pub entries_of : Stage → Declaration → (i line : ℕ) → List Symbol → List Symbol
entries_of Marked d i line rest = rest
entries_of Collected d i line rest = all_entries (declaration_entries d) line (own_entries (own_names d) i line rest)
entries_of stage d i line rest = all_entries (declaration_entries d) line rest

abbrev pub entries_of_all : Stage → Declarations → (i line : ℕ) → List Symbol → List Symbol
entries_of_all stage NoDeclarations i line rest = rest
entries_of_all stage (MoreDeclarations d l ds) i line rest =
    entries_of stage d i line (entries_of_all stage ds (i + owns_in_declaration d) line rest)

-- identifiers in declaring places, and in lists of other kinds
abbrev pub declares : Name → Symbol
declares x = sym Declaring x.number x.line

abbrev pub next_names : Tag → List NextName → List Symbol → List Symbol
next_names tag [] rest = rest
next_names tag (n ∷ ns) rest = word Comma n.comma ∷ sym tag n.name.number n.name.line ∷ next_names tag ns rest

abbrev pub names_as : Tag → Names → List Symbol → List Symbol
names_as tag (MkNames x ns) rest = sym tag x.number x.line ∷ next_names tag ns rest

-- in text 3 each own quantity has its number behind it
abbrev pub own_place : Name → (i : ℕ) → List Symbol → List Symbol
own_place x i rest = declares x ∷ sym OwnNumber i x.line ∷ rest

abbrev pub next_owns : List NextName → (i : ℕ) → List Symbol → List Symbol
next_owns [] i rest = rest
next_owns (n ∷ ns) i rest = word Comma n.comma ∷ own_place n.name i (next_owns ns (suc i) rest)

abbrev pub owns_as : Names → (i : ℕ) → List Symbol → List Symbol
owns_as (MkNames x ns) i rest = own_place x i (next_owns ns (suc i) rest)

-- bounds
abbrev pub text_bound : Text → Places → Expr → List Symbol → List Symbol
text_bound t p e rest = opens MBound (first_expr e) ∷ text_expr t p e (shuts MBound (last_expr e) ∷ rest)

abbrev pub text_pair : Text → Places → BoundPair → List Symbol → List Symbol
text_pair t p (MkPair a l b) rest = text_bound t p a (word Colon l ∷ text_bound t p b rest)

abbrev pub text_pairs : Text → Places → List NextPair → List Symbol → List Symbol
text_pairs t p [] rest = rest
text_pairs t p (n ∷ ns) rest = word Comma n.comma ∷ text_pair t p n.pair (text_pairs t p ns rest)

abbrev pub text_segment : Text → Places → Segment → List Symbol → List Symbol
text_segment t p (MkSegment ns l q qs m) rest = opens MSegment (first_name ns)
    ∷ names_as Declaring ns (word LeftBracket l ∷ text_pair t p q (text_pairs t p qs (word RightBracket m
    ∷ shuts MSegment m ∷ rest)))

abbrev pub text_segments : Text → Places → List NextSegment → List Symbol → List Symbol
text_segments t p [] rest = rest
text_segments t p (s ∷ ss) rest = word Comma s.comma ∷ text_segment t p s.segment (text_segments t p ss rest)

-- own arrays, in text 3
abbrev pub text_constant : Constant → List Symbol → List Symbol
text_constant (Unsigned n l) rest = opens MBound l ∷ sym Number n l ∷ shuts MBound l ∷ rest
text_constant (WithSign o k n l) rest = opens MBound k ∷ word (leading_tag o) k ∷ sym Number n l ∷ shuts MBound l ∷ rest

abbrev pub text_fixed_pair : FixedPair → List Symbol → List Symbol
text_fixed_pair (MkFixedPair a l b) rest = text_constant a (word Colon l ∷ text_constant b rest)

abbrev pub text_further : {T : Type 0} → (T → List Symbol → List Symbol) → Further T → List Symbol → List Symbol
text_further text NoFurther rest = rest
text_further text (MoreFurther l q more) rest = word Comma l ∷ text_fixed_pair q (text more rest)

abbrev pub text_further_pairs : (n : ℕ) → FurtherPairs n → List Symbol → List Symbol
text_further_pairs zero more rest = rest
text_further_pairs (suc n) more rest = text_further (text_further_pairs n) more rest

abbrev pub text_fixed : FixedSegment → (i : ℕ) → List Symbol → List Symbol
text_fixed (MkFixed ns l q qs m) i rest = opens MSegment (first_name ns)
    ∷ owns_as ns i (word LeftBracket l ∷ text_fixed_pair q (text_further_pairs most_further qs (word RightBracket m
    ∷ shuts MSegment m ∷ rest)))

abbrev pub fixed_count : FixedSegment → ℕ
fixed_count (MkFixed ns l q qs m) = length (list_of ns)

abbrev pub text_fixeds : List NextFixed → (i : ℕ) → List Symbol → List Symbol
text_fixeds [] i rest = rest
text_fixeds (s ∷ ss) i rest = word Comma s.comma ∷ text_fixed s.segment i (text_fixeds ss (i + fixed_count s.segment) rest)

-- an own declaration stands in text 3 alone
abbrev pub text_own : Stage → (own : ℕ) → TypeWord → Names → (i : ℕ) → List Symbol → List Symbol
text_own Marked l t ns i rest = opens MType l ∷ word Own l ∷ spell_type t (owns_as ns i (shuts MType (last_name ns) ∷ rest))
text_own stage l t ns i rest = rest

abbrev pub text_own_arrays : Stage → (own : ℕ) → TypeWord → (array : ℕ) → FixedSegment → List NextFixed → (i : ℕ) → List Symbol
    → List Symbol
text_own_arrays Marked k t l s ss i rest =
    word Own k ∷ spell_type t (word Array l ∷ text_fixed s i (text_fixeds ss (i + fixed_count s) rest))
text_own_arrays stage k t l s ss i rest = rest

-- the elements of a switch
abbrev pub text_switch_element : Text → Places → Expr → List Symbol → List Symbol
text_switch_element t p e rest = opens MElement (first_expr e) ∷ text_expr t p e (shuts MElement (last_expr e) ∷ rest)

abbrev pub text_switch_elements : Text → Places → Exprs → List Symbol → List Symbol
text_switch_elements t p NoExprs rest = rest
text_switch_elements t p (MoreExprs l e es) rest = word Comma l ∷ text_switch_element t p e (text_switch_elements t p es rest)

-- headings
abbrev pub text_formals : Formals → List Symbol → List Symbol
text_formals NoFormals rest = rest
text_formals (FormalList l ns m) rest = word LeftParenthesis l ∷ names_as Formal ns (word RightParenthesis m ∷ rest)

abbrev pub text_values : ValuePart → List Symbol → List Symbol
text_values NoValues rest = rest
text_values (ValueList l ns m) rest = word Value l ∷ names_as ValueListed ns (word Semicolon m ∷ rest)

abbrev pub text_specifications : List Specification → List Symbol → List Symbol
text_specifications [] rest = rest
text_specifications (s ∷ ss) rest =
    spell_specifier s.specifier (names_as Specified s.names (word Semicolon s.semicolon ∷ text_specifications ss rest))

abbrev pub text_heading : Heading → List Symbol → List Symbol
text_heading (MkHeading t l x fs m vs ss) rest = spell_option_type t (word Procedure l ∷ declares x
    ∷ text_formals fs (word Semicolon m ∷ text_values vs (text_specifications ss rest)))

-- labels, left parts, elements of for lists
abbrev pub text_labels : List LabelPlace → List Symbol → List Symbol
text_labels [] rest = rest
text_labels (l ∷ ls) rest = declares l.name ∷ word LabelColon l.colon ∷ text_labels ls rest

abbrev pub text_left : Text → Places → LeftSide → List Symbol → List Symbol
text_left t p (OneName x) rest = used_name t p x rest
text_left t p (LeftElement e) rest = text_element t p e rest

abbrev pub text_lefts : Text → Places → List LeftPart → List Symbol → List Symbol
text_lefts t p [] rest = rest
text_lefts t p (q ∷ qs) rest = text_left t p q.left (word Becomes q.becomes ∷ text_lefts t p qs rest)

abbrev pub text_turn : Text → Places → Turns → List Symbol → List Symbol
text_turn t p (OneValue e) rest = text_expr t p e rest
text_turn t p (StepUntil a l b m c) rest = text_expr t p a (word Step l ∷ text_expr t p b (word Until m ∷ text_expr t p c rest))
text_turn t p (WhileTrue e l f) rest = text_expr t p e (word While l ∷ text_expr t p f rest)

abbrev pub text_turns : Text → Places → Turns → List Symbol → List Symbol
text_turns t p u rest = opens MForElement (first_turns u) ∷ text_turn t p u (shuts MForElement (last_turns u) ∷ rest)

abbrev pub text_next_turns : Text → Places → List NextTurns → List Symbol → List Symbol
text_next_turns t p [] rest = rest
text_next_turns t p (u ∷ us) rest = word Comma u.comma ∷ text_turns t p u.turns (text_next_turns t p us rest)

-- a call as a statement is one also where its identifier stands alone
abbrev pub text_call_statement : Text → Places → Call → List Symbol → List Symbol
text_call_statement t p (Alone x) rest = text_name t p true x rest
text_call_statement t p c rest = text_call t p c rest

-- the line of what follows the first statement of a list
abbrev pub next_line : Statements → (end : ℕ) → ℕ
next_line NoStatements end = end
next_line (MoreStatements l s ss) end = l

-- where a part stands: the level of its activation, the numbers before it, and the own quantities before it
pub record Where : Type 0 where
  pub level : ℕ
  pub numbers : ℕ
  pub owns : ℕ

abbrev pub further : Where → (numbers owns : ℕ) → Where
further w n i = record { level = w.level; numbers = w.numbers + n; owns = w.owns + i }

abbrev pub behind_statement : Where → Statement → Where
behind_statement w s = further w (numbers_statement s) (owns_in_statement s)

abbrev pub behind_declaration : Where → Declaration → Where
behind_declaration w d = further w (numbers_declaration d) (owns_in_declaration d)

abbrev pub behind_declarations : Where → Declarations → Where
behind_declarations w ds = further w (numbers_declarations ds) (owns_in_declarations ds)

-- within a scope of its own, behind its entries
abbrev pub inner : Where → (entries : List Entry) → Where
inner w es = record { level = suc w.level; numbers = w.numbers + entries_numbers es; owns = w.owns }

abbrev mutual
  -- a declaration; what follows it is its semicolon
  pub text_declaration : Text → Places → Where → (next : ℕ) → Declaration → List Symbol → List Symbol
  text_declaration t p w next (DeclareType y ns) rest =
      opens MType y.line ∷ spell_type y (names_as Declaring ns (shuts MType (last_name ns) ∷ rest))
  text_declaration t p w next (DeclareOwn l y ns) rest = text_own t.stage l y ns w.owns rest
  text_declaration t p w next (DeclareArrays y l s ss) rest =
      spell_type y (word Array l ∷ text_segment t p s (text_segments t p ss rest))
  text_declaration t p w next (DeclareOwnArrays k y l s ss) rest = text_own_arrays t.stage k y l s ss w.owns rest
  text_declaration t p w next (DeclareSwitch l x m e es) rest = opens MSwitch l ∷ word Switch l ∷ declares x ∷ word Becomes m
      ∷ text_switch_element t p e (text_switch_elements t p es (shuts MSwitch (last_exprs (last_expr e) es) ∷ rest))
  text_declaration t p w next (DeclareProcedure h s) rest =
      opens MProcedure (first_heading h) ∷ entries t.stage (procedure_entries h s) (first_heading h)
      (text_heading h (opens MBody (first_statement s next)
      ∷ text_statement t (procedure_places (suc w.level) w.numbers h s p) (inner w (procedure_entries h s)) next s
      (shuts MBody (last_statement s next) ∷ shuts MProcedure (last_statement s (last_heading h)) ∷ rest)))

  pub text_declarations : Text → Places → Where → Declarations → List Symbol → List Symbol
  text_declarations t p w NoDeclarations rest = rest
  text_declarations t p w (MoreDeclarations d l ds) rest =
      text_declaration t p w l d (word Semicolon l ∷ text_declarations t p (behind_declaration w d) ds rest)

  pub text_group : Text → Places → Where → Group → List Symbol → List Symbol
  text_group t p w (MkBlock l d m ds s ss n) rest =
      let q = block_places (suc w.level) w.numbers d ds s ss p in
      let w1 = inner w (block_entries d ds s ss) in
      let w2 = behind_declaration w1 d in
      let w3 = behind_declarations w2 ds in
      opens MBlock l
      ∷ entries_of t.stage d w.owns l
      (entries_of_all t.stage ds (w.owns + owns_in_declaration d) l
      (entries t.stage (label_entries (labels_of_statement s (labels_of_statements ss []))) l
      (word Begin l ∷ text_declaration t q w1 m d (word Semicolon m ∷ text_declarations t q w2 ds
      (text_statement t q w3 (next_line ss n) s (text_statements t q (behind_statement w3 s) n ss (word End n
      ∷ shuts MBlock n ∷ rest)))))))
  text_group t p w (MkCompound l s ss n) rest = opens MCompound l ∷ word Begin l
      ∷ text_statement t p w (next_line ss n) s (text_statements t p (behind_statement w s) n ss (word End n
      ∷ shuts MCompound n ∷ rest))

  -- what follows the last of the statements is an `_end` on this line
  pub text_statements : Text → Places → Where → (end : ℕ) → Statements → List Symbol → List Symbol
  text_statements t p w end NoStatements rest = rest
  text_statements t p w end (MoreStatements l s ss) rest =
      word Semicolon l ∷ text_statement t p w (next_line ss end) s (text_statements t p (behind_statement w s) end ss rest)

  pub text_statement : Text → Places → Where → (next : ℕ) → Statement → List Symbol → List Symbol
  text_statement t p w next (OneUnconditional u) rest = text_unconditional t p w next u rest
  text_statement t p w next (OneConditional c) rest = text_conditional t p w next c rest
  text_statement t p w next (OneLoop f) rest = text_loop t p w next f rest

  pub text_unconditional : Text → Places → Where → (next : ℕ) → Unconditional → List Symbol → List Symbol
  text_unconditional t p w next (MkUnconditional ls b) rest = text_labels ls (text_basic t p w b rest)

  pub text_basic : Text → Places → Where → Basic → List Symbol → List Symbol
  text_basic t p w (OneGroup g) rest = text_group t p w g rest
  text_basic t p w (Assign q qs e) rest = text_lefts t p (q ∷ qs) (text_expr t p e rest)
  text_basic t p w (Jump l e) rest = opens MGoTo l ∷ word Goto l ∷ text_expr t p e (shuts MGoTo (last_expr e) ∷ rest)
  text_basic t p w (CallStatement c) rest = text_call_statement t p c rest
  text_basic t p w Dummy rest = rest

  pub text_conditional : Text → Places → Where → (next : ℕ) → Conditional → List Symbol → List Symbol
  text_conditional t p w next (IfThen ls l e m u) rest = opens MConditional (first_conditional (IfThen ls l e m u))
      ∷ text_labels ls (word If l ∷ text_expr t p e (word Then m
      ∷ text_unconditional t p w next u (shuts MConditional (last_conditional (IfThen ls l e m u)) ∷ rest)))
  text_conditional t p w next (IfElse ls l e m u n s) rest =
      opens MConditional (first_conditional (IfElse ls l e m u n s))
      ∷ text_labels ls (word If l ∷ text_expr t p e (word Then m ∷ text_unconditional t p w n u (word Else n
      ∷ text_statement t p (further w (numbers_unconditional u) (owns_in_unconditional u)) next s
      (shuts MConditional (last_conditional (IfElse ls l e m u n s)) ∷ rest))))
  text_conditional t p w next (IfLoop ls l e m f) rest = opens MConditional (first_conditional (IfLoop ls l e m f))
      ∷ text_labels ls (word If l ∷ text_expr t p e (word Then m
      ∷ text_loop t p w next f (shuts MConditional (last_conditional (IfLoop ls l e m f)) ∷ rest)))

  pub text_loop : Text → Places → Where → (next : ℕ) → Loop → List Symbol → List Symbol
  text_loop t p w next (MkLoop ls l x m u us n s) rest =
      opens MFor (first_loop (MkLoop ls l x m u us n s))
      ∷ text_labels ls (word For l ∷ used_name t p x (word Becomes m ∷ text_turns t p u (text_next_turns t p us (word Do n
      ∷ opens MControlled (first_statement s next) ∷ entries t.stage (turn_entries s) (first_statement s next)
      (text_statement t (turn_places w.level w.numbers s p) (further w (entries_numbers (turn_entries s)) 0) next s
      (shuts MControlled (last_statement s next) ∷ shuts MFor (last_loop (MkLoop ls l x m u us n s)) ∷ rest))))))
