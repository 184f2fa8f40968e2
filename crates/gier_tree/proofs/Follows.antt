-- What may stand behind a statement, with what declarations and headings begin, and the items that are passed there.
use Rattle.std.proofs.Common.{◌≡◌, ℕ, List, [], ◌∷◌, Option, Some, None, true, refl, ap, ◌∙◌, arith}
use Rattle.std.proofs.lemmas.Bool.Decides.{nat_tests}
use Rattle.std.specs.Prelude.{nat_lt}
use Rattle.gier_symbol.specs.declared.symbol.Symbol.{Symbol}
use Rattle.gier_symbol.specs.declared.tag.Tag.TheVariants.{Semicolon, Becomes, End, If, Then, Else, For, Do, Array, Procedure}
use Rattle.gier_symbol.specs.ByTag.{word}
use Rattle.gier_tree.specs.Trees.{Alone, WithActuals, Subscripted, ValueType, IntegerType, BooleanType, NoValues, Specifier, ValueSpec, ArraySpec, LabelSpec, SwitchSpec, StringSpec, ProcedureSpec, FunctionSpec, Specification, LabelPlace, LeftSide, OneName, LeftElement, NoDeclarations, MkBlock, MkCompound, Statements, NoStatements, MoreStatements, Statement, OneUnconditional, OneConditional, OneLoop, MkUnconditional, Basic, OneGroup, Assign, Jump, CallStatement, Dummy, IfThen, IfElse, IfLoop, MkLoop}
use Rattle.gier_tree.specs.Spell.{ident, type_tag, spell_expr, spell_names, spell_specifier, spell_specifications, spell_labels, spell_left, spell_lefts, spell_turns, spell_next_turns, spell_statements, spell_statement, spell_unconditional, spell_basic, spell_loop}
use Rattle.gier_tree.specs.Signs.{Sign, SName, SAdding, SMultiplying, SPower, SComparing, SAnd, SOr, SImpl, SEquiv, SColon, SBecomes, SLeftParenthesis, SLeftBracket, SBegin, SIf, SElse, SFor, SGoto, SType, SSwitch, SProcedure, SString, SLabel, SValue, SOwn, sign_of}
use Rattle.gier_tree.specs.Wanted.{NameAlone, MayBeElse, NoElse, AnElse, BranchAlone, Item, MayValues, MaySpecifications, MayDeclarations, WantStatement, WantAfterName, WantBranch, WantAfterBranchName, MayElse, Trees}
use Rattle.gier_tree.specs.Taking.{basic, basic_branch}
use Rattle.gier_tree.specs.Structure.{with_tree, gather, build_at, build}
use Rattle.gier_tree.proofs.Ends.{Ends, binds, false_true}
use Rattle.gier_tree.proofs.ExpressionStarts.{map_first}

-- what goes on with a statement, or begins another; `_else` goes on with some
abbrev pub follows : Sign → ℕ
follows SElse = 1
follows (SName x) = 2
follows SBegin = 2
follows SGoto = 2
follows SIf = 2
follows SFor = 2
follows SColon = 2
follows SBecomes = 2
follows SLeftParenthesis = 2
follows SLeftBracket = 2
follows SPower = 2
follows (SMultiplying o) = 2
follows (SAdding o) = 2
follows (SComparing o) = 2
follows SAnd = 2
follows SOr = 2
follows SImpl = 2
follows SEquiv = 2
follows _ = 0

-- 1: behind any statement; 2: behind an unconditional one
abbrev pub EndsBy : ℕ → List Symbol → Type 0
EndsBy n [] = ⊥
EndsBy n (s ∷ k) = nat_lt (follows (sign_of s)) n ≡ true

weaker : (a : ℕ) → nat_lt a 1 ≡ true → nat_lt a 2 ≡ true
weaker a h = grind (arith, nat_tests)

pub even_else : (k : List Symbol) → EndsBy 1 k → EndsBy 2 k
even_else [] h = absurd h
even_else (s ∷ k) h = weaker (follows (sign_of s)) h

ends_expr : (g : Sign) → nat_lt (follows g) 2 ≡ true → nat_lt (binds g) 1 ≡ true
ends_expr SBecomes h = absurd (false_true h)
ends_expr SLeftParenthesis h = absurd (false_true h)
ends_expr SLeftBracket h = absurd (false_true h)
ends_expr SPower h = absurd (false_true h)
ends_expr (SMultiplying o) h = absurd (false_true h)
ends_expr (SAdding o) h = absurd (false_true h)
ends_expr (SComparing o) h = absurd (false_true h)
ends_expr SAnd h = absurd (false_true h)
ends_expr SOr h = absurd (false_true h)
ends_expr SImpl h = absurd (false_true h)
ends_expr SEquiv h = absurd (false_true h)
ends_expr _ h = refl

pub ends_any : (k : List Symbol) → EndsBy 2 k → Ends 1 k
ends_any [] h = absurd h
ends_any (s ∷ k) h = ends_expr (sign_of s) h

no_statement : (g : Sign) (l : ℕ) (next : (st : List Item) → Option (Trees st)) (st : List Item) → nat_lt (follows g) 2 ≡ true → build_at g l next (WantStatement ∷ st) ≡ with_tree (basic Dummy) (build_at g l next st)
no_statement (SName x) l next st h = absurd (false_true h)
no_statement SBegin l next st h = absurd (false_true h)
no_statement SGoto l next st h = absurd (false_true h)
no_statement SIf l next st h = absurd (false_true h)
no_statement SFor l next st h = absurd (false_true h)
no_statement _ l next st h = refl

pub pass_statement : (k : List Symbol) (st : List Item) (r : Trees st) → EndsBy 2 k → build k st ≡ Some r → build k (WantStatement ∷ st) ≡ Some (basic Dummy, r)
pass_statement [] st r h b = absurd h
pass_statement (s ∷ k) st r h b = no_statement (sign_of s) s.line (build k) st h ∙ ap (with_tree (basic Dummy)) b

no_after_name : (g : Sign) (l : ℕ) (next : (st : List Item) → Option (Trees st)) (st : List Item) → nat_lt (follows g) 2 ≡ true → build_at g l next (WantAfterName ∷ st) ≡ with_tree NameAlone (build_at g l next st)
no_after_name SColon l next st h = absurd (false_true h)
no_after_name SBecomes l next st h = absurd (false_true h)
no_after_name SLeftBracket l next st h = absurd (false_true h)
no_after_name SLeftParenthesis l next st h = absurd (false_true h)
no_after_name _ l next st h = refl

pub pass_after_name : (k : List Symbol) (st : List Item) (r : Trees st) → EndsBy 2 k → build k st ≡ Some r → build k (WantAfterName ∷ st) ≡ Some (NameAlone, r)
pass_after_name [] st r h b = absurd h
pass_after_name (s ∷ k) st r h b = no_after_name (sign_of s) s.line (build k) st h ∙ ap (with_tree NameAlone) b

no_else : (g : Sign) (l : ℕ) (next : (st : List Item) → Option (Trees st)) (st : List Item) → nat_lt (follows g) 1 ≡ true → build_at g l next (MayElse ∷ st) ≡ with_tree NoElse (build_at g l next st)
no_else SElse l next st h = absurd (false_true h)
no_else _ l next st h = refl

pub pass_else : (k : List Symbol) (st : List Item) (r : Trees st) → EndsBy 1 k → build k st ≡ Some r → build k (MayElse ∷ st) ≡ Some (NoElse, r)
pass_else [] st r h b = absurd h
pass_else (s ∷ k) st r h b = no_else (sign_of s) s.line (build k) st h ∙ ap (with_tree NoElse) b

-- an empty branch, and a name alone as a branch, stand before what may be an `_else`
else_map : {U : Type 0} (f : MayBeElse → U) (l : ℕ) (st : List Item) (o : Option (Trees (WantStatement ∷ st))) → gather (WantStatement ∷ []) st (λ ts. f (AnElse l ts.0)) o ≡ map_first f (gather (WantStatement ∷ []) st (λ ts. AnElse l ts.0) o)
else_map f l st None = refl
else_map f l st (Some ts) = refl

none_map : {U : Type 0} (f : MayBeElse → U) (st : List Item) (o : Option (Trees st)) → with_tree (f NoElse) o ≡ map_first f (with_tree NoElse o)
none_map f st None = refl
none_map f st (Some ts) = refl

empty_branch : (g : Sign) (l : ℕ) (next : (st : List Item) → Option (Trees st)) (st : List Item) → nat_lt (follows g) 2 ≡ true → build_at g l next (WantBranch ∷ st) ≡ map_first (basic_branch Dummy) (build_at g l next (MayElse ∷ st))
empty_branch (SName x) l next st h = absurd (false_true h)
empty_branch SBegin l next st h = absurd (false_true h)
empty_branch SGoto l next st h = absurd (false_true h)
empty_branch SIf l next st h = absurd (false_true h)
empty_branch SFor l next st h = absurd (false_true h)
empty_branch SElse l next st h = else_map (basic_branch Dummy) l st (next (WantStatement ∷ st))
empty_branch g l next st h = none_map (basic_branch Dummy) st (build_at g l next st)

pub pass_branch : (k : List Symbol) (st : List Item) (e : MayBeElse) (r : Trees st) → EndsBy 2 k → build k (MayElse ∷ st) ≡ Some (e, r) → build k (WantBranch ∷ st) ≡ Some (basic_branch Dummy e, r)
pass_branch [] st e r h b = absurd h
pass_branch (s ∷ k) st e r h b = empty_branch (sign_of s) s.line (build k) st h ∙ ap (map_first (basic_branch Dummy)) b

alone_branch : (g : Sign) (l : ℕ) (next : (st : List Item) → Option (Trees st)) (st : List Item) → nat_lt (follows g) 2 ≡ true → build_at g l next (WantAfterBranchName ∷ st) ≡ map_first BranchAlone (build_at g l next (MayElse ∷ st))
alone_branch SColon l next st h = absurd (false_true h)
alone_branch SBecomes l next st h = absurd (false_true h)
alone_branch SLeftBracket l next st h = absurd (false_true h)
alone_branch SLeftParenthesis l next st h = absurd (false_true h)
alone_branch SElse l next st h = else_map BranchAlone l st (next (WantStatement ∷ st))
alone_branch g l next st h = none_map BranchAlone st (build_at g l next st)

pub pass_branch_name : (k : List Symbol) (st : List Item) (e : MayBeElse) (r : Trees st) → EndsBy 2 k → build k (MayElse ∷ st) ≡ Some (e, r) → build k (WantAfterBranchName ∷ st) ≡ Some (BranchAlone e, r)
pass_branch_name [] st e r h b = absurd h
pass_branch_name (s ∷ k) st e r h b = alone_branch (sign_of s) s.line (build k) st h ∙ ap (map_first BranchAlone) b

-- with what declarations, specifications and value lists begin
abbrev pub heads : Sign → ℕ
heads (SType t) = 1
heads SOwn = 1
heads SSwitch = 1
heads SProcedure = 1
heads SLabel = 1
heads SString = 1
heads SValue = 2
heads _ = 0

-- 1: none of these; 2: no value list
abbrev pub Headless : ℕ → List Symbol → Type 0
Headless n [] = ⊥
Headless n (s ∷ k) = nat_lt (heads (sign_of s)) n ≡ true

pub no_values_either : (k : List Symbol) → Headless 1 k → Headless 2 k
no_values_either [] h = absurd h
no_values_either (s ∷ k) h = weaker (heads (sign_of s)) h

no_declaration : (g : Sign) (l : ℕ) (next : (st : List Item) → Option (Trees st)) (st : List Item) → nat_lt (heads g) 1 ≡ true → build_at g l next (MayDeclarations ∷ st) ≡ with_tree NoDeclarations (build_at g l next st)
no_declaration (SType t) l next st h = absurd (false_true h)
no_declaration SOwn l next st h = absurd (false_true h)
no_declaration SSwitch l next st h = absurd (false_true h)
no_declaration SProcedure l next st h = absurd (false_true h)
no_declaration _ l next st h = refl

pub pass_declarations : (k : List Symbol) (st : List Item) (r : Trees st) → Headless 1 k → build k st ≡ Some r → build k (MayDeclarations ∷ st) ≡ Some (NoDeclarations, r)
pass_declarations [] st r h b = absurd h
pass_declarations (s ∷ k) st r h b = no_declaration (sign_of s) s.line (build k) st h ∙ ap (with_tree NoDeclarations) b

no_specification : (g : Sign) (l : ℕ) (next : (st : List Item) → Option (Trees st)) (st : List Item) → nat_lt (heads g) 1 ≡ true → build_at g l next (MaySpecifications ∷ st) ≡ with_tree [] (build_at g l next st)
no_specification (SType t) l next st h = absurd (false_true h)
no_specification SLabel l next st h = absurd (false_true h)
no_specification SSwitch l next st h = absurd (false_true h)
no_specification SString l next st h = absurd (false_true h)
no_specification SProcedure l next st h = absurd (false_true h)
no_specification _ l next st h = refl

pub pass_specifications : (k : List Symbol) (st : List Item) (r : Trees st) → Headless 1 k → build k st ≡ Some r → build k (MaySpecifications ∷ st) ≡ Some ([], r)
pass_specifications [] st r h b = absurd h
pass_specifications (s ∷ k) st r h b = no_specification (sign_of s) s.line (build k) st h ∙ ap (with_tree []) b

no_value : (g : Sign) (l : ℕ) (next : (st : List Item) → Option (Trees st)) (st : List Item) → nat_lt (heads g) 2 ≡ true → build_at g l next (MayValues ∷ st) ≡ with_tree NoValues (build_at g l next st)
no_value SValue l next st h = absurd (false_true h)
no_value _ l next st h = refl

pub pass_values : (k : List Symbol) (st : List Item) (r : Trees st) → Headless 2 k → build k st ≡ Some r → build k (MayValues ∷ st) ≡ Some (NoValues, r)
pass_values [] st r h b = absurd h
pass_values (s ∷ k) st r h b = no_value (sign_of s) s.line (build k) st h ∙ ap (with_tree NoValues) b

-- no statement begins so
left_headless : (p : LeftSide) (k : List Symbol) → Headless 1 (spell_left p k)
left_headless (OneName x) k = refl
left_headless (LeftElement (Subscripted x l e es m)) k = refl

basic_headless : (b : Basic) (k : List Symbol) → Headless 1 k → Headless 1 (spell_basic b k)
basic_headless (OneGroup (MkBlock l d m ds s ss n)) k h = refl
basic_headless (OneGroup (MkCompound l s ss n)) k h = refl
basic_headless (Assign p ps e) k h = left_headless p.left (word Becomes p.becomes ∷ spell_lefts ps (spell_expr e k))
basic_headless (Jump l e) k h = refl
basic_headless (CallStatement (Alone x)) k h = refl
basic_headless (CallStatement (WithActuals x l a more m)) k h = refl
basic_headless Dummy k h = h

labels_headless : (ls : List LabelPlace) (k : List Symbol) → Headless 1 k → Headless 1 (spell_labels ls k)
labels_headless [] k h = h
labels_headless (l ∷ ls) k h = refl

pub statement_headless : (s : Statement) (k : List Symbol) → Headless 1 k → Headless 1 (spell_statement s k)
statement_headless (OneUnconditional (MkUnconditional ls b)) k h = labels_headless ls (spell_basic b k) (basic_headless b k h)
statement_headless (OneConditional (IfThen ls l e m u)) k h = labels_headless ls (word If l ∷ spell_expr e (word Then m ∷ spell_unconditional u k)) refl
statement_headless (OneConditional (IfElse ls l e m u n s)) k h = labels_headless ls (word If l ∷ spell_expr e (word Then m ∷ spell_unconditional u (word Else n ∷ spell_statement s k))) refl
statement_headless (OneConditional (IfLoop ls l e m f)) k h = labels_headless ls (word If l ∷ spell_expr e (word Then m ∷ spell_loop f k)) refl
statement_headless (OneLoop (MkLoop ls l x m t ts n s)) k h = labels_headless ls (word For l ∷ ident x ∷ word Becomes m ∷ spell_turns t (spell_next_turns ts (word Do n ∷ spell_statement s k))) refl

pub statements_headless : (ss : Statements) (n : ℕ) (k : List Symbol) → Headless 1 (spell_statements ss (word End n ∷ k))
statements_headless NoStatements n k = refl
statements_headless (MoreStatements l s ss) n k = refl

pub statements_end : (ss : Statements) (n : ℕ) (k : List Symbol) → EndsBy 1 (spell_statements ss (word End n ∷ k))
statements_end NoStatements n k = refl
statements_end (MoreStatements l s ss) n k = refl

typed : (v : ValueType) (l : ℕ) (k : List Symbol) → Headless 2 (word (type_tag v) l ∷ k)
typed IntegerType l k = refl
typed BooleanType l k = refl

specifier_headless : (s : Specifier) (k : List Symbol) → Headless 2 (spell_specifier s k)
specifier_headless (ValueSpec t) k = typed t.type t.line k
specifier_headless (ArraySpec t l) k = typed t.type t.line (word Array l ∷ k)
specifier_headless (LabelSpec l) k = refl
specifier_headless (SwitchSpec l) k = refl
specifier_headless (StringSpec l) k = refl
specifier_headless (ProcedureSpec l) k = refl
specifier_headless (FunctionSpec t l) k = typed t.type t.line (word Procedure l ∷ k)

pub specifications_headless : (ss : List Specification) (k : List Symbol) → Headless 1 k → Headless 2 (spell_specifications ss k)
specifications_headless [] k h = no_values_either k h
specifications_headless (s ∷ ss) k h = specifier_headless s.specifier (spell_names s.names (word Semicolon s.semicolon ∷ spell_specifications ss k))
