-- The own declarations that the pass has collected are those of the block around the program.
use Rattle.std.proofs.Common.{◌≡◌, ◌∙◌, ◌+◌, ◌++◌, ℕ, zero, suc, List, [], ◌∷◌, length, refl, ap}
use Rattle.gier_symbol.specs.declared.symbol.Symbol.{Symbol}
use Rattle.gier_symbol.specs.declared.tag.Tag.TheVariants.{Declaring, Semicolon, Comma, Colon, LeftBracket, RightBracket, Array}
use Rattle.gier_symbol.specs.ByTag.{word}
use Rattle.gier_tree.specs.declared.construct.Construct.TheVariants.{TypeDeclaration as MType, ArraySegment as MSegment}
use Rattle.gier_tree.specs.Declaring.{own_names}
use Rattle.gier_tree.specs.Entries.{declaration_entries}
use Rattle.gier_tree.specs.Hoist.{fresh_next, fresh_names, pair_of, constant_expr, further_pairs, fresh_segment, fresh_segments}
use Rattle.gier_tree.specs.Hoist.{count_fixed, without_own, last_fixed, hoisted_declarations}
use Rattle.gier_tree.specs.Lines.{first_name, last_name, last_next_name}
use Rattle.gier_tree.specs.OwnCount.{owns_of_declaration, owns_of_declarations, owns_of_group, owns_of_statements}
use Rattle.gier_tree.specs.OwnCount.{owns_of_statement}
use Rattle.gier_tree.specs.OwnCount.{owns_of_unconditional, owns_of_basic, owns_of_conditional, owns_of_loop, owns_in_declaration}
use Rattle.gier_tree.specs.Places.{Places}
use Rattle.gier_tree.specs.Spell.{type_tag}
use Rattle.gier_tree.specs.Texts.{Where, behind_declaration, all_entries, entries_of_all, names_as, text_bound, text_pair}
use Rattle.gier_tree.specs.Texts.{text_pairs}
use Rattle.gier_tree.specs.Texts.{text_segment, text_segments, text_constant, text_fixed_pair, text_further_pairs}
use Rattle.gier_tree.specs.Texts.{text_declarations, fixed_count, next_names, declares}
use Rattle.gier_tree.specs.Trees.{Name, NextName, Names, MkNames, TypeWord, Constant, Unsigned, WithSign, FixedPair, MkFixedPair}
use Rattle.gier_tree.specs.Trees.{FurtherPairs, NoFurther, MoreFurther, most_further, FixedSegment, MkFixed, NextFixed}
use Rattle.gier_tree.specs.Trees.{Declaration, DeclareType, DeclareOwn, DeclareArrays, DeclareOwnArrays, DeclareSwitch}
use Rattle.gier_tree.specs.Trees.{DeclareProcedure}
use Rattle.gier_tree.specs.Trees.{Declarations, NoDeclarations, MoreDeclarations, Group, MkBlock, MkCompound, Statements}
use Rattle.gier_tree.specs.Trees.{NoStatements}
use Rattle.gier_tree.specs.Trees.{MoreStatements, Statement, OneUnconditional, OneConditional, OneLoop, Unconditional}
use Rattle.gier_tree.specs.Trees.{MkUnconditional}
use Rattle.gier_tree.specs.Trees.{Basic, OneGroup, Assign, Jump, CallStatement, Dummy, Conditional, IfThen, IfElse, IfLoop}
use Rattle.gier_tree.specs.Trees.{Loop, MkLoop}
use Rattle.gier_tree.specs.Written.{Collected, opens, shuts}
use Rattle.gier_written.specs.Renamed.{collected_text}
use Rattle.gier_text4.specs.State.{lined}
use Rattle.gier_text4.proofs.OwnArrays.{hoisted_fixed, hoisted_fixeds}
use Rattle.gier_text4.proofs.Scopes.{lined_entries}
use Rattle.gier_text4.proofs.Standing.{hoisted_one, hoisted_text, hoisted_entries}

-- the own declarations of a part are such ones
pub data AreOwn : List Declaration → Type 0 where
  NoOwns : AreOwn []
  OwnVariables : (l : ℕ) (t : TypeWord) (ns : Names) (r : List Declaration) → AreOwn r → AreOwn (DeclareOwn l t ns ∷ r)
  OwnArrays : (k : ℕ) (t : TypeWord) (l : ℕ) (s : FixedSegment) (ss : List NextFixed) (r : List Declaration) → AreOwn r
      → AreOwn (DeclareOwnArrays k t l s ss ∷ r)

mutual
  declaration_owns : (x : Declaration) (r : List Declaration) → AreOwn r → AreOwn (owns_of_declaration x r)
  declaration_owns (DeclareType t ns) r a = a
  declaration_owns (DeclareOwn l t ns) r a = OwnVariables l t ns r a
  declaration_owns (DeclareArrays t l s ss) r a = a
  declaration_owns (DeclareOwnArrays k t l s ss) r a = OwnArrays k t l s ss r a
  declaration_owns (DeclareSwitch l x m e es) r a = a
  declaration_owns (DeclareProcedure h s) r a = statement_owns s r a

  declarations_owns : (x : Declarations) (r : List Declaration) → AreOwn r → AreOwn (owns_of_declarations x r)
  declarations_owns NoDeclarations r a = a
  declarations_owns (MoreDeclarations d l ds) r a = declaration_owns d (owns_of_declarations ds r) (declarations_owns ds r a)

  pub group_owns : (x : Group) (r : List Declaration) → AreOwn r → AreOwn (owns_of_group x r)
  group_owns (MkBlock l d m ds s ss n) r a =
      declaration_owns d (owns_of_declarations ds (owns_of_statement s (owns_of_statements ss r)))
      (declarations_owns ds (owns_of_statement s (owns_of_statements ss r))
      (statement_owns s (owns_of_statements ss r) (statements_owns ss r a)))
  group_owns (MkCompound l s ss m) r a = statement_owns s (owns_of_statements ss r) (statements_owns ss r a)

  statements_owns : (x : Statements) (r : List Declaration) → AreOwn r → AreOwn (owns_of_statements x r)
  statements_owns NoStatements r a = a
  statements_owns (MoreStatements l s ss) r a = statement_owns s (owns_of_statements ss r) (statements_owns ss r a)

  statement_owns : (x : Statement) (r : List Declaration) → AreOwn r → AreOwn (owns_of_statement x r)
  statement_owns (OneUnconditional x) r a = unconditional_owns x r a
  statement_owns (OneConditional x) r a = conditional_owns x r a
  statement_owns (OneLoop x) r a = loop_owns x r a

  unconditional_owns : (x : Unconditional) (r : List Declaration) → AreOwn r → AreOwn (owns_of_unconditional x r)
  unconditional_owns (MkUnconditional ls b) r a = basic_owns b r a

  basic_owns : (x : Basic) (r : List Declaration) → AreOwn r → AreOwn (owns_of_basic x r)
  basic_owns (OneGroup g) r a = group_owns g r a
  basic_owns (Assign p ps e) r a = a
  basic_owns (Jump l e) r a = a
  basic_owns (CallStatement x) r a = a
  basic_owns Dummy r a = a

  conditional_owns : (x : Conditional) (r : List Declaration) → AreOwn r → AreOwn (owns_of_conditional x r)
  conditional_owns (IfThen ls l e m x) r a = unconditional_owns x r a
  conditional_owns (IfElse ls l e m x n s) r a = unconditional_owns x (owns_of_statement s r) (statement_owns s r a)
  conditional_owns (IfLoop ls l e m x) r a = loop_owns x r a

  loop_owns : (x : Loop) (r : List Declaration) → AreOwn r → AreOwn (owns_of_loop x r)
  loop_owns (MkLoop ls l x m t ts n s) r a = statement_owns s r a

-- in the block they declare no own quantities
pub none_in_frame : (ds : List Declaration) (i : ℕ) → AreOwn ds → owns_of_declarations (hoisted_declarations ds i) [] ≡ []
none_in_frame [] i a = refl
none_in_frame _ i (OwnVariables l t ns r a) = none_in_frame r (i + length (own_names (DeclareOwn l t ns))) a
none_in_frame _ i (OwnArrays k t l s ss r a) = none_in_frame r (i + length (own_names (DeclareOwnArrays k t l s ss))) a

-- their entries
pub entries_framed : (ds : List Declaration) (i j l : ℕ) (k : List Symbol) → AreOwn ds
    → lined l (hoisted_entries ds i []) k ≡ entries_of_all Collected (hoisted_declarations ds i) j l k
entries_framed [] i j l k a = refl
entries_framed _ i j l k (OwnVariables y t ns r a) =
    let d = DeclareOwn y t ns in
    let i1 = i + length (own_names d) in
    let j1 = j + owns_in_declaration (without_own d i) in
    lined_entries (declaration_entries (without_own d i)) l (hoisted_entries r i1 []) k
    ∙ ap (all_entries (declaration_entries (without_own d i)) l) (entries_framed r i1 j1 l k a)
entries_framed _ i j l k (OwnArrays y t m s ss r a) =
    let d = DeclareOwnArrays y t m s ss in
    let i1 = i + length (own_names d) in
    let j1 = j + owns_in_declaration (without_own d i) in
    lined_entries (declaration_entries (without_own d i)) l (hoisted_entries r i1 []) k
    ∙ ap (all_entries (declaration_entries (without_own d i)) l) (entries_framed r i1 j1 l k a)

-- their text
fresh_last : (ns : List NextName) (i line : ℕ) → last_next_name line (fresh_next ns i) ≡ last_next_name line ns
fresh_last [] i line = refl
fresh_last (n ∷ ns) i line = fresh_last ns (suc i) n.name.line

variables_framed : (ns : Names) (i : ℕ) → last_name (fresh_names ns i) ≡ last_name ns
variables_framed (MkNames x ns) i = fresh_last ns (suc i) x.line

constant_framed : (os : List Name) (q : Places) (x : Constant) (k : List Symbol)
    → text_bound (collected_text os) q (constant_expr x) k ≡ text_constant x k
constant_framed os q (Unsigned n l) k = refl
constant_framed os q (WithSign o y n l) k = refl

pair_framed : (os : List Name) (q : Places) (x : FixedPair) (k : List Symbol)
    → text_pair (collected_text os) q (pair_of x) k ≡ text_fixed_pair x k
pair_framed os q (MkFixedPair a l b) k =
    constant_framed os q a (word Colon l ∷ text_bound (collected_text os) q (constant_expr b) k)
    ∙ ap (λ z. text_constant a (word Colon l ∷ z)) (constant_framed os q b k)

further_framed : (os : List Name) (q : Places) (n : ℕ) (x : FurtherPairs n) (k : List Symbol)
    → text_pairs (collected_text os) q (further_pairs n x) k ≡ text_further_pairs n x k
further_framed os q zero x k = refl
further_framed os q (suc n) NoFurther k = refl
further_framed os q (suc n) (MoreFurther l y more) k =
    ap (λ z. word Comma l ∷ z) (pair_framed os q y (text_pairs (collected_text os) q (further_pairs n more) k)
    ∙ ap (text_fixed_pair y) (further_framed os q n more k))

segment_framed : (os : List Name) (q : Places) (s : FixedSegment) (i : ℕ) (k : List Symbol)
    → text_segment (collected_text os) q (fresh_segment s i) k ≡ hoisted_fixed s i k
segment_framed os q (MkFixed (MkNames x ns) l y ys m) i k =
    let end : List Symbol = word RightBracket m ∷ shuts MSegment m ∷ k in
    ap (λ z. opens MSegment x.line ∷ names_as Declaring (fresh_names (MkNames x ns) i) (word LeftBracket l ∷ z))
    (pair_framed os q y (text_pairs (collected_text os) q (further_pairs most_further ys) end)
    ∙ ap (text_fixed_pair y) (further_framed os q most_further ys end))

same_count : (s : FixedSegment) → count_fixed s ≡ fixed_count s
same_count (MkFixed ns l q qs m) = refl

segments_framed : (os : List Name) (q : Places) (ss : List NextFixed) (i : ℕ) (k : List Symbol)
    → text_segments (collected_text os) q (fresh_segments ss i) k ≡ hoisted_fixeds ss i k
segments_framed os q [] i k = refl
segments_framed os q (s ∷ ss) i k =
    ap (λ z. word Comma s.comma ∷ z) (segment_framed os q s.segment i (text_segments (collected_text os) q
    (fresh_segments ss (i + count_fixed s.segment)) k)
    ∙ ap (hoisted_fixed s.segment i) (segments_framed os q ss (i + count_fixed s.segment) k
    ∙ ap (λ z. hoisted_fixeds ss (i + z) k) (same_count s.segment)))

pub text_framed : (os : List Name) (q : Places) (v : Where) (ds : List Declaration) (i : ℕ) (k : List Symbol) → AreOwn ds
    → text_declarations (collected_text os) q v (hoisted_declarations ds i) k ≡ hoisted_text ds i k
text_framed os q v [] i k a = refl
text_framed os q v _ i k (OwnVariables l t ns r a) =
    let d = DeclareOwn l t ns in
    let i1 = i + length (own_names d) in
    let v1 = behind_declaration v (without_own d i) in
    ap (λ z. opens MType t.line ∷ word (type_tag t.type) t.line ∷ names_as Declaring (fresh_names ns i) (shuts MType z
    ∷ word Semicolon (last_name ns)
    ∷ text_declarations (collected_text os) q v1 (hoisted_declarations r i1) k)) (variables_framed ns i)
    ∙ ap (hoisted_one d i) (text_framed os q v1 r i1 k a)
text_framed os q v _ i k (OwnArrays y t l s ss r a) =
    let d = DeclareOwnArrays y t l s ss in
    let i1 = i + length (own_names d) in
    let v1 = behind_declaration v (without_own d i) in
    let k1 : List Symbol = word Semicolon (last_fixed s ss)
    ∷ text_declarations (collected_text os) q v1 (hoisted_declarations r i1) k in
    ap (λ z. word (type_tag t.type) t.line ∷ word Array l ∷ z)
    (segment_framed os q s i (text_segments (collected_text os) q (fresh_segments ss (i + count_fixed s)) k1)
    ∙ ap (hoisted_fixed s i) (segments_framed os q ss (i + count_fixed s) k1
    ∙ ap (λ z. hoisted_fixeds ss (i + z) k1) (same_count s)))
    ∙ ap (hoisted_one d i) (text_framed os q v1 r i1 k a)

-- what is written behind them stands behind the last
next_app : (ns : List NextName) (k o : List Symbol) → next_names Declaring ns k ++ o ≡ next_names Declaring ns (k ++ o)
next_app [] k o = refl
next_app (n ∷ ns) k o = ap (λ z. word Comma n.comma ∷ declares n.name ∷ z) (next_app ns k o)

names_app : (ns : Names) (k o : List Symbol) → names_as Declaring ns k ++ o ≡ names_as Declaring ns (k ++ o)
names_app (MkNames x ns) k o = ap (λ z. declares x ∷ z) (next_app ns k o)

constant_app : (x : Constant) (k o : List Symbol) → text_constant x k ++ o ≡ text_constant x (k ++ o)
constant_app (Unsigned n l) k o = refl
constant_app (WithSign y i n l) k o = refl

pair_app : (x : FixedPair) (k o : List Symbol) → text_fixed_pair x k ++ o ≡ text_fixed_pair x (k ++ o)
pair_app (MkFixedPair a l b) k o =
    constant_app a (word Colon l ∷ text_constant b k) o ∙ ap (λ z. text_constant a (word Colon l ∷ z)) (constant_app b k o)

further_app : (n : ℕ) (x : FurtherPairs n) (k o : List Symbol) → text_further_pairs n x k ++ o ≡ text_further_pairs n x (k ++ o)
further_app zero x k o = refl
further_app (suc n) NoFurther k o = refl
further_app (suc n) (MoreFurther l y more) k o =
    ap (λ z. word Comma l ∷ z) (pair_app y (text_further_pairs n more k) o ∙ ap (text_fixed_pair y) (further_app n more k o))

fixed_app : (s : FixedSegment) (i : ℕ) (k o : List Symbol) → hoisted_fixed s i k ++ o ≡ hoisted_fixed s i (k ++ o)
fixed_app (MkFixed ns l y ys m) i k o =
    let end : List Symbol = word RightBracket m ∷ shuts MSegment m ∷ k in
    ap (λ z. opens MSegment (first_name ns) ∷ z)
    (names_app (fresh_names ns i) (word LeftBracket l ∷ text_fixed_pair y (text_further_pairs most_further ys end)) o
    ∙ ap (λ z. names_as Declaring (fresh_names ns i) (word LeftBracket l ∷ z))
    (pair_app y (text_further_pairs most_further ys end) o ∙ ap (text_fixed_pair y) (further_app most_further ys end o)))

fixeds_app : (ss : List NextFixed) (i : ℕ) (k o : List Symbol) → hoisted_fixeds ss i k ++ o ≡ hoisted_fixeds ss i (k ++ o)
fixeds_app [] i k o = refl
fixeds_app (s ∷ ss) i k o =
    ap (λ z. word Comma s.comma ∷ z) (fixed_app s.segment i (hoisted_fixeds ss (i + fixed_count s.segment) k) o
    ∙ ap (hoisted_fixed s.segment i) (fixeds_app ss (i + fixed_count s.segment) k o))

pub hoisted_app : (ds : List Declaration) (i : ℕ) (k o : List Symbol) → AreOwn ds
    → hoisted_text ds i k ++ o ≡ hoisted_text ds i (k ++ o)
hoisted_app [] i k o a = refl
hoisted_app _ i k o (OwnVariables l t ns r a) =
    let d = DeclareOwn l t ns in
    let i1 = i + length (own_names d) in
    ap (λ z. opens MType t.line ∷ word (type_tag t.type) t.line ∷ z)
    (names_app (fresh_names ns i) (shuts MType (last_name ns) ∷ word Semicolon (last_name ns) ∷ hoisted_text r i1 k) o)
    ∙ ap (hoisted_one d i) (hoisted_app r i1 k o a)
hoisted_app _ i k o (OwnArrays y t l s ss r a) =
    let d = DeclareOwnArrays y t l s ss in
    let i1 = i + length (own_names d) in
    let k1 : List Symbol = word Semicolon (last_fixed s ss) ∷ hoisted_text r i1 k in
    ap (λ z. word (type_tag t.type) t.line ∷ word Array l ∷ z)
    (fixed_app s i (hoisted_fixeds ss (i + fixed_count s) k1) o ∙ ap (hoisted_fixed s i) (fixeds_app ss (i + fixed_count s) k1 o))
    ∙ ap (hoisted_one d i) (hoisted_app r i1 k o a)
