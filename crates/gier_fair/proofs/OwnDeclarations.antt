-- The own declarations of a program, as its hoisted program declares them: with the fresh identifiers in their order, and with
-- bounds that use nothing.
use Rattle.std.proofs.Common.{◌≡◌, ◌<◌, ◌≤◌, ℕ, zero, suc, Bool, true, false, List, [], ◌∷◌, length, refl, ap, ap₂, sym, subst, ◌∙◌, arith}
use Rattle.std.specs.Prelude.{◌++◌, ◌+◌, ◌==◌, ◌||◌, map}
use Rattle.std.specs.List.{AllByRecursion, flat_map}
use Rattle.std.proofs.lemmas.Bool.{eqb-true, eq-eqb}
use Rattle.std.proofs.lemmas.List.{length-append}
use Rattle.gier_tree.specs.Declaring.{list_of, names_of_fixed, names_of_fixeds, own_names}
use Rattle.gier_tree.specs.Described.{variable_kind, plain}
use Rattle.gier_tree.specs.Entries.{declaration_entries, declarations_entries, segment_entries, segments_entries}
use Rattle.gier_tree.specs.Hoist.{first_fresh, fresh, fresh_next, fresh_names, fresh_segment, fresh_segments, count_fixed, constant_expr, pair_of, further_pairs, without_own, hoisted_declarations}
use Rattle.gier_tree.specs.OwnCount.{count_owns, owns_of_declaration, owns_of_declarations, owns_of_group, owns_of_statements, owns_of_statement, owns_of_unconditional, owns_of_basic, owns_of_conditional, owns_of_loop}
use Rattle.gier_tree.specs.Places.{Places}
use Rattle.gier_tree.specs.Texts.{Where, behind_declaration}
use Rattle.gier_tree.specs.Trees.{Name, NextName, Names, MkNames, ValueType, Constant, Unsigned, WithSign, FixedPair, MkFixedPair, NoFurther, MoreFurther, FurtherPairs, most_further, FixedSegment, MkFixed, NextFixed}
use Rattle.gier_tree.specs.Trees.{Declaration, DeclareType, DeclareOwn, DeclareArrays, DeclareOwnArrays, DeclareSwitch, DeclareProcedure, Declarations, NoDeclarations, MoreDeclarations, Group, MkBlock, MkCompound, Statements, NoStatements, MoreStatements, Statement, OneUnconditional, OneConditional, OneLoop, Unconditional, MkUnconditional, Basic, OneGroup, Assign, Jump, CallStatement, Dummy, Conditional, IfThen, IfElse, IfLoop, Loop, MkLoop}
use Rattle.gier_scope.specs.Scopes.{Scope, scope_of, declares}
use Rattle.gier_scope.specs.Uses.{uses_expr, uses_pair, uses_pairs}
use Rattle.gier_fair.specs.Described.{AreDeclared}
use Rattle.gier_fair.specs.InScope.{AreDistinct, identifiers, InScopeSegment, InScopeDeclaration, InScopeDeclarations}
use Rattle.gier_fair.proofs.Apart.{lacks}
use Rattle.gier_fair.proofs.HoistedEntries.{joined_identifiers, named_identifiers}
use Rattle.gier_fair.proofs.Layers.{left_in, right_in}

the : (A : Type 0) → A → A
the A a = a

-- so many fresh identifiers from the i-th on
abbrev pub fresh_from : (n i : ℕ) → Scope
fresh_from zero i = []
fresh_from (suc n) i = fresh i ∷ fresh_from n (suc i)

fresh_joined : (m n i : ℕ) → fresh_from (m + n) i ≡ fresh_from m i ++ fresh_from n (i + m)
fresh_joined zero n i = ap₂ fresh_from (the (0 + n ≡ n) (omega arith)) (the (i ≡ i + 0) (omega arith))
fresh_joined (suc m) n i =
    ap (λ k. fresh_from k i) (the (suc m + n ≡ suc (m + n)) (omega arith))
    ∙ ap (λ xs. fresh i ∷ xs) (fresh_joined m n (suc i) ∙ ap (λ j. fresh_from m (suc i) ++ fresh_from n j) (the (suc i + m ≡ i + suc m) (omega arith)))

fresh_above : (n i y : ℕ) → declares (fresh_from n i) y ≡ true → fresh i ≤ y
fresh_above zero i y e = cc
fresh_above (suc n) i y e = by (fresh i == y) refl (λ q. fresh_above n (suc i) y q) e
  where
    by : (c : Bool) → (fresh i == y) ≡ c → (declares (fresh_from n (suc i)) y ≡ true → fresh (suc i) ≤ y) → (c || declares (fresh_from n (suc i)) y) ≡ true → fresh i ≤ y
    by true q rest e = let same = eqb-true (fresh i) y q in omega (arith, same)
    by false q rest e = let more = rest e in omega (arith, more)

pub above_first : (n y : ℕ) → declares (fresh_from n 0) y ≡ true → first_fresh ≤ y
above_first n y e = let le = fresh_above n 0 y e in omega (arith, le)

pub fresh_distinct : (n i : ℕ) → AreDistinct (fresh_from n i)
fresh_distinct zero i = tt
fresh_distinct (suc n) i = (lacks (declares (fresh_from n (suc i)) (fresh i)) (λ q. let le = fresh_above n (suc i) (fresh i) q in absurd (omega (arith, le))), fresh_distinct n (suc i))

fresh_declared : (n i j : ℕ) → j < n → declares (fresh_from n i) (fresh (i + j)) ≡ true
fresh_declared zero i j lt = absurd (omega (arith, lt))
fresh_declared (suc n) i zero lt = left_in (fresh i == fresh (i + 0)) (declares (fresh_from n (suc i)) (fresh (i + 0))) (eq-eqb (fresh i) (fresh (i + 0)) (omega arith))
fresh_declared (suc n) i (suc j) lt =
    right_in (fresh i == fresh (i + suc j)) (declares (fresh_from n (suc i)) (fresh (i + suc j)))
    (subst (λ k. declares (fresh_from n (suc i)) (fresh k) ≡ true) (the (suc i + j ≡ i + suc j) (omega arith)) (fresh_declared n (suc i) j (omega (arith, lt))))

pub all_declared : (n j : ℕ) → j < n → declares (fresh_from n 0) (fresh j) ≡ true
all_declared n j lt = subst (λ k. declares (fresh_from n 0) (fresh k) ≡ true) (the (0 + j ≡ j) (omega arith)) (fresh_declared n 0 j lt)

-- ---- identifiers of the declarations without `_own`

next_fresh : (ns : List NextName) (i : ℕ) → scope_of (map (λ (n : NextName). n.name) (fresh_next ns i)) ≡ fresh_from (length (map (λ (n : NextName). n.name) ns)) i
next_fresh [] i = refl
next_fresh (n ∷ ns) i = ap (λ xs. fresh i ∷ xs) (next_fresh ns (suc i))

names_fresh : (ns : Names) (i : ℕ) → scope_of (list_of (fresh_names ns i)) ≡ fresh_from (length (list_of ns)) i
names_fresh (MkNames x ns) i = ap (λ xs. fresh i ∷ xs) (next_fresh ns (suc i))

segment_fresh : (t : ValueType) (g : FixedSegment) (i : ℕ) → identifiers (segment_entries t (fresh_segment g i)) ≡ fresh_from (length (names_of_fixed g)) i
segment_fresh t (MkFixed ns l p ps m) i = named_identifiers _ (list_of (fresh_names ns i)) ∙ names_fresh ns i

fixed_count : (g : FixedSegment) → count_fixed g ≡ length (names_of_fixed g)
fixed_count (MkFixed ns l p ps m) = refl

two_fresh : (xs ys : List Name) (i : ℕ) → fresh_from (length xs) i ++ fresh_from (length ys) (i + length xs) ≡ fresh_from (length (xs ++ ys)) i
two_fresh xs ys i = sym (fresh_joined (length xs) (length ys) i) ∙ ap (λ n. fresh_from n i) (sym (length-append xs ys))

segments_fresh : (t : ValueType) (gs : List NextFixed) (i : ℕ) → identifiers (segments_entries t (fresh_segments gs i)) ≡ fresh_from (length (names_of_fixeds gs)) i
segments_fresh t [] i = refl
segments_fresh t (g ∷ gs) i =
    joined_identifiers (segment_entries t (fresh_segment g.segment i)) (segments_entries t (fresh_segments gs (i + count_fixed g.segment)))
    ∙ ap₂ (λ a b. a ++ b) (segment_fresh t g.segment i) (segments_fresh t gs (i + count_fixed g.segment))
    ∙ ap (λ n. fresh_from (length (names_of_fixed g.segment)) i ++ fresh_from (length (names_of_fixeds gs)) (i + n)) (fixed_count g.segment)
    ∙ two_fresh (names_of_fixed g.segment) (names_of_fixeds gs) i

arrays_fresh : (t : ValueType) (g : FixedSegment) (gs : List NextFixed) (i : ℕ)
    → identifiers (segment_entries t (fresh_segment g i) ++ segments_entries t (fresh_segments gs (i + count_fixed g))) ≡ fresh_from (length (names_of_fixed g ++ names_of_fixeds gs)) i
arrays_fresh t g gs i =
    joined_identifiers (segment_entries t (fresh_segment g i)) (segments_entries t (fresh_segments gs (i + count_fixed g)))
    ∙ ap₂ (λ a b. a ++ b) (segment_fresh t g i) (segments_fresh t gs (i + count_fixed g))
    ∙ ap (λ n. fresh_from (length (names_of_fixed g)) i ++ fresh_from (length (names_of_fixeds gs)) (i + n)) (fixed_count g)
    ∙ two_fresh (names_of_fixed g) (names_of_fixeds gs) i

-- ---- bounds that are constants

constant_uses : (c : Constant) → uses_expr (constant_expr c) ≡ []
constant_uses (Unsigned n l) = refl
constant_uses (WithSign o k n l) = refl

pair_uses : (b : FixedPair) → uses_pair (pair_of b) ≡ []
pair_uses (MkFixedPair a l b) = ap₂ (λ xs ys. xs ++ ys) (constant_uses a) (constant_uses b)

further_uses : (n : ℕ) (ps : FurtherPairs n) → flat_map (λ next. uses_pair next.pair) (further_pairs n ps) ≡ []
further_uses zero ps = refl
further_uses (suc n) NoFurther = refl
further_uses (suc n) (MoreFurther l p more) = ap₂ (λ xs ys. xs ++ ys) (pair_uses p) (further_uses n more)

segment_bounds : (p : Places) (own : Scope) (g : FixedSegment) (i : ℕ) → InScopeSegment p own (fresh_segment g i)
segment_bounds p own (MkFixed ns l b bs m) i =
    let none : uses_pairs (pair_of b) (further_pairs most_further bs) ≡ [] = ap₂ (λ xs ys. xs ++ ys) (pair_uses b) (further_uses most_further bs) in
    (subst (AreDeclared p) (sym none) tt, subst (AllByRecursion (λ x. declares own x.number ≡ false)) (sym none) tt)

segments_bounds : (p : Places) (own : Scope) (gs : List NextFixed) (i : ℕ) → AllByRecursion (λ next. InScopeSegment p own next.segment) (fresh_segments gs i)
segments_bounds p own [] i = tt
segments_bounds p own (g ∷ gs) i = (segment_bounds p own g.segment i, segments_bounds p own gs (i + count_fixed g.segment))

-- ---- all of a program

pub record IsOwn (d : Declaration) : Type 0 where
  pub numbered : (i : ℕ) → identifiers (declaration_entries (without_own d i)) ≡ fresh_from (length (own_names d)) i
  pub in_scope : (p : Places) (own : Scope) (w : Where) (i : ℕ) → InScopeDeclaration p own w (without_own d i)

abbrev pub AllOwn : List Declaration → Type 0
AllOwn ds = AllByRecursion IsOwn ds

mutual
  declaration_owns : (d : Declaration) (r : List Declaration) → AllOwn r → AllOwn (owns_of_declaration d r)
  declaration_owns (DeclareType t ns) r a = a
  declaration_owns (DeclareOwn l t ns) r a =
      (record { numbered = λ i. named_identifiers (plain (variable_kind t.type)) (list_of (fresh_names ns i)) ∙ names_fresh ns i; in_scope = λ p own w i. tt }, a)
  declaration_owns (DeclareArrays t l s ss) r a = a
  declaration_owns (DeclareOwnArrays k t l s ss) r a =
      (record { numbered = λ i. arrays_fresh t.type s ss i; in_scope = λ p own w i. (segment_bounds p own s i, segments_bounds p own ss (i + count_fixed s)) }, a)
  declaration_owns (DeclareSwitch l x m e es) r a = a
  declaration_owns (DeclareProcedure h s) r a = statement_owns s r a

  declarations_owns : (ds : Declarations) (r : List Declaration) → AllOwn r → AllOwn (owns_of_declarations ds r)
  declarations_owns NoDeclarations r a = a
  declarations_owns (MoreDeclarations d l ds) r a = declaration_owns d _ (declarations_owns ds r a)

  pub group_owns : (g : Group) (r : List Declaration) → AllOwn r → AllOwn (owns_of_group g r)
  group_owns (MkBlock l d m ds s ss n) r a = declaration_owns d _ (declarations_owns ds _ (statement_owns s _ (statements_owns ss r a)))
  group_owns (MkCompound l s ss m) r a = statement_owns s _ (statements_owns ss r a)

  statements_owns : (ss : Statements) (r : List Declaration) → AllOwn r → AllOwn (owns_of_statements ss r)
  statements_owns NoStatements r a = a
  statements_owns (MoreStatements l s ss) r a = statement_owns s _ (statements_owns ss r a)

  statement_owns : (s : Statement) (r : List Declaration) → AllOwn r → AllOwn (owns_of_statement s r)
  statement_owns (OneUnconditional u) r a = unconditional_owns u r a
  statement_owns (OneConditional c) r a = conditional_owns c r a
  statement_owns (OneLoop x) r a = loop_owns x r a

  unconditional_owns : (u : Unconditional) (r : List Declaration) → AllOwn r → AllOwn (owns_of_unconditional u r)
  unconditional_owns (MkUnconditional ls b) r a = basic_owns b r a

  basic_owns : (b : Basic) (r : List Declaration) → AllOwn r → AllOwn (owns_of_basic b r)
  basic_owns (OneGroup g) r a = group_owns g r a
  basic_owns (Assign q qs e) r a = a
  basic_owns (Jump l e) r a = a
  basic_owns (CallStatement c) r a = a
  basic_owns Dummy r a = a

  conditional_owns : (c : Conditional) (r : List Declaration) → AllOwn r → AllOwn (owns_of_conditional c r)
  conditional_owns (IfThen ls l e m u) r a = unconditional_owns u r a
  conditional_owns (IfElse ls l e m u n s) r a = unconditional_owns u _ (statement_owns s r a)
  conditional_owns (IfLoop ls l e m x) r a = loop_owns x r a

  loop_owns : (x : Loop) (r : List Declaration) → AllOwn r → AllOwn (owns_of_loop x r)
  loop_owns (MkLoop ls l x m t ts n s) r a = statement_owns s r a

all_numbered : (ds : List Declaration) (i : ℕ) → AllOwn ds → identifiers (declarations_entries (hoisted_declarations ds i)) ≡ fresh_from (count_owns ds) i
all_numbered [] i a = refl
all_numbered (d ∷ ds) i a =
    joined_identifiers (declaration_entries (without_own d i)) (declarations_entries (hoisted_declarations ds (i + length (own_names d))))
    ∙ ap₂ (λ a b. a ++ b) (a.0.numbered i) (all_numbered ds (i + length (own_names d)) a.1)
    ∙ sym (fresh_joined (length (own_names d)) (count_owns ds) i)

-- the declarations of the block around a program
pub frame_numbered : (d : Declaration) (ds : List Declaration) → AllOwn (d ∷ ds)
    → identifiers (declaration_entries (without_own d 0) ++ declarations_entries (hoisted_declarations ds (length (own_names d)))) ≡ fresh_from (count_owns (d ∷ ds)) 0
frame_numbered d ds a =
    joined_identifiers (declaration_entries (without_own d 0)) (declarations_entries (hoisted_declarations ds (length (own_names d))))
    ∙ ap₂ (λ a b. a ++ b) (a.0.numbered 0) (all_numbered ds (length (own_names d)) a.1)
    ∙ ap (λ n. fresh_from (length (own_names d)) 0 ++ fresh_from (count_owns ds) n) (the (length (own_names d) ≡ 0 + length (own_names d)) (omega arith))
    ∙ sym (fresh_joined (length (own_names d)) (count_owns ds) 0)

pub first_in_scope : (p : Places) (own : Scope) (w : Where) (d : Declaration) (ds : List Declaration) → AllOwn (d ∷ ds) → InScopeDeclaration p own w (without_own d 0)
first_in_scope p own w d ds a = a.0.in_scope p own w 0

pub others_in_scope : (p : Places) (own : Scope) (w : Where) (ds : List Declaration) (i : ℕ) → AllOwn ds → InScopeDeclarations p own w (hoisted_declarations ds i)
others_in_scope p own w [] i a = tt
others_in_scope p own w (d ∷ ds) i a =
    (a.0.in_scope p own w i, others_in_scope p own (behind_declaration w (without_own d i)) ds (i + length (own_names d)) a.1)
