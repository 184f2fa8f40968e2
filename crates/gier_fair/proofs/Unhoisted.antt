-- A part without own quantities stays as it was written when it is hoisted.
use Rattle.std.proofs.Common.{◌≡◌, ℕ, Bool, true, false, List, [], ◌∷◌, refl, ap, ap₂, sym, arith}
use Rattle.std.specs.Prelude.{◌++◌, ◌==◌, ◌+◌, map, if◌then◌else◌}
use Rattle.std.proofs.lemmas.Bool.{eqb-true}
use Rattle.gier_tree.specs.Declaring.{list_of, formals_of, name_of_heading, names_of_segment, names_of_segments, labels_of_statement, labels_of_statements}
use Rattle.gier_tree.specs.Hoist.{hide, hide_labels, behind_declaration, behind_declarations, within_procedure, within_turn, hoist_declaration, hoist_declarations, hoist_group, hoist_statements, hoist_statement, hoist_unconditional, hoist_basic, hoist_conditional, hoist_loop}
use Rattle.gier_tree.specs.OwnCount.{count_owns, owns_of_declarations, owns_of_group, owns_of_statements, owns_of_statement, owns_of_conditional, owns_of_loop, owns_of_basic, owns_in_declaration, owns_in_declarations, owns_in_statement, owns_in_unconditional}
use Rattle.gier_tree.specs.Rename.{Renaming, rename, rename_expr, rename_simple, rename_implication, rename_disjunction, rename_conjunction, rename_negation, rename_relation, rename_arithmetic, rename_term, rename_factor, rename_primary, rename_call, rename_element, rename_actual, rename_actuals, rename_exprs, rename_pair, rename_pairs, rename_segment, rename_segments, rename_left, rename_part, rename_turns, rename_next_turns}
use Rattle.gier_tree.specs.Trees.{Name, MkNames, Expr, OneSimple, IfExpr, Simple, OneImplication, Equivalent, Implication, OneDisjunction, Implies, Disjunction, OneConjunction, Either, Conjunction, OneNegation, Both, Negation, OneRelation, Negated, Relation, OneArithmetic, Compared, Arithmetic, OneTerm, Signed, Summed, Term, OneFactor, Multiplied, Factor, OnePrimary, Raised, Primary, Numeral, Logical, Bracketed, OneCall, OneElement, Call, Alone, WithActuals, Element, Subscripted, Actual, OneExpr, AString, Actuals, NoActuals, MoreActuals, Exprs, NoExprs, MoreExprs, BoundPair, MkPair, NextPair, Segment, MkSegment, NextSegment, MkFixed, LeftSide, OneName, LeftElement, LeftPart, Turns, OneValue, StepUntil, WhileTrue, NextTurns}
use Rattle.gier_tree.specs.Trees.{Declaration, DeclareType, DeclareOwn, DeclareArrays, DeclareOwnArrays, DeclareSwitch, DeclareProcedure, Declarations, NoDeclarations, MoreDeclarations, Group, MkBlock, MkCompound, Statements, NoStatements, MoreStatements, Statement, OneUnconditional, OneConditional, OneLoop, Unconditional, MkUnconditional, Basic, OneGroup, Assign, Jump, CallStatement, Dummy, Conditional, IfThen, IfElse, IfLoop, Loop, MkLoop}
use Rattle.gier_fair.proofs.OwnsOf.{counted_declaration, counted_declarations, counted_statement, counted_unconditional}

three : {A B C D : Type 0} (f : A → B → C → D) {a u : A} {b v : B} {c w : C} → a ≡ u → b ≡ v → c ≡ w → f a b c ≡ f u v w
three f p q r = ap₂ (λ g x. g x) (ap₂ f p q) r

four : {A B C D E : Type 0} (f : A → B → C → D → E) {a u : A} {b v : B} {c w : C} {d x : D} → a ≡ u → b ≡ v → c ≡ w → d ≡ x → f a b c d ≡ f u v w x
four f p q r s = ap₂ (λ g x. g x) (three f p q r) s

-- each use stays
abbrev pub Same : Renaming → Type 0
Same f = (x : ℕ) → f x ≡ x

module _ (f : Renaming) (h : Same f) where
  same_name : (x : Name) → rename f x ≡ x
  same_name x = ap (λ n. record { number = n; line = x.line }) (h x.number)

  mutual
    same_expr : (z : Expr) → rename_expr f z ≡ z
    same_expr (OneSimple s) = ap OneSimple (same_simple s)
    same_expr (IfExpr l c m s n e) = three (λ c s e. IfExpr l c m s n e) (same_expr c) (same_simple s) (same_expr e)

    same_simple : (z : Simple) → rename_simple f z ≡ z
    same_simple (OneImplication y) = ap OneImplication (same_implication y)
    same_simple (Equivalent s l i) = ap₂ (λ s i. Equivalent s l i) (same_simple s) (same_implication i)

    same_implication : (z : Implication) → rename_implication f z ≡ z
    same_implication (OneDisjunction y) = ap OneDisjunction (same_disjunction y)
    same_implication (Implies s l i) = ap₂ (λ s i. Implies s l i) (same_implication s) (same_disjunction i)

    same_disjunction : (z : Disjunction) → rename_disjunction f z ≡ z
    same_disjunction (OneConjunction y) = ap OneConjunction (same_conjunction y)
    same_disjunction (Either s l i) = ap₂ (λ s i. Either s l i) (same_disjunction s) (same_conjunction i)

    same_conjunction : (z : Conjunction) → rename_conjunction f z ≡ z
    same_conjunction (OneNegation y) = ap OneNegation (same_negation y)
    same_conjunction (Both s l i) = ap₂ (λ s i. Both s l i) (same_conjunction s) (same_negation i)

    same_negation : (z : Negation) → rename_negation f z ≡ z
    same_negation (OneRelation y) = ap OneRelation (same_relation y)
    same_negation (Negated l y) = ap (Negated l) (same_relation y)

    same_relation : (z : Relation) → rename_relation f z ≡ z
    same_relation (OneArithmetic y) = ap OneArithmetic (same_arithmetic y)
    same_relation (Compared a o l b) = ap₂ (λ a b. Compared a o l b) (same_arithmetic a) (same_arithmetic b)

    same_arithmetic : (z : Arithmetic) → rename_arithmetic f z ≡ z
    same_arithmetic (OneTerm y) = ap OneTerm (same_term y)
    same_arithmetic (Signed o l y) = ap (Signed o l) (same_term y)
    same_arithmetic (Summed a o l b) = ap₂ (λ a b. Summed a o l b) (same_arithmetic a) (same_term b)

    same_term : (z : Term) → rename_term f z ≡ z
    same_term (OneFactor y) = ap OneFactor (same_factor y)
    same_term (Multiplied a o l b) = ap₂ (λ a b. Multiplied a o l b) (same_term a) (same_factor b)

    same_factor : (z : Factor) → rename_factor f z ≡ z
    same_factor (OnePrimary y) = ap OnePrimary (same_primary y)
    same_factor (Raised a l b) = ap₂ (λ a b. Raised a l b) (same_factor a) (same_primary b)

    same_primary : (z : Primary) → rename_primary f z ≡ z
    same_primary (Numeral n l) = refl
    same_primary (Logical b l) = refl
    same_primary (Bracketed l e m) = ap (λ e. Bracketed l e m) (same_expr e)
    same_primary (OneCall c) = ap OneCall (same_call c)
    same_primary (OneElement e) = ap OneElement (same_element e)

    same_call : (z : Call) → rename_call f z ≡ z
    same_call (Alone x) = ap Alone (same_name x)
    same_call (WithActuals x l a more m) = three (λ x a more. WithActuals x l a more m) (same_name x) (same_actual a) (same_actuals more)

    same_element : (z : Element) → rename_element f z ≡ z
    same_element (Subscripted x l e es m) = three (λ x e es. Subscripted x l e es m) (same_name x) (same_expr e) (same_exprs es)

    same_actual : (z : Actual) → rename_actual f z ≡ z
    same_actual (OneExpr e) = ap OneExpr (same_expr e)
    same_actual (AString l bs m) = refl

    same_actuals : (z : Actuals) → rename_actuals f z ≡ z
    same_actuals NoActuals = refl
    same_actuals (MoreActuals l a more) = ap₂ (MoreActuals l) (same_actual a) (same_actuals more)

    same_exprs : (z : Exprs) → rename_exprs f z ≡ z
    same_exprs NoExprs = refl
    same_exprs (MoreExprs l e es) = ap₂ (MoreExprs l) (same_expr e) (same_exprs es)

  same_pair : (b : BoundPair) → rename_pair f b ≡ b
  same_pair (MkPair a l b) = ap₂ (λ a b. MkPair a l b) (same_expr a) (same_expr b)

  same_pairs : (bs : List NextPair) → rename_pairs f bs ≡ bs
  same_pairs [] = refl
  same_pairs (b ∷ bs) = ap₂ (λ p ps. record { comma = b.comma; pair = p } ∷ ps) (same_pair b.pair) (same_pairs bs)

  same_segment : (g : Segment) → rename_segment f g ≡ g
  same_segment (MkSegment ns l b bs m) = ap₂ (λ b bs. MkSegment ns l b bs m) (same_pair b) (same_pairs bs)

  same_segments : (gs : List NextSegment) → rename_segments f gs ≡ gs
  same_segments [] = refl
  same_segments (g ∷ gs) = ap₂ (λ s ss. record { comma = g.comma; segment = s } ∷ ss) (same_segment g.segment) (same_segments gs)

  same_left : (q : LeftSide) → rename_left f q ≡ q
  same_left (OneName x) = ap OneName (same_name x)
  same_left (LeftElement e) = ap LeftElement (same_element e)

  same_part : (q : LeftPart) → rename_part f q ≡ q
  same_part q = ap (λ left. record { left = left; becomes = q.becomes }) (same_left q.left)

  same_parts : (qs : List LeftPart) → map (rename_part f) qs ≡ qs
  same_parts [] = refl
  same_parts (q ∷ qs) = ap₂ (λ q qs. q ∷ qs) (same_part q) (same_parts qs)

  same_turns : (t : Turns) → rename_turns f t ≡ t
  same_turns (OneValue e) = ap OneValue (same_expr e)
  same_turns (StepUntil a l b m c) = three (λ a b c. StepUntil a l b m c) (same_expr a) (same_expr b) (same_expr c)
  same_turns (WhileTrue e l c) = ap₂ (λ e c. WhileTrue e l c) (same_expr e) (same_expr c)

  same_next_turns : (ts : List NextTurns) → rename_next_turns f ts ≡ ts
  same_next_turns [] = refl
  same_next_turns (t ∷ ts) = ap₂ (λ u us. record { comma = t.comma; turns = u } ∷ us) (same_turns t.turns) (same_next_turns ts)

-- ---- scopes without own quantities

pub same_hidden : (xs : List Name) (f : Renaming) → Same f → Same (hide xs f)
same_hidden [] f h y = h y
same_hidden (x ∷ xs) f h y = by (y == x.number) refl (same_hidden xs f h y)
  where
    by : (c : Bool) → (y == x.number) ≡ c → hide xs f y ≡ y → (if c then x.number else hide xs f y) ≡ y
    by true e r = sym (eqb-true y x.number e)
    by false e r = r

declaration_hides : (d : Declaration) (i : ℕ) (f : Renaming) → Same f → owns_in_declaration d ≡ 0 → Same (behind_declaration d i f)
declaration_hides (DeclareType t ns) i f h e = same_hidden (list_of ns) f h
declaration_hides (DeclareOwn l t (MkNames x ns)) i f h e = absurd (omega (arith, e))
declaration_hides (DeclareArrays t l s ss) i f h e = same_hidden (names_of_segment s ++ names_of_segments ss) f h
declaration_hides (DeclareOwnArrays k t l (MkFixed (MkNames x ns) n p ps m) ss) i f h e = absurd (omega (arith, e))
declaration_hides (DeclareSwitch l x m s ss) i f h e = same_hidden (x ∷ []) f h
declaration_hides (DeclareProcedure g s) i f h e = same_hidden (name_of_heading g ∷ []) f h

declarations_hide : (ds : Declarations) (i : ℕ) (f : Renaming) → Same f → owns_in_declarations ds ≡ 0 → Same (behind_declarations ds i f)
declarations_hide NoDeclarations i f h e = h
declarations_hide (MoreDeclarations d l ds) i f h e =
    let counted = counted_declaration d (owns_of_declarations ds []) in
    let j = i + owns_in_declaration d in
    declaration_hides d i (behind_declarations ds j f) (declarations_hide ds j f h (omega (arith, e, counted))) (omega (arith, e, counted))

mutual
  declaration_stays : (d : Declaration) (i : ℕ) (f : Renaming) → Same f → owns_in_declaration d ≡ 0 → hoist_declaration d i f ≡ d
  declaration_stays (DeclareType t ns) i f h e = refl
  declaration_stays (DeclareOwn l t ns) i f h e = refl
  declaration_stays (DeclareArrays t l s ss) i f h e = ap₂ (DeclareArrays t l) (same_segment f h s) (same_segments f h ss)
  declaration_stays (DeclareOwnArrays k t l s ss) i f h e = refl
  declaration_stays (DeclareSwitch l x m s ss) i f h e = ap₂ (DeclareSwitch l x m) (same_expr f h s) (same_exprs f h ss)
  declaration_stays (DeclareProcedure g s) i f h e =
      let ls = map (λ l. l.name) (labels_of_statement s []) in
      ap (DeclareProcedure g) (statement_stays s i (within_procedure g s f) (same_hidden (formals_of g) (hide ls f) (same_hidden ls f h)) e)

  declarations_stay : (ds : Declarations) (i : ℕ) (f : Renaming) → Same f → owns_in_declarations ds ≡ 0 → hoist_declarations ds i f ≡ ds
  declarations_stay NoDeclarations i f h e = refl
  declarations_stay (MoreDeclarations d l ds) i f h e =
      let counted = counted_declaration d (owns_of_declarations ds []) in
      ap₂ (λ d ds. MoreDeclarations d l ds) (declaration_stays d i f h (omega (arith, e, counted))) (declarations_stay ds (i + owns_in_declaration d) f h (omega (arith, e, counted)))

  pub group_stays : (g : Group) (i : ℕ) (f : Renaming) → Same f → count_owns (owns_of_group g []) ≡ 0 → hoist_group g i f ≡ g
  group_stays (MkBlock l d m ds s ss n) i f h e =
      let c1 = counted_declaration d (owns_of_declarations ds (owns_of_statement s (owns_of_statements ss []))) in
      let c2 = counted_declarations ds (owns_of_statement s (owns_of_statements ss [])) in
      let c3 = counted_statement s (owns_of_statements ss []) in
      let j = i + owns_in_declaration d in
      let j2 = j + owns_in_declarations ds in
      let ls = labels_of_statement s (labels_of_statements ss []) in
      let g1 = hide_labels ls f in
      let g2 = behind_declarations ds j g1 in
      let g = behind_declaration d i g2 in
      let k : Same g = declaration_hides d i g2 (declarations_hide ds j g1 (same_hidden (map (λ l. l.name) ls) f h) (omega (arith, e, c1, c2))) (omega (arith, e, c1)) in
      four (λ d ds s ss. MkBlock l d m ds s ss n) (declaration_stays d i g k (omega (arith, e, c1))) (declarations_stay ds j g k (omega (arith, e, c1, c2)))
      (statement_stays s j2 g k (omega (arith, e, c1, c2, c3))) (statements_stay ss (j2 + owns_in_statement s) g k (omega (arith, e, c1, c2, c3)))
  group_stays (MkCompound l s ss n) i f h e =
      let counted = counted_statement s (owns_of_statements ss []) in
      ap₂ (λ s ss. MkCompound l s ss n) (statement_stays s i f h (omega (arith, e, counted))) (statements_stay ss (i + owns_in_statement s) f h (omega (arith, e, counted)))

  statements_stay : (ss : Statements) (i : ℕ) (f : Renaming) → Same f → count_owns (owns_of_statements ss []) ≡ 0 → hoist_statements ss i f ≡ ss
  statements_stay NoStatements i f h e = refl
  statements_stay (MoreStatements l s ss) i f h e =
      let counted = counted_statement s (owns_of_statements ss []) in
      ap₂ (MoreStatements l) (statement_stays s i f h (omega (arith, e, counted))) (statements_stay ss (i + owns_in_statement s) f h (omega (arith, e, counted)))

  statement_stays : (s : Statement) (i : ℕ) (f : Renaming) → Same f → owns_in_statement s ≡ 0 → hoist_statement s i f ≡ s
  statement_stays (OneUnconditional u) i f h e = ap OneUnconditional (unconditional_stays u i f h e)
  statement_stays (OneConditional c) i f h e = ap OneConditional (conditional_stays c i f h e)
  statement_stays (OneLoop x) i f h e = ap OneLoop (loop_stays x i f h e)

  unconditional_stays : (u : Unconditional) (i : ℕ) (f : Renaming) → Same f → owns_in_unconditional u ≡ 0 → hoist_unconditional u i f ≡ u
  unconditional_stays (MkUnconditional ls b) i f h e = ap (MkUnconditional ls) (basic_stays b i f h e)

  basic_stays : (b : Basic) (i : ℕ) (f : Renaming) → Same f → count_owns (owns_of_basic b []) ≡ 0 → hoist_basic b i f ≡ b
  basic_stays (OneGroup g) i f h e = ap OneGroup (group_stays g i f h e)
  basic_stays (Assign q qs x) i f h e = three Assign (same_part f h q) (same_parts f h qs) (same_expr f h x)
  basic_stays (Jump l x) i f h e = ap (Jump l) (same_expr f h x)
  basic_stays (CallStatement c) i f h e = ap CallStatement (same_call f h c)
  basic_stays Dummy i f h e = refl

  conditional_stays : (c : Conditional) (i : ℕ) (f : Renaming) → Same f → count_owns (owns_of_conditional c []) ≡ 0 → hoist_conditional c i f ≡ c
  conditional_stays (IfThen ls l x m u) i f h e = ap₂ (λ x u. IfThen ls l x m u) (same_expr f h x) (unconditional_stays u i f h e)
  conditional_stays (IfElse ls l x m u n s) i f h e =
      let counted = counted_unconditional u (owns_of_statement s []) in
      three (λ x u s. IfElse ls l x m u n s) (same_expr f h x) (unconditional_stays u i f h (omega (arith, e, counted))) (statement_stays s (i + owns_in_unconditional u) f h (omega (arith, e, counted)))
  conditional_stays (IfLoop ls l x m y) i f h e = ap₂ (λ x y. IfLoop ls l x m y) (same_expr f h x) (loop_stays y i f h e)

  loop_stays : (x : Loop) (i : ℕ) (f : Renaming) → Same f → count_owns (owns_of_loop x []) ≡ 0 → hoist_loop x i f ≡ x
  loop_stays (MkLoop ls l x m t ts n s) i f h e =
      four (λ x t ts s. MkLoop ls l x m t ts n s) (same_name f h x) (same_turns f h t) (same_next_turns f h ts)
      (statement_stays s i (within_turn s f) (same_hidden (map (λ l. l.name) (labels_of_statement s [])) f h) e)
