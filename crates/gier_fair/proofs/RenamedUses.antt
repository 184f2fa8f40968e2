-- What a renamed expression uses: the renamed identifiers.
use Rattle.std.proofs.Common.{◌≡◌, List, [], ◌∷◌, refl, ap, ap₂, sym, ◌∙◌}
use Rattle.std.specs.Prelude.{◌++◌, map}
use Rattle.std.specs.List.{flat_map}
use Rattle.gier_tree.specs.Rename.{Renaming, rename, rename_expr, rename_simple, rename_implication, rename_disjunction, rename_conjunction, rename_negation, rename_relation, rename_arithmetic, rename_term, rename_factor, rename_primary, rename_call, rename_element, rename_actual, rename_actuals, rename_exprs, rename_pair, rename_pairs, rename_left, rename_part, rename_turns, rename_next_turns}
use Rattle.gier_tree.specs.Trees.{Name, Expr, OneSimple, IfExpr, Simple, OneImplication, Equivalent, Implication, OneDisjunction, Implies, Disjunction, OneConjunction, Either, Conjunction, OneNegation, Both, Negation, OneRelation, Negated, Relation, OneArithmetic, Compared, Arithmetic, OneTerm, Signed, Summed, Term, OneFactor, Multiplied, Factor, OnePrimary, Raised, Primary, Numeral, Logical, Bracketed, OneCall, OneElement, Call, Alone, WithActuals, Element, Subscripted, Actual, OneExpr, AString, Actuals, NoActuals, MoreActuals, Exprs, NoExprs, MoreExprs, BoundPair, MkPair, NextPair, LeftSide, OneName, LeftElement, LeftPart, Turns, OneValue, StepUntil, WhileTrue, NextTurns}
use Rattle.gier_scope.specs.Uses.{uses_expr, uses_simple, uses_implication, uses_disjunction, uses_conjunction, uses_negation, uses_relation, uses_arithmetic, uses_term, uses_factor, uses_primary, uses_call, uses_element, uses_actual, uses_actuals, uses_exprs, uses_pair, uses_pairs, uses_left, uses_parts, uses_turns, uses_list}

pub mapped : {X Y : Type 0} (f : X → Y) (xs ys : List X) → map f (xs ++ ys) ≡ map f xs ++ map f ys
mapped f [] ys = refl
mapped f (x ∷ xs) ys = ap (λ zs. f x ∷ zs) (mapped f xs ys)

module _ (f : Renaming) where
  abbrev r : Name → Name
  r = rename f

  two : (xs ys : List Name) {us vs : List Name} → us ≡ map r xs → vs ≡ map r ys → us ++ vs ≡ map r (xs ++ ys)
  two xs ys e g = ap₂ (λ a b. a ++ b) e g ∙ sym (mapped r xs ys)

  mutual
    pub renamed_expr : (z : Expr) → uses_expr (rename_expr f z) ≡ map r (uses_expr z)
    renamed_expr (OneSimple s) = renamed_simple s
    renamed_expr (IfExpr l c m s n e) = two (uses_expr c ++ uses_simple s) (uses_expr e) (two (uses_expr c) (uses_simple s) (renamed_expr c) (renamed_simple s)) (renamed_expr e)

    renamed_simple : (z : Simple) → uses_simple (rename_simple f z) ≡ map r (uses_simple z)
    renamed_simple (OneImplication y) = renamed_implication y
    renamed_simple (Equivalent s l i) = two (uses_simple s) (uses_implication i) (renamed_simple s) (renamed_implication i)

    renamed_implication : (z : Implication) → uses_implication (rename_implication f z) ≡ map r (uses_implication z)
    renamed_implication (OneDisjunction y) = renamed_disjunction y
    renamed_implication (Implies s l i) = two (uses_implication s) (uses_disjunction i) (renamed_implication s) (renamed_disjunction i)

    renamed_disjunction : (z : Disjunction) → uses_disjunction (rename_disjunction f z) ≡ map r (uses_disjunction z)
    renamed_disjunction (OneConjunction y) = renamed_conjunction y
    renamed_disjunction (Either s l i) = two (uses_disjunction s) (uses_conjunction i) (renamed_disjunction s) (renamed_conjunction i)

    renamed_conjunction : (z : Conjunction) → uses_conjunction (rename_conjunction f z) ≡ map r (uses_conjunction z)
    renamed_conjunction (OneNegation y) = renamed_negation y
    renamed_conjunction (Both s l i) = two (uses_conjunction s) (uses_negation i) (renamed_conjunction s) (renamed_negation i)

    renamed_negation : (z : Negation) → uses_negation (rename_negation f z) ≡ map r (uses_negation z)
    renamed_negation (OneRelation y) = renamed_relation y
    renamed_negation (Negated l y) = renamed_relation y

    renamed_relation : (z : Relation) → uses_relation (rename_relation f z) ≡ map r (uses_relation z)
    renamed_relation (OneArithmetic y) = renamed_arithmetic y
    renamed_relation (Compared a o l b) = two (uses_arithmetic a) (uses_arithmetic b) (renamed_arithmetic a) (renamed_arithmetic b)

    renamed_arithmetic : (z : Arithmetic) → uses_arithmetic (rename_arithmetic f z) ≡ map r (uses_arithmetic z)
    renamed_arithmetic (OneTerm y) = renamed_term y
    renamed_arithmetic (Signed o l y) = renamed_term y
    renamed_arithmetic (Summed a o l b) = two (uses_arithmetic a) (uses_term b) (renamed_arithmetic a) (renamed_term b)

    renamed_term : (z : Term) → uses_term (rename_term f z) ≡ map r (uses_term z)
    renamed_term (OneFactor y) = renamed_factor y
    renamed_term (Multiplied a o l b) = two (uses_term a) (uses_factor b) (renamed_term a) (renamed_factor b)

    renamed_factor : (z : Factor) → uses_factor (rename_factor f z) ≡ map r (uses_factor z)
    renamed_factor (OnePrimary y) = renamed_primary y
    renamed_factor (Raised a l b) = two (uses_factor a) (uses_primary b) (renamed_factor a) (renamed_primary b)

    renamed_primary : (z : Primary) → uses_primary (rename_primary f z) ≡ map r (uses_primary z)
    renamed_primary (Numeral n l) = refl
    renamed_primary (Logical b l) = refl
    renamed_primary (Bracketed l e m) = renamed_expr e
    renamed_primary (OneCall c) = renamed_call c
    renamed_primary (OneElement e) = renamed_element e

    pub renamed_call : (z : Call) → uses_call (rename_call f z) ≡ map r (uses_call z)
    renamed_call (Alone x) = refl
    renamed_call (WithActuals x l a more m) = ap (λ xs. r x ∷ xs) (two (uses_actual a) (uses_actuals more) (renamed_actual a) (renamed_actuals more))

    pub renamed_element : (z : Element) → uses_element (rename_element f z) ≡ map r (uses_element z)
    renamed_element (Subscripted x l e es m) = ap (λ xs. r x ∷ xs) (two (uses_expr e) (uses_exprs es) (renamed_expr e) (renamed_exprs es))

    renamed_actual : (z : Actual) → uses_actual (rename_actual f z) ≡ map r (uses_actual z)
    renamed_actual (OneExpr e) = renamed_expr e
    renamed_actual (AString l bs m) = refl

    renamed_actuals : (z : Actuals) → uses_actuals (rename_actuals f z) ≡ map r (uses_actuals z)
    renamed_actuals NoActuals = refl
    renamed_actuals (MoreActuals l a more) = two (uses_actual a) (uses_actuals more) (renamed_actual a) (renamed_actuals more)

    pub renamed_exprs : (z : Exprs) → uses_exprs (rename_exprs f z) ≡ map r (uses_exprs z)
    renamed_exprs NoExprs = refl
    renamed_exprs (MoreExprs l e es) = two (uses_expr e) (uses_exprs es) (renamed_expr e) (renamed_exprs es)

  renamed_pair : (b : BoundPair) → uses_pair (rename_pair f b) ≡ map r (uses_pair b)
  renamed_pair (MkPair a l b) = two (uses_expr a) (uses_expr b) (renamed_expr a) (renamed_expr b)

  renamed_more : (bs : List NextPair) → flat_map (λ next. uses_pair next.pair) (rename_pairs f bs) ≡ map r (flat_map (λ next. uses_pair next.pair) bs)
  renamed_more [] = refl
  renamed_more (b ∷ bs) = two (uses_pair b.pair) (flat_map (λ (next : NextPair). uses_pair next.pair) bs) (renamed_pair b.pair) (renamed_more bs)

  pub renamed_pairs : (b : BoundPair) (bs : List NextPair) → uses_pairs (rename_pair f b) (rename_pairs f bs) ≡ map r (uses_pairs b bs)
  renamed_pairs b bs = two (uses_pair b) (flat_map (λ (next : NextPair). uses_pair next.pair) bs) (renamed_pair b) (renamed_more bs)

  renamed_left : (q : LeftSide) → uses_left (rename_left f q) ≡ map r (uses_left q)
  renamed_left (OneName x) = refl
  renamed_left (LeftElement e) = renamed_element e

  renamed_lefts : (qs : List LeftPart) → flat_map (λ q. uses_left q.left) (map (rename_part f) qs) ≡ map r (flat_map (λ q. uses_left q.left) qs)
  renamed_lefts [] = refl
  renamed_lefts (q ∷ qs) = two (uses_left q.left) (flat_map (λ (q : LeftPart). uses_left q.left) qs) (renamed_left q.left) (renamed_lefts qs)

  pub renamed_assignment : (q : LeftPart) (qs : List LeftPart) (e : Expr) → uses_parts (rename_part f q) (map (rename_part f) qs) ++ uses_expr (rename_expr f e) ≡ map r (uses_parts q qs ++ uses_expr e)
  renamed_assignment q qs e = two (uses_parts q qs) (uses_expr e) (renamed_lefts (q ∷ qs)) (renamed_expr e)

  renamed_turns : (t : Turns) → uses_turns (rename_turns f t) ≡ map r (uses_turns t)
  renamed_turns (OneValue e) = renamed_expr e
  renamed_turns (StepUntil a l b m c) = two (uses_expr a ++ uses_expr b) (uses_expr c) (two (uses_expr a) (uses_expr b) (renamed_expr a) (renamed_expr b)) (renamed_expr c)
  renamed_turns (WhileTrue e l c) = two (uses_expr e) (uses_expr c) (renamed_expr e) (renamed_expr c)

  renamed_next : (ts : List NextTurns) → flat_map (λ next. uses_turns next.turns) (rename_next_turns f ts) ≡ map r (flat_map (λ next. uses_turns next.turns) ts)
  renamed_next [] = refl
  renamed_next (t ∷ ts) = two (uses_turns t.turns) (flat_map (λ (next : NextTurns). uses_turns next.turns) ts) (renamed_turns t.turns) (renamed_next ts)

  pub renamed_loop : (x : Name) (t : Turns) (ts : List NextTurns) → r x ∷ uses_list (rename_turns f t) (rename_next_turns f ts) ≡ map r (x ∷ uses_list t ts)
  renamed_loop x t ts = ap (λ xs. r x ∷ xs) (two (uses_turns t) (flat_map (λ (next : NextTurns). uses_turns next.turns) ts) (renamed_turns t) (renamed_next ts))

  pub renamed_elements : (e : Expr) (es : Exprs) → uses_expr (rename_expr f e) ++ uses_exprs (rename_exprs f es) ≡ map r (uses_expr e ++ uses_exprs es)
  renamed_elements e es = two (uses_expr e) (uses_exprs es) (renamed_expr e) (renamed_exprs es)
