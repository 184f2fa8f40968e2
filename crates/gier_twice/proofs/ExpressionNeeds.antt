-- The needs of expressions over the tree that is spelled and over the one that is executed are equal.
use Rattle.std.proofs.Common.{◌≡◌, ◌∙◌, ◌+◌, ℕ, suc, List, [], ◌∷◌, refl, ap, ap₂, arith}
use Rattle.std.specs.Prelude.{max}
use Rattle.gier_agree.specs.declared.kind.Kind.{Kind as Fitting}
use Rattle.gier_tree.specs.declared.kind.Kind.{Kind}
use Rattle.gier_tree.specs.Described.{Scopes}
use Rattle.gier_tree.specs.Need as tree
use Rattle.gier_tree.specs.Trees.{Expr, OneSimple, IfExpr, Simple, OneImplication, Equivalent, Implication, OneDisjunction}
use Rattle.gier_tree.specs.Trees.{Implies, Disjunction, OneConjunction, Either, Conjunction, OneNegation, Both, Negation}
use Rattle.gier_tree.specs.Trees.{OneRelation, Negated, Relation, OneArithmetic, Compared, Arithmetic, OneTerm, Signed, Summed}
use Rattle.gier_tree.specs.Trees.{Term, OneFactor, Multiplied, Factor, OnePrimary, Raised, Primary, Numeral, Logical, Bracketed}
use Rattle.gier_tree.specs.Trees.{OneCall, OneElement, Call, Alone, WithActuals, Element, Subscripted, Actual, OneExpr, AString}
use Rattle.gier_tree.specs.Trees.{Actuals, NoActuals, MoreActuals, Exprs, NoExprs, MoreExprs}
use Rattle.gier_meaning.specs.Plain as plain
use Rattle.gier_meaning.specs.Room as meaning
use Rattle.gier_meaning.specs.Tree as mean
use Rattle.gier_meaning.specs.Tree.{Name, Identifier}
use Rattle.gier_meaning.specs.What.{What}
use Rattle.gier_twice.specs.SameNeeds.{AreAlike, AreSameFormals}

count_exprs_same : (es : Exprs) → tree.count_exprs es ≡ meaning.count (plain.exprs es)
count_exprs_same NoExprs = refl
count_exprs_same (MoreExprs l e es) = ap suc (count_exprs_same es)

count_actuals_same : (as_ : Actuals) → tree.count_actuals as_ ≡ meaning.count (plain.actuals as_)
count_actuals_same NoActuals = refl
count_actuals_same (MoreActuals l a more) = ap suc (count_actuals_same more)

the : (A : Type 0) → A → A
the A a = a

-- without formals nothing is passed by value
none_by_value : (scopes : Scopes) (more : Actuals) (before : ℕ) → tree.need_by_value scopes more [] before ≡ 0
none_by_value scopes NoActuals before = refl
none_by_value scopes (MoreActuals l a more) before = omega (arith, none_by_value scopes more (before + 2))

abbrev plain_actuals : Actual → Actuals → mean.Exprs
plain_actuals a more = mean.MoreExprs (plain.actual a) (plain.actuals more)

-- what actuals need that are passed by value
abbrev by_value : Scopes → List Kind → Actual → Actuals → ℕ
by_value scopes formals a more =
    max (tree.first_need formals 0 (tree.need_actual scopes a)) (tree.need_by_value scopes more (tree.other_kinds formals) 2)

module _ (scopes : Scopes) (what : Name → What) (alike : AreAlike scopes what) where
  join_by_value : (a : Actual) (more : Actuals) → tree.need_actual scopes a ≡ meaning.need what (plain.actual a)
      → ((kinds : List Kind) (fittings : List Fitting) → AreSameFormals kinds fittings
      → tree.need_by_value scopes more kinds 2 ≡ meaning.passed_needs what 2 fittings (plain.actuals more))
      → (kinds : List Kind) (fittings : List Fitting) → AreSameFormals kinds fittings
      → by_value scopes kinds a more ≡ meaning.passed_needs what 0 fittings (plain_actuals a more)
  join_by_value a more first others [] [] f = omega (arith, none_by_value scopes more 2)
  join_by_value a more first others [] (g ∷ gs) f = absurd f
  join_by_value a more first others (k ∷ ks) [] f = absurd f
  join_by_value a more first others (k ∷ ks) (g ∷ gs) f =
      ap₂ max (ap (tree.value_need k 0) first ∙ f.0 0 (meaning.need what (plain.actual a))) (others ks gs f.1)

  mutual
    pub same_expr : (e : Expr) → tree.need_expr scopes e ≡ meaning.need what (plain.expr e)
    same_expr (OneSimple s) = same_simple s
    same_expr (IfExpr l c m s n e) = ap₂ max (same_expr c) (ap₂ max (same_simple s) (same_expr e))

    same_simple : (e : Simple) → tree.need_simple scopes e ≡ meaning.need what (plain.simple e)
    same_simple (OneImplication e) = same_implication e
    same_simple (Equivalent s l i) = ap₂ (λ x y. max x (1 + y)) (same_simple s) (same_implication i)

    same_implication : (e : Implication) → tree.need_implication scopes e ≡ meaning.need what (plain.implication e)
    same_implication (OneDisjunction e) = same_disjunction e
    same_implication (Implies s l i) = ap₂ (λ x y. max x (1 + y)) (same_implication s) (same_disjunction i)

    same_disjunction : (e : Disjunction) → tree.need_disjunction scopes e ≡ meaning.need what (plain.disjunction e)
    same_disjunction (OneConjunction e) = same_conjunction e
    same_disjunction (Either s l i) = ap₂ (λ x y. max x (1 + y)) (same_disjunction s) (same_conjunction i)

    same_conjunction : (e : Conjunction) → tree.need_conjunction scopes e ≡ meaning.need what (plain.conjunction e)
    same_conjunction (OneNegation e) = same_negation e
    same_conjunction (Both s l i) = ap₂ (λ x y. max x (1 + y)) (same_conjunction s) (same_negation i)

    same_negation : (e : Negation) → tree.need_negation scopes e ≡ meaning.need what (plain.negation e)
    same_negation (OneRelation e) = same_relation e
    same_negation (Negated l e) = same_relation e

    same_relation : (e : Relation) → tree.need_relation scopes e ≡ meaning.need what (plain.relation e)
    same_relation (OneArithmetic e) = same_arithmetic e
    same_relation (Compared a o l b) = ap₂ (λ x y. max x (1 + y)) (same_arithmetic a) (same_arithmetic b)

    same_arithmetic : (e : Arithmetic) → tree.need_arithmetic scopes e ≡ meaning.need what (plain.arithmetic e)
    same_arithmetic (OneTerm e) = same_term e
    same_arithmetic (Signed o l e) = same_term e
    same_arithmetic (Summed a o l e) = ap₂ (λ x y. max x (1 + y)) (same_arithmetic a) (same_term e)

    same_term : (e : Term) → tree.need_term scopes e ≡ meaning.need what (plain.term e)
    same_term (OneFactor e) = same_factor e
    same_term (Multiplied a o l e) = ap₂ (λ x y. max x (1 + y)) (same_term a) (same_factor e)

    same_factor : (e : Factor) → tree.need_factor scopes e ≡ meaning.need what (plain.factor e)
    same_factor (OnePrimary e) = same_primary e
    same_factor (Raised a l e) = ap₂ (λ x y. max x (1 + y)) (same_factor a) (same_primary e)

    same_primary : (e : Primary) → tree.need_primary scopes e ≡ meaning.need what (plain.primary e)
    same_primary (Numeral n l) = refl
    same_primary (Logical b l) = refl
    same_primary (Bracketed l e m) = same_expr e
    same_primary (OneCall c) = same_call c
    same_primary (OneElement e) = same_element e

    pub same_call : (c : Call) → tree.need_call scopes c ≡ meaning.need what (plain.call c)
    same_call (Alone x) = refl
    same_call (WithActuals x l a more m) =
        let formals = (scopes x.number).formals in
        let fittings = meaning.formals_of (what (Identifier x.number)) in
        let as_ = plain.actuals more in
        let passed = meaning.passed_needs what 0 fittings (plain_actuals a more) in
        let greatest = max (meaning.need what (plain.actual a)) (meaning.greatest_need what as_) in
        ap₂ (λ c g. tree.call_need (scopes x.number).kind (suc c) (by_value scopes formals a more) g) (count_actuals_same more)
        (ap₂ max (same_actual a) (same_actuals more))
        ∙ ap (λ v. tree.call_need (scopes x.number).kind (suc (meaning.count as_)) v greatest)
        (join_by_value a more (same_actual a) (λ ks gs f. same_passed more ks gs f 2) formals fittings (alike x.number).formals)
        ∙ (alike x.number).call (suc (meaning.count as_)) passed greatest

    pub same_element : (e : Element) → tree.need_element scopes e ≡ meaning.need what (plain.element e)
    same_element (Subscripted x l e es m) =
        let es' = plain.exprs es in
        let n = meaning.need what (plain.expr e) in
        ap₂ (λ c g. tree.element_need (scopes x.number).kind (suc c) g (max (1 + g) (tree.need_subscripts scopes es 2)))
        (count_exprs_same es) (same_expr e)
        ∙ ap (λ b. tree.element_need (scopes x.number).kind (suc (meaning.count es')) n (max (1 + n) b)) (same_subscripts es 2)
        ∙ (alike x.number).element (suc (meaning.count es')) n (max (1 + n) (meaning.need_behind what 2 es'))

    same_actual : (a : Actual) → tree.need_actual scopes a ≡ meaning.need what (plain.actual a)
    same_actual (OneExpr e) = same_expr e
    same_actual (AString l bs m) = refl

    same_actuals : (more : Actuals) → tree.need_actuals scopes more ≡ meaning.greatest_need what (plain.actuals more)
    same_actuals NoActuals = refl
    same_actuals (MoreActuals l a more) = ap₂ max (same_actual a) (same_actuals more)

    same_subscripts : (es : Exprs) (before : ℕ) → tree.need_subscripts scopes es before ≡ meaning.need_behind what before (plain.exprs es)
    same_subscripts NoExprs before = refl
    same_subscripts (MoreExprs l e es) before = ap₂ max (ap (λ n. before + n) (same_expr e)) (same_subscripts es (suc before))

    same_passed : (more : Actuals) (kinds : List Kind) (fittings : List Fitting) → AreSameFormals kinds fittings → (before : ℕ)
        → tree.need_by_value scopes more kinds before ≡ meaning.passed_needs what before fittings (plain.actuals more)
    same_passed NoActuals kinds fittings f before = refl
    same_passed (MoreActuals l a more) [] [] f before = none_by_value scopes (MoreActuals l a more) before
    same_passed (MoreActuals l a more) [] (g ∷ gs) f before = absurd f
    same_passed (MoreActuals l a more) (k ∷ ks) [] f before = absurd f
    same_passed (MoreActuals l a more) (k ∷ ks) (g ∷ gs) f before =
        ap₂ max (ap (tree.value_need k before) (same_actual a) ∙ f.0 before (meaning.need what (plain.actual a)))
        (ap (tree.need_by_value scopes more ks) (the (before + 2 ≡ suc (suc before)) (omega arith)) ∙ same_passed more ks gs f.1 (suc (suc before)))
