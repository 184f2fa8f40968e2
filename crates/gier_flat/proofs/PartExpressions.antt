-- Fair expressions of the part's form are of the part: where only variables and labels are declared, the type of an expression tells
-- what its identifiers are.
use Rattle.std.proofs.Common.{◌≡◌, true, Option, Some, None, refl, sym, ap, subst, arith}
use Rattle.gier_tree.specs.Places.{Places}
use Rattle.gier_tree.specs.Trees.{Name, Expr, OneSimple, IfExpr, Simple, OneImplication, Equivalent, Implication, OneDisjunction}
use Rattle.gier_tree.specs.Trees.{Implies, Disjunction, OneConjunction, Either, Conjunction, OneNegation, Both, Negation}
use Rattle.gier_tree.specs.Trees.{OneRelation, Negated, Relation, OneArithmetic, Compared, Arithmetic, OneTerm, Signed, Summed}
use Rattle.gier_tree.specs.Trees.{Term, OneFactor, Multiplied, Factor, OnePrimary, Raised, Primary, Numeral, Logical, Bracketed}
use Rattle.gier_tree.specs.Trees.{OneCall, OneElement, Call, Alone, WithActuals, OneExpr, AString, NoActuals, MoreActuals}
use Rattle.gier_tree.specs.Written.{name_alone}
use Rattle.gier_tree.specs.declared.kind.Kind.TheVariants.{IntegerValue}
use Rattle.gier_kinds.specs.Actuals.{type_fits}
use Rattle.gier_kinds.specs.Types.{ExprType, OfInteger, OfBoolean, OfLabel, Unknown, is_known, is_same}
use Rattle.gier_fair.specs.Expressions as fair
use Rattle.gier_flat.specs.Fair.{FairExpr, FairSimple, FairImplication, FairDisjunction, FairConjunction, FairNegation, FairRelation, FairArithmetic, FairTerm, FairFactor, FairPrimary, FairCall, FairTarget, FairTargetSimple, FairTargetPrimary}
use Rattle.gier_flat.specs.Part.{PartExpr, PartSimple, PartImplication, PartDisjunction, PartConjunction, PartNegation, PartRelation, PartArithmetic, PartTerm, PartFactor, PartPrimary, PartCall}
use Rattle.gier_flat.proofs.PartKinds.{AreKnown, IsValueType, an_integer, taken, target, function, no_target, function_takes}

no_boolean : OfLabel ≡ OfBoolean → ⊥
no_boolean e = cc

no_integer : OfLabel ≡ OfInteger → ⊥
no_integer e = cc

-- ---- an identifier alone is the whole expression

call_is : (c : Call) (x : Name) → name_alone (OneSimple (OneImplication (OneDisjunction (OneConjunction (OneNegation (OneRelation (OneArithmetic (OneTerm (OneFactor (OnePrimary (OneCall c))))))))))) ≡ Some x → c ≡ Alone x
call_is (Alone y) x e = cc
call_is (WithActuals y l a more m) x e = cc

primary_is : (z : Primary) (x : Name) → name_alone (OneSimple (OneImplication (OneDisjunction (OneConjunction (OneNegation (OneRelation (OneArithmetic (OneTerm (OneFactor (OnePrimary z)))))))))) ≡ Some x → z ≡ (OneCall (Alone x))
primary_is (OneCall c) x e = ap (λ y. OneCall y) (call_is c x e)
primary_is (Numeral n l) x e = cc
primary_is (Logical b l) x e = cc
primary_is (Bracketed l y m) x e = cc
primary_is (OneElement y) x e = cc

factor_is : (z : Factor) (x : Name) → name_alone (OneSimple (OneImplication (OneDisjunction (OneConjunction (OneNegation (OneRelation (OneArithmetic (OneTerm (OneFactor z))))))))) ≡ Some x → z ≡ (OnePrimary (OneCall (Alone x)))
factor_is (OnePrimary y) x e = ap (λ y. OnePrimary y) (primary_is y x e)
factor_is (Raised f l q) x e = cc

term_is : (z : Term) (x : Name) → name_alone (OneSimple (OneImplication (OneDisjunction (OneConjunction (OneNegation (OneRelation (OneArithmetic (OneTerm z)))))))) ≡ Some x → z ≡ (OneFactor (OnePrimary (OneCall (Alone x))))
term_is (OneFactor y) x e = ap (λ y. OneFactor y) (factor_is y x e)
term_is (Multiplied u o l f) x e = cc

arithmetic_is : (z : Arithmetic) (x : Name) → name_alone (OneSimple (OneImplication (OneDisjunction (OneConjunction (OneNegation (OneRelation (OneArithmetic z))))))) ≡ Some x → z ≡ (OneTerm (OneFactor (OnePrimary (OneCall (Alone x)))))
arithmetic_is (OneTerm y) x e = ap (λ y. OneTerm y) (term_is y x e)
arithmetic_is (Signed o l u) x e = cc
arithmetic_is (Summed a o l u) x e = cc

relation_is : (z : Relation) (x : Name) → name_alone (OneSimple (OneImplication (OneDisjunction (OneConjunction (OneNegation (OneRelation z)))))) ≡ Some x → z ≡ (OneArithmetic (OneTerm (OneFactor (OnePrimary (OneCall (Alone x))))))
relation_is (OneArithmetic y) x e = ap (λ y. OneArithmetic y) (arithmetic_is y x e)
relation_is (Compared a o l b) x e = cc

negation_is : (z : Negation) (x : Name) → name_alone (OneSimple (OneImplication (OneDisjunction (OneConjunction (OneNegation z))))) ≡ Some x → z ≡ (OneRelation (OneArithmetic (OneTerm (OneFactor (OnePrimary (OneCall (Alone x)))))))
negation_is (OneRelation y) x e = ap (λ y. OneRelation y) (relation_is y x e)
negation_is (Negated l r) x e = cc

conjunction_is : (z : Conjunction) (x : Name) → name_alone (OneSimple (OneImplication (OneDisjunction (OneConjunction z)))) ≡ Some x → z ≡ (OneNegation (OneRelation (OneArithmetic (OneTerm (OneFactor (OnePrimary (OneCall (Alone x))))))))
conjunction_is (OneNegation y) x e = ap (λ y. OneNegation y) (negation_is y x e)
conjunction_is (Both c l n) x e = cc

disjunction_is : (z : Disjunction) (x : Name) → name_alone (OneSimple (OneImplication (OneDisjunction z))) ≡ Some x → z ≡ (OneConjunction (OneNegation (OneRelation (OneArithmetic (OneTerm (OneFactor (OnePrimary (OneCall (Alone x)))))))))
disjunction_is (OneConjunction y) x e = ap (λ y. OneConjunction y) (conjunction_is y x e)
disjunction_is (Either d l c) x e = cc

implication_is : (z : Implication) (x : Name) → name_alone (OneSimple (OneImplication z)) ≡ Some x → z ≡ (OneDisjunction (OneConjunction (OneNegation (OneRelation (OneArithmetic (OneTerm (OneFactor (OnePrimary (OneCall (Alone x))))))))))
implication_is (OneDisjunction y) x e = ap (λ y. OneDisjunction y) (disjunction_is y x e)
implication_is (Implies i l d) x e = cc

simple_is : (z : Simple) (x : Name) → name_alone (OneSimple z) ≡ Some x → z ≡ (OneImplication (OneDisjunction (OneConjunction (OneNegation (OneRelation (OneArithmetic (OneTerm (OneFactor (OnePrimary (OneCall (Alone x)))))))))))
simple_is (OneImplication y) x e = ap (λ y. OneImplication y) (implication_is y x e)
simple_is (Equivalent s l i) x e = cc

expr_is : (z : Expr) (x : Name) → name_alone z ≡ Some x → z ≡ (OneSimple (OneImplication (OneDisjunction (OneConjunction (OneNegation (OneRelation (OneArithmetic (OneTerm (OneFactor (OnePrimary (OneCall (Alone x))))))))))))
expr_is (OneSimple y) x e = ap (λ y. OneSimple y) (simple_is y x e)
expr_is (IfExpr l c m s n y) x e = cc

-- ---- what fits a formal by value that is an integer

value_fits : (t : ExprType) → is_known t ≡ true → type_fits IntegerValue t ≡ true → IsValueType t
value_fits OfInteger e f = tt
value_fits OfBoolean e f = tt
value_fits OfLabel e f = cc
value_fits Unknown e f = cc

integer_is : (t : ExprType) → is_same OfInteger t ≡ true → t ≡ OfInteger
integer_is OfInteger e = refl
integer_is OfBoolean e = cc
integer_is OfLabel e = cc
integer_is Unknown e = cc

module _ (p : Places) (k : AreKnown p) where
  pub passed : (z : Expr) (o : Option Name) → name_alone z ≡ o → fair.FairPassed p an_integer o (λ t. fair.FairExpr p t z)
      → ((t : ExprType) → IsValueType t → fair.FairExpr p t z → FairExpr p z) → FairExpr p z
  passed z (Some x) e f each =
      let gives : fair.Gives _ OfInteger = (integer_is _ f.0, refl) in
      each OfInteger tt (subst (λ y. fair.FairExpr p OfInteger y) (sym (expr_is z x e)) gives)
  passed z None e f each = each f.0 (value_fits f.0 f.2 f.3) f.1

  mutual
    pub expr_fair : (z : Expr) → PartExpr z → (t : ExprType) → IsValueType t → fair.FairExpr p t z → FairExpr p z
    expr_fair (OneSimple y) h t v f = simple_fair y h t v f
    expr_fair (IfExpr l c m s n y) h t v f = (expr_fair c h.0 OfBoolean tt f.0, simple_fair s h.1 t v f.1, expr_fair y h.2 t v f.2)

    simple_fair : (z : Simple) → PartSimple z → (t : ExprType) → IsValueType t → fair.FairSimple p t z → FairSimple p z
    simple_fair (OneImplication y) h t v g = implication_fair y h t v g
    simple_fair (Equivalent s l i) h t v g = (simple_fair s h.0 OfBoolean tt g.1, implication_fair i h.1 OfBoolean tt g.2)

    implication_fair : (z : Implication) → PartImplication z → (t : ExprType) → IsValueType t → fair.FairImplication p t z → FairImplication p z
    implication_fair (OneDisjunction y) h t v g = disjunction_fair y h t v g
    implication_fair (Implies i l d) h t v g = (implication_fair i h.0 OfBoolean tt g.1, disjunction_fair d h.1 OfBoolean tt g.2)

    disjunction_fair : (z : Disjunction) → PartDisjunction z → (t : ExprType) → IsValueType t → fair.FairDisjunction p t z → FairDisjunction p z
    disjunction_fair (OneConjunction y) h t v g = conjunction_fair y h t v g
    disjunction_fair (Either d l c) h t v g = (disjunction_fair d h.0 OfBoolean tt g.1, conjunction_fair c h.1 OfBoolean tt g.2)

    conjunction_fair : (z : Conjunction) → PartConjunction z → (t : ExprType) → IsValueType t → fair.FairConjunction p t z → FairConjunction p z
    conjunction_fair (OneNegation y) h t v g = negation_fair y h t v g
    conjunction_fair (Both c l n) h t v g = (conjunction_fair c h.0 OfBoolean tt g.1, negation_fair n h.1 OfBoolean tt g.2)

    negation_fair : (z : Negation) → PartNegation z → (t : ExprType) → IsValueType t → fair.FairNegation p t z → FairNegation p z
    negation_fair (OneRelation y) h t v g = relation_fair y h t v g
    negation_fair (Negated l r) h t v g = relation_fair r h OfBoolean tt g.1

    relation_fair : (z : Relation) → PartRelation z → (t : ExprType) → IsValueType t → fair.FairRelation p t z → FairRelation p z
    relation_fair (OneArithmetic y) h t v g = arithmetic_fair y h t v g
    relation_fair (Compared a o l b) h t v g = (arithmetic_fair a h.0 OfInteger tt g.1, arithmetic_fair b h.1 OfInteger tt g.2)

    arithmetic_fair : (z : Arithmetic) → PartArithmetic z → (t : ExprType) → IsValueType t → fair.FairArithmetic p t z → FairArithmetic p z
    arithmetic_fair (OneTerm y) h t v g = term_fair y h t v g
    arithmetic_fair (Signed o l u) h t v g = term_fair u h OfInteger tt g.1
    arithmetic_fair (Summed a o l u) h t v g = (arithmetic_fair a h.0 OfInteger tt g.1, term_fair u h.1 OfInteger tt g.2)

    term_fair : (z : Term) → PartTerm z → (t : ExprType) → IsValueType t → fair.FairTerm p t z → FairTerm p z
    term_fair (OneFactor y) h t v g = factor_fair y h t v g
    term_fair (Multiplied u o l f) h t v g = (term_fair u h.0 OfInteger tt g.1, factor_fair f h.1 OfInteger tt g.2)

    factor_fair : (z : Factor) → PartFactor z → (t : ExprType) → IsValueType t → fair.FairFactor p t z → FairFactor p z
    factor_fair (OnePrimary y) h t v g = primary_fair y h t v g
    factor_fair (Raised f l q) h t v g = (factor_fair f h.0 OfInteger tt g.1, primary_fair q h.1 OfInteger tt g.2)

    primary_fair : (z : Primary) → PartPrimary z → (t : ExprType) → IsValueType t → fair.FairPrimary p t z → FairPrimary p z
    primary_fair (Numeral n l) h t v f = omega (arith, h)
    primary_fair (Logical b l) h t v f = tt
    primary_fair (Bracketed l y m) h t v f = expr_fair y h t v f
    primary_fair (OneCall c) h t v f = call_fair c h t v f
    primary_fair (OneElement y) h t v f = absurd h

    call_fair : (z : Call) → PartCall z → (t : ExprType) → IsValueType t → fair.FairCall p t z → FairCall p z
    call_fair (Alone x) h t v f = taken x.number (p x.number).what.kind (p x.number).what.count (k x.number) h (subst IsValueType (sym f.0) v)
    call_fair (WithActuals x l (OneExpr y) NoActuals m) h t v f =
        let is = function x.number (p x.number).what.kind (p x.number).what.count (k x.number) (subst IsValueType (sym f.0.0) v) in
        let same = function_takes (p x.number).what.kind (p x.number).what.formals is in
        (is, passed y (name_alone y) refl (subst (λ w. fair.FairPassed p w (name_alone y) (λ u. fair.FairExpr p u y)) same f.2) (λ u w g. expr_fair y h u w g))
    call_fair (WithActuals x l (OneExpr y) (MoreActuals n a more) m) h t v f = absurd h
    call_fair (WithActuals x l (AString n bs i) more m) h t v f = absurd h

  -- designational expressions
  mutual
    pub expr_targets : (z : Expr) → PartExpr z → fair.FairExpr p OfLabel z → FairTarget p z
    expr_targets (OneSimple y) h f = simple_targets y h f
    expr_targets (IfExpr l c m s n y) h f = (expr_fair c h.0 OfBoolean tt f.0, simple_targets s h.1 f.1, expr_targets y h.2 f.2)

    simple_targets : (z : Simple) → PartSimple z → fair.FairSimple p OfLabel z → FairTargetSimple p z
    simple_targets (OneImplication y) h g = implication_targets y h g
    simple_targets (Equivalent s l i) h g = absurd (no_boolean g.0)

    implication_targets : (z : Implication) → PartImplication z → fair.FairImplication p OfLabel z → FairTargetSimple p (OneImplication z)
    implication_targets (OneDisjunction y) h g = disjunction_targets y h g
    implication_targets (Implies i l d) h g = absurd (no_boolean g.0)

    disjunction_targets : (z : Disjunction) → PartDisjunction z → fair.FairDisjunction p OfLabel z → FairTargetSimple p (OneImplication (OneDisjunction z))
    disjunction_targets (OneConjunction y) h g = conjunction_targets y h g
    disjunction_targets (Either d l c) h g = absurd (no_boolean g.0)

    conjunction_targets : (z : Conjunction) → PartConjunction z → fair.FairConjunction p OfLabel z → FairTargetSimple p (OneImplication (OneDisjunction (OneConjunction z)))
    conjunction_targets (OneNegation y) h g = negation_targets y h g
    conjunction_targets (Both c l n) h g = absurd (no_boolean g.0)

    negation_targets : (z : Negation) → PartNegation z → fair.FairNegation p OfLabel z → FairTargetSimple p (OneImplication (OneDisjunction (OneConjunction (OneNegation z))))
    negation_targets (OneRelation y) h g = relation_targets y h g
    negation_targets (Negated l r) h g = absurd (no_boolean g.0)

    relation_targets : (z : Relation) → PartRelation z → fair.FairRelation p OfLabel z → FairTargetSimple p (OneImplication (OneDisjunction (OneConjunction (OneNegation (OneRelation z)))))
    relation_targets (OneArithmetic y) h g = arithmetic_targets y h g
    relation_targets (Compared a o l b) h g = absurd (no_boolean g.0)

    arithmetic_targets : (z : Arithmetic) → PartArithmetic z → fair.FairArithmetic p OfLabel z → FairTargetSimple p (OneImplication (OneDisjunction (OneConjunction (OneNegation (OneRelation (OneArithmetic z))))))
    arithmetic_targets (OneTerm y) h g = term_targets y h g
    arithmetic_targets (Signed o l u) h g = absurd (no_integer g.0)
    arithmetic_targets (Summed a o l u) h g = absurd (no_integer g.0)

    term_targets : (z : Term) → PartTerm z → fair.FairTerm p OfLabel z → FairTargetSimple p (OneImplication (OneDisjunction (OneConjunction (OneNegation (OneRelation (OneArithmetic (OneTerm z)))))))
    term_targets (OneFactor y) h g = factor_targets y h g
    term_targets (Multiplied u o l f) h g = absurd (no_integer g.0)

    factor_targets : (z : Factor) → PartFactor z → fair.FairFactor p OfLabel z → FairTargetSimple p (OneImplication (OneDisjunction (OneConjunction (OneNegation (OneRelation (OneArithmetic (OneTerm (OneFactor z))))))))
    factor_targets (OnePrimary y) h g = primary_targets y h g
    factor_targets (Raised f l q) h g = absurd (no_integer g.0)

    primary_targets : (z : Primary) → PartPrimary z → fair.FairPrimary p OfLabel z → FairTargetPrimary p z
    primary_targets (Numeral n l) h f = absurd (no_integer f)
    primary_targets (Logical b l) h f = absurd (no_boolean f)
    primary_targets (Bracketed l y m) h f = expr_targets y h f
    primary_targets (OneCall c) h f = call_targets c h f
    primary_targets (OneElement y) h f = absurd h

    call_targets : (z : Call) → PartCall z → fair.FairCall p OfLabel z → FairTargetPrimary p (OneCall z)
    call_targets (Alone x) h f = target x.number (p x.number).what.kind (p x.number).what.count (k x.number) f.0
    call_targets (WithActuals x l a more m) h f = absurd (no_target x.number (p x.number).what.kind (p x.number).what.count (k x.number) f.0.0)
