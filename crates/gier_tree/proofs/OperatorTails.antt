-- What stands behind a first operand, spelled and read level by level.
use Rattle.std.proofs.Common.{◌≡◌, List, [], ◌∷◌, ◌++◌, Some, refl, ap, ◌∙◌}
use Rattle.gier_symbol.specs.declared.symbol.Symbol.{Symbol}
use Rattle.gier_symbol.specs.declared.tag.Tag.TheVariants.{Power, Not, And, Or, Impl, Equiv}
use Rattle.gier_symbol.specs.ByTag.{word}
use Rattle.gier_tree.specs.Trees.{Simple, OneImplication, Equivalent, Implication, OneDisjunction, Implies, Disjunction, OneConjunction, Either, Conjunction, OneNegation, Both, Negation, OneRelation, Negated, Relation, OneArithmetic, Compared, Arithmetic, OneTerm, Signed, Summed, Term, OneFactor, Multiplied, Factor, OnePrimary, Raised}
use Rattle.gier_tree.specs.Spell.{adding_tag, multiplying_tag, comparing_tag, spell_simple, spell_implication, spell_disjunction, spell_conjunction, spell_negation, spell_relation, spell_arithmetic, spell_term, spell_factor, spell_primary}
use Rattle.gier_tree.specs.Wanted.{MayBeNot, NoNot, ANot, MayBeSign, NoSign, ASign, MayBeRelation, NoRelation, ARelation, Powers, Products, Sums, Ands, Ors, Impls, Equivs, Tails, Item, MayPower, MayTimes, MaySum, MayRelation, MayAnd, MayOr, MayImpl, MayEquiv, Trees, factor_items, term_items, arithmetic_items, negation_items, tail_items, shut_factor, shut_term, shut_arithmetic, shut_negation, shut_conjunction, shut_disjunction, shut_implication}
use Rattle.gier_tree.specs.Structure.{gather, build}
use Rattle.gier_tree.proofs.Ends.{Ends, up, pass_power, pass_times, pass_sum, pass_relation, pass_and, pass_or, pass_impl, pass_equiv, multiplying_ends, adding_ends, comparing_ends}
use Rattle.gier_tree.proofs.Levels.{same_factor, same_term, same_arithmetic, same_negation, same_conjunction, same_disjunction, same_implication, open_factor, open_term, open_arithmetic, open_relation, open_negation, open_conjunction, open_disjunction, open_implication, open_simple}
use Rattle.gier_tree.proofs.ExpressionsRead.{at_times, at_sum, at_relation, primary_built, factor_built, term_built, arithmetic_built, negation_built, conjunction_built, disjunction_built, implication_built}

abbrev pub spell_powers : Powers → List Symbol → List Symbol
spell_powers [] k = k
spell_powers (n ∷ ns) k = word Power n.line ∷ spell_primary n.operand (spell_powers ns k)

abbrev pub spell_products : Products → List Symbol → List Symbol
spell_products [] k = k
spell_products (n ∷ ns) k = word (multiplying_tag n.operator) n.line ∷ spell_factor n.operand (spell_products ns k)

abbrev pub spell_sums : Sums → List Symbol → List Symbol
spell_sums [] k = k
spell_sums (n ∷ ns) k = word (adding_tag n.operator) n.line ∷ spell_term n.operand (spell_sums ns k)

abbrev pub spell_ands : Ands → List Symbol → List Symbol
spell_ands [] k = k
spell_ands (n ∷ ns) k = word And n.line ∷ spell_negation n.operand (spell_ands ns k)

abbrev pub spell_ors : Ors → List Symbol → List Symbol
spell_ors [] k = k
spell_ors (n ∷ ns) k = word Or n.line ∷ spell_conjunction n.operand (spell_ors ns k)

abbrev pub spell_impls : Impls → List Symbol → List Symbol
spell_impls [] k = k
spell_impls (n ∷ ns) k = word Impl n.line ∷ spell_disjunction n.operand (spell_impls ns k)

abbrev pub spell_equivs : Equivs → List Symbol → List Symbol
spell_equivs [] k = k
spell_equivs (n ∷ ns) k = word Equiv n.line ∷ spell_implication n.operand (spell_equivs ns k)

abbrev pub spell_may_relation : MayBeRelation → List Symbol → List Symbol
spell_may_relation NoRelation k = k
spell_may_relation (ARelation o l a) k = word (comparing_tag o) l ∷ spell_arithmetic a k

abbrev pub spell_may_sign : MayBeSign → List Symbol → List Symbol
spell_may_sign NoSign k = k
spell_may_sign (ASign o l) k = word (adding_tag o) l ∷ k

abbrev pub spell_may_not : MayBeNot → List Symbol → List Symbol
spell_may_not NoNot k = k
spell_may_not (ANot l) k = word Not l ∷ k

pub powers_end : (ns : Powers) (k : List Symbol) → Ends 8 k → Ends 9 (spell_powers ns k)
powers_end [] k h = up 8 k h
powers_end (n ∷ ns) k h = refl

pub products_end : (ns : Products) (k : List Symbol) → Ends 7 k → Ends 8 (spell_products ns k)
products_end [] k h = up 7 k h
products_end (n ∷ ns) k h = multiplying_ends n.operator n.line (spell_factor n.operand (spell_products ns k))

pub sums_end : (ns : Sums) (k : List Symbol) → Ends 6 k → Ends 7 (spell_sums ns k)
sums_end [] k h = up 6 k h
sums_end (n ∷ ns) k h = adding_ends n.operator n.line (spell_term n.operand (spell_sums ns k))

pub ands_end : (ns : Ands) (k : List Symbol) → Ends 4 k → Ends 5 (spell_ands ns k)
ands_end [] k h = up 4 k h
ands_end (n ∷ ns) k h = refl

pub ors_end : (ns : Ors) (k : List Symbol) → Ends 3 k → Ends 4 (spell_ors ns k)
ors_end [] k h = up 3 k h
ors_end (n ∷ ns) k h = refl

pub impls_end : (ns : Impls) (k : List Symbol) → Ends 2 k → Ends 3 (spell_impls ns k)
impls_end [] k h = up 2 k h
impls_end (n ∷ ns) k h = refl

pub equivs_end : (ns : Equivs) (k : List Symbol) → Ends 1 k → Ends 2 (spell_equivs ns k)
equivs_end [] k h = up 1 k h
equivs_end (n ∷ ns) k h = refl

pub may_relation_end : (c : MayBeRelation) (k : List Symbol) → Ends 5 k → Ends 6 (spell_may_relation c k)
may_relation_end NoRelation k h = up 5 k h
may_relation_end (ARelation o l a) k h = comparing_ends o l (spell_arithmetic a k)

pub powers_built : (ns : Powers) (k : List Symbol) (st : List Item) (r : Trees st) → Ends 8 k → build k st ≡ Some r → build (spell_powers ns k) (MayPower ∷ st) ≡ Some (ns, r)
powers_built [] k st r h b = pass_power k st r h b
powers_built (n ∷ ns) k st r h b = ap (gather factor_items st (λ ts. record { line = n.line; operand = ts.0 } ∷ ts.1.0)) (primary_built n.operand (spell_powers ns k) (MayPower ∷ st) (ns, r) (powers_end ns k h) (powers_built ns k st r h b))

pub products_built : (ns : Products) (k : List Symbol) (st : List Item) (r : Trees st) → Ends 7 k → build k st ≡ Some r → build (spell_products ns k) (MayTimes ∷ st) ≡ Some (ns, r)
products_built [] k st r h b = pass_times k st r h b
products_built (n ∷ ns) k st r h b = at_times n.operator n.line (spell_factor n.operand (spell_products ns k)) st ∙ ap (gather term_items st (λ ts. let t = shut_factor ts in record { operator = n.operator; line = n.line; operand = t.0 } ∷ t.1.0)) (factor_built n.operand (spell_products ns k) (MayTimes ∷ st) [] (ns, r) (up 8 (spell_products ns k) (products_end ns k h)) (pass_power (spell_products ns k) (MayTimes ∷ st) (ns, r) (products_end ns k h) (products_built ns k st r h b))) ∙ ap (λ (y : Factor × (Products × Trees st)). Some (record { operator = n.operator; line = n.line; operand = y.0 } ∷ y.1.0, y.1.1)) (same_factor n.operand [] (ns, r))

pub sums_built : (ns : Sums) (k : List Symbol) (st : List Item) (r : Trees st) → Ends 6 k → build k st ≡ Some r → build (spell_sums ns k) (MaySum ∷ st) ≡ Some (ns, r)
sums_built [] k st r h b = pass_sum k st r h b
sums_built (n ∷ ns) k st r h b = at_sum n.operator n.line (spell_term n.operand (spell_sums ns k)) st ∙ ap (gather (term_items ++ MaySum ∷ []) st (λ ts. let t = shut_term ts in record { operator = n.operator; line = n.line; operand = t.0 } ∷ t.1.0)) (term_built n.operand (spell_sums ns k) (MaySum ∷ st) [] (ns, r) (up 7 (spell_sums ns k) (sums_end ns k h)) (pass_times (spell_sums ns k) (MaySum ∷ st) (ns, r) (sums_end ns k h) (sums_built ns k st r h b))) ∙ ap (λ (y : Term × (Sums × Trees st)). Some (record { operator = n.operator; line = n.line; operand = y.0 } ∷ y.1.0, y.1.1)) (same_term n.operand [] (ns, r))

pub ands_built : (ns : Ands) (k : List Symbol) (st : List Item) (r : Trees st) → Ends 4 k → build k st ≡ Some r → build (spell_ands ns k) (MayAnd ∷ st) ≡ Some (ns, r)
ands_built [] k st r h b = pass_and k st r h b
ands_built (n ∷ ns) k st r h b = ap (gather (negation_items ++ MayAnd ∷ []) st (λ ts. let t = shut_negation ts in record { line = n.line; operand = t.0 } ∷ t.1.0)) (negation_built n.operand (spell_ands ns k) (MayAnd ∷ st) (ns, r) (ands_end ns k h) (ands_built ns k st r h b)) ∙ ap (λ (y : Negation × (Ands × Trees st)). Some (record { line = n.line; operand = y.0 } ∷ y.1.0, y.1.1)) (same_negation n.operand (ns, r))

pub ors_built : (ns : Ors) (k : List Symbol) (st : List Item) (r : Trees st) → Ends 3 k → build k st ≡ Some r → build (spell_ors ns k) (MayOr ∷ st) ≡ Some (ns, r)
ors_built [] k st r h b = pass_or k st r h b
ors_built (n ∷ ns) k st r h b = ap (gather (negation_items ++ MayAnd ∷ MayOr ∷ []) st (λ ts. let t = shut_conjunction ts in record { line = n.line; operand = t.0 } ∷ t.1.0)) (conjunction_built n.operand (spell_ors ns k) (MayOr ∷ st) [] (ns, r) (up 4 (spell_ors ns k) (ors_end ns k h)) (pass_and (spell_ors ns k) (MayOr ∷ st) (ns, r) (ors_end ns k h) (ors_built ns k st r h b))) ∙ ap (λ (y : Conjunction × (Ors × Trees st)). Some (record { line = n.line; operand = y.0 } ∷ y.1.0, y.1.1)) (same_conjunction n.operand [] (ns, r))

pub impls_built : (ns : Impls) (k : List Symbol) (st : List Item) (r : Trees st) → Ends 2 k → build k st ≡ Some r → build (spell_impls ns k) (MayImpl ∷ st) ≡ Some (ns, r)
impls_built [] k st r h b = pass_impl k st r h b
impls_built (n ∷ ns) k st r h b = ap (gather (negation_items ++ MayAnd ∷ MayOr ∷ MayImpl ∷ []) st (λ ts. let t = shut_disjunction ts in record { line = n.line; operand = t.0 } ∷ t.1.0)) (disjunction_built n.operand (spell_impls ns k) (MayImpl ∷ st) [] (ns, r) (up 3 (spell_impls ns k) (impls_end ns k h)) (pass_or (spell_impls ns k) (MayImpl ∷ st) (ns, r) (impls_end ns k h) (impls_built ns k st r h b))) ∙ ap (λ (y : Disjunction × (Impls × Trees st)). Some (record { line = n.line; operand = y.0 } ∷ y.1.0, y.1.1)) (same_disjunction n.operand [] (ns, r))

pub equivs_built : (ns : Equivs) (k : List Symbol) (st : List Item) (r : Trees st) → Ends 1 k → build k st ≡ Some r → build (spell_equivs ns k) (MayEquiv ∷ st) ≡ Some (ns, r)
equivs_built [] k st r h b = pass_equiv k st r h b
equivs_built (n ∷ ns) k st r h b = ap (gather (negation_items ++ MayAnd ∷ MayOr ∷ MayImpl ∷ MayEquiv ∷ []) st (λ ts. let t = shut_implication ts in record { line = n.line; operand = t.0 } ∷ t.1.0)) (implication_built n.operand (spell_equivs ns k) (MayEquiv ∷ st) [] (ns, r) (up 2 (spell_equivs ns k) (equivs_end ns k h)) (pass_impl (spell_equivs ns k) (MayEquiv ∷ st) (ns, r) (equivs_end ns k h) (equivs_built ns k st r h b))) ∙ ap (λ (y : Implication × (Equivs × Trees st)). Some (record { line = n.line; operand = y.0 } ∷ y.1.0, y.1.1)) (same_implication n.operand [] (ns, r))

pub may_relation_built : (c : MayBeRelation) (k : List Symbol) (st : List Item) (r : Trees st) → Ends 5 k → build k st ≡ Some r → build (spell_may_relation c k) (MayRelation ∷ st) ≡ Some (c, r)
may_relation_built NoRelation k st r h b = pass_relation k st r h b
may_relation_built (ARelation o l a) k st r h b = at_relation o l (spell_arithmetic a k) st ∙ ap (gather arithmetic_items st (λ ts. ARelation o l (shut_arithmetic ts).0)) (arithmetic_built a k st [] r (up 6 k (up 5 k h)) (pass_sum k st r (up 5 k h) b)) ∙ ap (λ (y : Arithmetic × Trees st). Some (ARelation o l y.0, y.1)) (same_arithmetic a [] r)

-- what stands behind a first operand of all levels
abbrev pub spell_tails : Tails → List Symbol → List Symbol
spell_tails t k = spell_powers t.powers (spell_products t.products (spell_sums t.sums (spell_may_relation t.relation (spell_ands t.ands (spell_ors t.ors (spell_impls t.impls (spell_equivs t.equivs k)))))))

abbrev pub tail_trees : {R : Type 0} → Tails → R → Powers × (Products × (Sums × (MayBeRelation × (Ands × (Ors × (Impls × (Equivs × R)))))))
tail_trees t r = (t.powers, (t.products, (t.sums, (t.relation, (t.ands, (t.ors, (t.impls, (t.equivs, r))))))))

pub tails_end : (t : Tails) (k : List Symbol) → Ends 1 k → Ends 9 (spell_tails t k)
tails_end t k h =
    powers_end t.powers (spell_products t.products (spell_sums t.sums (spell_may_relation t.relation (spell_ands t.ands (spell_ors t.ors (spell_impls t.impls (spell_equivs t.equivs k)))))))
    (products_end t.products (spell_sums t.sums (spell_may_relation t.relation (spell_ands t.ands (spell_ors t.ors (spell_impls t.impls (spell_equivs t.equivs k))))))
    (sums_end t.sums (spell_may_relation t.relation (spell_ands t.ands (spell_ors t.ors (spell_impls t.impls (spell_equivs t.equivs k)))))
    (may_relation_end t.relation (spell_ands t.ands (spell_ors t.ors (spell_impls t.impls (spell_equivs t.equivs k))))
    (ands_end t.ands (spell_ors t.ors (spell_impls t.impls (spell_equivs t.equivs k)))
    (ors_end t.ors (spell_impls t.impls (spell_equivs t.equivs k))
    (impls_end t.impls (spell_equivs t.equivs k)
    (equivs_end t.equivs k h)))))))

pub tails_built : (t : Tails) (k : List Symbol) (st : List Item) (r : Trees st) → Ends 1 k → build k st ≡ Some r → build (spell_tails t k) (tail_items ++ st) ≡ Some (tail_trees t r)
tails_built t k st r h b =
    let k1 = spell_equivs t.equivs k in
    let h1 : Ends 2 k1 = equivs_end t.equivs k h in
    let k2 = spell_impls t.impls k1 in
    let h2 : Ends 3 k2 = impls_end t.impls k1 h1 in
    let k3 = spell_ors t.ors k2 in
    let h3 : Ends 4 k3 = ors_end t.ors k2 h2 in
    let k4 = spell_ands t.ands k3 in
    let h4 : Ends 5 k4 = ands_end t.ands k3 h3 in
    let k5 = spell_may_relation t.relation k4 in
    let h5 : Ends 6 k5 = may_relation_end t.relation k4 h4 in
    let k6 = spell_sums t.sums k5 in
    let h6 : Ends 7 k6 = sums_end t.sums k5 h5 in
    let k7 = spell_products t.products k6 in
    let h7 : Ends 8 k7 = products_end t.products k6 h6 in
    powers_built t.powers k7 (MayTimes ∷ MaySum ∷ MayRelation ∷ MayAnd ∷ MayOr ∷ MayImpl ∷ MayEquiv ∷ st) (t.products, (t.sums, (t.relation, (t.ands, (t.ors, (t.impls, (t.equivs, r))))))) h7
    (products_built t.products k6 (MaySum ∷ MayRelation ∷ MayAnd ∷ MayOr ∷ MayImpl ∷ MayEquiv ∷ st) (t.sums, (t.relation, (t.ands, (t.ors, (t.impls, (t.equivs, r)))))) h6
    (sums_built t.sums k5 (MayRelation ∷ MayAnd ∷ MayOr ∷ MayImpl ∷ MayEquiv ∷ st) (t.relation, (t.ands, (t.ors, (t.impls, (t.equivs, r))))) h5
    (may_relation_built t.relation k4 (MayAnd ∷ MayOr ∷ MayImpl ∷ MayEquiv ∷ st) (t.ands, (t.ors, (t.impls, (t.equivs, r)))) h4
    (ands_built t.ands k3 (MayOr ∷ MayImpl ∷ MayEquiv ∷ st) (t.ors, (t.impls, (t.equivs, r))) h3
    (ors_built t.ors k2 (MayImpl ∷ MayEquiv ∷ st) (t.impls, (t.equivs, r)) h2
    (impls_built t.impls k1 (MayEquiv ∷ st) (t.equivs, r) h1
    (equivs_built t.equivs k st r h b)))))))

-- an expression is spelled as its first operand and what stands behind it
pub flat_factor : {R : Type 0} (f : Factor) (pw : Powers) (r : R) (g : R → List Symbol) → spell_factor f (spell_powers pw (g r)) ≡ (let x = open_factor f pw r in spell_primary x.0 (spell_powers x.1.0 (g x.1.1)))
flat_factor (OnePrimary p) pw r g = refl
flat_factor (Raised f l p) pw r g = flat_factor f (record { line = l; operand = p } ∷ pw) r g

pub flat_term : {R : Type 0} (t : Term) (pr : Products) (r : R) (g : R → List Symbol) → spell_term t (spell_products pr (g r)) ≡ (let x = open_term t pr r in spell_primary x.0 (spell_powers x.1.0 (spell_products x.1.1.0 (g x.1.1.1))))
flat_term {R = R} (OneFactor f) pr r g = flat_factor f [] (pr, r) (λ (y : Products × R). spell_products y.0 (g y.1))
flat_term (Multiplied t o l f) pr r g = flat_term t (record { operator = o; line = l; operand = f } ∷ pr) r g

pub flat_arithmetic : {R : Type 0} (a : Arithmetic) (sm : Sums) (r : R) (g : R → List Symbol) → spell_arithmetic a (spell_sums sm (g r)) ≡ (let x = open_arithmetic a sm r in spell_may_sign x.0 (spell_primary x.1.0 (spell_powers x.1.1.0 (spell_products x.1.1.1.0 (spell_sums x.1.1.1.1.0 (g x.1.1.1.1.1))))))
flat_arithmetic {R = R} (OneTerm t) sm r g = flat_term t [] (sm, r) (λ (y : Sums × R). spell_sums y.0 (g y.1))
flat_arithmetic {R = R} (Signed o l t) sm r g = ap (λ (w : List Symbol). word (adding_tag o) l ∷ w) (flat_term t [] (sm, r) (λ (y : Sums × R). spell_sums y.0 (g y.1)))
flat_arithmetic (Summed a o l t) sm r g = flat_arithmetic a (record { operator = o; line = l; operand = t } ∷ sm) r g

pub flat_relation : {R : Type 0} (a : Relation) (r : R) (g : R → List Symbol) → spell_relation a (g r) ≡ (let x = open_relation a r in spell_may_sign x.0 (spell_primary x.1.0 (spell_powers x.1.1.0 (spell_products x.1.1.1.0 (spell_sums x.1.1.1.1.0 (spell_may_relation x.1.1.1.1.1.0 (g x.1.1.1.1.1.1)))))))
flat_relation {R = R} (OneArithmetic a) r g = flat_arithmetic a [] (NoRelation, r) (λ (y : MayBeRelation × R). spell_may_relation y.0 (g y.1))
flat_relation {R = R} (Compared a o l c) r g = flat_arithmetic a [] (ARelation o l c, r) (λ (y : MayBeRelation × R). spell_may_relation y.0 (g y.1))

pub flat_negation : {R : Type 0} (n : Negation) (r : R) (g : R → List Symbol) → spell_negation n (g r) ≡ (let x = open_negation n r in spell_may_not x.0 (spell_may_sign x.1.0 (spell_primary x.1.1.0 (spell_powers x.1.1.1.0 (spell_products x.1.1.1.1.0 (spell_sums x.1.1.1.1.1.0 (spell_may_relation x.1.1.1.1.1.1.0 (g x.1.1.1.1.1.1.1))))))))
flat_negation (OneRelation a) r g = flat_relation a r g
flat_negation (Negated l a) r g = ap (λ (w : List Symbol). word Not l ∷ w) (flat_relation a r g)

pub flat_conjunction : {R : Type 0} (c : Conjunction) (an : Ands) (r : R) (g : R → List Symbol) → spell_conjunction c (spell_ands an (g r)) ≡ (let x = open_conjunction c an r in spell_may_not x.0 (spell_may_sign x.1.0 (spell_primary x.1.1.0 (spell_powers x.1.1.1.0 (spell_products x.1.1.1.1.0 (spell_sums x.1.1.1.1.1.0 (spell_may_relation x.1.1.1.1.1.1.0 (spell_ands x.1.1.1.1.1.1.1.0 (g x.1.1.1.1.1.1.1.1)))))))))
flat_conjunction {R = R} (OneNegation n) an r g = flat_negation n (an, r) (λ (y : Ands × R). spell_ands y.0 (g y.1))
flat_conjunction (Both c l n) an r g = flat_conjunction c (record { line = l; operand = n } ∷ an) r g

pub flat_disjunction : {R : Type 0} (d : Disjunction) (os : Ors) (r : R) (g : R → List Symbol) → spell_disjunction d (spell_ors os (g r)) ≡ (let x = open_disjunction d os r in spell_may_not x.0 (spell_may_sign x.1.0 (spell_primary x.1.1.0 (spell_powers x.1.1.1.0 (spell_products x.1.1.1.1.0 (spell_sums x.1.1.1.1.1.0 (spell_may_relation x.1.1.1.1.1.1.0 (spell_ands x.1.1.1.1.1.1.1.0 (spell_ors x.1.1.1.1.1.1.1.1.0 (g x.1.1.1.1.1.1.1.1.1))))))))))
flat_disjunction {R = R} (OneConjunction c) os r g = flat_conjunction c [] (os, r) (λ (y : Ors × R). spell_ors y.0 (g y.1))
flat_disjunction (Either d l c) os r g = flat_disjunction d (record { line = l; operand = c } ∷ os) r g

pub flat_implication : {R : Type 0} (i : Implication) (im : Impls) (r : R) (g : R → List Symbol) → spell_implication i (spell_impls im (g r)) ≡ (let x = open_implication i im r in spell_may_not x.0 (spell_may_sign x.1.0 (spell_primary x.1.1.0 (spell_powers x.1.1.1.0 (spell_products x.1.1.1.1.0 (spell_sums x.1.1.1.1.1.0 (spell_may_relation x.1.1.1.1.1.1.0 (spell_ands x.1.1.1.1.1.1.1.0 (spell_ors x.1.1.1.1.1.1.1.1.0 (spell_impls x.1.1.1.1.1.1.1.1.1.0 (g x.1.1.1.1.1.1.1.1.1.1)))))))))))
flat_implication {R = R} (OneDisjunction d) im r g = flat_disjunction d [] (im, r) (λ (y : Impls × R). spell_impls y.0 (g y.1))
flat_implication (Implies i l d) im r g = flat_implication i (record { line = l; operand = d } ∷ im) r g

pub flat_simple : {R : Type 0} (s : Simple) (eq : Equivs) (r : R) (g : R → List Symbol) → spell_simple s (spell_equivs eq (g r)) ≡ (let x = open_simple s eq r in spell_may_not x.0 (spell_may_sign x.1.0 (spell_primary x.1.1.0 (spell_powers x.1.1.1.0 (spell_products x.1.1.1.1.0 (spell_sums x.1.1.1.1.1.0 (spell_may_relation x.1.1.1.1.1.1.0 (spell_ands x.1.1.1.1.1.1.1.0 (spell_ors x.1.1.1.1.1.1.1.1.0 (spell_impls x.1.1.1.1.1.1.1.1.1.0 (spell_equivs x.1.1.1.1.1.1.1.1.1.1.0 (g x.1.1.1.1.1.1.1.1.1.1.1))))))))))))
flat_simple {R = R} (OneImplication i) eq r g = flat_implication i [] (eq, r) (λ (y : Equivs × R). spell_equivs y.0 (g y.1))
flat_simple (Equivalent s l i) eq r g = flat_simple s (record { line = l; operand = i } ∷ eq) r g
