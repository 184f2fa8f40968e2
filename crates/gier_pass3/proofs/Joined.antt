-- What is joined at a level is spelled as its first operand and those behind it.
use Rattle.std.proofs.Common.{◌≡◌, ◌∙◌, List, [], ◌∷◌, refl, ap}
use Rattle.gier_symbol.specs.declared.symbol.Symbol.{Symbol}
use Rattle.gier_tree.specs.Trees.{Simple, OneImplication, Implication, OneDisjunction, Disjunction, OneConjunction, Conjunction, OneNegation, Relation, Arithmetic, Term, OneFactor, Factor, OnePrimary, Primary, Raised, Multiplied, Summed, Both, Either, Implies, Equivalent}
use Rattle.gier_tree.specs.Spell.{spell_simple, spell_implication, spell_disjunction, spell_conjunction, spell_negation, spell_relation, spell_arithmetic, spell_term, spell_factor, spell_primary}
use Rattle.gier_tree.specs.Wanted.{MayBeNot, NoNot, ANot, MayBeSign, NoSign, ASign, MayBeRelation, NoRelation, ARelation, Powers, Products, Sums, Ands, Ors, Impls, Equivs, Trees, tail_items, with_powers, with_products, with_sums, with_relation, with_ands, with_ors, with_impls, with_equivs, with_sign, with_not, shut_factor, shut_term, shut_arithmetic, shut_relation, shut_negation, shut_conjunction, shut_disjunction, shut_implication, shut_simple, simple_of}
use Rattle.gier_tree.proofs.OperatorTails.{spell_powers, spell_products, spell_sums, spell_ands, spell_ors, spell_impls, spell_equivs, spell_may_relation, spell_may_sign, spell_may_not}

powers_joined : (f : Factor) (ns : Powers) (k : List Symbol) → spell_factor (with_powers f ns) k ≡ spell_factor f (spell_powers ns k)
powers_joined f [] k = refl
powers_joined f (n ∷ ns) k = powers_joined (Raised f n.line n.operand) ns k

products_joined : (f : Term) (ns : Products) (k : List Symbol) → spell_term (with_products f ns) k ≡ spell_term f (spell_products ns k)
products_joined f [] k = refl
products_joined f (n ∷ ns) k = products_joined (Multiplied f n.operator n.line n.operand) ns k

sums_joined : (f : Arithmetic) (ns : Sums) (k : List Symbol) → spell_arithmetic (with_sums f ns) k ≡ spell_arithmetic f (spell_sums ns k)
sums_joined f [] k = refl
sums_joined f (n ∷ ns) k = sums_joined (Summed f n.operator n.line n.operand) ns k

ands_joined : (f : Conjunction) (ns : Ands) (k : List Symbol) → spell_conjunction (with_ands f ns) k ≡ spell_conjunction f (spell_ands ns k)
ands_joined f [] k = refl
ands_joined f (n ∷ ns) k = ands_joined (Both f n.line n.operand) ns k

ors_joined : (f : Disjunction) (ns : Ors) (k : List Symbol) → spell_disjunction (with_ors f ns) k ≡ spell_disjunction f (spell_ors ns k)
ors_joined f [] k = refl
ors_joined f (n ∷ ns) k = ors_joined (Either f n.line n.operand) ns k

impls_joined : (f : Implication) (ns : Impls) (k : List Symbol) → spell_implication (with_impls f ns) k ≡ spell_implication f (spell_impls ns k)
impls_joined f [] k = refl
impls_joined f (n ∷ ns) k = impls_joined (Implies f n.line n.operand) ns k

equivs_joined : (f : Simple) (ns : Equivs) (k : List Symbol) → spell_simple (with_equivs f ns) k ≡ spell_simple f (spell_equivs ns k)
equivs_joined f [] k = refl
equivs_joined f (n ∷ ns) k = equivs_joined (Equivalent f n.line n.operand) ns k

relation_joined : (a : Arithmetic) (m : MayBeRelation) (k : List Symbol) → spell_relation (with_relation a m) k ≡ spell_arithmetic a (spell_may_relation m k)
relation_joined a NoRelation k = refl
relation_joined a (ARelation o l b) k = refl

sign_joined : (g : MayBeSign) (t : Term) (k : List Symbol) → spell_arithmetic (with_sign g t) k ≡ spell_may_sign g (spell_term t k)
sign_joined NoSign t k = refl
sign_joined (ASign o l) t k = refl

not_joined : (n : MayBeNot) (r : Relation) (k : List Symbol) → spell_negation (with_not n r) k ≡ spell_may_not n (spell_relation r k)
not_joined NoNot r k = refl
not_joined (ANot l) r k = refl

pub factor_spelled : {R : Type 0} (ts : Primary × (Powers × R)) (k : List Symbol) → spell_factor (shut_factor ts).0 k ≡ spell_primary ts.0 (spell_powers ts.1.0 k)
factor_spelled ts k = powers_joined (OnePrimary ts.0) ts.1.0 k

pub term_spelled : {R : Type 0} (ts : Primary × (Powers × (Products × R))) (k : List Symbol) → spell_term (shut_term ts).0 k ≡ spell_primary ts.0 (spell_powers ts.1.0 (spell_products ts.1.1.0 k))
term_spelled ts k = products_joined (OneFactor (shut_factor ts).0) ts.1.1.0 k ∙ factor_spelled ts (spell_products ts.1.1.0 k)

pub arithmetic_spelled : {R : Type 0} (ts : MayBeSign × (Primary × (Powers × (Products × (Sums × R))))) (k : List Symbol) → spell_arithmetic (shut_arithmetic ts).0 k ≡ spell_may_sign ts.0 (spell_primary ts.1.0 (spell_powers ts.1.1.0 (spell_products ts.1.1.1.0 (spell_sums ts.1.1.1.1.0 k))))
arithmetic_spelled ts k = sums_joined (with_sign ts.0 (shut_term ts.1).0) ts.1.1.1.1.0 k ∙ sign_joined ts.0 (shut_term ts.1).0 (spell_sums ts.1.1.1.1.0 k) ∙ ap (spell_may_sign ts.0) (term_spelled ts.1 (spell_sums ts.1.1.1.1.0 k))

pub relation_spelled : {R : Type 0} (ts : MayBeSign × (Primary × (Powers × (Products × (Sums × (MayBeRelation × R)))))) (k : List Symbol) → spell_relation (shut_relation ts).0 k ≡ spell_may_sign ts.0 (spell_primary ts.1.0 (spell_powers ts.1.1.0 (spell_products ts.1.1.1.0 (spell_sums ts.1.1.1.1.0 (spell_may_relation ts.1.1.1.1.1.0 k)))))
relation_spelled ts k = relation_joined (shut_arithmetic ts).0 ts.1.1.1.1.1.0 k ∙ arithmetic_spelled ts (spell_may_relation ts.1.1.1.1.1.0 k)

pub negation_spelled : {R : Type 0} (ts : MayBeNot × (MayBeSign × (Primary × (Powers × (Products × (Sums × (MayBeRelation × R))))))) (k : List Symbol) → spell_negation (shut_negation ts).0 k ≡ spell_may_not ts.0 (spell_may_sign ts.1.0 (spell_primary ts.1.1.0 (spell_powers ts.1.1.1.0 (spell_products ts.1.1.1.1.0 (spell_sums ts.1.1.1.1.1.0 (spell_may_relation ts.1.1.1.1.1.1.0 k))))))
negation_spelled ts k = not_joined ts.0 (shut_relation ts.1).0 k ∙ ap (spell_may_not ts.0) (relation_spelled ts.1 k)

pub conjunction_spelled : {R : Type 0} (ts : MayBeNot × (MayBeSign × (Primary × (Powers × (Products × (Sums × (MayBeRelation × (Ands × R)))))))) (k : List Symbol) → spell_conjunction (shut_conjunction ts).0 k ≡ spell_may_not ts.0 (spell_may_sign ts.1.0 (spell_primary ts.1.1.0 (spell_powers ts.1.1.1.0 (spell_products ts.1.1.1.1.0 (spell_sums ts.1.1.1.1.1.0 (spell_may_relation ts.1.1.1.1.1.1.0 (spell_ands ts.1.1.1.1.1.1.1.0 k)))))))
conjunction_spelled ts k = ands_joined (OneNegation (shut_negation ts).0) ts.1.1.1.1.1.1.1.0 k ∙ negation_spelled ts (spell_ands ts.1.1.1.1.1.1.1.0 k)

pub disjunction_spelled : {R : Type 0} (ts : MayBeNot × (MayBeSign × (Primary × (Powers × (Products × (Sums × (MayBeRelation × (Ands × (Ors × R))))))))) (k : List Symbol) → spell_disjunction (shut_disjunction ts).0 k ≡ spell_may_not ts.0 (spell_may_sign ts.1.0 (spell_primary ts.1.1.0 (spell_powers ts.1.1.1.0 (spell_products ts.1.1.1.1.0 (spell_sums ts.1.1.1.1.1.0 (spell_may_relation ts.1.1.1.1.1.1.0 (spell_ands ts.1.1.1.1.1.1.1.0 (spell_ors ts.1.1.1.1.1.1.1.1.0 k))))))))
disjunction_spelled ts k = ors_joined (OneConjunction (shut_conjunction ts).0) ts.1.1.1.1.1.1.1.1.0 k ∙ conjunction_spelled ts (spell_ors ts.1.1.1.1.1.1.1.1.0 k)

pub implication_spelled : {R : Type 0} (ts : MayBeNot × (MayBeSign × (Primary × (Powers × (Products × (Sums × (MayBeRelation × (Ands × (Ors × (Impls × R)))))))))) (k : List Symbol) → spell_implication (shut_implication ts).0 k ≡ spell_may_not ts.0 (spell_may_sign ts.1.0 (spell_primary ts.1.1.0 (spell_powers ts.1.1.1.0 (spell_products ts.1.1.1.1.0 (spell_sums ts.1.1.1.1.1.0 (spell_may_relation ts.1.1.1.1.1.1.0 (spell_ands ts.1.1.1.1.1.1.1.0 (spell_ors ts.1.1.1.1.1.1.1.1.0 (spell_impls ts.1.1.1.1.1.1.1.1.1.0 k)))))))))
implication_spelled ts k = impls_joined (OneDisjunction (shut_disjunction ts).0) ts.1.1.1.1.1.1.1.1.1.0 k ∙ disjunction_spelled ts (spell_impls ts.1.1.1.1.1.1.1.1.1.0 k)

pub simple_spelled : {R : Type 0} (ts : MayBeNot × (MayBeSign × (Primary × (Powers × (Products × (Sums × (MayBeRelation × (Ands × (Ors × (Impls × (Equivs × R))))))))))) (k : List Symbol) → spell_simple (shut_simple ts).0 k ≡ spell_may_not ts.0 (spell_may_sign ts.1.0 (spell_primary ts.1.1.0 (spell_powers ts.1.1.1.0 (spell_products ts.1.1.1.1.0 (spell_sums ts.1.1.1.1.1.0 (spell_may_relation ts.1.1.1.1.1.1.0 (spell_ands ts.1.1.1.1.1.1.1.0 (spell_ors ts.1.1.1.1.1.1.1.1.0 (spell_impls ts.1.1.1.1.1.1.1.1.1.0 (spell_equivs ts.1.1.1.1.1.1.1.1.1.1.0 k))))))))))
simple_spelled ts k = equivs_joined (OneImplication (shut_implication ts).0) ts.1.1.1.1.1.1.1.1.1.1.0 k ∙ implication_spelled ts (spell_equivs ts.1.1.1.1.1.1.1.1.1.1.0 k)

-- a simple expression that begins with this operand
pub simple_of_spelled : (n : MayBeNot) (g : MayBeSign) (p : Primary) (ts : Trees tail_items) (k : List Symbol) → spell_simple (simple_of n g p ts) k ≡ spell_may_not n (spell_may_sign g (spell_primary p (spell_powers ts.0 (spell_products ts.1.0 (spell_sums ts.1.1.0 (spell_may_relation ts.1.1.1.0 (spell_ands ts.1.1.1.1.0 (spell_ors ts.1.1.1.1.1.0 (spell_impls ts.1.1.1.1.1.1.0 (spell_equivs ts.1.1.1.1.1.1.1.0 k))))))))))
simple_of_spelled n g p ts k = simple_spelled (n, (g, (p, ts))) k
