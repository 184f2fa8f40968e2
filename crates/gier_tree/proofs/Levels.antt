-- An expression as the items of its levels read it: its first operand, and behind it the operands of each level. Shut again, it
-- is the same expression.
use Rattle.std.proofs.Common.{◌≡◌, [], ◌∷◌, refl, ap}
use Rattle.gier_tree.specs.Trees.{Simple, OneImplication, Equivalent, Implication, OneDisjunction, Implies, Disjunction, OneConjunction, Either, Conjunction, OneNegation, Both, Negation, OneRelation, Negated, Relation, OneArithmetic, Compared, Arithmetic, OneTerm, Signed, Summed, Term, OneFactor, Multiplied, Factor, OnePrimary, Raised, Primary}
use Rattle.gier_tree.specs.Wanted.{MayBeNot, NoNot, ANot, MayBeSign, NoSign, ASign, MayBeRelation, NoRelation, ARelation, Powers, Products, Sums, Ands, Ors, Impls, Equivs, with_powers, with_products, with_sums, with_relation, with_ands, with_ors, with_impls, with_equivs, shut_factor, shut_term, shut_arithmetic, shut_relation, shut_negation, shut_conjunction, shut_disjunction, shut_implication, shut_simple}

abbrev pub open_factor : {R : Type 0} → Factor → Powers → R → Primary × (Powers × R)
open_factor (OnePrimary p) pw r = (p, (pw, r))
open_factor (Raised f l p) pw r = open_factor f (record { line = l; operand = p } ∷ pw) r

abbrev pub open_term : {R : Type 0} → Term → Products → R → Primary × (Powers × (Products × R))
open_term (OneFactor f) pr r = open_factor f [] (pr, r)
open_term (Multiplied t o l f) pr r = open_term t (record { operator = o; line = l; operand = f } ∷ pr) r

abbrev pub open_arithmetic : {R : Type 0} → Arithmetic → Sums → R → MayBeSign × (Primary × (Powers × (Products × (Sums × R))))
open_arithmetic (OneTerm t) sm r = (NoSign, open_term t [] (sm, r))
open_arithmetic (Signed o l t) sm r = (ASign o l, open_term t [] (sm, r))
open_arithmetic (Summed a o l t) sm r = open_arithmetic a (record { operator = o; line = l; operand = t } ∷ sm) r

abbrev pub open_relation : {R : Type 0} → Relation → R → MayBeSign × (Primary × (Powers × (Products × (Sums × (MayBeRelation × R)))))
open_relation (OneArithmetic a) r = open_arithmetic a [] (NoRelation, r)
open_relation (Compared a o l b) r = open_arithmetic a [] (ARelation o l b, r)

abbrev pub open_negation : {R : Type 0} → Negation → R → MayBeNot × (MayBeSign × (Primary × (Powers × (Products × (Sums × (MayBeRelation × R))))))
open_negation (OneRelation x) r = (NoNot, open_relation x r)
open_negation (Negated l x) r = (ANot l, open_relation x r)

abbrev pub open_conjunction : {R : Type 0} → Conjunction → Ands → R → MayBeNot × (MayBeSign × (Primary × (Powers × (Products × (Sums × (MayBeRelation × (Ands × R)))))))
open_conjunction (OneNegation n) an r = open_negation n (an, r)
open_conjunction (Both c l n) an r = open_conjunction c (record { line = l; operand = n } ∷ an) r

abbrev pub open_disjunction : {R : Type 0} → Disjunction → Ors → R → MayBeNot × (MayBeSign × (Primary × (Powers × (Products × (Sums × (MayBeRelation × (Ands × (Ors × R))))))))
open_disjunction (OneConjunction c) os r = open_conjunction c [] (os, r)
open_disjunction (Either d l c) os r = open_disjunction d (record { line = l; operand = c } ∷ os) r

abbrev pub open_implication : {R : Type 0} → Implication → Impls → R → MayBeNot × (MayBeSign × (Primary × (Powers × (Products × (Sums × (MayBeRelation × (Ands × (Ors × (Impls × R)))))))))
open_implication (OneDisjunction d) im r = open_disjunction d [] (im, r)
open_implication (Implies i l d) im r = open_implication i (record { line = l; operand = d } ∷ im) r

abbrev pub open_simple : {R : Type 0} → Simple → Equivs → R → MayBeNot × (MayBeSign × (Primary × (Powers × (Products × (Sums × (MayBeRelation × (Ands × (Ors × (Impls × (Equivs × R))))))))))
open_simple (OneImplication i) eq r = open_implication i [] (eq, r)
open_simple (Equivalent s l i) eq r = open_simple s (record { line = l; operand = i } ∷ eq) r

pub same_factor : {R : Type 0} (f : Factor) (pw : Powers) (r : R) → shut_factor (open_factor f pw r) ≡ (with_powers f pw, r)
same_factor (OnePrimary p) pw r = refl
same_factor (Raised f l p) pw r = same_factor f (record { line = l; operand = p } ∷ pw) r

pub same_term : {R : Type 0} (t : Term) (pr : Products) (r : R) → shut_term (open_term t pr r) ≡ (with_products t pr, r)
same_term {R = R} (OneFactor f) pr r = ap (λ (y : Factor × (Products × R)). (with_products (OneFactor y.0) y.1.0, y.1.1)) (same_factor f [] (pr, r))
same_term (Multiplied t o l f) pr r = same_term t (record { operator = o; line = l; operand = f } ∷ pr) r

pub same_arithmetic : {R : Type 0} (a : Arithmetic) (sm : Sums) (r : R) → shut_arithmetic (open_arithmetic a sm r) ≡ (with_sums a sm, r)
same_arithmetic {R = R} (OneTerm t) sm r = ap (λ (y : Term × (Sums × R)). (with_sums (OneTerm y.0) y.1.0, y.1.1)) (same_term t [] (sm, r))
same_arithmetic {R = R} (Signed o l t) sm r = ap (λ (y : Term × (Sums × R)). (with_sums (Signed o l y.0) y.1.0, y.1.1)) (same_term t [] (sm, r))
same_arithmetic (Summed a o l t) sm r = same_arithmetic a (record { operator = o; line = l; operand = t } ∷ sm) r

pub same_relation : {R : Type 0} (x : Relation) (r : R) → shut_relation (open_relation x r) ≡ (x, r)
same_relation {R = R} (OneArithmetic a) r = ap (λ (y : Arithmetic × (MayBeRelation × R)). (with_relation y.0 y.1.0, y.1.1)) (same_arithmetic a [] (NoRelation, r))
same_relation {R = R} (Compared a o l b) r = ap (λ (y : Arithmetic × (MayBeRelation × R)). (with_relation y.0 y.1.0, y.1.1)) (same_arithmetic a [] (ARelation o l b, r))

pub same_negation : {R : Type 0} (n : Negation) (r : R) → shut_negation (open_negation n r) ≡ (n, r)
same_negation {R = R} (OneRelation x) r = ap (λ (y : Relation × R). (OneRelation y.0, y.1)) (same_relation x r)
same_negation {R = R} (Negated l x) r = ap (λ (y : Relation × R). (Negated l y.0, y.1)) (same_relation x r)

pub same_conjunction : {R : Type 0} (c : Conjunction) (an : Ands) (r : R) → shut_conjunction (open_conjunction c an r) ≡ (with_ands c an, r)
same_conjunction {R = R} (OneNegation n) an r = ap (λ (y : Negation × (Ands × R)). (with_ands (OneNegation y.0) y.1.0, y.1.1)) (same_negation n (an, r))
same_conjunction (Both c l n) an r = same_conjunction c (record { line = l; operand = n } ∷ an) r

pub same_disjunction : {R : Type 0} (d : Disjunction) (os : Ors) (r : R) → shut_disjunction (open_disjunction d os r) ≡ (with_ors d os, r)
same_disjunction {R = R} (OneConjunction c) os r = ap (λ (y : Conjunction × (Ors × R)). (with_ors (OneConjunction y.0) y.1.0, y.1.1)) (same_conjunction c [] (os, r))
same_disjunction (Either d l c) os r = same_disjunction d (record { line = l; operand = c } ∷ os) r

pub same_implication : {R : Type 0} (i : Implication) (im : Impls) (r : R) → shut_implication (open_implication i im r) ≡ (with_impls i im, r)
same_implication {R = R} (OneDisjunction d) im r = ap (λ (y : Disjunction × (Impls × R)). (with_impls (OneDisjunction y.0) y.1.0, y.1.1)) (same_disjunction d [] (im, r))
same_implication (Implies i l d) im r = same_implication i (record { line = l; operand = d } ∷ im) r

pub same_simple : {R : Type 0} (s : Simple) (eq : Equivs) (r : R) → shut_simple (open_simple s eq r) ≡ (with_equivs s eq, r)
same_simple {R = R} (OneImplication i) eq r = ap (λ (y : Implication × (Equivs × R)). (with_equivs (OneImplication y.0) y.1.0, y.1.1)) (same_implication i [] (eq, r))
same_simple (Equivalent s l i) eq r = same_simple s (record { line = l; operand = i } ∷ eq) r
