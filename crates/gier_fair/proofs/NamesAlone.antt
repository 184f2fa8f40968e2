-- An identifier that is an expression alone is all that the expression uses.
use Rattle.std.proofs.Common.{◌≡◌, [], ◌∷◌, Some}
use Rattle.gier_tree.specs.Trees.{Name, Expr, OneSimple, IfExpr, Simple, OneImplication, Equivalent, Implication, OneDisjunction}
use Rattle.gier_tree.specs.Trees.{Implies, Disjunction, OneConjunction, Either, Conjunction, OneNegation, Both, Negation}
use Rattle.gier_tree.specs.Trees.{OneRelation, Negated, Relation, OneArithmetic, Compared, Arithmetic, OneTerm, Signed, Summed}
use Rattle.gier_tree.specs.Trees.{Term, OneFactor, Multiplied, Factor, OnePrimary, Raised, Primary, Numeral, Logical, Bracketed}
use Rattle.gier_tree.specs.Trees.{OneCall, OneElement, Call, Alone, WithActuals}
use Rattle.gier_tree.specs.Written.{name_alone}
use Rattle.gier_scope.specs.Uses.{uses_expr, uses_simple, uses_implication, uses_disjunction, uses_conjunction, uses_negation}
use Rattle.gier_scope.specs.Uses.{uses_relation, uses_arithmetic, uses_term, uses_factor, uses_primary, uses_call}

call_named : (c : Call) (x : Name) → name_alone (OneSimple (OneImplication (OneDisjunction (OneConjunction (OneNegation (OneRelation (OneArithmetic (OneTerm (OneFactor (OnePrimary (OneCall c))))))))))) ≡ Some x → uses_call c ≡ x ∷ []
call_named (Alone y) x e = cc
call_named (WithActuals y l a more m) x e = cc

primary_named : (q : Primary) (x : Name) → name_alone (OneSimple (OneImplication (OneDisjunction (OneConjunction (OneNegation (OneRelation (OneArithmetic (OneTerm (OneFactor (OnePrimary q)))))))))) ≡ Some x → uses_primary q ≡ x ∷ []
primary_named (OneCall c) x e = call_named c x e
primary_named (Numeral n l) x e = cc
primary_named (Logical b l) x e = cc
primary_named (Bracketed l y m) x e = cc
primary_named (OneElement y) x e = cc

factor_named : (z : Factor) (x : Name) → name_alone (OneSimple (OneImplication (OneDisjunction (OneConjunction (OneNegation (OneRelation (OneArithmetic (OneTerm (OneFactor z))))))))) ≡ Some x → uses_factor z ≡ x ∷ []
factor_named (OnePrimary y) x e = primary_named y x e
factor_named (Raised f l p) x e = cc

term_named : (z : Term) (x : Name) → name_alone (OneSimple (OneImplication (OneDisjunction (OneConjunction (OneNegation (OneRelation (OneArithmetic (OneTerm z)))))))) ≡ Some x → uses_term z ≡ x ∷ []
term_named (OneFactor y) x e = factor_named y x e
term_named (Multiplied t o l f) x e = cc

arithmetic_named : (z : Arithmetic) (x : Name) → name_alone (OneSimple (OneImplication (OneDisjunction (OneConjunction (OneNegation (OneRelation (OneArithmetic z))))))) ≡ Some x → uses_arithmetic z ≡ x ∷ []
arithmetic_named (OneTerm y) x e = term_named y x e
arithmetic_named (Signed o l t) x e = cc
arithmetic_named (Summed a o l t) x e = cc

relation_named : (z : Relation) (x : Name) → name_alone (OneSimple (OneImplication (OneDisjunction (OneConjunction (OneNegation (OneRelation z)))))) ≡ Some x → uses_relation z ≡ x ∷ []
relation_named (OneArithmetic y) x e = arithmetic_named y x e
relation_named (Compared a o l b) x e = cc

negation_named : (z : Negation) (x : Name) → name_alone (OneSimple (OneImplication (OneDisjunction (OneConjunction (OneNegation z))))) ≡ Some x → uses_negation z ≡ x ∷ []
negation_named (OneRelation y) x e = relation_named y x e
negation_named (Negated l r) x e = cc

conjunction_named : (z : Conjunction) (x : Name) → name_alone (OneSimple (OneImplication (OneDisjunction (OneConjunction z)))) ≡ Some x → uses_conjunction z ≡ x ∷ []
conjunction_named (OneNegation y) x e = negation_named y x e
conjunction_named (Both c l n) x e = cc

disjunction_named : (z : Disjunction) (x : Name) → name_alone (OneSimple (OneImplication (OneDisjunction z))) ≡ Some x → uses_disjunction z ≡ x ∷ []
disjunction_named (OneConjunction y) x e = conjunction_named y x e
disjunction_named (Either d l c) x e = cc

implication_named : (z : Implication) (x : Name) → name_alone (OneSimple (OneImplication z)) ≡ Some x → uses_implication z ≡ x ∷ []
implication_named (OneDisjunction y) x e = disjunction_named y x e
implication_named (Implies i l d) x e = cc

simple_named : (z : Simple) (x : Name) → name_alone (OneSimple z) ≡ Some x → uses_simple z ≡ x ∷ []
simple_named (OneImplication y) x e = implication_named y x e
simple_named (Equivalent s l i) x e = cc

pub named : (z : Expr) (x : Name) → name_alone z ≡ Some x → uses_expr z ≡ x ∷ []
named (OneSimple y) x e = simple_named y x e
named (IfExpr l c m s n y) x e = cc
