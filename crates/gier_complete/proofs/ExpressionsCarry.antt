-- The code of each expression carries each claim.
use Rattle.std.proofs.Common.{◌∷◌}
use Rattle.std.specs.Prelude.{◌^◌, nat_lt}
use Rattle.gier_order.specs.declared.operation.Operation.TheVariants as op
use Rattle.gier_tree.specs.Coded.{adding_operation, multiplying_operation, comparing_operation, element_code}
use Rattle.gier_tree.specs.Coded.{code_expr, code_simple, code_implication, code_disjunction, code_conjunction, code_negation}
use Rattle.gier_tree.specs.Coded.{code_relation, code_arithmetic, code_term, code_factor, code_primary, code_call, code_exprs}
use Rattle.gier_tree.specs.Coded.{code_address, code_label, code_simple_label, code_primary_label, part_of, parts_of}
use Rattle.gier_tree.specs.Places.{Places}
use Rattle.gier_tree.specs.Trees.{Adding, Add, Subtract, Multiplying, Multiply, Divide, Comparing, LessThan, AtMost}
use Rattle.gier_tree.specs.Trees.{EqualTo, AtLeast, MoreThan, Unequal, Expr, OneSimple, IfExpr, Simple, OneImplication}
use Rattle.gier_tree.specs.Trees.{Equivalent, Implication, OneDisjunction, Implies, Disjunction, OneConjunction, Either}
use Rattle.gier_tree.specs.Trees.{Conjunction, OneNegation, Both, Negation, OneRelation, Negated, Relation, OneArithmetic}
use Rattle.gier_tree.specs.Trees.{Compared, Arithmetic, OneTerm, Signed, Summed, Term, OneFactor, Multiplied, Factor, OnePrimary}
use Rattle.gier_tree.specs.Trees.{Raised, Primary, Numeral, Logical, Bracketed, OneCall, OneElement, Call, Alone, WithActuals}
use Rattle.gier_tree.specs.Trees.{Subscripted, Actual, OneExpr, AString, Actuals, NoActuals, MoreActuals, Exprs, NoExprs}
use Rattle.gier_tree.specs.Trees.{MoreExprs}
use Rattle.gier_complete.proofs.Passing.{IsNoStop, Claim, IsCarried, CodeCarries}
use Rattle.gier_complete.proofs.PiecesCarry.{nothing_carries, both_carries, then_carries, choice_carries, sign_carries, number_carries, AllCarry}
use Rattle.gier_complete.proofs.PiecesCarry.{element_carries, label_carries, switch_carries}
use Rattle.gier_complete.proofs.ActualsCarry.{OptionCarries, PartCarries, PartsCarry}
use Rattle.gier_complete.proofs.CallsCarry.{call_carries, alone_carries}

adding_goes_on : (o : Adding) → IsNoStop (adding_operation o)
adding_goes_on Add = tt
adding_goes_on Subtract = tt

multiplying_goes_on : (o : Multiplying) → IsNoStop (multiplying_operation o)
multiplying_goes_on Multiply = tt
multiplying_goes_on Divide = tt

comparing_goes_on : (o : Comparing) → IsNoStop (comparing_operation o)
comparing_goes_on LessThan = tt
comparing_goes_on AtMost = tt
comparing_goes_on EqualTo = tt
comparing_goes_on AtLeast = tt
comparing_goes_on MoreThan = tt
comparing_goes_on Unequal = tt

module _ (P : Claim) (h : IsCarried P) (p : Places) where
  mutual
    pub expr_carries : (e : Expr) → CodeCarries P (code_expr p e)
    expr_carries (OneSimple s) = simple_carries s
    expr_carries (IfExpr l c m s n e) = choice_carries P h l (code_expr p c) (code_simple p s) (code_expr p e) (expr_carries c) (simple_carries s) (expr_carries e)

    simple_carries : (s : Simple) → CodeCarries P (code_simple p s)
    simple_carries (OneImplication i) = implication_carries i
    simple_carries (Equivalent s l i) = both_carries P h op.Equiv tt l (code_simple p s) (code_implication p i) (simple_carries s) (implication_carries i)

    implication_carries : (i : Implication) → CodeCarries P (code_implication p i)
    implication_carries (OneDisjunction d) = disjunction_carries d
    implication_carries (Implies i l d) = both_carries P h op.Impl tt l (code_implication p i) (code_disjunction p d) (implication_carries i) (disjunction_carries d)

    disjunction_carries : (d : Disjunction) → CodeCarries P (code_disjunction p d)
    disjunction_carries (OneConjunction c) = conjunction_carries c
    disjunction_carries (Either d l c) = both_carries P h op.Or tt l (code_disjunction p d) (code_conjunction p c) (disjunction_carries d) (conjunction_carries c)

    conjunction_carries : (c : Conjunction) → CodeCarries P (code_conjunction p c)
    conjunction_carries (OneNegation n) = negation_carries n
    conjunction_carries (Both c l n) = both_carries P h op.And tt l (code_conjunction p c) (code_negation p n) (conjunction_carries c) (negation_carries n)

    negation_carries : (n : Negation) → CodeCarries P (code_negation p n)
    negation_carries (OneRelation r) = relation_carries r
    negation_carries (Negated l r) = then_carries P h op.Not tt l (code_relation p r) (relation_carries r)

    relation_carries : (r : Relation) → CodeCarries P (code_relation p r)
    relation_carries (OneArithmetic a) = arithmetic_carries a
    relation_carries (Compared a o l b) = both_carries P h (comparing_operation o) (comparing_goes_on o) l (code_arithmetic p a) (code_arithmetic p b) (arithmetic_carries a) (arithmetic_carries b)

    arithmetic_carries : (a : Arithmetic) → CodeCarries P (code_arithmetic p a)
    arithmetic_carries (OneTerm t) = term_carries t
    arithmetic_carries (Signed o l t) = sign_carries P h o l (code_term p t) (term_carries t)
    arithmetic_carries (Summed a o l t) = both_carries P h (adding_operation o) (adding_goes_on o) l (code_arithmetic p a) (code_term p t) (arithmetic_carries a) (term_carries t)

    term_carries : (t : Term) → CodeCarries P (code_term p t)
    term_carries (OneFactor f) = factor_carries f
    term_carries (Multiplied t o l f) = both_carries P h (multiplying_operation o) (multiplying_goes_on o) l (code_term p t) (code_factor p f) (term_carries t) (factor_carries f)

    factor_carries : (f : Factor) → CodeCarries P (code_factor p f)
    factor_carries (OnePrimary q) = primary_carries q
    factor_carries (Raised f l q) = both_carries P h op.Pow tt l (code_factor p f) (code_primary p q) (factor_carries f) (primary_carries q)

    primary_carries : (q : Primary) → CodeCarries P (code_primary p q)
    primary_carries (Numeral n l) = number_carries P h (nat_lt n (2 ^ 24)) n l
    primary_carries (Logical b l) = λ level w n go k st. h.an_order op.Short tt _ _ n _ _ (k _)
    primary_carries (Bracketed l e m) = expr_carries e
    primary_carries (OneCall c) = code_call_carries c
    primary_carries (OneElement (Subscripted x l e es m)) =
        then_carries P h op.Fetch tt x.line (element_code (p x.number) x.line (code_expr p e ∷ code_exprs p es)) (element_carries P h (p x.number) x.line (code_expr p e ∷ code_exprs p es) (expr_carries e, exprs_carry es))

    pub code_call_carries : (c : Call) → CodeCarries P (code_call p c)
    code_call_carries (Alone x) = alone_carries P h (p x.number) x.line
    code_call_carries (WithActuals x l a more m) = call_carries P h (p x.number) x.line (part_of p a ∷ parts_of p more) (part_carries a, parts_carry more)

    pub exprs_carry : (es : Exprs) → AllCarry P h (code_exprs p es)
    exprs_carry NoExprs = tt
    exprs_carry (MoreExprs l e es) = (expr_carries e, exprs_carry es)

    address_of_carries : (e : Expr) → OptionCarries P h (code_address p e)
    address_of_carries (IfExpr l c m s n e) = tt
    address_of_carries (OneSimple (Equivalent s l i)) = tt
    address_of_carries (OneSimple (OneImplication (Implies i l d))) = tt
    address_of_carries (OneSimple (OneImplication (OneDisjunction (Either d l c)))) = tt
    address_of_carries (OneSimple (OneImplication (OneDisjunction (OneConjunction (Both c l n))))) = tt
    address_of_carries (OneSimple (OneImplication (OneDisjunction (OneConjunction (OneNegation (Negated l r)))))) = tt
    address_of_carries (OneSimple (OneImplication (OneDisjunction (OneConjunction (OneNegation (OneRelation (Compared a o l b))))))) = tt
    address_of_carries (OneSimple (OneImplication (OneDisjunction (OneConjunction (OneNegation (OneRelation (OneArithmetic (Signed o l t)))))))) = tt
    address_of_carries (OneSimple (OneImplication (OneDisjunction (OneConjunction (OneNegation (OneRelation (OneArithmetic (Summed a o l t)))))))) = tt
    address_of_carries (OneSimple (OneImplication (OneDisjunction (OneConjunction (OneNegation (OneRelation (OneArithmetic (OneTerm (Multiplied t o l f))))))))) = tt
    address_of_carries (OneSimple (OneImplication (OneDisjunction (OneConjunction (OneNegation (OneRelation (OneArithmetic (OneTerm (OneFactor (Raised f l q)))))))))) = tt
    address_of_carries (OneSimple (OneImplication (OneDisjunction (OneConjunction (OneNegation (OneRelation (OneArithmetic (OneTerm (OneFactor (OnePrimary (Numeral n l))))))))))) = tt
    address_of_carries (OneSimple (OneImplication (OneDisjunction (OneConjunction (OneNegation (OneRelation (OneArithmetic (OneTerm (OneFactor (OnePrimary (Logical b l))))))))))) = tt
    address_of_carries (OneSimple (OneImplication (OneDisjunction (OneConjunction (OneNegation (OneRelation (OneArithmetic (OneTerm (OneFactor (OnePrimary (Bracketed l e m))))))))))) = tt
    address_of_carries (OneSimple (OneImplication (OneDisjunction (OneConjunction (OneNegation (OneRelation (OneArithmetic (OneTerm (OneFactor (OnePrimary (OneCall c))))))))))) = tt
    address_of_carries (OneSimple (OneImplication (OneDisjunction (OneConjunction (OneNegation (OneRelation (OneArithmetic (OneTerm (OneFactor (OnePrimary (OneElement (Subscripted x l e es m)))))))))))) =
        element_carries P h (p x.number) x.line (code_expr p e ∷ code_exprs p es) (expr_carries e, exprs_carry es)

    pub label_value_carries : (e : Expr) → CodeCarries P (code_label p e)
    label_value_carries (OneSimple s) = simple_label_carries s
    label_value_carries (IfExpr l c m s n e) = choice_carries P h l (code_expr p c) (code_simple_label p s) (code_label p e) (expr_carries c) (simple_label_carries s) (label_value_carries e)

    simple_label_carries : (s : Simple) → CodeCarries P (code_simple_label p s)
    simple_label_carries (Equivalent s l i) = nothing_carries P h
    simple_label_carries (OneImplication (Implies i l d)) = nothing_carries P h
    simple_label_carries (OneImplication (OneDisjunction (Either d l c))) = nothing_carries P h
    simple_label_carries (OneImplication (OneDisjunction (OneConjunction (Both c l n)))) = nothing_carries P h
    simple_label_carries (OneImplication (OneDisjunction (OneConjunction (OneNegation (Negated l r))))) = nothing_carries P h
    simple_label_carries (OneImplication (OneDisjunction (OneConjunction (OneNegation (OneRelation (Compared a o l b)))))) = nothing_carries P h
    simple_label_carries (OneImplication (OneDisjunction (OneConjunction (OneNegation (OneRelation (OneArithmetic (Signed o l t))))))) = nothing_carries P h
    simple_label_carries (OneImplication (OneDisjunction (OneConjunction (OneNegation (OneRelation (OneArithmetic (Summed a o l t))))))) = nothing_carries P h
    simple_label_carries (OneImplication (OneDisjunction (OneConjunction (OneNegation (OneRelation (OneArithmetic (OneTerm (Multiplied t o l f)))))))) = nothing_carries P h
    simple_label_carries (OneImplication (OneDisjunction (OneConjunction (OneNegation (OneRelation (OneArithmetic (OneTerm (OneFactor (Raised f l q))))))))) = nothing_carries P h
    simple_label_carries (OneImplication (OneDisjunction (OneConjunction (OneNegation (OneRelation (OneArithmetic (OneTerm (OneFactor (OnePrimary q))))))))) = primary_label_carries q

    primary_label_carries : (q : Primary) → CodeCarries P (code_primary_label p q)
    primary_label_carries (Numeral n l) = nothing_carries P h
    primary_label_carries (Logical b l) = nothing_carries P h
    primary_label_carries (Bracketed l e m) = label_value_carries e
    primary_label_carries (OneCall (Alone x)) = label_carries P h (p x.number) x.line
    primary_label_carries (OneCall (WithActuals x l a more m)) = nothing_carries P h
    primary_label_carries (OneElement (Subscripted x l e es m)) = switch_carries P h (p x.number) x.line (code_expr p e) (expr_carries e)

    part_carries : (a : Actual) → PartCarries P h (part_of p a)
    part_carries (OneExpr e) = record { value = expr_carries e; label = label_value_carries e; element = address_of_carries e }
    part_carries (AString l bs m) = record { value = nothing_carries P h; label = nothing_carries P h; element = tt }

    parts_carry : (more : Actuals) → PartsCarry P h (parts_of p more)
    parts_carry NoActuals = tt
    parts_carry (MoreActuals l a more) = (part_carries a, parts_carry more)
