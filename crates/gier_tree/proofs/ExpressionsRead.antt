-- Each expression is read from its spelling, whatever ends it there.
use Rattle.std.proofs.Common.{◌≡◌, ℕ, List, [], ◌∷◌, ◌++◌, Some, true, false, refl, ap, ◌∙◌}
use Rattle.gier_symbol.specs.declared.symbol.Symbol.{Symbol}
use Rattle.gier_symbol.specs.declared.tag.Tag.TheVariants.{StringEnd, Power, And, Or, Impl, Equiv, RightParenthesis, RightBracket, Then, Else}
use Rattle.gier_symbol.specs.ByTag.{word}
use Rattle.gier_tree.specs.Trees.{Byte, Adding, Add, Subtract, Multiplying, Multiply, Divide, Comparing, LessThan, AtMost, EqualTo, AtLeast, MoreThan, Unequal, Expr, OneSimple, IfExpr, Simple, OneImplication, Equivalent, Implication, OneDisjunction, Implies, Disjunction, OneConjunction, Either, Conjunction, OneNegation, Both, Negation, OneRelation, Negated, Relation, OneArithmetic, Compared, Arithmetic, OneTerm, Signed, Summed, Term, OneFactor, Multiplied, Factor, OnePrimary, Raised, Primary, Numeral, Logical, Bracketed, OneCall, OneElement, Alone, WithActuals, Subscripted, Actual, OneExpr, AString, Actuals, NoActuals, MoreActuals, Exprs, NoExprs, MoreExprs}
use Rattle.gier_tree.specs.Spell.{adding_tag, multiplying_tag, comparing_tag, spell_bytes, spell_expr, spell_simple, spell_implication, spell_disjunction, spell_conjunction, spell_negation, spell_relation, spell_arithmetic, spell_term, spell_factor, spell_primary, spell_actual, spell_actuals, spell_exprs}
use Rattle.gier_tree.specs.Signs.{SRightParenthesis, SThen, SElse}
use Rattle.gier_tree.specs.Wanted.{NoNot, ANot, NoSign, ASign, NoRelation, ARelation, SomeSubscripts, SomeActuals, Powers, Products, Sums, Ands, Ors, Impls, Equivs, Item, Want, WantExpr, WantSimple, MaySign, WantPrimary, MayPower, MayTimes, MaySum, MayRelation, MayAnd, MayOr, MayImpl, MayEquiv, MayPart, WantSubscripts, WantActual, WantActuals, WantBytes, Trees, factor_items, term_items, arithmetic_items, negation_items, shut_factor, shut_term, shut_arithmetic, shut_negation, shut_conjunction, shut_disjunction, shut_implication}
use Rattle.gier_tree.specs.Taking.{name_at, primary_of}
use Rattle.gier_tree.specs.Structure.{with_tree, gather, build}
use Rattle.gier_tree.proofs.Ends.{Ends, up, pass_power, pass_times, pass_sum, pass_relation, pass_and, pass_or, pass_impl, pass_equiv, pass_part, skip_not, skip_sign, term_starts, relation_starts, simple_starts, expr_starts, actuals_end, exprs_end, multiplying_ends, adding_ends, comparing_ends}
use Rattle.gier_tree.proofs.Levels.{open_factor, open_term, open_arithmetic, open_relation, open_negation, open_conjunction, open_disjunction, open_implication, open_simple, same_factor, same_term, same_arithmetic, same_negation, same_conjunction, same_disjunction, same_implication}
use Rattle.gier_tree.proofs.ExpressionStarts.{simple_items, map_first, if_items, enter_expr, enter_actual, simple_read}

-- operators are taken
pub at_times : (o : Multiplying) (l : ℕ) (w : List Symbol) (st : List Item) → build (word (multiplying_tag o) l ∷ w) (MayTimes ∷ st) ≡ gather term_items st (λ ts. let t = shut_factor ts in record { operator = o; line = l; operand = t.0 } ∷ t.1.0) (build w (term_items ++ st))
at_times Multiply l w st = refl
at_times Divide l w st = refl

pub at_sum : (o : Adding) (l : ℕ) (w : List Symbol) (st : List Item) → build (word (adding_tag o) l ∷ w) (MaySum ∷ st) ≡ gather (term_items ++ MaySum ∷ []) st (λ ts. let t = shut_term ts in record { operator = o; line = l; operand = t.0 } ∷ t.1.0) (build w (term_items ++ MaySum ∷ st))
at_sum Add l w st = refl
at_sum Subtract l w st = refl

at_sign : (o : Adding) (l : ℕ) (w : List Symbol) (st : List Item) → build (word (adding_tag o) l ∷ w) (MaySign ∷ st) ≡ gather [] st (λ ts. ASign o l) (build w st)
at_sign Add l w st = refl
at_sign Subtract l w st = refl

pub at_relation : (o : Comparing) (l : ℕ) (w : List Symbol) (st : List Item) → build (word (comparing_tag o) l ∷ w) (MayRelation ∷ st) ≡ gather arithmetic_items st (λ ts. ARelation o l (shut_arithmetic ts).0) (build w (arithmetic_items ++ st))
at_relation LessThan l w st = refl
at_relation AtMost l w st = refl
at_relation EqualTo l w st = refl
at_relation AtLeast l w st = refl
at_relation MoreThan l w st = refl
at_relation Unequal l w st = refl

pub bytes_built : (bs : List Byte) (m : ℕ) (k : List Symbol) (st : List Item) (r : Trees st) → build k st ≡ Some r → build (spell_bytes bs (word StringEnd m ∷ k)) (WantBytes ∷ st) ≡ Some (record { more = bs; end = m }, r)
bytes_built [] m k st r b = ap (gather [] st (λ ts. record { more = []; end = m })) b
bytes_built (c ∷ bs) m k st r b = ap (gather (WantBytes ∷ []) st (λ ts. record { more = record { value = c.value; line = c.line } ∷ ts.0.more; end = ts.0.end })) (bytes_built bs m k st r b)

mutual
  pub expr_built : (e : Expr) (k : List Symbol) (st : List Item) (r : Trees st) → Ends 1 k → build k st ≡ Some r → build (spell_expr e k) (WantExpr ∷ st) ≡ Some (e, r)
  expr_built (OneSimple s) k st r h b = enter_expr (spell_simple s k) st (simple_starts s k) ∙ ap (map_first OneSimple) (simple_read s k st r (simple_built s k st [] r (up 1 k h) (pass_equiv k st r h b)))
  expr_built (IfExpr l c m s n e) k st r h b =
      ap (gather if_items st (λ ts. IfExpr l ts.0 ts.1.0 ts.1.1.0 ts.1.1.1.0 ts.1.1.1.1.0))
      (expr_built c (word Then m ∷ spell_simple s (word Else n ∷ spell_expr e k)) (Want SThen ∷ WantSimple ∷ Want SElse ∷ WantExpr ∷ st) (m, (s, (n, (e, r)))) refl
      (ap (gather [] (WantSimple ∷ Want SElse ∷ WantExpr ∷ st) (λ ts. m))
      (simple_read s (word Else n ∷ spell_expr e k) (Want SElse ∷ WantExpr ∷ st) (n, (e, r))
      (simple_built s (word Else n ∷ spell_expr e k) (Want SElse ∷ WantExpr ∷ st) [] (n, (e, r)) refl
      (pass_equiv (word Else n ∷ spell_expr e k) (Want SElse ∷ WantExpr ∷ st) (n, (e, r)) refl
      (ap (gather [] (WantExpr ∷ st) (λ ts. n)) (expr_built e k st r h b)))))))

  pub simple_built : (s : Simple) (k : List Symbol) (st : List Item) (eq : Equivs) (r : Trees st) → Ends 2 k → build k (MayEquiv ∷ st) ≡ Some (eq, r) → build (spell_simple s k) (simple_items ++ st) ≡ Some (open_simple s eq r)
  simple_built (OneImplication i) k st eq r h b = implication_built i k (MayEquiv ∷ st) [] (eq, r) (up 2 k h) (pass_impl k (MayEquiv ∷ st) (eq, r) h b)
  simple_built (Equivalent s l i) k st eq r h b =
      simple_built s (word Equiv l ∷ spell_implication i k) st (record { line = l; operand = i } ∷ eq) r refl
      (ap (gather simple_items st (λ ts. let t = shut_implication ts in record { line = l; operand = t.0 } ∷ t.1.0)) (implication_built i k (MayEquiv ∷ st) [] (eq, r) (up 2 k h) (pass_impl k (MayEquiv ∷ st) (eq, r) h b))
      ∙ ap (λ (y : Implication × (Equivs × Trees st)). Some (record { line = l; operand = y.0 } ∷ y.1.0, y.1.1)) (same_implication i [] (eq, r)))

  pub implication_built : (i : Implication) (k : List Symbol) (st : List Item) (im : Impls) (r : Trees st) → Ends 3 k → build k (MayImpl ∷ st) ≡ Some (im, r) → build (spell_implication i k) (negation_items ++ MayAnd ∷ MayOr ∷ MayImpl ∷ st) ≡ Some (open_implication i im r)
  implication_built (OneDisjunction d) k st im r h b = disjunction_built d k (MayImpl ∷ st) [] (im, r) (up 3 k h) (pass_or k (MayImpl ∷ st) (im, r) h b)
  implication_built (Implies i l d) k st im r h b =
      implication_built i (word Impl l ∷ spell_disjunction d k) st (record { line = l; operand = d } ∷ im) r refl
      (ap (gather (negation_items ++ MayAnd ∷ MayOr ∷ MayImpl ∷ []) st (λ ts. let t = shut_disjunction ts in record { line = l; operand = t.0 } ∷ t.1.0)) (disjunction_built d k (MayImpl ∷ st) [] (im, r) (up 3 k h) (pass_or k (MayImpl ∷ st) (im, r) h b))
      ∙ ap (λ (y : Disjunction × (Impls × Trees st)). Some (record { line = l; operand = y.0 } ∷ y.1.0, y.1.1)) (same_disjunction d [] (im, r)))

  pub disjunction_built : (d : Disjunction) (k : List Symbol) (st : List Item) (os : Ors) (r : Trees st) → Ends 4 k → build k (MayOr ∷ st) ≡ Some (os, r) → build (spell_disjunction d k) (negation_items ++ MayAnd ∷ MayOr ∷ st) ≡ Some (open_disjunction d os r)
  disjunction_built (OneConjunction c) k st os r h b = conjunction_built c k (MayOr ∷ st) [] (os, r) (up 4 k h) (pass_and k (MayOr ∷ st) (os, r) h b)
  disjunction_built (Either d l c) k st os r h b =
      disjunction_built d (word Or l ∷ spell_conjunction c k) st (record { line = l; operand = c } ∷ os) r refl
      (ap (gather (negation_items ++ MayAnd ∷ MayOr ∷ []) st (λ ts. let t = shut_conjunction ts in record { line = l; operand = t.0 } ∷ t.1.0)) (conjunction_built c k (MayOr ∷ st) [] (os, r) (up 4 k h) (pass_and k (MayOr ∷ st) (os, r) h b))
      ∙ ap (λ (y : Conjunction × (Ors × Trees st)). Some (record { line = l; operand = y.0 } ∷ y.1.0, y.1.1)) (same_conjunction c [] (os, r)))

  pub conjunction_built : (c : Conjunction) (k : List Symbol) (st : List Item) (an : Ands) (r : Trees st) → Ends 5 k → build k (MayAnd ∷ st) ≡ Some (an, r) → build (spell_conjunction c k) (negation_items ++ MayAnd ∷ st) ≡ Some (open_conjunction c an r)
  conjunction_built (OneNegation n) k st an r h b = negation_built n k (MayAnd ∷ st) (an, r) h b
  conjunction_built (Both c l n) k st an r h b =
      conjunction_built c (word And l ∷ spell_negation n k) st (record { line = l; operand = n } ∷ an) r refl
      (ap (gather (negation_items ++ MayAnd ∷ []) st (λ ts. let t = shut_negation ts in record { line = l; operand = t.0 } ∷ t.1.0)) (negation_built n k (MayAnd ∷ st) (an, r) h b)
      ∙ ap (λ (y : Negation × (Ands × Trees st)). Some (record { line = l; operand = y.0 } ∷ y.1.0, y.1.1)) (same_negation n (an, r)))

  pub negation_built : (n : Negation) (k : List Symbol) (st : List Item) (r : Trees st) → Ends 5 k → build k st ≡ Some r → build (spell_negation n k) (negation_items ++ st) ≡ Some (open_negation n r)
  negation_built (OneRelation x) k st r h b = skip_not (spell_relation x k) (arithmetic_items ++ MayRelation ∷ st) (relation_starts x k) ∙ ap (with_tree NoNot) (relation_built x k st r h b)
  negation_built (Negated l x) k st r h b = ap (gather [] (arithmetic_items ++ MayRelation ∷ st) (λ ts. ANot l)) (relation_built x k st r h b)

  pub relation_built : (x : Relation) (k : List Symbol) (st : List Item) (r : Trees st) → Ends 5 k → build k st ≡ Some r → build (spell_relation x k) (arithmetic_items ++ MayRelation ∷ st) ≡ Some (open_relation x r)
  relation_built (OneArithmetic a) k st r h b = arithmetic_built a k (MayRelation ∷ st) [] (NoRelation, r) (up 6 k (up 5 k h)) (pass_sum k (MayRelation ∷ st) (NoRelation, r) (up 5 k h) (pass_relation k st r h b))
  relation_built (Compared a o l c) k st r h b =
      arithmetic_built a (word (comparing_tag o) l ∷ spell_arithmetic c k) (MayRelation ∷ st) [] (ARelation o l c, r) (up 6 (word (comparing_tag o) l ∷ spell_arithmetic c k) (comparing_ends o l (spell_arithmetic c k)))
      (pass_sum (word (comparing_tag o) l ∷ spell_arithmetic c k) (MayRelation ∷ st) (ARelation o l c, r) (comparing_ends o l (spell_arithmetic c k))
      (at_relation o l (spell_arithmetic c k) st
      ∙ ap (gather arithmetic_items st (λ ts. ARelation o l (shut_arithmetic ts).0)) (arithmetic_built c k st [] r (up 6 k (up 5 k h)) (pass_sum k st r (up 5 k h) b))
      ∙ ap (λ (y : Arithmetic × Trees st). Some (ARelation o l y.0, y.1)) (same_arithmetic c [] r)))

  pub arithmetic_built : (a : Arithmetic) (k : List Symbol) (st : List Item) (sm : Sums) (r : Trees st) → Ends 7 k → build k (MaySum ∷ st) ≡ Some (sm, r) → build (spell_arithmetic a k) (arithmetic_items ++ st) ≡ Some (open_arithmetic a sm r)
  arithmetic_built (OneTerm t) k st sm r h b = skip_sign (spell_term t k) (term_items ++ MaySum ∷ st) (term_starts t k) ∙ ap (with_tree NoSign) (term_built t k (MaySum ∷ st) [] (sm, r) (up 7 k h) (pass_times k (MaySum ∷ st) (sm, r) h b))
  arithmetic_built (Signed o l t) k st sm r h b = at_sign o l (spell_term t k) (term_items ++ MaySum ∷ st) ∙ ap (gather [] (term_items ++ MaySum ∷ st) (λ ts. ASign o l)) (term_built t k (MaySum ∷ st) [] (sm, r) (up 7 k h) (pass_times k (MaySum ∷ st) (sm, r) h b))
  arithmetic_built (Summed a o l t) k st sm r h b =
      arithmetic_built a (word (adding_tag o) l ∷ spell_term t k) st (record { operator = o; line = l; operand = t } ∷ sm) r (adding_ends o l (spell_term t k))
      (at_sum o l (spell_term t k) st
      ∙ ap (gather (term_items ++ MaySum ∷ []) st (λ ts. let u = shut_term ts in record { operator = o; line = l; operand = u.0 } ∷ u.1.0)) (term_built t k (MaySum ∷ st) [] (sm, r) (up 7 k h) (pass_times k (MaySum ∷ st) (sm, r) h b))
      ∙ ap (λ (y : Term × (Sums × Trees st)). Some (record { operator = o; line = l; operand = y.0 } ∷ y.1.0, y.1.1)) (same_term t [] (sm, r)))

  pub term_built : (t : Term) (k : List Symbol) (st : List Item) (pr : Products) (r : Trees st) → Ends 8 k → build k (MayTimes ∷ st) ≡ Some (pr, r) → build (spell_term t k) (term_items ++ st) ≡ Some (open_term t pr r)
  term_built (OneFactor f) k st pr r h b = factor_built f k (MayTimes ∷ st) [] (pr, r) (up 8 k h) (pass_power k (MayTimes ∷ st) (pr, r) h b)
  term_built (Multiplied t o l f) k st pr r h b =
      term_built t (word (multiplying_tag o) l ∷ spell_factor f k) st (record { operator = o; line = l; operand = f } ∷ pr) r (multiplying_ends o l (spell_factor f k))
      (at_times o l (spell_factor f k) st
      ∙ ap (gather term_items st (λ ts. let u = shut_factor ts in record { operator = o; line = l; operand = u.0 } ∷ u.1.0)) (factor_built f k (MayTimes ∷ st) [] (pr, r) (up 8 k h) (pass_power k (MayTimes ∷ st) (pr, r) h b))
      ∙ ap (λ (y : Factor × (Products × Trees st)). Some (record { operator = o; line = l; operand = y.0 } ∷ y.1.0, y.1.1)) (same_factor f [] (pr, r)))

  pub factor_built : (f : Factor) (k : List Symbol) (st : List Item) (pw : Powers) (r : Trees st) → Ends 9 k → build k (MayPower ∷ st) ≡ Some (pw, r) → build (spell_factor f k) (factor_items ++ st) ≡ Some (open_factor f pw r)
  factor_built (OnePrimary p) k st pw r h b = primary_built p k (MayPower ∷ st) (pw, r) h b
  factor_built (Raised f l p) k st pw r h b =
      factor_built f (word Power l ∷ spell_primary p k) st (record { line = l; operand = p } ∷ pw) r refl
      (ap (gather factor_items st (λ ts. record { line = l; operand = ts.0 } ∷ ts.1.0)) (primary_built p k (MayPower ∷ st) (pw, r) h b))

  pub primary_built : (p : Primary) (k : List Symbol) (st : List Item) (r : Trees st) → Ends 9 k → build k st ≡ Some r → build (spell_primary p k) (WantPrimary ∷ st) ≡ Some (p, r)
  primary_built (Numeral n l) k st r h b = ap (gather [] st (λ ts. Numeral n l)) b
  primary_built (Logical true l) k st r h b = ap (gather [] st (λ ts. Logical true l)) b
  primary_built (Logical false l) k st r h b = ap (gather [] st (λ ts. Logical false l)) b
  primary_built (Bracketed l e m) k st r h b =
      ap (gather (WantExpr ∷ Want SRightParenthesis ∷ []) st (λ ts. Bracketed l ts.0 ts.1.0)) (expr_built e (word RightParenthesis m ∷ k) (Want SRightParenthesis ∷ st) (m, r) refl (ap (gather [] st (λ ts. m)) b))
  primary_built (OneCall (Alone x)) k st r h b = ap (gather (MayPart ∷ []) st (λ ts. primary_of (name_at x.number x.line) ts.0)) (pass_part k st r h b)
  primary_built (OneCall (WithActuals x l a more m)) k st r h b =
      ap (λ o. gather (MayPart ∷ []) st (λ ts. primary_of (name_at x.number x.line) ts.0) (gather (WantActual ∷ WantActuals ∷ []) st (λ ts. SomeActuals l ts.0 ts.1.0) o))
      (actual_built a (spell_actuals more (word RightParenthesis m ∷ k)) (WantActuals ∷ st) (record { more = more; end = m }, r) (actuals_end more m k) (actuals_built more m k st r b))
  primary_built (OneElement (Subscripted x l e es m)) k st r h b =
      ap (λ o. gather (MayPart ∷ []) st (λ ts. primary_of (name_at x.number x.line) ts.0) (gather (WantExpr ∷ WantSubscripts ∷ []) st (λ ts. SomeSubscripts l ts.0 ts.1.0) o))
      (expr_built e (spell_exprs es (word RightBracket m ∷ k)) (WantSubscripts ∷ st) (record { more = es; end = m }, r) (exprs_end es m k) (exprs_built es m k st r b))

  pub actual_built : (a : Actual) (k : List Symbol) (st : List Item) (r : Trees st) → Ends 1 k → build k st ≡ Some r → build (spell_actual a k) (WantActual ∷ st) ≡ Some (a, r)
  actual_built (OneExpr e) k st r h b = enter_actual (spell_expr e k) st (expr_starts e k) ∙ ap (map_first OneExpr) (expr_built e k st r h b)
  actual_built (AString l bs m) k st r h b = ap (gather (WantBytes ∷ []) st (λ ts. AString l ts.0.more ts.0.end)) (bytes_built bs m k st r b)

  pub actuals_built : (more : Actuals) (m : ℕ) (k : List Symbol) (st : List Item) (r : Trees st) → build k st ≡ Some r → build (spell_actuals more (word RightParenthesis m ∷ k)) (WantActuals ∷ st) ≡ Some (record { more = more; end = m }, r)
  actuals_built NoActuals m k st r b = ap (gather [] st (λ ts. record { more = NoActuals; end = m })) b
  actuals_built (MoreActuals l a more) m k st r b =
      ap (gather (WantActual ∷ WantActuals ∷ []) st (λ ts. record { more = MoreActuals l ts.0 ts.1.0.more; end = ts.1.0.end }))
      (actual_built a (spell_actuals more (word RightParenthesis m ∷ k)) (WantActuals ∷ st) (record { more = more; end = m }, r) (actuals_end more m k) (actuals_built more m k st r b))

  pub exprs_built : (es : Exprs) (m : ℕ) (k : List Symbol) (st : List Item) (r : Trees st) → build k st ≡ Some r → build (spell_exprs es (word RightBracket m ∷ k)) (WantSubscripts ∷ st) ≡ Some (record { more = es; end = m }, r)
  exprs_built NoExprs m k st r b = ap (gather [] st (λ ts. record { more = NoExprs; end = m })) b
  exprs_built (MoreExprs l e es) m k st r b =
      ap (gather (WantExpr ∷ WantSubscripts ∷ []) st (λ ts. record { more = MoreExprs l ts.0 ts.1.0.more; end = ts.1.0.end }))
      (expr_built e (spell_exprs es (word RightBracket m ∷ k)) (WantSubscripts ∷ st) (record { more = es; end = m }, r) (exprs_end es m k) (exprs_built es m k st r b))
