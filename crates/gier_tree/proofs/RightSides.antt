-- What stands behind `:=` is read from its spelling: further left parts, and the expression, which may begin with a name as they do.
use Rattle.std.proofs.Common.{◌≡◌, ℕ, List, [], ◌∷◌, ◌++◌, Option, Some, None, true, false, refl, sym as back, ap, ◌∙◌}
use Rattle.std.specs.Prelude.{nat_lt}
use Rattle.gier_symbol.specs.declared.symbol.Symbol.{Symbol}
use Rattle.gier_symbol.specs.declared.tag.Tag.TheVariants.{Becomes, RightParenthesis, RightBracket}
use Rattle.gier_symbol.specs.ByTag.{word}
use Rattle.gier_tree.specs.Trees.{Adding, Add, Subtract, Multiplying, Comparing, Expr, OneSimple, IfExpr, Simple, Primary, Numeral, Logical, Bracketed, OneCall, OneElement, Alone, WithActuals, Subscripted, LeftSide, OneName, LeftElement, LeftPart}
use Rattle.gier_tree.specs.Spell.{spell_expr, spell_simple, spell_primary, spell_actuals, spell_exprs, spell_left, spell_lefts}
use Rattle.gier_tree.specs.Signs.{Sign, SName, SAdding, SMultiplying, SPower, SComparing, SAnd, SOr, SImpl, SEquiv, SBecomes, SLeftParenthesis, SLeftBracket, sign_of}
use Rattle.gier_tree.specs.Wanted.{MayBeNot, NoNot, ANot, MayBeSign, NoSign, ASign, NoRelation, ARelation, Tails, Right, ElementIsLeft, ElementIsOperand, NameIsLeft, NameIsOperand, NameHasSubscripts, NameHasActuals, Item, WantExpr, MaySign, WantPrimary, MayPower, MayTimes, MaySum, MayRelation, MayAnd, MayOr, MayImpl, MayEquiv, WantSubscripts, WantActual, WantActuals, WantRight, WantAfterRight, WantAfterElement, Trees, factor_items, term_items, arithmetic_items, negation_items, tail_items, shut_factor, shut_term, shut_arithmetic, shut_negation, shut_conjunction, shut_disjunction, shut_implication, tails_of, simple_of}
use Rattle.gier_tree.specs.Taking.{name_at, tails_from, tails_act, no_lefts, with_left, right_of}
use Rattle.gier_tree.specs.Structure.{split, with_tree, gather, build_act, build_at, build}
use Rattle.gier_tree.proofs.Ends.{Ends, binds, false_true, actuals_end, exprs_end}
use Rattle.gier_tree.proofs.Levels.{open_simple, same_simple}
use Rattle.gier_tree.proofs.ExpressionStarts.{map_first, enter_right}
use Rattle.gier_tree.proofs.ExpressionsRead.{expr_built, actual_built, actuals_built, exprs_built}
use Rattle.gier_tree.proofs.OperatorTails.{spell_tails, tail_trees, tails_end, tails_built, spell_may_sign, spell_may_not, flat_simple}

abbrev pub shut_tails : {T : Type 0} → (Tails → T) → (st : List Item) → Option (Trees (tail_items ++ st)) → Option (T × Trees st)
shut_tails f st None = None
shut_tails f st (Some ts) = let r = split tail_items st ts in Some (f (tails_of r.0), r.1)

tail_power : {T : Type 0} (f : Tails → T) (l : ℕ) (st : List Item) (o : Option (Trees (WantPrimary ∷ tail_items ++ st))) → gather (WantPrimary ∷ tail_items) st (λ ts. f (tails_of (record { line = l; operand = ts.0 } ∷ ts.1.0, ts.1.1))) o ≡ shut_tails f st (gather factor_items (MayTimes ∷ MaySum ∷ MayRelation ∷ MayAnd ∷ MayOr ∷ MayImpl ∷ MayEquiv ∷ st) (λ ts. record { line = l; operand = ts.0 } ∷ ts.1.0) o)
tail_power f l st None = refl
tail_power f l st (Some ts) = refl

tail_times : {T : Type 0} (f : Tails → T) (p : Multiplying) (l : ℕ) (st : List Item) (o : Option (Trees (WantPrimary ∷ tail_items ++ st))) → gather (WantPrimary ∷ tail_items) st (λ ts. let t = shut_factor ts in f (tails_of ([], (record { operator = p; line = l; operand = t.0 } ∷ t.1.0, t.1.1)))) o ≡ shut_tails f st (with_tree [] (gather term_items (MaySum ∷ MayRelation ∷ MayAnd ∷ MayOr ∷ MayImpl ∷ MayEquiv ∷ st) (λ ts. let t = shut_factor ts in record { operator = p; line = l; operand = t.0 } ∷ t.1.0) o))
tail_times f p l st None = refl
tail_times f p l st (Some ts) = refl

tail_sum : {T : Type 0} (f : Tails → T) (p : Adding) (l : ℕ) (st : List Item) (o : Option (Trees (WantPrimary ∷ tail_items ++ st))) → gather (WantPrimary ∷ tail_items) st (λ ts. let t = shut_term ts in f (tails_of ([], ([], (record { operator = p; line = l; operand = t.0 } ∷ t.1.0, t.1.1))))) o ≡ shut_tails f st (with_tree [] (with_tree [] (gather (term_items ++ MaySum ∷ []) (MayRelation ∷ MayAnd ∷ MayOr ∷ MayImpl ∷ MayEquiv ∷ st) (λ ts. let t = shut_term ts in record { operator = p; line = l; operand = t.0 } ∷ t.1.0) o)))
tail_sum f p l st None = refl
tail_sum f p l st (Some ts) = refl

tail_relation : {T : Type 0} (f : Tails → T) (p : Comparing) (l : ℕ) (st : List Item) (o : Option (Trees (arithmetic_items ++ MayAnd ∷ MayOr ∷ MayImpl ∷ MayEquiv ∷ st))) → gather (MaySign ∷ WantPrimary ∷ MayPower ∷ MayTimes ∷ MaySum ∷ MayAnd ∷ MayOr ∷ MayImpl ∷ MayEquiv ∷ []) st (λ ts. let t = shut_arithmetic ts in f (tails_of ([], ([], ([], (ARelation p l t.0, t.1)))))) o ≡ shut_tails f st (with_tree [] (with_tree [] (with_tree [] (gather arithmetic_items (MayAnd ∷ MayOr ∷ MayImpl ∷ MayEquiv ∷ st) (λ ts. ARelation p l (shut_arithmetic ts).0) o))))
tail_relation f p l st None = refl
tail_relation f p l st (Some ts) = refl

abbrev logic_items : List Item
logic_items = negation_items ++ MayAnd ∷ MayOr ∷ MayImpl ∷ MayEquiv ∷ []

tail_and : {T : Type 0} (f : Tails → T) (l : ℕ) (st : List Item) (o : Option (Trees (logic_items ++ st))) → gather logic_items st (λ ts. let t = shut_negation ts in f (tails_of ([], ([], ([], (NoRelation, (record { line = l; operand = t.0 } ∷ t.1.0, t.1.1))))))) o ≡ shut_tails f st (with_tree [] (with_tree [] (with_tree [] (with_tree NoRelation (gather (negation_items ++ MayAnd ∷ []) (MayOr ∷ MayImpl ∷ MayEquiv ∷ st) (λ ts. let t = shut_negation ts in record { line = l; operand = t.0 } ∷ t.1.0) o)))))
tail_and f l st None = refl
tail_and f l st (Some ts) = refl

tail_or : {T : Type 0} (f : Tails → T) (l : ℕ) (st : List Item) (o : Option (Trees (logic_items ++ st))) → gather logic_items st (λ ts. let t = shut_conjunction ts in f (tails_of ([], ([], ([], (NoRelation, ([], (record { line = l; operand = t.0 } ∷ t.1.0, t.1.1)))))))) o ≡ shut_tails f st (with_tree [] (with_tree [] (with_tree [] (with_tree NoRelation (with_tree [] (gather (negation_items ++ MayAnd ∷ MayOr ∷ []) (MayImpl ∷ MayEquiv ∷ st) (λ ts. let t = shut_conjunction ts in record { line = l; operand = t.0 } ∷ t.1.0) o))))))
tail_or f l st None = refl
tail_or f l st (Some ts) = refl

tail_impl : {T : Type 0} (f : Tails → T) (l : ℕ) (st : List Item) (o : Option (Trees (logic_items ++ st))) → gather logic_items st (λ ts. let t = shut_disjunction ts in f (tails_of ([], ([], ([], (NoRelation, ([], ([], (record { line = l; operand = t.0 } ∷ t.1.0, t.1.1))))))))) o ≡ shut_tails f st (with_tree [] (with_tree [] (with_tree [] (with_tree NoRelation (with_tree [] (with_tree [] (gather (negation_items ++ MayAnd ∷ MayOr ∷ MayImpl ∷ []) (MayEquiv ∷ st) (λ ts. let t = shut_disjunction ts in record { line = l; operand = t.0 } ∷ t.1.0) o)))))))
tail_impl f l st None = refl
tail_impl f l st (Some ts) = refl

tail_equiv : {T : Type 0} (f : Tails → T) (l : ℕ) (st : List Item) (o : Option (Trees (logic_items ++ st))) → gather logic_items st (λ ts. let t = shut_implication ts in f (tails_of ([], ([], ([], (NoRelation, ([], ([], ([], (record { line = l; operand = t.0 } ∷ t.1.0, tt)))))))))) o ≡ shut_tails f st (with_tree [] (with_tree [] (with_tree [] (with_tree NoRelation (with_tree [] (with_tree [] (with_tree [] (gather logic_items st (λ ts. let t = shut_implication ts in record { line = l; operand = t.0 } ∷ t.1.0) o))))))))
tail_equiv f l st None = refl
tail_equiv f l st (Some ts) = refl

tail_none : {T : Type 0} (f : Tails → T) (st : List Item) (o : Option (Trees st)) → with_tree (f (tails_from [] [] [] NoRelation [] [] [] [])) o ≡ shut_tails f st (with_tree [] (with_tree [] (with_tree [] (with_tree NoRelation (with_tree [] (with_tree [] (with_tree [] (with_tree [] o))))))))
tail_none f st None = refl
tail_none f st (Some ts) = refl

tails_map : {T : Type 0} (f : Tails → T) (g : Sign) (l : ℕ) (next : (st : List Item) → Option (Trees st)) (st : List Item) → build_act (tails_act f g l) st next (build_at g l next st) ≡ shut_tails f st (build_at g l next (tail_items ++ st))
tails_map f SPower l next st = tail_power f l st (next (WantPrimary ∷ tail_items ++ st))
tails_map f (SMultiplying p) l next st = tail_times f p l st (next (WantPrimary ∷ tail_items ++ st))
tails_map f (SAdding p) l next st = tail_sum f p l st (next (WantPrimary ∷ tail_items ++ st))
tails_map f (SComparing p) l next st = tail_relation f p l st (next (arithmetic_items ++ MayAnd ∷ MayOr ∷ MayImpl ∷ MayEquiv ∷ st))
tails_map f SAnd l next st = tail_and f l st (next (logic_items ++ st))
tails_map f SOr l next st = tail_or f l st (next (logic_items ++ st))
tails_map f SImpl l next st = tail_impl f l st (next (logic_items ++ st))
tails_map f SEquiv l next st = tail_equiv f l st (next (logic_items ++ st))
tails_map f g l next st = tail_none f st (build_at g l next st)

-- behind an element, and behind a name, stand operators or nothing where no `:=`, `(` or `[` stands
element_step : (g : Sign) (l : ℕ) (next : (st : List Item) → Option (Trees st)) (st : List Item) → nat_lt (binds g) 9 ≡ true → build_at g l next (WantAfterElement ∷ st) ≡ shut_tails ElementIsOperand st (build_at g l next (tail_items ++ st))
element_step SBecomes l next st h = absurd (false_true h)
element_step g l next st h = tails_map ElementIsOperand g l next st

name_step : (g : Sign) (l : ℕ) (next : (st : List Item) → Option (Trees st)) (st : List Item) → nat_lt (binds g) 9 ≡ true → build_at g l next (WantAfterRight ∷ st) ≡ shut_tails NameIsOperand st (build_at g l next (tail_items ++ st))
name_step SBecomes l next st h = absurd (false_true h)
name_step SLeftBracket l next st h = absurd (false_true h)
name_step SLeftParenthesis l next st h = absurd (false_true h)
name_step g l next st h = tails_map NameIsOperand g l next st

element_tails : (w : List Symbol) (st : List Item) → Ends 9 w → build w (WantAfterElement ∷ st) ≡ shut_tails ElementIsOperand st (build w (tail_items ++ st))
element_tails [] st h = absurd h
element_tails (s ∷ w) st h = element_step (sign_of s) s.line (build w) st h

name_tails : (w : List Symbol) (st : List Item) → Ends 9 w → build w (WantAfterRight ∷ st) ≡ shut_tails NameIsOperand st (build w (tail_items ++ st))
name_tails [] st h = absurd h
name_tails (s ∷ w) st h = name_step (sign_of s) s.line (build w) st h

-- an expression that doesn't begin with a name
abbrev IsUnnamed : Sign → Type 0
IsUnnamed (SName x) = ⊥
IsUnnamed g = Unit {0}

abbrev Unnamed : List Symbol → Type 0
Unnamed [] = Unit {0}
Unnamed (s ∷ w) = IsUnnamed (sign_of s)

unnamed_step : (g : Sign) (l : ℕ) (next : (st : List Item) → Option (Trees st)) (st : List Item) → IsUnnamed g → build_at g l next (WantRight ∷ st) ≡ map_first no_lefts (build_at g l next (WantExpr ∷ st))
unnamed_step (SName x) l next st h = absurd h
unnamed_step g l next st h = enter_right g l next st refl

unnamed : (w : List Symbol) (st : List Item) → Unnamed w → build w (WantRight ∷ st) ≡ map_first no_lefts (build w (WantExpr ∷ st))
unnamed [] st h = refl
unnamed (s ∷ w) st h = unnamed_step (sign_of s) s.line (build w) st h

-- the same of an expression whose spelling this is
right_unnamed : (e : Expr) (k w : List Symbol) (st : List Item) (r : Trees st) → spell_expr e k ≡ w → Unnamed w → Ends 1 k → build k st ≡ Some r → build w (WantRight ∷ st) ≡ Some (no_lefts e, r)
right_unnamed e k w st r q u h b = unnamed w st u ∙ ap (λ (v : List Symbol). map_first no_lefts (build v (WantExpr ∷ st))) (back q) ∙ ap (map_first no_lefts) (expr_built e k st r h b)

abbrev spell_flat : MayBeNot → MayBeSign → Primary → Tails → List Symbol → List Symbol
spell_flat n g p t k = spell_may_not n (spell_may_sign g (spell_primary p (spell_tails t k)))

abbrev simple_flat : MayBeNot → MayBeSign → Primary → Tails → Simple
simple_flat n g p t = simple_of n g p (tail_trees t tt)

right_flat : (n : MayBeNot) (g : MayBeSign) (p : Primary) (t : Tails) (e : Expr) (k : List Symbol) (st : List Item) (r : Trees st) → spell_expr e k ≡ spell_flat n g p t k → OneSimple (simple_flat n g p t) ≡ e → Ends 1 k → build k st ≡ Some r → build (spell_flat n g p t k) (WantRight ∷ st) ≡ Some (no_lefts e, r)
right_flat (ANot l) g p t e k st r q s h b = right_unnamed e k (spell_flat (ANot l) g p t k) st r q tt h b
right_flat NoNot (ASign Add l) p t e k st r q s h b = right_unnamed e k (spell_flat NoNot (ASign Add l) p t k) st r q tt h b
right_flat NoNot (ASign Subtract l) p t e k st r q s h b = right_unnamed e k (spell_flat NoNot (ASign Subtract l) p t k) st r q tt h b
right_flat NoNot NoSign (Numeral v l) t e k st r q s h b = right_unnamed e k (spell_flat NoNot NoSign (Numeral v l) t k) st r q tt h b
right_flat NoNot NoSign (Logical true l) t e k st r q s h b = right_unnamed e k (spell_flat NoNot NoSign (Logical true l) t k) st r q tt h b
right_flat NoNot NoSign (Logical false l) t e k st r q s h b = right_unnamed e k (spell_flat NoNot NoSign (Logical false l) t k) st r q tt h b
right_flat NoNot NoSign (Bracketed l c m) t e k st r q s h b = right_unnamed e k (spell_flat NoNot NoSign (Bracketed l c m) t k) st r q tt h b
right_flat NoNot NoSign (OneCall (Alone x)) t e k st r q s h b =
    ap (gather (WantAfterRight ∷ []) st (λ ts. right_of (name_at x.number x.line) ts.0))
    (name_tails (spell_tails t k) st (tails_end t k h) ∙ ap (shut_tails NameIsOperand st) (tails_built t k st r h b))
    ∙ ap (λ (c : Expr). Some (no_lefts c, r)) s
right_flat NoNot NoSign (OneCall (WithActuals x l a more m)) t e k st r q s h b =
    ap (λ o. gather (WantAfterRight ∷ []) st (λ ts. right_of (name_at x.number x.line) ts.0) (gather (WantActual ∷ WantActuals ∷ tail_items) st (λ ts. NameHasActuals l ts.0 ts.1.0 (tails_of ts.1.1)) o))
    (actual_built a (spell_actuals more (word RightParenthesis m ∷ spell_tails t k)) (WantActuals ∷ tail_items ++ st) (record { more = more; end = m }, tail_trees t r) (actuals_end more m (spell_tails t k))
    (actuals_built more m (spell_tails t k) (tail_items ++ st) (tail_trees t r) (tails_built t k st r h b)))
    ∙ ap (λ (c : Expr). Some (no_lefts c, r)) s
right_flat NoNot NoSign (OneElement (Subscripted x l c es m)) t e k st r q s h b =
    ap (λ o. gather (WantAfterRight ∷ []) st (λ ts. right_of (name_at x.number x.line) ts.0) (gather (WantExpr ∷ WantSubscripts ∷ WantAfterElement ∷ []) st (λ ts. NameHasSubscripts l ts.0 ts.1.0 ts.1.1.0) o))
    (expr_built c (spell_exprs es (word RightBracket m ∷ spell_tails t k)) (WantSubscripts ∷ WantAfterElement ∷ st) (record { more = es; end = m }, (ElementIsOperand t, r)) (exprs_end es m (spell_tails t k))
    (exprs_built es m (spell_tails t k) (WantAfterElement ∷ st) (ElementIsOperand t, r)
    (element_tails (spell_tails t k) st (tails_end t k h) ∙ ap (shut_tails ElementIsOperand st) (tails_built t k st r h b))))
    ∙ ap (λ (c : Expr). Some (no_lefts c, r)) s

abbrev tails_in : (s : Simple) → Tails
tails_in s = let x = open_simple {R = Unit {0}} s [] tt in record { powers = x.1.1.1.0; products = x.1.1.1.1.0; sums = x.1.1.1.1.1.0; relation = x.1.1.1.1.1.1.0; ands = x.1.1.1.1.1.1.1.0; ors = x.1.1.1.1.1.1.1.1.0; impls = x.1.1.1.1.1.1.1.1.1.0; equivs = x.1.1.1.1.1.1.1.1.1.1.0 }

abbrev not_in : Simple → MayBeNot
not_in s = (open_simple {R = Unit {0}} s [] tt).0

abbrev sign_in : Simple → MayBeSign
sign_in s = (open_simple {R = Unit {0}} s [] tt).1.0

abbrev operand_in : Simple → Primary
operand_in s = (open_simple {R = Unit {0}} s [] tt).1.1.0

simple_spelled : (s : Simple) (k : List Symbol) → spell_simple s k ≡ spell_flat (not_in s) (sign_in s) (operand_in s) (tails_in s) k
simple_spelled s k = flat_simple {R = Unit {0}} s [] tt (λ (y : Unit {0}). k)

simple_same : (s : Simple) → simple_flat (not_in s) (sign_in s) (operand_in s) (tails_in s) ≡ s
simple_same s = ap (λ (y : Simple × Unit {0}). y.0) (same_simple {R = Unit {0}} s [] tt)

right_expr : (e : Expr) (k : List Symbol) (st : List Item) (r : Trees st) → Ends 1 k → build k st ≡ Some r → build (spell_expr e k) (WantRight ∷ st) ≡ Some (no_lefts e, r)
right_expr (OneSimple s) k st r h b =
    ap (λ (w : List Symbol). build w (WantRight ∷ st)) (simple_spelled s k)
    ∙ right_flat (not_in s) (sign_in s) (operand_in s) (tails_in s) (OneSimple s) k st r (simple_spelled s k) (ap OneSimple (simple_same s)) h b
right_expr (IfExpr l c m s n e) k st r h b = right_unnamed (IfExpr l c m s n e) k (spell_expr (IfExpr l c m s n e) k) st r refl tt h b

-- a left part before what is read already
pub left_taken : (p : LeftSide) (m : ℕ) (w : List Symbol) (st : List Item) (t : Right) (r : Trees st) → build w (WantRight ∷ st) ≡ Some (t, r) → build (spell_left p (word Becomes m ∷ w)) (WantRight ∷ st) ≡ Some (with_left p m t, r)
left_taken (OneName x) m w st t r b = ap (λ o. gather (WantAfterRight ∷ []) st (λ ts. right_of (name_at x.number x.line) ts.0) (gather (WantRight ∷ []) st (λ ts. NameIsLeft m ts.0) o)) b
left_taken (LeftElement (Subscripted x l e es n)) m w st t r b =
    ap (λ o. gather (WantAfterRight ∷ []) st (λ ts. right_of (name_at x.number x.line) ts.0) (gather (WantExpr ∷ WantSubscripts ∷ WantAfterElement ∷ []) st (λ ts. NameHasSubscripts l ts.0 ts.1.0 ts.1.1.0) o))
    (expr_built e (spell_exprs es (word RightBracket n ∷ word Becomes m ∷ w)) (WantSubscripts ∷ WantAfterElement ∷ st) (record { more = es; end = n }, (ElementIsLeft m t, r)) (exprs_end es n (word Becomes m ∷ w))
    (exprs_built es n (word Becomes m ∷ w) (WantAfterElement ∷ st) (ElementIsLeft m t, r) (ap (gather (WantRight ∷ []) st (λ ts. ElementIsLeft m ts.0)) b)))

pub right_built : (ps : List LeftPart) (e : Expr) (k : List Symbol) (st : List Item) (r : Trees st) → Ends 1 k → build k st ≡ Some r → build (spell_lefts ps (spell_expr e k)) (WantRight ∷ st) ≡ Some (record { lefts = ps; value = e }, r)
right_built [] e k st r h b = right_expr e k st r h b
right_built (p ∷ ps) e k st r h b = left_taken p.left p.becomes (spell_lefts ps (spell_expr e k)) st (record { lefts = ps; value = e }) r (right_built ps e k st r h b)
