-- Over the spelling of an expression the pass writes its text.
use Rattle.std.proofs.Common.{◌≡◌, ◌∙◌, ℕ, Bool, true, false, List, [], ◌∷◌, refl, sym as back, ap}
use Rattle.std.specs.Prelude.{Option, None, Some}
use Rattle.gier_symbol.specs.declared.symbol.Symbol.{Symbol}
use Rattle.gier_symbol.specs.declared.tag.Tag.TheVariants.{Number, StringBegin, StringByte, StringEnd, Power, Not, And, Or, Impl, Equiv, Comma, LeftParenthesis, RightParenthesis, LeftBracket, RightBracket, If, Then, Else}
use Rattle.gier_symbol.specs.ByTag.{sym, word}
use Rattle.gier_tree.specs.declared.construct.Construct.TheVariants.{Actual as MActual, Subscript as MSubscript, ConditionalExpression as MConditional}
use Rattle.gier_tree.specs.Places.{Places}
use Rattle.gier_tree.specs.Spell.{ident, adding_tag, multiplying_tag, comparing_tag, logical_tag, spell_bytes, spell_expr, spell_simple, spell_implication, spell_disjunction, spell_conjunction, spell_negation, spell_relation, spell_arithmetic, spell_term, spell_factor, spell_primary, spell_call, spell_element, spell_actual, spell_actuals, spell_exprs}
use Rattle.gier_tree.specs.Lines.{first_expr, first_simple, first_implication, first_disjunction, first_conjunction, first_negation, first_relation, first_arithmetic, first_term, first_factor, first_primary, last_expr, last_simple, last_implication, last_disjunction, last_conjunction, last_negation, last_relation, last_arithmetic, last_term, last_factor, last_primary, last_call, last_element, last_actual}
use Rattle.gier_tree.specs.Written.{Text, Marked, Expected, opens, shuts, leading_tag, name_alone, actual_by, called_alone, is_called_as, further_expected, expected_kinds, text_name, text_expr, text_simple, text_implication, text_disjunction, text_conjunction, text_negation, text_relation, text_arithmetic, text_term, text_factor, text_primary, text_call, text_element, text_actual, text_actuals, text_subscripts}
use Rattle.gier_tree.specs.Trees.{Name, Byte, Expr, OneSimple, IfExpr, Simple, OneImplication, Equivalent, Implication, OneDisjunction, Implies, Disjunction, OneConjunction, Either, Conjunction, OneNegation, Both, Negation, OneRelation, Negated, Relation, OneArithmetic, Compared, Arithmetic, OneTerm, Signed, Summed, Term, OneFactor, Multiplied, Factor, OnePrimary, Raised, Primary, Numeral, Logical, Bracketed, OneCall, OneElement, Call, Alone, WithActuals, Element, Subscripted, Actual, OneExpr, AString, Actuals, NoActuals, MoreActuals, Exprs, NoExprs, MoreExprs}
use Rattle.gier_grammar.specs.declared.grammar_symbol.GrammarSymbol.TheVariants.{Expression as GExpression, Simple as GSimple, Then as GThen, Else as GElse, ShutConditionalExpression, RightParenthesis as GRightParenthesis, OpenActual, Actual as GActual, ShutActual, ActualTail as GActualTail, OpenSubscript, ShutSubscript, SubscriptTail as GSubscriptTail, StringRest as GStringRest, MayPower as GMayPower, MayTimes as GMayTimes, MaySum as GMaySum, MayRelation as GMayRelation, MayAnd as GMayAnd, MayOr as GMayOr, MayImplication as GMayImplication, MayEquivalence as GMayEquivalence}
use Rattle.gier_grammar.specs.declared.stack_entry.StackEntry.{StackEntry}
use Rattle.gier_grammar.specs.StackEntries.{entry}
use Rattle.gier_text3.specs.PurePass.{pass3, pass3_from}
use Rattle.gier_text3.proofs.Operands.{at, tail, Start, Inner, InnerSign, InnerNot, AtSimple, AtExpression, AtActual, AtRight, before, behind, part, after_element, takes_sign, takes_not, not_sign, Whole, WExpression, WActual, WRight, start_of, whole_behind, whole_not, take_if, Begins, Comes, EndsPrimary, EndsFactor, EndsTerm, EndsArithmetic, EndsRelation, EndsConjunction, EndsDisjunction, EndsImplication, EndsExpr, ends_power, ends_times, ends_sum, ends_comparing, ends_and, ends_or, ends_impl, ends_equiv, ends_comma, ends_then, ends_else, ends_right_parenthesis, ends_right_bracket, take_times, take_sum, take_comparing, take_number, take_logical, take_group, take_name, take_sign, take_not, take_actuals, take_subscripts, name_ends, element_ends, open_actual, open_subscript, shut_actual, shut_subscript, shut_conditional_expression}

-- text 3 of a program with these own quantities
abbrev pub marked : List Name → Text
marked os = record { stage = Marked; owns = os }

-- the first symbol of each part
begin_next : (k : List Symbol) (s : Symbol) → Begins (s ∷ k) s.line
begin_next k s = record { first = s; rest = k; is = refl; on = refl }

pub begins_primary : (q : Primary) (k : List Symbol) → Begins (spell_primary q k) (first_primary q)
begins_primary (Numeral v i) k = begin_next _ (sym Number v i)
begins_primary (Logical b i) k = begin_next _ (word (logical_tag b) i)
begins_primary (Bracketed i e m) k = begin_next _ (word LeftParenthesis i)
begins_primary (OneCall (Alone x)) k = begin_next _ (ident x)
begins_primary (OneCall (WithActuals x i a more m)) k = begin_next _ (ident x)
begins_primary (OneElement (Subscripted x i e es m)) k = begin_next _ (ident x)

pub begins_factor : (f : Factor) (k : List Symbol) → Begins (spell_factor f k) (first_factor f)
begins_factor (OnePrimary q) k = begins_primary q k
begins_factor (Raised f i q) k = begins_factor f (word Power i ∷ spell_primary q k)

pub begins_term : (t : Term) (k : List Symbol) → Begins (spell_term t k) (first_term t)
begins_term (OneFactor f) k = begins_factor f k
begins_term (Multiplied t o i f) k = begins_term t (word (multiplying_tag o) i ∷ spell_factor f k)

pub begins_arithmetic : (a : Arithmetic) (k : List Symbol) → Begins (spell_arithmetic a k) (first_arithmetic a)
begins_arithmetic (OneTerm t) k = begins_term t k
begins_arithmetic (Signed o i t) k = begin_next _ (word (adding_tag o) i)
begins_arithmetic (Summed a o i t) k = begins_arithmetic a (word (adding_tag o) i ∷ spell_term t k)

pub begins_relation : (r : Relation) (k : List Symbol) → Begins (spell_relation r k) (first_relation r)
begins_relation (OneArithmetic a) k = begins_arithmetic a k
begins_relation (Compared a o i b) k = begins_arithmetic a (word (comparing_tag o) i ∷ spell_arithmetic b k)

pub begins_negation : (n : Negation) (k : List Symbol) → Begins (spell_negation n k) (first_negation n)
begins_negation (OneRelation r) k = begins_relation r k
begins_negation (Negated i r) k = begin_next _ (word Not i)

pub begins_conjunction : (c : Conjunction) (k : List Symbol) → Begins (spell_conjunction c k) (first_conjunction c)
begins_conjunction (OneNegation n) k = begins_negation n k
begins_conjunction (Both c i n) k = begins_conjunction c (word And i ∷ spell_negation n k)

pub begins_disjunction : (d : Disjunction) (k : List Symbol) → Begins (spell_disjunction d k) (first_disjunction d)
begins_disjunction (OneConjunction c) k = begins_conjunction c k
begins_disjunction (Either d i c) k = begins_disjunction d (word Or i ∷ spell_conjunction c k)

pub begins_implication : (x : Implication) (k : List Symbol) → Begins (spell_implication x k) (first_implication x)
begins_implication (OneDisjunction d) k = begins_disjunction d k
begins_implication (Implies x i d) k = begins_implication x (word Impl i ∷ spell_disjunction d k)

pub begins_simple : (s : Simple) (k : List Symbol) → Begins (spell_simple s k) (first_simple s)
begins_simple (OneImplication x) k = begins_implication x k
begins_simple (Equivalent s i x) k = begins_simple s (word Equiv i ∷ spell_implication x k)

pub begins_expr : (e : Expr) (k : List Symbol) → Begins (spell_expr e k) (first_expr e)
begins_expr (OneSimple s) k = begins_simple s k
begins_expr (IfExpr i c m s n e) k = begin_next _ (word If i)

pub comes : (k : List Symbol) (line : ℕ) → Begins k line → Comes k
comes k line b = (b.first, (b.rest, b.is))

-- what follows actuals and subscripts
pub actuals_end : (more : Actuals) (m : ℕ) (k : List Symbol) → EndsExpr (spell_actuals more (word RightParenthesis m ∷ k))
actuals_end NoActuals m k = ends_right_parenthesis m k
actuals_end (MoreActuals i a more) m k = ends_comma i (spell_actual a (spell_actuals more (word RightParenthesis m ∷ k)))

pub exprs_end : (es : Exprs) (m : ℕ) (k : List Symbol) → EndsExpr (spell_exprs es (word RightBracket m ∷ k))
exprs_end NoExprs m k = ends_right_bracket m k
exprs_end (MoreExprs i e es) m k = ends_comma i (spell_expr e (spell_exprs es (word RightBracket m ∷ k)))

-- in text 3 an identifier alone is written as it is
pub name_same : (os : List Name) (p : Places) (called : Bool) (x : Name) (rest : List Symbol) → text_name (marked os) p called x rest ≡ ident x ∷ rest
name_same os p true x rest = refl
name_same os p false x rest = refl

actual_by_name : (os : List Name) (p : Places) (a : Expected) (x : Name) (rest : List Symbol) → text_name (marked os) p (is_called_as a (p x.number).what) x rest ≡ text_call (marked os) p (Alone x) rest
actual_by_name os p a x rest = name_same os p _ x rest ∙ back (name_same os p _ x rest)

pub actual_same : (os : List Name) (p : Places) (a : Expected) (e : Expr) (rest : List Symbol) → actual_by (name_alone e) (marked os) p a (text_expr (marked os) p e rest) rest ≡ text_expr (marked os) p e rest
actual_same os p a (OneSimple (OneImplication (OneDisjunction (OneConjunction (OneNegation (OneRelation (OneArithmetic (OneTerm (OneFactor (OnePrimary (OneCall (Alone x)))))))))))) rest = actual_by_name os p a x rest
actual_same os p a _ rest = refl

pub bytes : (bs : List Byte) (m : ℕ) (k : List Symbol) (st : List StackEntry) (l n : ℕ) → pass3 (spell_bytes bs (word StringEnd m ∷ k)) (entry GStringRest 0 ∷ st) (at l n) ≡ spell_bytes bs (word StringEnd m ∷ pass3 k st (at m n))
bytes [] m k st l n = refl
bytes (b ∷ bs) m k st l n = ap (λ w. sym StringByte b.value b.line ∷ w) (bytes bs m k st b.line n)

mutual
  pub expr : (os : List Name) (p : Places) (u : Whole) (st : List StackEntry) (x : Expr) (k : List Symbol) (op : Bool) (l n : ℕ) → EndsExpr k → pass3_from op (spell_expr x k) (before (start_of u st)) (at l n) ≡ text_expr (marked os) p x (pass3 k st (at (last_expr x) n))
  expr os p u st (OneSimple s) k op l n e = simple os p (start_of u st) st s k op l n (whole_behind u st) (whole_not u st) e.lower ∙ ap (text_simple (marked os) p s) (e.skips st _ n)
  expr os p u st (IfExpr i c m s j x) k op l n e =
      take_if u st i (spell_expr c (word Then m ∷ spell_simple s (word Else j ∷ spell_expr x k))) op l n
      ∙ ap (λ w. opens MConditional i ∷ word If i ∷ w) (expr os p WExpression (entry GThen 0 ∷ entry GSimple 0 ∷ entry GElse 0 ∷ entry GExpression 0 ∷ entry ShutConditionalExpression 0 ∷ st) c (word Then m ∷ spell_simple s (word Else j ∷ spell_expr x k)) false i n (ends_then m _)
      ∙ ap (λ w. text_expr (marked os) p c (word Then m ∷ w)) (simple os p (AtSimple (entry GElse 0 ∷ entry GExpression 0 ∷ entry ShutConditionalExpression 0 ∷ st)) (entry GElse 0 ∷ entry GExpression 0 ∷ entry ShutConditionalExpression 0 ∷ st) s (word Else j ∷ spell_expr x k) false m n refl refl (ends_else j _).lower
      ∙ ap (text_simple (marked os) p s) ((ends_else j (spell_expr x k)).skips (entry GElse 0 ∷ entry GExpression 0 ∷ entry ShutConditionalExpression 0 ∷ st) (last_simple s) n
      ∙ ap (λ w. word Else j ∷ w) (expr os p WExpression (entry ShutConditionalExpression 0 ∷ st) x k false j n e
      ∙ ap (text_expr (marked os) p x) (shut_conditional_expression k st (at (last_expr x) n) e.lower.lower.lower.lower.lower.lower.lower.lower.comes)))))

  pub simple : (os : List Name) (p : Places) (a : Start) (st : List StackEntry) (x : Simple) (k : List Symbol) (op : Bool) (l n : ℕ) → behind a ≡ entry GMayPower 0 ∷ entry GMayTimes 0 ∷ entry GMaySum 0 ∷ entry GMayRelation 0 ∷ entry GMayAnd 0 ∷ entry GMayOr 0 ∷ entry GMayImplication 0 ∷ entry GMayEquivalence 0 ∷ st → takes_not a ≡ true → EndsImplication k → pass3_from op (spell_simple x k) (before a) (at l n) ≡ text_simple (marked os) p x (pass3 k (entry GMayEquivalence 0 ∷ st) (at (last_simple x) n))
  simple os p a st (OneImplication y) k op l n same not e = implication os p a (entry GMayEquivalence 0 ∷ st) y k op l n same not e.lower ∙ ap (text_implication (marked os) p y) (e.skips (entry GMayEquivalence 0 ∷ st) _ n)
  simple os p a st (Equivalent x i y) k op l n same not e = simple os p a st x (word Equiv i ∷ spell_implication y k) op l n same not (ends_equiv i _) ∙ ap (λ w. text_simple (marked os) p x (word Equiv i ∷ w)) (implication os p (InnerNot (entry GMayPower 0 ∷ entry GMayTimes 0 ∷ entry GMaySum 0 ∷ entry GMayRelation 0 ∷ entry GMayAnd 0 ∷ entry GMayOr 0 ∷ entry GMayImplication 0 ∷ entry GMayEquivalence 0 ∷ st)) (entry GMayEquivalence 0 ∷ st) y k false i n refl refl e.lower ∙ ap (text_implication (marked os) p y) (e.skips (entry GMayEquivalence 0 ∷ st) _ n))

  pub implication : (os : List Name) (p : Places) (a : Start) (st : List StackEntry) (x : Implication) (k : List Symbol) (op : Bool) (l n : ℕ) → behind a ≡ entry GMayPower 0 ∷ entry GMayTimes 0 ∷ entry GMaySum 0 ∷ entry GMayRelation 0 ∷ entry GMayAnd 0 ∷ entry GMayOr 0 ∷ entry GMayImplication 0 ∷ st → takes_not a ≡ true → EndsDisjunction k → pass3_from op (spell_implication x k) (before a) (at l n) ≡ text_implication (marked os) p x (pass3 k (entry GMayImplication 0 ∷ st) (at (last_implication x) n))
  implication os p a st (OneDisjunction y) k op l n same not e = disjunction os p a (entry GMayImplication 0 ∷ st) y k op l n same not e.lower ∙ ap (text_disjunction (marked os) p y) (e.skips (entry GMayImplication 0 ∷ st) _ n)
  implication os p a st (Implies x i y) k op l n same not e = implication os p a st x (word Impl i ∷ spell_disjunction y k) op l n same not (ends_impl i _) ∙ ap (λ w. text_implication (marked os) p x (word Impl i ∷ w)) (disjunction os p (InnerNot (entry GMayPower 0 ∷ entry GMayTimes 0 ∷ entry GMaySum 0 ∷ entry GMayRelation 0 ∷ entry GMayAnd 0 ∷ entry GMayOr 0 ∷ entry GMayImplication 0 ∷ st)) (entry GMayImplication 0 ∷ st) y k false i n refl refl e.lower ∙ ap (text_disjunction (marked os) p y) (e.skips (entry GMayImplication 0 ∷ st) _ n))

  pub disjunction : (os : List Name) (p : Places) (a : Start) (st : List StackEntry) (x : Disjunction) (k : List Symbol) (op : Bool) (l n : ℕ) → behind a ≡ entry GMayPower 0 ∷ entry GMayTimes 0 ∷ entry GMaySum 0 ∷ entry GMayRelation 0 ∷ entry GMayAnd 0 ∷ entry GMayOr 0 ∷ st → takes_not a ≡ true → EndsConjunction k → pass3_from op (spell_disjunction x k) (before a) (at l n) ≡ text_disjunction (marked os) p x (pass3 k (entry GMayOr 0 ∷ st) (at (last_disjunction x) n))
  disjunction os p a st (OneConjunction y) k op l n same not e = conjunction os p a (entry GMayOr 0 ∷ st) y k op l n same not e.lower ∙ ap (text_conjunction (marked os) p y) (e.skips (entry GMayOr 0 ∷ st) _ n)
  disjunction os p a st (Either x i y) k op l n same not e = disjunction os p a st x (word Or i ∷ spell_conjunction y k) op l n same not (ends_or i _) ∙ ap (λ w. text_disjunction (marked os) p x (word Or i ∷ w)) (conjunction os p (InnerNot (entry GMayPower 0 ∷ entry GMayTimes 0 ∷ entry GMaySum 0 ∷ entry GMayRelation 0 ∷ entry GMayAnd 0 ∷ entry GMayOr 0 ∷ st)) (entry GMayOr 0 ∷ st) y k false i n refl refl e.lower ∙ ap (text_conjunction (marked os) p y) (e.skips (entry GMayOr 0 ∷ st) _ n))

  pub conjunction : (os : List Name) (p : Places) (a : Start) (st : List StackEntry) (x : Conjunction) (k : List Symbol) (op : Bool) (l n : ℕ) → behind a ≡ entry GMayPower 0 ∷ entry GMayTimes 0 ∷ entry GMaySum 0 ∷ entry GMayRelation 0 ∷ entry GMayAnd 0 ∷ st → takes_not a ≡ true → EndsRelation k → pass3_from op (spell_conjunction x k) (before a) (at l n) ≡ text_conjunction (marked os) p x (pass3 k (entry GMayAnd 0 ∷ st) (at (last_conjunction x) n))
  conjunction os p a st (OneNegation y) k op l n same not e = negation os p a (entry GMayAnd 0 ∷ st) y k op l n same not e
  conjunction os p a st (Both x i y) k op l n same not e = conjunction os p a st x (word And i ∷ spell_negation y k) op l n same not (ends_and i _) ∙ ap (λ w. text_conjunction (marked os) p x (word And i ∷ w)) (negation os p (InnerNot (entry GMayPower 0 ∷ entry GMayTimes 0 ∷ entry GMaySum 0 ∷ entry GMayRelation 0 ∷ entry GMayAnd 0 ∷ st)) (entry GMayAnd 0 ∷ st) y k false i n refl refl e)

  pub negation : (os : List Name) (p : Places) (a : Start) (st : List StackEntry) (x : Negation) (k : List Symbol) (op : Bool) (l n : ℕ) → behind a ≡ entry GMayPower 0 ∷ entry GMayTimes 0 ∷ entry GMaySum 0 ∷ entry GMayRelation 0 ∷ st → takes_not a ≡ true → EndsRelation k → pass3_from op (spell_negation x k) (before a) (at l n) ≡ text_negation (marked os) p x (pass3 k (st) (at (last_negation x) n))
  negation os p a st (OneRelation y) k op l n same not e = relation os p a st y k op l n same (not_sign a not) e
  negation os p a st (Negated i y) k op l n same not e = take_not a i (spell_relation y k) op l n not ∙ ap (λ w. word Not i ∷ w) (relation os p (InnerSign (behind a)) st y k false i n same refl e)

  pub relation : (os : List Name) (p : Places) (a : Start) (st : List StackEntry) (x : Relation) (k : List Symbol) (op : Bool) (l n : ℕ) → behind a ≡ entry GMayPower 0 ∷ entry GMayTimes 0 ∷ entry GMaySum 0 ∷ entry GMayRelation 0 ∷ st → takes_sign a ≡ true → EndsRelation k → pass3_from op (spell_relation x k) (before a) (at l n) ≡ text_relation (marked os) p x (pass3 k (st) (at (last_relation x) n))
  relation os p a st (OneArithmetic y) k op l n same sign e = arithmetic os p a (entry GMayRelation 0 ∷ st) y k op l n same sign e.lower.lower ∙ ap (text_arithmetic (marked os) p y) (e.lower.skips (entry GMayRelation 0 ∷ st) _ n ∙ e.skips st _ n)
  relation os p a st (Compared x o i y) k op l n same sign e =
      arithmetic os p a (entry GMayRelation 0 ∷ st) x (word (comparing_tag o) i ∷ spell_arithmetic y k) op l n same sign (ends_comparing o i _).lower
      ∙ ap (text_arithmetic (marked os) p x) ((ends_comparing o i (spell_arithmetic y k)).skips (entry GMayRelation 0 ∷ st) _ n ∙ take_comparing o i (spell_arithmetic y k) st _ n
      ∙ ap (λ w. word (comparing_tag o) i ∷ w) (arithmetic os p (InnerSign (entry GMayPower 0 ∷ entry GMayTimes 0 ∷ entry GMaySum 0 ∷ st)) st y k false i n refl refl e.lower.lower ∙ ap (text_arithmetic (marked os) p y) (e.lower.skips st _ n)))

  pub arithmetic : (os : List Name) (p : Places) (a : Start) (st : List StackEntry) (x : Arithmetic) (k : List Symbol) (op : Bool) (l n : ℕ) → behind a ≡ entry GMayPower 0 ∷ entry GMayTimes 0 ∷ entry GMaySum 0 ∷ st → takes_sign a ≡ true → EndsTerm k → pass3_from op (spell_arithmetic x k) (before a) (at l n) ≡ text_arithmetic (marked os) p x (pass3 k (entry GMaySum 0 ∷ st) (at (last_arithmetic x) n))
  arithmetic os p a st (OneTerm y) k op l n same sign e = term os p a (entry GMaySum 0 ∷ st) y k op l n same e.lower ∙ ap (text_term (marked os) p y) (e.skips (entry GMaySum 0 ∷ st) _ n)
  arithmetic os p a st (Signed o i y) k op l n same sign e = take_sign a o i (spell_term y k) op l n sign ∙ ap (λ w. word (leading_tag o) i ∷ w) (term os p (Inner (behind a)) (entry GMaySum 0 ∷ st) y k false i n same e.lower ∙ ap (text_term (marked os) p y) (e.skips (entry GMaySum 0 ∷ st) _ n))
  arithmetic os p a st (Summed x o i y) k op l n same sign e =
      arithmetic os p a st x (word (adding_tag o) i ∷ spell_term y k) op l n same sign (ends_sum o i _)
      ∙ ap (text_arithmetic (marked os) p x) (take_sum o i (spell_term y k) st _ n
      ∙ ap (λ w. word (adding_tag o) i ∷ w) (term os p (Inner (entry GMayPower 0 ∷ entry GMayTimes 0 ∷ entry GMaySum 0 ∷ st)) (entry GMaySum 0 ∷ st) y k false i n refl e.lower ∙ ap (text_term (marked os) p y) (e.skips (entry GMaySum 0 ∷ st) _ n)))

  pub term : (os : List Name) (p : Places) (a : Start) (st : List StackEntry) (x : Term) (k : List Symbol) (op : Bool) (l n : ℕ) → behind a ≡ entry GMayPower 0 ∷ entry GMayTimes 0 ∷ st → EndsFactor k → pass3_from op (spell_term x k) (before a) (at l n) ≡ text_term (marked os) p x (pass3 k (entry GMayTimes 0 ∷ st) (at (last_term x) n))
  term os p a st (OneFactor y) k op l n same e = factor os p a (entry GMayTimes 0 ∷ st) y k op l n same e.lower ∙ ap (text_factor (marked os) p y) (e.skips (entry GMayTimes 0 ∷ st) _ n)
  term os p a st (Multiplied x o i y) k op l n same e =
      term os p a st x (word (multiplying_tag o) i ∷ spell_factor y k) op l n same (ends_times o i _)
      ∙ ap (text_term (marked os) p x) (take_times o i (spell_factor y k) st _ n
      ∙ ap (λ w. word (multiplying_tag o) i ∷ w) (factor os p (Inner (entry GMayPower 0 ∷ entry GMayTimes 0 ∷ st)) (entry GMayTimes 0 ∷ st) y k false i n refl e.lower ∙ ap (text_factor (marked os) p y) (e.skips (entry GMayTimes 0 ∷ st) _ n)))

  pub factor : (os : List Name) (p : Places) (a : Start) (st : List StackEntry) (x : Factor) (k : List Symbol) (op : Bool) (l n : ℕ) → behind a ≡ entry GMayPower 0 ∷ st → EndsPrimary k → pass3_from op (spell_factor x k) (before a) (at l n) ≡ text_factor (marked os) p x (pass3 k (entry GMayPower 0 ∷ st) (at (last_factor x) n))
  factor os p a st (OnePrimary y) k op l n same e = primary os p a y k op l n e ∙ ap (λ b. text_primary (marked os) p y (pass3 k b (at (last_primary y) n))) same
  factor os p a st (Raised x i y) k op l n same e = factor os p a st x (word Power i ∷ spell_primary y k) op l n same (ends_power i _) ∙ ap (λ w. text_factor (marked os) p x (word Power i ∷ w)) (primary os p (Inner (entry GMayPower 0 ∷ st)) y k false i n e)

  pub primary : (os : List Name) (p : Places) (a : Start) (x : Primary) (k : List Symbol) (op : Bool) (l n : ℕ) → EndsPrimary k → pass3_from op (spell_primary x k) (before a) (at l n) ≡ text_primary (marked os) p x (pass3 k (behind a) (at (last_primary x) n))
  primary os p a (Numeral v i) k op l n e = take_number a v i k op l n
  primary os p a (Logical b i) k op l n e = take_logical a b i k op l n
  primary os p a (Bracketed i x m) k op l n e = take_group a i (spell_expr x (word RightParenthesis m ∷ k)) op l n ∙ ap (λ w. word LeftParenthesis i ∷ w) (expr os p WExpression (entry GRightParenthesis 0 ∷ behind a) x (word RightParenthesis m ∷ k) false i n (ends_right_parenthesis m k))
  primary os p a (OneCall (Alone x)) k op l n e = take_name a x k op l n ∙ ap (λ w. ident x ∷ w) (name_ends a k x.line n e) ∙ back (name_same os p _ x _)
  primary os p a (OneCall (WithActuals x i y more m)) k op l n e =
      take_name a x (word LeftParenthesis i ∷ spell_actual y (spell_actuals more (word RightParenthesis m ∷ k))) op l n
      ∙ ap (λ w. ident x ∷ w) (take_actuals a i (spell_actual y (spell_actuals more (word RightParenthesis m ∷ k))) x.line n
      ∙ ap (λ w. word LeftParenthesis i ∷ w) (actual os p (expected_kinds (p x.number).what) y (spell_actuals more (word RightParenthesis m ∷ k)) (entry GActualTail 0 ∷ behind a) i n (actuals_end more m k) ∙ ap (text_actual (marked os) p (expected_kinds (p x.number).what) y) (actuals os p (further_expected (expected_kinds (p x.number).what)) more m (behind a) k _ n)))
  primary os p a (OneElement (Subscripted x i y ys m)) k op l n e =
      take_name a x (word LeftBracket i ∷ spell_expr y (spell_exprs ys (word RightBracket m ∷ k))) op l n
      ∙ ap (λ w. ident x ∷ w) (take_subscripts a i (spell_expr y (spell_exprs ys (word RightBracket m ∷ k))) x.line n
      ∙ ap (λ w. word LeftBracket i ∷ w) ((open_subscript (spell_expr y (spell_exprs ys (word RightBracket m ∷ k))) (first_expr y) false (entry GExpression 0 ∷ entry ShutSubscript 0 ∷ entry GSubscriptTail 0 ∷ after_element a) (at i n) (begins_expr y (spell_exprs ys (word RightBracket m ∷ k))) ∙ ap (λ w. opens MSubscript (first_expr y) ∷ w) (expr os p WExpression (entry ShutSubscript 0 ∷ entry GSubscriptTail 0 ∷ after_element a) y (spell_exprs ys (word RightBracket m ∷ k)) true i n (exprs_end ys m k) ∙ ap (text_expr (marked os) p y) (shut_subscript (spell_exprs ys (word RightBracket m ∷ k)) (entry GSubscriptTail 0 ∷ after_element a) (at (last_expr y) n) (exprs_end ys m k).lower.lower.lower.lower.lower.lower.lower.lower.comes ∙ ap (λ w. shuts MSubscript (last_expr y) ∷ w) (subscripts os p ys m (after_element a) k (last_expr y) n))))
      ∙ ap (λ w. opens MSubscript (first_expr y) ∷ text_expr (marked os) p y (shuts MSubscript (last_expr y) ∷ text_subscripts (marked os) p ys (word RightBracket m ∷ w))) (element_ends a k m n e)))

  pub actual : (os : List Name) (p : Places) (d : Expected) (x : Actual) (k : List Symbol) (st : List StackEntry) (l n : ℕ) → EndsExpr k → pass3 (spell_actual x k) (entry OpenActual 0 ∷ entry GActual 0 ∷ entry ShutActual 0 ∷ st) (at l n) ≡ text_actual (marked os) p d x (pass3 k st (at (last_actual x) n))
  actual os p d (OneExpr x) k st l n e =
      open_actual (spell_expr x k) (first_expr x) false (entry GActual 0 ∷ entry ShutActual 0 ∷ st) (at l n) (begins_expr x k)
      ∙ ap (λ w. opens MActual (first_expr x) ∷ w) (expr os p WActual (entry ShutActual 0 ∷ st) x k true l n e ∙ ap (text_expr (marked os) p x) (shut_actual k st (at (last_expr x) n) e.lower.lower.lower.lower.lower.lower.lower.lower.comes) ∙ back (actual_same os p d x _))
  actual os p d (AString i bs m) k st l n e = ap (λ w. opens MActual i ∷ word StringBegin i ∷ w) (bytes bs m k (entry ShutActual 0 ∷ st) i n ∙ ap (λ w. spell_bytes bs (word StringEnd m ∷ w)) (shut_actual k st (at m n) e.lower.lower.lower.lower.lower.lower.lower.lower.comes))

  pub actuals : (os : List Name) (p : Places) (d : Expected) (more : Actuals) (m : ℕ) (st : List StackEntry) (k : List Symbol) (l n : ℕ) → pass3 (spell_actuals more (word RightParenthesis m ∷ k)) (entry GActualTail 0 ∷ st) (at l n) ≡ text_actuals (marked os) p d more (word RightParenthesis m ∷ pass3 k st (at m n))
  actuals os p d NoActuals m st k l n = refl
  actuals os p d (MoreActuals i x more) m st k l n = ap (λ w. word Comma i ∷ w) (actual os p (d) x (spell_actuals more (word RightParenthesis m ∷ k)) (entry GActualTail 0 ∷ st) i n (actuals_end more m k) ∙ ap (text_actual (marked os) p (d) x) (actuals os p (further_expected (d)) more m (st) k _ n))

  pub subscripts : (os : List Name) (p : Places) (xs : Exprs) (m : ℕ) (st : List StackEntry) (k : List Symbol) (l n : ℕ) → pass3 (spell_exprs xs (word RightBracket m ∷ k)) (entry GSubscriptTail 0 ∷ st) (at l n) ≡ text_subscripts (marked os) p xs (word RightBracket m ∷ pass3 k st (at m n))
  subscripts os p NoExprs m st k l n = refl
  subscripts os p (MoreExprs i x xs) m st k l n = ap (λ w. word Comma i ∷ w) (open_subscript (spell_expr x (spell_exprs xs (word RightBracket m ∷ k))) (first_expr x) false (entry GExpression 0 ∷ entry ShutSubscript 0 ∷ entry GSubscriptTail 0 ∷ st) (at i n) (begins_expr x (spell_exprs xs (word RightBracket m ∷ k))) ∙ ap (λ w. opens MSubscript (first_expr x) ∷ w) (expr os p WExpression (entry ShutSubscript 0 ∷ entry GSubscriptTail 0 ∷ st) x (spell_exprs xs (word RightBracket m ∷ k)) true i n (exprs_end xs m k) ∙ ap (text_expr (marked os) p x) (shut_subscript (spell_exprs xs (word RightBracket m ∷ k)) (entry GSubscriptTail 0 ∷ st) (at (last_expr x) n) (exprs_end xs m k).lower.lower.lower.lower.lower.lower.lower.lower.comes ∙ ap (λ w. shuts MSubscript (last_expr x) ∷ w) (subscripts os p xs m (st) k (last_expr x) n))))

-- actuals up to their `)`, and subscripts up to their `]`, behind an identifier
pub called : (os : List Name) (p : Places) (d : Expected) (x : Actual) (more : Actuals) (m : ℕ) (st : List StackEntry) (k : List Symbol) (l n : ℕ) → pass3 (spell_actual x (spell_actuals more (word RightParenthesis m ∷ k))) (entry OpenActual 0 ∷ entry GActual 0 ∷ entry ShutActual 0 ∷ entry GActualTail 0 ∷ st) (at l n) ≡ text_actual (marked os) p d x (text_actuals (marked os) p (further_expected d) more (word RightParenthesis m ∷ pass3 k st (at m n)))
called os p d x more m st k l n = actual os p d x (spell_actuals more (word RightParenthesis m ∷ k)) (entry GActualTail 0 ∷ st) l n (actuals_end more m k) ∙ ap (text_actual (marked os) p d x) (actuals os p (further_expected d) more m st k _ n)

pub subscripted : (os : List Name) (p : Places) (x : Expr) (xs : Exprs) (m : ℕ) (st : List StackEntry) (k : List Symbol) (l n : ℕ) → pass3 (spell_expr x (spell_exprs xs (word RightBracket m ∷ k))) (entry OpenSubscript 0 ∷ entry GExpression 0 ∷ entry ShutSubscript 0 ∷ entry GSubscriptTail 0 ∷ st) (at l n) ≡ opens MSubscript (first_expr x) ∷ text_expr (marked os) p x (shuts MSubscript (last_expr x) ∷ text_subscripts (marked os) p xs (word RightBracket m ∷ pass3 k st (at m n)))
subscripted os p x xs m st k l n =
    let w = spell_exprs xs (word RightBracket m ∷ k) in
    open_subscript (spell_expr x w) (first_expr x) false (entry GExpression 0 ∷ entry ShutSubscript 0 ∷ entry GSubscriptTail 0 ∷ st) (at l n) (begins_expr x w)
    ∙ ap (λ w. opens MSubscript (first_expr x) ∷ w) (expr os p WExpression (entry ShutSubscript 0 ∷ entry GSubscriptTail 0 ∷ st) x w true l n (exprs_end xs m k)
    ∙ ap (text_expr (marked os) p x) (shut_subscript w (entry GSubscriptTail 0 ∷ st) (at (last_expr x) n) (exprs_end xs m k).lower.lower.lower.lower.lower.lower.lower.lower.comes
    ∙ ap (λ w. shuts MSubscript (last_expr x) ∷ w) (subscripts os p xs m st k (last_expr x) n)))
