-- Text 3 of expressions beside their spelling.
use Rattle.std.proofs.Common.{◌≡◌, ◌∙◌, ℕ, suc, Bool, true, false, List, [], ◌∷◌, refl, sym as back, subst}
use Rattle.gier_symbol.specs.declared.symbol.Symbol.{Symbol}
use Rattle.gier_tree.specs.Places.{Places}
use Rattle.gier_tree.specs.Spell.{ident, spell_bytes, spell_expr, spell_simple, spell_implication, spell_disjunction, spell_conjunction, spell_negation, spell_relation, spell_arithmetic, spell_term, spell_factor, spell_primary, spell_call, spell_element, spell_actual, spell_actuals, spell_exprs}
use Rattle.gier_tree.specs.Written.{Text, Marked, Expected, name_alone, actual_by, is_called_alone, is_called_as, further_expected, expected_kinds, text_name, text_expr, text_simple, text_implication, text_disjunction, text_conjunction, text_negation, text_relation, text_arithmetic, text_term, text_factor, text_primary, text_call, text_element, text_actual, text_actuals, text_subscripts}
use Rattle.gier_tree.specs.Trees.{Name, Byte, Expr, OneSimple, IfExpr, Simple, OneImplication, Equivalent, Implication, OneDisjunction, Implies, Disjunction, OneConjunction, Either, Conjunction, OneNegation, Both, Negation, OneRelation, Negated, Relation, OneArithmetic, Compared, Arithmetic, OneTerm, Signed, Summed, Term, OneFactor, Multiplied, Factor, OnePrimary, Raised, Primary, Numeral, Logical, Bracketed, OneCall, OneElement, Call, Alone, WithActuals, Element, Subscripted, Actual, OneExpr, AString, Actuals, NoActuals, MoreActuals, Exprs, NoExprs, MoreExprs}
use Rattle.gier_sizes.proofs.Slack.{Fits, pays, pays_before, plain, mark}

-- text 3 of a program with these own quantities
abbrev pub marked : List Name → Text
marked os = record { stage = Marked; owns = os }

-- in text 3 an identifier alone is written as it is
pub name_same : (os : List Name) (p : Places) (called : Bool) (x : Name) (rest : List Symbol) → text_name (marked os) p called x rest ≡ ident x ∷ rest
name_same os p true x rest = refl
name_same os p false x rest = refl

actual_by_name : (os : List Name) (p : Places) (a : Expected) (x : Name) (rest : List Symbol) → text_name (marked os) p (is_called_as a (p x.number).what) x rest ≡ text_call (marked os) p (Alone x) rest
actual_by_name os p a x rest = name_same os p _ x rest ∙ back (name_same os p _ x rest)

actual_same : (os : List Name) (p : Places) (a : Expected) (e : Expr) (rest : List Symbol) → actual_by (name_alone e) (marked os) p a (text_expr (marked os) p e rest) rest ≡ text_expr (marked os) p e rest
actual_same os p a (OneSimple (OneImplication (OneDisjunction (OneConjunction (OneNegation (OneRelation (OneArithmetic (OneTerm (OneFactor (OnePrimary (OneCall (Alone x)))))))))))) rest = actual_by_name os p a x rest
actual_same os p a _ rest = refl

pub fits_same : {k : ℕ} {xs zs ys : List Symbol} → xs ≡ zs → Fits k zs ys → Fits k xs ys
fits_same {k} {xs} {zs} {ys} e h = subst (λ w. Fits k w ys) (back e) h

bytes : {k : ℕ} {xs ys : List Symbol} (b : List Byte) → Fits k xs ys → Fits k (spell_bytes b xs) (spell_bytes b ys)
bytes [] h = h
bytes (b ∷ more) h = plain (bytes more h)

mutual
  pub expr : {k : ℕ} {xs ys : List Symbol} (os : List Name) (p : Places) (x : Expr) → Fits k xs ys → Fits k (text_expr (marked os) p x xs) (spell_expr x ys)
  expr os p (OneSimple s) h = simple os p s h
  expr os p (IfExpr l c m s n e) h = pays_before (expr os p c (plain (simple os p s (plain (expr os p e (mark h))))))

  simple : {k : ℕ} {xs ys : List Symbol} (os : List Name) (p : Places) (x : Simple) → Fits k xs ys → Fits k (text_simple (marked os) p x xs) (spell_simple x ys)
  simple os p (OneImplication y) h = implication os p y h
  simple os p (Equivalent x l y) h = simple os p x (plain (implication os p y h))

  implication : {k : ℕ} {xs ys : List Symbol} (os : List Name) (p : Places) (x : Implication) → Fits k xs ys → Fits k (text_implication (marked os) p x xs) (spell_implication x ys)
  implication os p (OneDisjunction y) h = disjunction os p y h
  implication os p (Implies x l y) h = implication os p x (plain (disjunction os p y h))

  disjunction : {k : ℕ} {xs ys : List Symbol} (os : List Name) (p : Places) (x : Disjunction) → Fits k xs ys → Fits k (text_disjunction (marked os) p x xs) (spell_disjunction x ys)
  disjunction os p (OneConjunction y) h = conjunction os p y h
  disjunction os p (Either x l y) h = disjunction os p x (plain (conjunction os p y h))

  conjunction : {k : ℕ} {xs ys : List Symbol} (os : List Name) (p : Places) (x : Conjunction) → Fits k xs ys → Fits k (text_conjunction (marked os) p x xs) (spell_conjunction x ys)
  conjunction os p (OneNegation y) h = negation os p y h
  conjunction os p (Both x l y) h = conjunction os p x (plain (negation os p y h))

  negation : {k : ℕ} {xs ys : List Symbol} (os : List Name) (p : Places) (x : Negation) → Fits k xs ys → Fits k (text_negation (marked os) p x xs) (spell_negation x ys)
  negation os p (OneRelation y) h = relation os p y h
  negation os p (Negated l y) h = plain (relation os p y h)

  relation : {k : ℕ} {xs ys : List Symbol} (os : List Name) (p : Places) (x : Relation) → Fits k xs ys → Fits k (text_relation (marked os) p x xs) (spell_relation x ys)
  relation os p (OneArithmetic y) h = arithmetic os p y h
  relation os p (Compared x o l y) h = arithmetic os p x (plain (arithmetic os p y h))

  arithmetic : {k : ℕ} {xs ys : List Symbol} (os : List Name) (p : Places) (x : Arithmetic) → Fits k xs ys → Fits k (text_arithmetic (marked os) p x xs) (spell_arithmetic x ys)
  arithmetic os p (OneTerm y) h = term os p y h
  arithmetic os p (Signed o l y) h = plain (term os p y h)
  arithmetic os p (Summed x o l y) h = arithmetic os p x (plain (term os p y h))

  term : {k : ℕ} {xs ys : List Symbol} (os : List Name) (p : Places) (x : Term) → Fits k xs ys → Fits k (text_term (marked os) p x xs) (spell_term x ys)
  term os p (OneFactor y) h = factor os p y h
  term os p (Multiplied x o l y) h = term os p x (plain (factor os p y h))

  factor : {k : ℕ} {xs ys : List Symbol} (os : List Name) (p : Places) (x : Factor) → Fits k xs ys → Fits k (text_factor (marked os) p x xs) (spell_factor x ys)
  factor os p (OnePrimary y) h = primary os p y h
  factor os p (Raised x l y) h = factor os p x (plain (primary os p y h))

  primary : {k : ℕ} {xs ys : List Symbol} (os : List Name) (p : Places) (x : Primary) → Fits k xs ys → Fits k (text_primary (marked os) p x xs) (spell_primary x ys)
  primary os p (Numeral n l) h = plain h
  primary os p (Logical b l) h = plain h
  primary os p (Bracketed l e m) h = plain (expr os p e (plain h))
  primary os p (OneCall c) h = call os p c h
  primary os p (OneElement e) h = element os p e h

  pub call : {k : ℕ} {xs ys : List Symbol} (os : List Name) (p : Places) (x : Call) → Fits k xs ys → Fits k (text_call (marked os) p x xs) (spell_call x ys)
  call os p (Alone x) h = fits_same (name_same os p (is_called_alone (p x.number).what.kind (p x.number).what.count) x _) (plain h)
  call os p (WithActuals x l a more m) h =
      let e = expected_kinds (p x.number).what in
      plain (pays (actual os p e a (actuals os p (further_expected e) more (plain h))))

  pub element : {k : ℕ} {xs ys : List Symbol} (os : List Name) (p : Places) (x : Element) → Fits k xs ys → Fits k (text_element (marked os) p x xs) (spell_element x ys)
  element os p (Subscripted x l e es m) h = plain (pays (mark (expr os p e (mark (subscripts os p es (plain h))))))

  actual : {k : ℕ} {xs ys : List Symbol} (os : List Name) (p : Places) (d : Expected) (x : Actual) → Fits k xs ys → Fits (suc (suc k)) (text_actual (marked os) p d x xs) (spell_actual x ys)
  actual os p d (OneExpr x) h = mark (fits_same (actual_same os p d x _) (expr os p x (mark h)))
  actual os p d (AString l b m) h = mark (plain (bytes b (plain (mark h))))

  actuals : {k : ℕ} {xs ys : List Symbol} (os : List Name) (p : Places) (d : Expected) (x : Actuals) → Fits k xs ys → Fits k (text_actuals (marked os) p d x xs) (spell_actuals x ys)
  actuals os p d NoActuals h = h
  actuals os p d (MoreActuals l a more) h = pays (actual os p d a (actuals os p (further_expected d) more h))

  subscripts : {k : ℕ} {xs ys : List Symbol} (os : List Name) (p : Places) (x : Exprs) → Fits k xs ys → Fits k (text_subscripts (marked os) p x xs) (spell_exprs x ys)
  subscripts os p NoExprs h = h
  subscripts os p (MoreExprs l e es) h = pays (mark (expr os p e (mark (subscripts os p es h))))

-- an expression between marks
pub enclosed : {k : ℕ} {xs ys : List Symbol} (m n : Symbol) (os : List Name) (p : Places) (x : Expr) → Fits k xs ys → Fits (suc (suc k)) (m ∷ text_expr (marked os) p x (n ∷ xs)) (spell_expr x ys)
enclosed m n os p x h = mark (expr os p x (mark h))
