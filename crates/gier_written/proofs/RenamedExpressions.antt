-- Renaming changes no line, and where it is taken back it changes nothing in text 4 of expressions.
use Rattle.std.proofs.Common.{◌≡◌, ◌∙◌, ℕ, Bool, true, false, List, ◌∷◌, refl, sym as back, ap}
use Rattle.gier_symbol.specs.declared.symbol.Symbol.{Symbol}
use Rattle.gier_symbol.specs.declared.tag.Tag.TheVariants.{Identifier, Power, Not, And, Or, Impl, Equiv, Comma, LeftParenthesis, LeftBracket, If, Then, Else}
use Rattle.gier_symbol.specs.ByTag.{sym, word}
use Rattle.gier_tree.specs.declared.construct.Construct.TheVariants.{Actual as MActual, Subscript as MSubscript, ConditionalExpression as MConditional}
use Rattle.gier_tree.specs.Lines.{first_expr, first_simple, first_implication, first_disjunction, first_conjunction, first_negation, first_relation, first_arithmetic, first_term, first_factor, first_primary, first_call, first_element, last_expr, last_simple, last_implication, last_disjunction, last_conjunction, last_negation, last_relation, last_arithmetic, last_term, last_factor, last_primary, last_call, last_element, last_exprs}
use Rattle.gier_tree.specs.Places.{Places}
use Rattle.gier_tree.specs.Rename.{Renaming, rename, rename_expr, rename_simple, rename_implication, rename_disjunction, rename_conjunction, rename_negation, rename_relation, rename_arithmetic, rename_term, rename_factor, rename_primary, rename_call, rename_element, rename_actual, rename_actuals, rename_exprs}
use Rattle.gier_tree.specs.Spell.{adding_tag, multiplying_tag, comparing_tag}
use Rattle.gier_tree.specs.Written.{Expected, opens, shuts, leading_tag, used_name, called_alone, name_alone, actual_by, expected_kinds, further_expected, text_name, text_expr, text_simple, text_implication, text_disjunction, text_conjunction, text_negation, text_relation, text_arithmetic, text_term, text_factor, text_primary, text_call, text_element, text_actual, text_actuals, text_subscripts}
use Rattle.gier_tree.specs.Trees.{Name, Expr, OneSimple, IfExpr, Simple, OneImplication, Equivalent, Implication, OneDisjunction, Implies, Disjunction, OneConjunction, Either, Conjunction, OneNegation, Both, Negation, OneRelation, Negated, Relation, OneArithmetic, Compared, Arithmetic, OneTerm, Signed, Summed, Term, OneFactor, Multiplied, Factor, OnePrimary, Raised, Primary, Numeral, Logical, Bracketed, OneCall, OneElement, Call, Alone, WithActuals, Element, Subscripted, Actual, OneExpr, AString, Actuals, NoActuals, MoreActuals, Exprs, NoExprs, MoreExprs}
use Rattle.gier_written.specs.Renamed.{collected_text, IsUndone}

mutual
  pub first_same_expr : (f : Renaming) (x : Expr) → first_expr (rename_expr f x) ≡ first_expr x
  first_same_expr f (OneSimple y) = first_same_simple f y
  first_same_expr f (IfExpr l c m s n e) = refl

  pub first_same_simple : (f : Renaming) (x : Simple) → first_simple (rename_simple f x) ≡ first_simple x
  first_same_simple f (OneImplication y) = first_same_implication f y
  first_same_simple f (Equivalent y l z) = first_same_simple f y

  pub first_same_implication : (f : Renaming) (x : Implication) → first_implication (rename_implication f x) ≡ first_implication x
  first_same_implication f (OneDisjunction y) = first_same_disjunction f y
  first_same_implication f (Implies y l z) = first_same_implication f y

  pub first_same_disjunction : (f : Renaming) (x : Disjunction) → first_disjunction (rename_disjunction f x) ≡ first_disjunction x
  first_same_disjunction f (OneConjunction y) = first_same_conjunction f y
  first_same_disjunction f (Either y l z) = first_same_disjunction f y

  pub first_same_conjunction : (f : Renaming) (x : Conjunction) → first_conjunction (rename_conjunction f x) ≡ first_conjunction x
  first_same_conjunction f (OneNegation y) = first_same_negation f y
  first_same_conjunction f (Both y l z) = first_same_conjunction f y

  pub first_same_negation : (f : Renaming) (x : Negation) → first_negation (rename_negation f x) ≡ first_negation x
  first_same_negation f (OneRelation y) = first_same_relation f y
  first_same_negation f (Negated l r) = refl

  pub first_same_relation : (f : Renaming) (x : Relation) → first_relation (rename_relation f x) ≡ first_relation x
  first_same_relation f (OneArithmetic y) = first_same_arithmetic f y
  first_same_relation f (Compared y o l z) = first_same_arithmetic f y

  pub first_same_arithmetic : (f : Renaming) (x : Arithmetic) → first_arithmetic (rename_arithmetic f x) ≡ first_arithmetic x
  first_same_arithmetic f (OneTerm y) = first_same_term f y
  first_same_arithmetic f (Signed o l t) = refl
  first_same_arithmetic f (Summed y o l t) = first_same_arithmetic f y

  pub first_same_term : (f : Renaming) (x : Term) → first_term (rename_term f x) ≡ first_term x
  first_same_term f (OneFactor y) = first_same_factor f y
  first_same_term f (Multiplied y o l z) = first_same_term f y

  pub first_same_factor : (f : Renaming) (x : Factor) → first_factor (rename_factor f x) ≡ first_factor x
  first_same_factor f (OnePrimary y) = first_same_primary f y
  first_same_factor f (Raised y l z) = first_same_factor f y

  first_same_primary : (f : Renaming) (x : Primary) → first_primary (rename_primary f x) ≡ first_primary x
  first_same_primary f (Numeral n l) = refl
  first_same_primary f (Logical b l) = refl
  first_same_primary f (Bracketed l e m) = refl
  first_same_primary f (OneCall c) = first_same_call f c
  first_same_primary f (OneElement e) = first_same_element f e

  pub first_same_call : (f : Renaming) (x : Call) → first_call (rename_call f x) ≡ first_call x
  first_same_call f (Alone x) = refl
  first_same_call f (WithActuals x l a more m) = refl

  pub first_same_element : (f : Renaming) (x : Element) → first_element (rename_element f x) ≡ first_element x
  first_same_element f (Subscripted x l e es m) = refl

pub last_same_call : (f : Renaming) (x : Call) → last_call (rename_call f x) ≡ last_call x
last_same_call f (Alone x) = refl
last_same_call f (WithActuals x l a more m) = refl

last_same_element : (f : Renaming) (x : Element) → last_element (rename_element f x) ≡ last_element x
last_same_element f (Subscripted x l e es m) = refl

last_same_primary : (f : Renaming) (x : Primary) → last_primary (rename_primary f x) ≡ last_primary x
last_same_primary f (Numeral n l) = refl
last_same_primary f (Logical b l) = refl
last_same_primary f (Bracketed l e m) = refl
last_same_primary f (OneCall c) = last_same_call f c
last_same_primary f (OneElement e) = last_same_element f e

last_same_factor : (f : Renaming) (x : Factor) → last_factor (rename_factor f x) ≡ last_factor x
last_same_factor f (OnePrimary y) = last_same_primary f y
last_same_factor f (Raised y l z) = last_same_primary f z

last_same_term : (f : Renaming) (x : Term) → last_term (rename_term f x) ≡ last_term x
last_same_term f (OneFactor y) = last_same_factor f y
last_same_term f (Multiplied y o l z) = last_same_factor f z

last_same_arithmetic : (f : Renaming) (x : Arithmetic) → last_arithmetic (rename_arithmetic f x) ≡ last_arithmetic x
last_same_arithmetic f (OneTerm y) = last_same_term f y
last_same_arithmetic f (Signed o l t) = last_same_term f t
last_same_arithmetic f (Summed y o l t) = last_same_term f t

last_same_relation : (f : Renaming) (x : Relation) → last_relation (rename_relation f x) ≡ last_relation x
last_same_relation f (OneArithmetic y) = last_same_arithmetic f y
last_same_relation f (Compared y o l z) = last_same_arithmetic f z

last_same_negation : (f : Renaming) (x : Negation) → last_negation (rename_negation f x) ≡ last_negation x
last_same_negation f (OneRelation y) = last_same_relation f y
last_same_negation f (Negated l r) = last_same_relation f r

last_same_conjunction : (f : Renaming) (x : Conjunction) → last_conjunction (rename_conjunction f x) ≡ last_conjunction x
last_same_conjunction f (OneNegation y) = last_same_negation f y
last_same_conjunction f (Both y l z) = last_same_negation f z

last_same_disjunction : (f : Renaming) (x : Disjunction) → last_disjunction (rename_disjunction f x) ≡ last_disjunction x
last_same_disjunction f (OneConjunction y) = last_same_conjunction f y
last_same_disjunction f (Either y l z) = last_same_conjunction f z

last_same_implication : (f : Renaming) (x : Implication) → last_implication (rename_implication f x) ≡ last_implication x
last_same_implication f (OneDisjunction y) = last_same_disjunction f y
last_same_implication f (Implies y l z) = last_same_disjunction f z

last_same_simple : (f : Renaming) (x : Simple) → last_simple (rename_simple f x) ≡ last_simple x
last_same_simple f (OneImplication y) = last_same_implication f y
last_same_simple f (Equivalent y l z) = last_same_implication f z

pub last_same_expr : (f : Renaming) (x : Expr) → last_expr (rename_expr f x) ≡ last_expr x
last_same_expr f (OneSimple s) = last_same_simple f s
last_same_expr f (IfExpr l c m s n e) = last_same_expr f e

pub last_same_exprs : (f : Renaming) (n : ℕ) (es : Exprs) → last_exprs n (rename_exprs f es) ≡ last_exprs n es
last_same_exprs f n NoExprs = refl
last_same_exprs f n (MoreExprs l e es) = last_same_exprs f (last_expr (rename_expr f e)) es ∙ ap (λ m. last_exprs m es) (last_same_expr f e)

-- the text of a used_name identifier
pub use_same : (os : List Name) (f : Renaming) (h : IsUndone os f) (p q : Places) (x : Name) (k : List Symbol) → used_name (collected_text os) p (rename f x) k ≡ used_name (collected_text os) q x k
use_same os f h p q x k = ap (λ n. sym Identifier n x.line ∷ k) (h x.number)

called_four : (os : List Name) (b : Bool) (l : ℕ) (k : List Symbol) → called_alone (collected_text os).stage b l k ≡ k
called_four os true l k = refl
called_four os false l k = refl

pub name_same : (os : List Name) (f : Renaming) (h : IsUndone os f) (p q : Places) (b c : Bool) (x : Name) (k : List Symbol) → text_name (collected_text os) p b (rename f x) k ≡ text_name (collected_text os) q c x k
name_same os f h p q b c x k = use_same os f h p q x _ ∙ ap (λ r. used_name (collected_text os) q x r) (called_four os b x.line k ∙ back (called_four os c x.line k))

-- an identifier alone as an actual is written as it is anywhere
pub alone_is : (os : List Name) (p : Places) (g : Expected) (e : Expr) (k : List Symbol) → actual_by (name_alone e) (collected_text os) p g (text_expr (collected_text os) p e k) k ≡ text_expr (collected_text os) p e k
alone_is os p g (OneSimple (OneImplication (OneDisjunction (OneConjunction (OneNegation (OneRelation (OneArithmetic (OneTerm (OneFactor (OnePrimary (OneCall (Alone x)))))))))))) k = ap (λ r. used_name (collected_text os) p x r) (called_four os _ x.line k ∙ back (called_four os _ x.line k))
alone_is os p g _ k = refl

mutual
  pub same_expr : (os : List Name) (f : Renaming) (h : IsUndone os f) (p q : Places) (x : Expr) (k : List Symbol) → text_expr (collected_text os) p (rename_expr f x) k ≡ text_expr (collected_text os) q x k
  same_expr os f h p q (OneSimple y) k = same_simple os f h p q y k
  same_expr os f h p q (IfExpr l c m s n e) k = rw (last_same_expr f e) (ap (λ r. opens MConditional l ∷ word If l ∷ r) (same_expr os f h p q c _ ∙ ap (λ r. text_expr (collected_text os) q c (word Then m ∷ r)) (same_simple os f h p q s _ ∙ ap (λ r. text_simple (collected_text os) q s (word Else n ∷ r)) (same_expr os f h p q e _))))

  pub same_simple : (os : List Name) (f : Renaming) (h : IsUndone os f) (p q : Places) (x : Simple) (k : List Symbol) → text_simple (collected_text os) p (rename_simple f x) k ≡ text_simple (collected_text os) q x k
  same_simple os f h p q (OneImplication y) k = same_implication os f h p q y k
  same_simple os f h p q (Equivalent y l z) k = same_simple os f h p q y _ ∙ ap (λ r. text_simple (collected_text os) q y (word Equiv l ∷ r)) (same_implication os f h p q z k)

  pub same_implication : (os : List Name) (f : Renaming) (h : IsUndone os f) (p q : Places) (x : Implication) (k : List Symbol) → text_implication (collected_text os) p (rename_implication f x) k ≡ text_implication (collected_text os) q x k
  same_implication os f h p q (OneDisjunction y) k = same_disjunction os f h p q y k
  same_implication os f h p q (Implies y l z) k = same_implication os f h p q y _ ∙ ap (λ r. text_implication (collected_text os) q y (word Impl l ∷ r)) (same_disjunction os f h p q z k)

  pub same_disjunction : (os : List Name) (f : Renaming) (h : IsUndone os f) (p q : Places) (x : Disjunction) (k : List Symbol) → text_disjunction (collected_text os) p (rename_disjunction f x) k ≡ text_disjunction (collected_text os) q x k
  same_disjunction os f h p q (OneConjunction y) k = same_conjunction os f h p q y k
  same_disjunction os f h p q (Either y l z) k = same_disjunction os f h p q y _ ∙ ap (λ r. text_disjunction (collected_text os) q y (word Or l ∷ r)) (same_conjunction os f h p q z k)

  pub same_conjunction : (os : List Name) (f : Renaming) (h : IsUndone os f) (p q : Places) (x : Conjunction) (k : List Symbol) → text_conjunction (collected_text os) p (rename_conjunction f x) k ≡ text_conjunction (collected_text os) q x k
  same_conjunction os f h p q (OneNegation y) k = same_negation os f h p q y k
  same_conjunction os f h p q (Both y l z) k = same_conjunction os f h p q y _ ∙ ap (λ r. text_conjunction (collected_text os) q y (word And l ∷ r)) (same_negation os f h p q z k)

  pub same_negation : (os : List Name) (f : Renaming) (h : IsUndone os f) (p q : Places) (x : Negation) (k : List Symbol) → text_negation (collected_text os) p (rename_negation f x) k ≡ text_negation (collected_text os) q x k
  same_negation os f h p q (OneRelation y) k = same_relation os f h p q y k
  same_negation os f h p q (Negated l r) k = ap (λ r. word Not l ∷ r) (same_relation os f h p q r k)

  pub same_relation : (os : List Name) (f : Renaming) (h : IsUndone os f) (p q : Places) (x : Relation) (k : List Symbol) → text_relation (collected_text os) p (rename_relation f x) k ≡ text_relation (collected_text os) q x k
  same_relation os f h p q (OneArithmetic y) k = same_arithmetic os f h p q y k
  same_relation os f h p q (Compared y o l z) k = same_arithmetic os f h p q y _ ∙ ap (λ r. text_arithmetic (collected_text os) q y (word (comparing_tag o) l ∷ r)) (same_arithmetic os f h p q z k)

  pub same_arithmetic : (os : List Name) (f : Renaming) (h : IsUndone os f) (p q : Places) (x : Arithmetic) (k : List Symbol) → text_arithmetic (collected_text os) p (rename_arithmetic f x) k ≡ text_arithmetic (collected_text os) q x k
  same_arithmetic os f h p q (OneTerm y) k = same_term os f h p q y k
  same_arithmetic os f h p q (Signed o l t) k = ap (λ r. word (leading_tag o) l ∷ r) (same_term os f h p q t k)
  same_arithmetic os f h p q (Summed y o l t) k = same_arithmetic os f h p q y _ ∙ ap (λ r. text_arithmetic (collected_text os) q y (word (adding_tag o) l ∷ r)) (same_term os f h p q t k)

  pub same_term : (os : List Name) (f : Renaming) (h : IsUndone os f) (p q : Places) (x : Term) (k : List Symbol) → text_term (collected_text os) p (rename_term f x) k ≡ text_term (collected_text os) q x k
  same_term os f h p q (OneFactor y) k = same_factor os f h p q y k
  same_term os f h p q (Multiplied y o l z) k = same_term os f h p q y _ ∙ ap (λ r. text_term (collected_text os) q y (word (multiplying_tag o) l ∷ r)) (same_factor os f h p q z k)

  pub same_factor : (os : List Name) (f : Renaming) (h : IsUndone os f) (p q : Places) (x : Factor) (k : List Symbol) → text_factor (collected_text os) p (rename_factor f x) k ≡ text_factor (collected_text os) q x k
  same_factor os f h p q (OnePrimary y) k = same_primary os f h p q y k
  same_factor os f h p q (Raised y l z) k = same_factor os f h p q y _ ∙ ap (λ r. text_factor (collected_text os) q y (word Power l ∷ r)) (same_primary os f h p q z k)

  pub same_primary : (os : List Name) (f : Renaming) (h : IsUndone os f) (p q : Places) (x : Primary) (k : List Symbol) → text_primary (collected_text os) p (rename_primary f x) k ≡ text_primary (collected_text os) q x k
  same_primary os f h p q (Numeral n l) k = refl
  same_primary os f h p q (Logical b l) k = refl
  same_primary os f h p q (Bracketed l e m) k = ap (λ r. word LeftParenthesis l ∷ r) (same_expr os f h p q e _)
  same_primary os f h p q (OneCall c) k = same_call os f h p q c k
  same_primary os f h p q (OneElement e) k = same_element os f h p q e k

  pub same_call : (os : List Name) (f : Renaming) (h : IsUndone os f) (p q : Places) (x : Call) (k : List Symbol) → text_call (collected_text os) p (rename_call f x) k ≡ text_call (collected_text os) q x k
  same_call os f h p q (Alone x) k = name_same os f h p q _ _ x k
  same_call os f h p q (WithActuals x l a more m) k = use_same os f h p q x _ ∙ ap (λ r. used_name (collected_text os) q x (word LeftParenthesis l ∷ r)) (same_actual os f h p q _ (expected_kinds (q x.number).what) a _ ∙ ap (λ r. text_actual (collected_text os) q (expected_kinds (q x.number).what) a r) (same_actuals os f h p q _ (further_expected (expected_kinds (q x.number).what)) more _))

  pub same_element : (os : List Name) (f : Renaming) (h : IsUndone os f) (p q : Places) (x : Element) (k : List Symbol) → text_element (collected_text os) p (rename_element f x) k ≡ text_element (collected_text os) q x k
  same_element os f h p q (Subscripted x l e es m) k = rw (first_same_expr f e) (rw (last_same_expr f e) (use_same os f h p q x _ ∙ ap (λ r. used_name (collected_text os) q x (word LeftBracket l ∷ opens MSubscript (first_expr e) ∷ r)) (same_expr os f h p q e _ ∙ ap (λ r. text_expr (collected_text os) q e (shuts MSubscript (last_expr e) ∷ r)) (same_subscripts os f h p q es _))))

  pub same_actual : (os : List Name) (f : Renaming) (h : IsUndone os f) (p q : Places) (g g' : Expected) (x : Actual) (k : List Symbol) → text_actual (collected_text os) p g (rename_actual f x) k ≡ text_actual (collected_text os) q g' x k
  same_actual os f h p q g g' (OneExpr e) k = rw (first_same_expr f e) (rw (last_same_expr f e) (ap (λ r. opens MActual (first_expr e) ∷ r) (alone_is os p g (rename_expr f e) _ ∙ same_expr os f h p q e _ ∙ back (alone_is os q g' e _))))
  same_actual os f h p q g g' (AString l bs m) k = refl

  pub same_actuals : (os : List Name) (f : Renaming) (h : IsUndone os f) (p q : Places) (g g' : Expected) (x : Actuals) (k : List Symbol) → text_actuals (collected_text os) p g (rename_actuals f x) k ≡ text_actuals (collected_text os) q g' x k
  same_actuals os f h p q g g' NoActuals k = refl
  same_actuals os f h p q g g' (MoreActuals l a more) k = ap (λ r. word Comma l ∷ r) (same_actual os f h p q g g' a _ ∙ ap (λ r. text_actual (collected_text os) q g' a r) (same_actuals os f h p q (further_expected g) (further_expected g') more k))

  pub same_subscripts : (os : List Name) (f : Renaming) (h : IsUndone os f) (p q : Places) (x : Exprs) (k : List Symbol) → text_subscripts (collected_text os) p (rename_exprs f x) k ≡ text_subscripts (collected_text os) q x k
  same_subscripts os f h p q NoExprs k = refl
  same_subscripts os f h p q (MoreExprs l e es) k = rw (first_same_expr f e) (rw (last_same_expr f e) (ap (λ r. word Comma l ∷ opens MSubscript (first_expr e) ∷ r) (same_expr os f h p q e _ ∙ ap (λ r. text_expr (collected_text os) q e (shuts MSubscript (last_expr e) ∷ r)) (same_subscripts os f h p q es k))))
