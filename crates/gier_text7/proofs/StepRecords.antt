-- The record of a step expression is its text again, so what is coded again is its code.
use Rattle.std.proofs.Common.{◌≡◌, ◌∙◌, ◌+◌, ℕ, suc, Bool, true, false, List, [], ◌∷◌, refl, ap}
use Rattle.std.specs.Prelude.{Option, None, Some, ◌≤◌, max}
use Rattle.gier_symbol.specs.declared.symbol.Symbol.{Symbol}
use Rattle.gier_symbol.specs.declared.tag.Tag.{Tag}
use Rattle.gier_symbol.specs.declared.tag.Tag.TheVariants.{StringBegin, StringByte, StringEnd, Until, If, LeftParenthesis, Used}
use Rattle.gier_symbol.specs.declared.tag.Tag.TheVariants.{Place, Power, Not, And, Or, Impl, Equiv, RightParenthesis, Then}
use Rattle.gier_symbol.specs.declared.tag.Tag.TheVariants.{Else, Called, Subscripted as TSubscripted}
use Rattle.gier_symbol.specs.ByTag.{sym, word}
use Rattle.gier_tree.specs.declared.construct.Construct.TheVariants.{Actual as MActual, Subscript as MSubscript}
use Rattle.gier_tree.specs.declared.construct.Construct.TheVariants.{ConditionalExpression as MConditional}
use Rattle.gier_tree.specs.declared.kind.Kind.{Kind}
use Rattle.gier_tree.specs.declared.kind.Kind.TheVariants.{IntegerArray}
use Rattle.gier_tree.specs.Kinds.{kind_number}
use Rattle.gier_tree.specs.Lines.{first_expr, last_expr}
use Rattle.gier_tree.specs.Need.{need_expr, count_exprs, count_actuals}
use Rattle.gier_tree.specs.Places.{Placed, Places}
use Rattle.gier_tree.specs.Spell.{adding_tag, multiplying_tag, comparing_tag, logical_tag, spell_bytes}
use Rattle.gier_tree.specs.Written.{place_number, Polished, leading_tag, Expected, opens, shuts, operation, expected_kinds}
use Rattle.gier_tree.specs.Written.{further_expected, is_called_as, is_called_alone, called_alone, count_behind, described_use}
use Rattle.gier_tree.specs.Written.{actual_by, text_name, name_alone, text_expr, text_simple, text_implication}
use Rattle.gier_tree.specs.Written.{text_disjunction, text_conjunction, text_negation, text_relation, text_arithmetic}
use Rattle.gier_tree.specs.Written.{text_term, text_factor, text_primary, text_actual, text_actuals, text_subscripts}
use Rattle.gier_tree.specs.Trees.{Name, Byte, Expr, OneSimple, IfExpr, Simple, OneImplication, Equivalent, Implication}
use Rattle.gier_tree.specs.Trees.{OneDisjunction, Implies, Disjunction, OneConjunction, Either, Conjunction, OneNegation, Both}
use Rattle.gier_tree.specs.Trees.{Negation, OneRelation, Negated, Relation, OneArithmetic, Compared, Arithmetic, OneTerm}
use Rattle.gier_tree.specs.Trees.{Signed, Summed, Term, OneFactor, Multiplied, Factor, OnePrimary, Raised, Primary, Numeral}
use Rattle.gier_tree.specs.Trees.{Logical, Bracketed, OneCall, OneElement, Alone, WithActuals, Subscripted, Actual, OneExpr}
use Rattle.gier_tree.specs.Trees.{AString, Actuals, NoActuals, MoreActuals, Exprs, NoExprs, MoreExprs}
use Rattle.gier_text7.proofs.Expressions.{expr}
use Rattle.gier_tree.specs.Orders.{State, Following}
use Rattle.gier_tree.specs.Coded.{scopes_of, code_expr}
use Rattle.gier_text7.specs.Answers.{given}
use Rattle.gier_text7.specs.PassState.{Open, at}
use Rattle.gier_text7.specs.Ahead.{until_onto}
use Rattle.gier_text7.specs.PurePass.{go}
use Rattle.gier_text7.specs.Codes.{SettlesIf, Quiet, polished, PrimariesAreCoded}

counted : (r : List Symbol) → (kind : Kind) (count l : ℕ) (k : List Symbol)
    → until_onto r (count_behind kind count l k) ≡ count_behind kind count l (until_onto r k)
counted r IntegerArray count l k = refl
counted r _ count l k = refl

used : (r : List Symbol) → (a : Placed) (l : ℕ) (k : List Symbol)
    → until_onto r (described_use a l k) ≡ described_use a l (until_onto r k)
used r a l k = ap (λ w. sym Used (kind_number a.what.kind) l ∷ sym Place (place_number a) l
    ∷ w) (counted r a.what.kind a.what.count l k)

called : (r : List Symbol) → (b : Bool) (l : ℕ) (k : List Symbol)
    → until_onto r (called_alone Polished b l k) ≡ called_alone Polished b l (until_onto r k)
called r true l k = refl
called r false l k = refl

named : (r : List Symbol) → (os : List Name) (p : Places) (b : Bool) (x : Name) (k : List Symbol)
    → until_onto r (text_name (polished os) p b x k) ≡ text_name (polished os) p b x (until_onto r k)
named r os p b x k = used r (p x.number) x.line (called_alone Polished b x.line k)
    ∙ ap (described_use (p x.number) x.line) (called r b x.line k)

bytes : (r : List Symbol) → (bs : List Byte) (k : List Symbol) → until_onto r (spell_bytes bs k) ≡ spell_bytes bs (until_onto r k)
bytes r [] k = refl
bytes r (b ∷ bs) k = ap (λ w. sym StringByte b.value b.line ∷ w) (bytes r bs k)

by_name : (r : List Symbol) → (o : Option Name) (os : List Name) (p : Places) (e : Expected) (written other k : List Symbol)
    → until_onto r written ≡ other → until_onto r (actual_by o (polished os) p e written k)
    ≡ actual_by o (polished os) p e other (until_onto r k)
by_name r None os p e written other k h = h
by_name r (Some x) os p e written other k h = named r os p (is_called_as e (p x.number).what) x k

logical : (r : List Symbol) → (b : Bool) (l : ℕ) (k : List Symbol)
    → until_onto r (word (logical_tag b) l ∷ k) ≡ word (logical_tag b) l ∷ until_onto r k
logical r true l k = refl
logical r false l k = refl

operated : (r : List Symbol) → (t : Tag) (l : ℕ) (k : List Symbol)
    → until_onto r (operation t l ∷ k) ≡ operation t l ∷ until_onto r k
operated r t l k = refl

mutual
  pub expr_until : (r : List Symbol) → (os : List Name) (p : Places) (x : Expr) (k : List Symbol)
      → until_onto r (text_expr (polished os) p x k) ≡ text_expr (polished os) p x (until_onto r k)
  expr_until r os p (OneSimple y) k = simple_until r os p y k
  expr_until r os p (IfExpr i a m s j b) k =
      ap (λ w. opens MConditional i ∷ word If i
      ∷ w) (expr_until r os p a (word Then m
      ∷ text_simple (polished os) p s (word Else j ∷ text_expr (polished os) p b (shuts MConditional (last_expr b) ∷ k)))
      ∙ ap (λ w. text_expr (polished os) p a (word Then m ∷ w)) (simple_until r os p s (word Else j
      ∷ text_expr (polished os) p b (shuts MConditional (last_expr b) ∷ k))
      ∙ ap (λ w. text_simple (polished os) p s (word Else j ∷ w)) (expr_until r os p b (shuts MConditional (last_expr b) ∷ k))))

  simple_until : (r : List Symbol) → (os : List Name) (p : Places) (x : Simple) (k : List Symbol)
      → until_onto r (text_simple (polished os) p x k) ≡ text_simple (polished os) p x (until_onto r k)
  simple_until r os p (OneImplication y) k = implication_until r os p y k
  simple_until r os p (Equivalent x i y) k = simple_until r os p x (text_implication (polished os) p y (operation Equiv i ∷ k))
      ∙ ap (text_simple (polished os) p x) (implication_until r os p y (operation Equiv i ∷ k))

  implication_until : (r : List Symbol) → (os : List Name) (p : Places) (x : Implication) (k : List Symbol)
      → until_onto r (text_implication (polished os) p x k) ≡ text_implication (polished os) p x (until_onto r k)
  implication_until r os p (OneDisjunction y) k = disjunction_until r os p y k
  implication_until r os p (Implies x i y) k = implication_until r os p x (text_disjunction (polished os) p y (operation Impl i ∷ k))
      ∙ ap (text_implication (polished os) p x) (disjunction_until r os p y (operation Impl i ∷ k))

  disjunction_until : (r : List Symbol) → (os : List Name) (p : Places) (x : Disjunction) (k : List Symbol)
      → until_onto r (text_disjunction (polished os) p x k) ≡ text_disjunction (polished os) p x (until_onto r k)
  disjunction_until r os p (OneConjunction y) k = conjunction_until r os p y k
  disjunction_until r os p (Either x i y) k = disjunction_until r os p x (text_conjunction (polished os) p y (operation Or i ∷ k))
      ∙ ap (text_disjunction (polished os) p x) (conjunction_until r os p y (operation Or i ∷ k))

  conjunction_until : (r : List Symbol) → (os : List Name) (p : Places) (x : Conjunction) (k : List Symbol)
      → until_onto r (text_conjunction (polished os) p x k) ≡ text_conjunction (polished os) p x (until_onto r k)
  conjunction_until r os p (OneNegation y) k = negation_until r os p y k
  conjunction_until r os p (Both x i y) k = conjunction_until r os p x (text_negation (polished os) p y (operation And i ∷ k))
      ∙ ap (text_conjunction (polished os) p x) (negation_until r os p y (operation And i ∷ k))

  negation_until : (r : List Symbol) → (os : List Name) (p : Places) (x : Negation) (k : List Symbol)
      → until_onto r (text_negation (polished os) p x k) ≡ text_negation (polished os) p x (until_onto r k)
  negation_until r os p (OneRelation y) k = relation_until r os p y k
  negation_until r os p (Negated i y) k = relation_until r os p y (operation Not i ∷ k)

  relation_until : (r : List Symbol) → (os : List Name) (p : Places) (x : Relation) (k : List Symbol)
      → until_onto r (text_relation (polished os) p x k) ≡ text_relation (polished os) p x (until_onto r k)
  relation_until r os p (OneArithmetic y) k = arithmetic_until r os p y k
  relation_until r os p (Compared x o i y) k =
      arithmetic_until r os p x (text_arithmetic (polished os) p y (operation (comparing_tag o) i ∷ k))
      ∙ ap (text_arithmetic (polished os) p x) (arithmetic_until r os p y (operation (comparing_tag o) i ∷ k))

  arithmetic_until : (r : List Symbol) → (os : List Name) (p : Places) (x : Arithmetic) (k : List Symbol)
      → until_onto r (text_arithmetic (polished os) p x k) ≡ text_arithmetic (polished os) p x (until_onto r k)
  arithmetic_until r os p (OneTerm y) k = term_until r os p y k
  arithmetic_until r os p (Summed x o i y) k =
      arithmetic_until r os p x (text_term (polished os) p y (operation (adding_tag o) i ∷ k))
      ∙ ap (text_arithmetic (polished os) p x) (term_until r os p y (operation (adding_tag o) i ∷ k))
  arithmetic_until r os p (Signed o i y) k = term_until r os p y (operation (leading_tag o) i ∷ k)

  term_until : (r : List Symbol) → (os : List Name) (p : Places) (x : Term) (k : List Symbol)
      → until_onto r (text_term (polished os) p x k) ≡ text_term (polished os) p x (until_onto r k)
  term_until r os p (OneFactor y) k = factor_until r os p y k
  term_until r os p (Multiplied x o i y) k =
      term_until r os p x (text_factor (polished os) p y (operation (multiplying_tag o) i ∷ k))
      ∙ ap (text_term (polished os) p x) (factor_until r os p y (operation (multiplying_tag o) i ∷ k))

  factor_until : (r : List Symbol) → (os : List Name) (p : Places) (x : Factor) (k : List Symbol)
      → until_onto r (text_factor (polished os) p x k) ≡ text_factor (polished os) p x (until_onto r k)
  factor_until r os p (OnePrimary y) k = primary_until r os p y k
  factor_until r os p (Raised x i y) k = factor_until r os p x (text_primary (polished os) p y (operation Power i ∷ k))
      ∙ ap (text_factor (polished os) p x) (primary_until r os p y (operation Power i ∷ k))

  primary_until : (r : List Symbol) → (os : List Name) (p : Places) (x : Primary) (k : List Symbol)
      → until_onto r (text_primary (polished os) p x k) ≡ text_primary (polished os) p x (until_onto r k)
  primary_until r os p (Numeral n i) k = refl
  primary_until r os p (Logical b i) k = logical r b i k
  primary_until r os p (Bracketed i x m) k =
      ap (λ w. word LeftParenthesis i ∷ w) (expr_until r os p x (word RightParenthesis m ∷ k))
  primary_until r os p (OneCall (Alone x)) k = named r os p (is_called_alone (p x.number).what.kind (p x.number).what.count) x k
  primary_until r os p (OneCall (WithActuals x l a more m)) k =
      let e = expected_kinds (p x.number).what in
      let last = sym Called (suc (count_actuals more)) l ∷ k in
      let rest = text_actuals (polished os) p (further_expected e) more last in
      used r (p x.number) x.line (text_actual (polished os) p e a rest)
      ∙ ap (described_use (p x.number) x.line) (actual_until r os p e a rest
      ∙ ap (text_actual (polished os) p e a) (actuals_until r os p (further_expected e) more last))
  primary_until r os p (OneElement (Subscripted x l e es m)) k =
      let last = sym TSubscripted (suc (count_exprs es)) l ∷ k in
      let rest = shuts MSubscript (last_expr e) ∷ text_subscripts (polished os) p es last in
      used r (p x.number) x.line (opens MSubscript (first_expr e) ∷ text_expr (polished os) p e rest)
      ∙ ap (λ w. described_use (p x.number) x.line (opens MSubscript (first_expr e) ∷ w)) (expr_until r os p e rest
      ∙ ap (λ w. text_expr (polished os) p e (shuts MSubscript (last_expr e) ∷ w)) (subscripts_until r os p es last))

  actual_until : (r : List Symbol) → (os : List Name) (p : Places) (e : Expected) (x : Actual) (k : List Symbol)
      → until_onto r (text_actual (polished os) p e x k) ≡ text_actual (polished os) p e x (until_onto r k)
  actual_until r os p e (OneExpr x) k =
      ap (λ w. opens MActual (first_expr x)
      ∷ w) (by_name r (name_alone x) os p e (text_expr (polished os) p x (shuts MActual (last_expr x)
      ∷ k)) (text_expr (polished os) p x (shuts MActual (last_expr x)
      ∷ until_onto r k)) (shuts MActual (last_expr x) ∷ k) (expr_until r os p x (shuts MActual (last_expr x) ∷ k)))
  actual_until r os p e (AString l bs m) k =
      ap (λ w. opens MActual l ∷ word StringBegin l ∷ w) (bytes r bs (word StringEnd m ∷ shuts MActual m ∷ k))

  actuals_until : (r : List Symbol) → (os : List Name) (p : Places) (e : Expected) (x : Actuals) (k : List Symbol)
      → until_onto r (text_actuals (polished os) p e x k) ≡ text_actuals (polished os) p e x (until_onto r k)
  actuals_until r os p e NoActuals k = refl
  actuals_until r os p e (MoreActuals l a more) k =
      actual_until r os p e a (text_actuals (polished os) p (further_expected e) more k)
      ∙ ap (text_actual (polished os) p e a) (actuals_until r os p (further_expected e) more k)

  subscripts_until : (r : List Symbol) → (os : List Name) (p : Places) (x : Exprs) (k : List Symbol)
      → until_onto r (text_subscripts (polished os) p x k) ≡ text_subscripts (polished os) p x (until_onto r k)
  subscripts_until r os p NoExprs k = refl
  subscripts_until r os p (MoreExprs l e es) k =
      ap (λ w. opens MSubscript (first_expr e)
      ∷ w) (expr_until r os p e (shuts MSubscript (last_expr e) ∷ text_subscripts (polished os) p es k)
      ∙ ap (λ w. text_expr (polished os) p e (shuts MSubscript (last_expr e) ∷ w)) (subscripts_until r os p es k))

pub recorded : (r : List Symbol) → (os : List Name) (p : Places) (x : Expr) (m : ℕ) (k : List Symbol)
    → until_onto r (text_expr (polished os) p x (word Until m ∷ k)) ≡ text_expr (polished os) p x r
recorded r os p x m k = expr_until r os p x (word Until m ∷ k)

-- what is taken again is coded again, with other labels
pub again : (os : List Name) (p : Places) → PrimariesAreCoded os p
    → (x : Expr) (m : ℕ) (k r : List Symbol) (level w h v : ℕ) (st : List Open) (s : State) (next : Following) (f : List ℕ)
    → w ≤ h → Quiet st → SettlesIf (name_alone x) r
    → ((s : State) → go r (at level w (max h (w + need_expr (scopes_of p) x)) true 0 None st s) ≡ given (next s) f)
    → go (until_onto r (text_expr (polished os) p x (word Until m ∷ k))) (at level w h false v None st s)
    ≡ given (code_expr p x level w s next) f
again os p right x m k r level w h v st s next f q quiet any go_on =
    ap (λ t. go t (at level w h false v None st s)) (recorded r os p x m k)
    ∙ expr os p right x level w h s.line v st s next f r q quiet any go_on
