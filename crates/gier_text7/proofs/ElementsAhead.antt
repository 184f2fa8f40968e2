-- No symbol of an expression counts for what a look ahead seeks.
use Rattle.std.proofs.Common.{◌≡◌, ◌∙◌, ℕ, suc, Bool, true, false, List, [], ◌∷◌, refl}
use Rattle.std.specs.Prelude.{Option, None, Some}
use Rattle.gier_symbol.specs.declared.symbol.Symbol.{Symbol}
use Rattle.gier_symbol.specs.declared.tag.Tag.TheVariants.{StringEnd, Power, Not, And, Or, Impl, Equiv, RightParenthesis, Then}
use Rattle.gier_symbol.specs.declared.tag.Tag.TheVariants.{Else, Called, Subscripted as TSubscripted}
use Rattle.gier_symbol.specs.ByTag.{sym, word}
use Rattle.gier_tree.specs.declared.construct.Construct.TheVariants.{Actual as MActual, Subscript as MSubscript}
use Rattle.gier_tree.specs.declared.construct.Construct.TheVariants.{ConditionalExpression as MConditional}
use Rattle.gier_tree.specs.declared.kind.Kind.{Kind}
use Rattle.gier_tree.specs.declared.kind.Kind.TheVariants.{IntegerArray}
use Rattle.gier_tree.specs.Lines.{first_expr, last_expr}
use Rattle.gier_tree.specs.Need.{count_exprs, count_actuals}
use Rattle.gier_tree.specs.Places.{Placed, Places}
use Rattle.gier_tree.specs.Spell.{adding_tag, multiplying_tag, comparing_tag, logical_tag, spell_bytes}
use Rattle.gier_tree.specs.Written.{Polished, leading_tag, Expected, opens, shuts, operation, expected_kinds, further_expected}
use Rattle.gier_tree.specs.Written.{is_called_as, is_called_alone, called_alone, count_behind, described_use, actual_by}
use Rattle.gier_tree.specs.Written.{text_name, name_alone, text_expr, text_simple, text_implication, text_disjunction}
use Rattle.gier_tree.specs.Written.{text_conjunction, text_negation, text_relation, text_arithmetic, text_term, text_factor}
use Rattle.gier_tree.specs.Written.{text_primary, text_actual, text_actuals, text_subscripts}
use Rattle.gier_tree.specs.Trees.{Name, Byte, Expr, OneSimple, IfExpr, Simple, OneImplication, Equivalent, Implication}
use Rattle.gier_tree.specs.Trees.{OneDisjunction, Implies, Disjunction, OneConjunction, Either, Conjunction, OneNegation, Both}
use Rattle.gier_tree.specs.Trees.{Negation, OneRelation, Negated, Relation, OneArithmetic, Compared, Arithmetic, OneTerm}
use Rattle.gier_tree.specs.Trees.{Signed, Summed, Term, OneFactor, Multiplied, Factor, OnePrimary, Raised, Primary, Numeral}
use Rattle.gier_tree.specs.Trees.{Logical, Bracketed, OneCall, OneElement, Alone, WithActuals, Subscripted, Actual, OneExpr}
use Rattle.gier_tree.specs.Trees.{AString, Actuals, NoActuals, MoreActuals, Exprs, NoExprs, MoreExprs}
use Rattle.gier_text7.specs.Ahead.{elements_ahead}
use Rattle.gier_text7.specs.Codes.{polished}

abbrev ahead : List Symbol → ℕ
ahead = elements_ahead

counted : (kind : Kind) (count l : ℕ) (k : List Symbol) → ahead (count_behind kind count l k) ≡ ahead k
counted IntegerArray count l k = refl
counted _ count l k = refl

used : (a : Placed) (l : ℕ) (k : List Symbol) → ahead (described_use a l k) ≡ ahead k
used a l k = counted a.what.kind a.what.count l k

called : (b : Bool) (l : ℕ) (k : List Symbol) → ahead (called_alone Polished b l k) ≡ ahead k
called true l k = refl
called false l k = refl

named : (os : List Name) (p : Places) (b : Bool) (x : Name) (k : List Symbol) → ahead (text_name (polished os) p b x k) ≡ ahead k
named os p b x k = used (p x.number) x.line (called_alone Polished b x.line k) ∙ called b x.line k

bytes : (bs : List Byte) (k : List Symbol) → ahead (spell_bytes bs k) ≡ ahead k
bytes [] k = refl
bytes (b ∷ bs) k = bytes bs k

by_name : (o : Option Name) (os : List Name) (p : Places) (e : Expected) (written k : List Symbol) → ahead written ≡ ahead k
    → ahead (actual_by o (polished os) p e written k) ≡ ahead k
by_name None os p e written k h = h
by_name (Some x) os p e written k h = named os p (is_called_as e (p x.number).what) x k

logical : (b : Bool) (l : ℕ) (k : List Symbol) → ahead (word (logical_tag b) l ∷ k) ≡ ahead k
logical true l k = refl
logical false l k = refl

mutual
  pub expr_ahead : (os : List Name) (p : Places) (x : Expr) (k : List Symbol) → ahead (text_expr (polished os) p x k) ≡ ahead k
  expr_ahead os p (OneSimple y) k = simple_ahead os p y k
  expr_ahead os p (IfExpr i a m s j b) k =
      expr_ahead os p a (word Then m ∷ text_simple (polished os) p s (word Else j
      ∷ text_expr (polished os) p b (shuts MConditional (last_expr b)
      ∷ k))) ∙ simple_ahead os p s (word Else j ∷ text_expr (polished os) p b (shuts MConditional (last_expr b) ∷ k)) ∙ expr_ahead os
      p b (shuts MConditional (last_expr b) ∷ k)

  simple_ahead : (os : List Name) (p : Places) (x : Simple) (k : List Symbol) → ahead (text_simple (polished os) p x k) ≡ ahead k
  simple_ahead os p (OneImplication y) k = implication_ahead os p y k
  simple_ahead os p (Equivalent x i y) k = simple_ahead os p x (text_implication (polished os) p y (operation Equiv i ∷ k))
      ∙ implication_ahead os p y (operation Equiv i ∷ k)

  implication_ahead : (os : List Name) (p : Places) (x : Implication) (k : List Symbol)
      → ahead (text_implication (polished os) p x k) ≡ ahead k
  implication_ahead os p (OneDisjunction y) k = disjunction_ahead os p y k
  implication_ahead os p (Implies x i y) k = implication_ahead os p x (text_disjunction (polished os) p y (operation Impl i ∷ k))
      ∙ disjunction_ahead os p y (operation Impl i ∷ k)

  disjunction_ahead : (os : List Name) (p : Places) (x : Disjunction) (k : List Symbol)
      → ahead (text_disjunction (polished os) p x k) ≡ ahead k
  disjunction_ahead os p (OneConjunction y) k = conjunction_ahead os p y k
  disjunction_ahead os p (Either x i y) k = disjunction_ahead os p x (text_conjunction (polished os) p y (operation Or i ∷ k))
      ∙ conjunction_ahead os p y (operation Or i ∷ k)

  conjunction_ahead : (os : List Name) (p : Places) (x : Conjunction) (k : List Symbol)
      → ahead (text_conjunction (polished os) p x k) ≡ ahead k
  conjunction_ahead os p (OneNegation y) k = negation_ahead os p y k
  conjunction_ahead os p (Both x i y) k = conjunction_ahead os p x (text_negation (polished os) p y (operation And i ∷ k))
      ∙ negation_ahead os p y (operation And i ∷ k)

  negation_ahead : (os : List Name) (p : Places) (x : Negation) (k : List Symbol) → ahead (text_negation (polished os) p x k) ≡ ahead k
  negation_ahead os p (OneRelation y) k = relation_ahead os p y k
  negation_ahead os p (Negated i y) k = relation_ahead os p y (operation Not i ∷ k)

  relation_ahead : (os : List Name) (p : Places) (x : Relation) (k : List Symbol) → ahead (text_relation (polished os) p x k) ≡ ahead k
  relation_ahead os p (OneArithmetic y) k = arithmetic_ahead os p y k
  relation_ahead os p (Compared x o i y) k =
      arithmetic_ahead os p x (text_arithmetic (polished os) p y (operation (comparing_tag o) i ∷ k))
      ∙ arithmetic_ahead os p y (operation (comparing_tag o) i ∷ k)

  arithmetic_ahead : (os : List Name) (p : Places) (x : Arithmetic) (k : List Symbol)
      → ahead (text_arithmetic (polished os) p x k) ≡ ahead k
  arithmetic_ahead os p (OneTerm y) k = term_ahead os p y k
  arithmetic_ahead os p (Summed x o i y) k = arithmetic_ahead os p x (text_term (polished os) p y (operation (adding_tag o) i ∷ k))
      ∙ term_ahead os p y (operation (adding_tag o) i ∷ k)
  arithmetic_ahead os p (Signed o i y) k = term_ahead os p y (operation (leading_tag o) i ∷ k)

  term_ahead : (os : List Name) (p : Places) (x : Term) (k : List Symbol) → ahead (text_term (polished os) p x k) ≡ ahead k
  term_ahead os p (OneFactor y) k = factor_ahead os p y k
  term_ahead os p (Multiplied x o i y) k = term_ahead os p x (text_factor (polished os) p y (operation (multiplying_tag o) i ∷ k))
      ∙ factor_ahead os p y (operation (multiplying_tag o) i ∷ k)

  factor_ahead : (os : List Name) (p : Places) (x : Factor) (k : List Symbol) → ahead (text_factor (polished os) p x k) ≡ ahead k
  factor_ahead os p (OnePrimary y) k = primary_ahead os p y k
  factor_ahead os p (Raised x i y) k = factor_ahead os p x (text_primary (polished os) p y (operation Power i ∷ k))
      ∙ primary_ahead os p y (operation Power i ∷ k)

  primary_ahead : (os : List Name) (p : Places) (x : Primary) (k : List Symbol) → ahead (text_primary (polished os) p x k) ≡ ahead k
  primary_ahead os p (Numeral n i) k = refl
  primary_ahead os p (Logical b i) k = logical b i k
  primary_ahead os p (Bracketed i x m) k = expr_ahead os p x (word RightParenthesis m ∷ k)
  primary_ahead os p (OneCall (Alone x)) k = named os p (is_called_alone (p x.number).what.kind (p x.number).what.count) x k
  primary_ahead os p (OneCall (WithActuals x l a more m)) k =
      let e = expected_kinds (p x.number).what in
      let last = sym Called (suc (count_actuals more)) l ∷ k in
      let rest = text_actuals (polished os) p (further_expected e) more last in
      used (p x.number) x.line (text_actual (polished os) p e a rest) ∙ actual_ahead os p e a rest
      ∙ actuals_ahead os p (further_expected e) more last
  primary_ahead os p (OneElement (Subscripted x l e es m)) k =
      let last = sym TSubscripted (suc (count_exprs es)) l ∷ k in
      let rest = shuts MSubscript (last_expr e) ∷ text_subscripts (polished os) p es last in
      used (p x.number) x.line (opens MSubscript (first_expr e) ∷ text_expr (polished os) p e rest) ∙ expr_ahead os p e rest
      ∙ subscripts_ahead os p es last

  actual_ahead : (os : List Name) (p : Places) (e : Expected) (x : Actual) (k : List Symbol)
      → ahead (text_actual (polished os) p e x k) ≡ ahead k
  actual_ahead os p e (OneExpr x) k =
      by_name (name_alone x) os p e (text_expr (polished os) p x (shuts MActual (last_expr x) ∷ k)) (shuts MActual (last_expr x)
      ∷ k) (expr_ahead os p x (shuts MActual (last_expr x) ∷ k))
  actual_ahead os p e (AString l bs m) k = bytes bs (word StringEnd m ∷ shuts MActual m ∷ k)

  actuals_ahead : (os : List Name) (p : Places) (e : Expected) (x : Actuals) (k : List Symbol)
      → ahead (text_actuals (polished os) p e x k) ≡ ahead k
  actuals_ahead os p e NoActuals k = refl
  actuals_ahead os p e (MoreActuals l a more) k = actual_ahead os p e a (text_actuals (polished os) p (further_expected e) more k)
      ∙ actuals_ahead os p (further_expected e) more k

  subscripts_ahead : (os : List Name) (p : Places) (x : Exprs) (k : List Symbol) → ahead (text_subscripts (polished os) p x k) ≡ ahead k
  subscripts_ahead os p NoExprs k = refl
  subscripts_ahead os p (MoreExprs l e es) k =
      expr_ahead os p e (shuts MSubscript (last_expr e) ∷ text_subscripts (polished os) p es k) ∙ subscripts_ahead os p es k
