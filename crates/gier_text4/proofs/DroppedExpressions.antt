-- What stands behind expressions in text 3.
use Rattle.std.proofs.Common.{Bool, true, false, List, [], ◌∷◌}
use Rattle.gier_symbol.specs.declared.symbol.Symbol.{Symbol}
use Rattle.gier_symbol.specs.declared.tag.Tag.TheVariants.{Number, Power, Not, And, Or, Impl, Equiv, Comma, LeftParenthesis}
use Rattle.gier_symbol.specs.declared.tag.Tag.TheVariants.{RightParenthesis, LeftBracket, RightBracket, If, Then, Else, StringBegin}
use Rattle.gier_symbol.specs.declared.tag.Tag.TheVariants.{StringByte, StringEnd}
use Rattle.gier_symbol.specs.ByTag.{sym, word}
use Rattle.gier_tree.specs.declared.construct.Construct.TheVariants.{Actual as MActual, Subscript as MSubscript}
use Rattle.gier_tree.specs.declared.construct.Construct.TheVariants.{ConditionalExpression as MConditional}
use Rattle.gier_tree.specs.Lines.{first_expr, last_expr}
use Rattle.gier_tree.specs.Places.{Places}
use Rattle.gier_tree.specs.Spell.{adding_tag, multiplying_tag, comparing_tag, logical_tag, spell_bytes}
use Rattle.gier_tree.specs.Written.{Expected, opens, shuts, leading_tag, used_name}
use Rattle.gier_tree.specs.Written.{expected_kinds, further_expected, is_called_alone, text_name, text_expr, text_simple}
use Rattle.gier_tree.specs.Written.{text_implication, text_disjunction, text_conjunction, text_negation, text_relation}
use Rattle.gier_tree.specs.Written.{text_arithmetic, text_term, text_factor, text_primary, text_call, text_element, text_actual}
use Rattle.gier_tree.specs.Written.{text_actuals, text_subscripts}
use Rattle.gier_tree.specs.Trees.{Name, Byte}
use Rattle.gier_tree.specs.Trees.{Expr, OneSimple, IfExpr, Simple, OneImplication, Equivalent}
use Rattle.gier_tree.specs.Trees.{Implication, OneDisjunction, Implies, Disjunction, OneConjunction, Either, Conjunction}
use Rattle.gier_tree.specs.Trees.{OneNegation, Both, Negation, OneRelation, Negated, Relation, OneArithmetic, Compared}
use Rattle.gier_tree.specs.Trees.{Arithmetic, OneTerm, Signed, Summed, Term, OneFactor, Multiplied, Factor, OnePrimary, Raised}
use Rattle.gier_tree.specs.Trees.{Primary, Numeral, Logical, Bracketed, OneCall, OneElement, Call, Alone, WithActuals, Element}
use Rattle.gier_tree.specs.Trees.{Subscripted, Actual, OneExpr, AString, Actuals, NoActuals, MoreActuals, Exprs, NoExprs, MoreExprs}
use Rattle.std.proofs.Common.{subst}
use Rattle.std.specs.List.{All}
use Rattle.std.proofs.lemmas.List.Elements.{All-tail}
use Rattle.gier_tree.specs.Spell.{ident}
use Rattle.gier_text4.proofs.Copying.{marked_text}
use Rattle.gier_text4.proofs.CopiedExpressions.{marked_alone}
use Rattle.gier_text4.proofs.Dropping.{Drops, MkDrops, after, first, none}

-- strings and identifiers
dropped_bytes : (P : Symbol → Type 0) (bs : List Byte) → Drops P (spell_bytes bs)
dropped_bytes P [] = none P
dropped_bytes P (b ∷ bs) = after (first P (sym StringByte b.value b.line)) (dropped_bytes P bs)

pub dropped_use : (P : Symbol → Type 0) (os : List Name) (p : Places) (x : Name) → Drops P (used_name (marked_text os) p x)
dropped_use P os p x = MkDrops (λ k h. All-tail P (ident x) k h)

pub dropped_alone : (P : Symbol → Type 0) (os : List Name) (p : Places) (b : Bool) (x : Name)
    → Drops P (text_name (marked_text os) p b x)
dropped_alone P os p true x = MkDrops (λ k h. All-tail P (ident x) k h)
dropped_alone P os p false x = MkDrops (λ k h. All-tail P (ident x) k h)

expression_alone : (P : Symbol → Type 0) (os : List Name) (p : Places) (g : Expected) (e : Expr)
    → Drops P (λ k. opens MActual (first_expr e) ∷ text_expr (marked_text os) p e (shuts MActual (last_expr e) ∷ k))
    → Drops P (text_actual (marked_text os) p g (OneExpr e))
expression_alone P os p g e (MkDrops a) = MkDrops (λ k h. a k (subst (λ r. All P (opens MActual (first_expr e) ∷ r))
    (marked_alone os p g e (shuts MActual (last_expr e) ∷ k)) h))

mutual
  pub dropped_expr : (P : Symbol → Type 0) (os : List Name) (p : Places) (x : Expr) → Drops P (text_expr (marked_text os) p x)
  dropped_expr P os p (OneSimple y) = dropped_simple P os p y
  dropped_expr P os p (IfExpr l c m s n e) =
      (after (first P (opens MConditional l)) (after (first P (word If l))
      (after (dropped_expr P os p c) (after (first P (word Then m))
      (after (dropped_simple P os p s) (after (first P (word Else n))
      (after (dropped_expr P os p e) (first P (shuts MConditional (last_expr e))))))))))

  pub dropped_simple : (P : Symbol → Type 0) (os : List Name) (p : Places) (x : Simple) → Drops P (text_simple (marked_text os) p x)
  dropped_simple P os p (OneImplication y) = dropped_implication P os p y
  dropped_simple P os p (Equivalent y l z) =
      (after (dropped_simple P os p y) (after (first P (word Equiv l)) (dropped_implication P os p z)))

  pub dropped_implication : (P : Symbol → Type 0) (os : List Name) (p : Places) (x : Implication)
      → Drops P (text_implication (marked_text os) p x)
  dropped_implication P os p (OneDisjunction y) = dropped_disjunction P os p y
  dropped_implication P os p (Implies y l z) =
      (after (dropped_implication P os p y) (after (first P (word Impl l)) (dropped_disjunction P os p z)))

  pub dropped_disjunction : (P : Symbol → Type 0) (os : List Name) (p : Places) (x : Disjunction)
      → Drops P (text_disjunction (marked_text os) p x)
  dropped_disjunction P os p (OneConjunction y) = dropped_conjunction P os p y
  dropped_disjunction P os p (Either y l z) =
      (after (dropped_disjunction P os p y) (after (first P (word Or l)) (dropped_conjunction P os p z)))

  pub dropped_conjunction : (P : Symbol → Type 0) (os : List Name) (p : Places) (x : Conjunction)
      → Drops P (text_conjunction (marked_text os) p x)
  dropped_conjunction P os p (OneNegation y) = dropped_negation P os p y
  dropped_conjunction P os p (Both y l z) =
      (after (dropped_conjunction P os p y) (after (first P (word And l)) (dropped_negation P os p z)))

  pub dropped_negation : (P : Symbol → Type 0) (os : List Name) (p : Places) (x : Negation)
      → Drops P (text_negation (marked_text os) p x)
  dropped_negation P os p (OneRelation y) = dropped_relation P os p y
  dropped_negation P os p (Negated l y) = (after (first P (word Not l)) (dropped_relation P os p y))

  pub dropped_relation : (P : Symbol → Type 0) (os : List Name) (p : Places) (x : Relation)
      → Drops P (text_relation (marked_text os) p x)
  dropped_relation P os p (OneArithmetic y) = dropped_arithmetic P os p y
  dropped_relation P os p (Compared y o l z) =
      (after (dropped_arithmetic P os p y) (after (first P (word (comparing_tag o) l)) (dropped_arithmetic P os p z)))

  pub dropped_arithmetic : (P : Symbol → Type 0) (os : List Name) (p : Places) (x : Arithmetic)
      → Drops P (text_arithmetic (marked_text os) p x)
  dropped_arithmetic P os p (OneTerm y) = dropped_term P os p y
  dropped_arithmetic P os p (Signed o l y) = (after (first P (word (leading_tag o) l)) (dropped_term P os p y))
  dropped_arithmetic P os p (Summed y o l z) =
      (after (dropped_arithmetic P os p y) (after (first P (word (adding_tag o) l)) (dropped_term P os p z)))

  pub dropped_term : (P : Symbol → Type 0) (os : List Name) (p : Places) (x : Term) → Drops P (text_term (marked_text os) p x)
  dropped_term P os p (OneFactor y) = dropped_factor P os p y
  dropped_term P os p (Multiplied y o l z) =
      (after (dropped_term P os p y) (after (first P (word (multiplying_tag o) l)) (dropped_factor P os p z)))

  pub dropped_factor : (P : Symbol → Type 0) (os : List Name) (p : Places) (x : Factor) → Drops P (text_factor (marked_text os) p x)
  dropped_factor P os p (OnePrimary y) = dropped_primary P os p y
  dropped_factor P os p (Raised y l z) =
      (after (dropped_factor P os p y) (after (first P (word Power l)) (dropped_primary P os p z)))

  pub dropped_primary : (P : Symbol → Type 0) (os : List Name) (p : Places) (x : Primary)
      → Drops P (text_primary (marked_text os) p x)
  dropped_primary P os p (Numeral n l) = first P (sym Number n l)
  dropped_primary P os p (Logical b l) = first P (word (logical_tag b) l)
  dropped_primary P os p (Bracketed l e m) =
      (after (first P (word LeftParenthesis l)) (after (dropped_expr P os p e) (first P (word RightParenthesis m))))
  dropped_primary P os p (OneCall x) = dropped_call P os p x
  dropped_primary P os p (OneElement x) = dropped_element P os p x

  pub dropped_call : (P : Symbol → Type 0) (os : List Name) (p : Places) (x : Call) → Drops P (text_call (marked_text os) p x)
  dropped_call P os p (Alone x) = dropped_alone P os p (is_called_alone (p x.number).what.kind (p x.number).what.count) x
  dropped_call P os p (WithActuals x l a more m) =
      (after (dropped_use P os p x) (after (first P (word LeftParenthesis l))
      (after (dropped_actual P os p (expected_kinds (p x.number).what) a) (after
      (dropped_actuals P os p (further_expected (expected_kinds (p x.number).what)) more) (first P (word RightParenthesis m))))))

  pub dropped_element : (P : Symbol → Type 0) (os : List Name) (p : Places) (x : Element)
      → Drops P (text_element (marked_text os) p x)
  dropped_element P os p (Subscripted x l e es m) =
      (after (dropped_use P os p x) (after (first P (word LeftBracket l))
      (after (first P (opens MSubscript (first_expr e))) (after (dropped_expr P os p e)
      (after (first P (shuts MSubscript (last_expr e))) (after (dropped_subscripts P os p es) (first P (word RightBracket m))))))))

  pub dropped_actual : (P : Symbol → Type 0) (os : List Name) (p : Places) (g : Expected) (x : Actual)
      → Drops P (text_actual (marked_text os) p g x)
  dropped_actual P os p g (OneExpr e) =
      expression_alone P os p g e (after (first P (opens MActual (first_expr e))) (after (dropped_expr P os p e)
      (first P (shuts MActual (last_expr e)))))
  dropped_actual P os p g (AString l bs m) =
      (after (first P (opens MActual l)) (after (first P (word StringBegin l))
      (after (dropped_bytes P bs) (after (first P (word StringEnd m)) (first P (shuts MActual m))))))

  pub dropped_actuals : (P : Symbol → Type 0) (os : List Name) (p : Places) (g : Expected) (x : Actuals)
      → Drops P (text_actuals (marked_text os) p g x)
  dropped_actuals P os p g NoActuals = none P
  dropped_actuals P os p g (MoreActuals l a more) =
      (after (first P (word Comma l)) (after (dropped_actual P os p g a) (dropped_actuals P os p (further_expected g) more)))

  pub dropped_subscripts : (P : Symbol → Type 0) (os : List Name) (p : Places) (x : Exprs)
      → Drops P (text_subscripts (marked_text os) p x)
  dropped_subscripts P os p NoExprs = none P
  dropped_subscripts P os p (MoreExprs l e es) =
      (after (first P (word Comma l)) (after (first P (opens MSubscript (first_expr e)))
      (after (dropped_expr P os p e) (after (first P (shuts MSubscript (last_expr e))) (dropped_subscripts P os p es)))))
