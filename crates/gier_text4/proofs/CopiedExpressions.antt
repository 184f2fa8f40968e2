-- The pass copies expressions.
use Rattle.std.proofs.Common.{◌≡◌, ◌∙◌, ℕ, Bool, true, false, List, [], ◌∷◌, refl, sym as back, ap}
use Rattle.gier_symbol.specs.declared.symbol.Symbol.{Symbol}
use Rattle.gier_symbol.specs.declared.tag.Tag.TheVariants.{Number, Power, Not, And, Or, Impl, Equiv, Comma, LeftParenthesis}
use Rattle.gier_symbol.specs.declared.tag.Tag.TheVariants.{RightParenthesis, LeftBracket, RightBracket, If, Then, Else, StringBegin}
use Rattle.gier_symbol.specs.declared.tag.Tag.TheVariants.{StringByte, StringEnd}
use Rattle.gier_symbol.specs.ByTag.{sym, word}
use Rattle.gier_symbol.specs.Tags.{number_of}
use Rattle.gier_tree.specs.declared.construct.Construct.{Construct}
use Rattle.gier_tree.specs.declared.construct.Construct.TheVariants.{Actual as MActual, Subscript as MSubscript}
use Rattle.gier_tree.specs.declared.construct.Construct.TheVariants.{ConditionalExpression as MConditional}
use Rattle.gier_tree.specs.Constructs.{construct_number}
use Rattle.gier_tree.specs.Lines.{first_expr, last_expr}
use Rattle.gier_tree.specs.Places.{Places}
use Rattle.gier_tree.specs.Spell.{adding_tag, multiplying_tag, comparing_tag, logical_tag, spell_bytes}
use Rattle.gier_tree.specs.Written.{Expected, Marked, opens, shuts, leading_tag, used_name, called_alone, name_alone}
use Rattle.gier_tree.specs.Written.{actual_by, expected_kinds, further_expected, is_called_alone, text_name, text_expr, text_simple}
use Rattle.gier_tree.specs.Written.{text_implication, text_disjunction, text_conjunction, text_negation, text_relation}
use Rattle.gier_tree.specs.Written.{text_arithmetic, text_term, text_factor, text_primary, text_call, text_element, text_actual}
use Rattle.gier_tree.specs.Written.{text_actuals, text_subscripts}
use Rattle.gier_tree.specs.Trees.{Name, Byte, Adding, Add, Subtract, Multiplying, Multiply, Divide, Comparing, LessThan, AtMost}
use Rattle.gier_tree.specs.Trees.{EqualTo}
use Rattle.gier_tree.specs.Trees.{AtLeast, MoreThan, Unequal, Expr, OneSimple, IfExpr, Simple, OneImplication, Equivalent}
use Rattle.gier_tree.specs.Trees.{Implication, OneDisjunction, Implies, Disjunction, OneConjunction, Either, Conjunction}
use Rattle.gier_tree.specs.Trees.{OneNegation, Both, Negation, OneRelation, Negated, Relation, OneArithmetic, Compared}
use Rattle.gier_tree.specs.Trees.{Arithmetic, OneTerm, Signed, Summed, Term, OneFactor, Multiplied, Factor, OnePrimary, Raised}
use Rattle.gier_tree.specs.Trees.{Primary, Numeral, Logical, Bracketed, OneCall, OneElement, Call, Alone, WithActuals, Element}
use Rattle.gier_tree.specs.Trees.{Subscripted, Actual, OneExpr, AString, Actuals, NoActuals, MoreActuals, Exprs, NoExprs, MoreExprs}
use Rattle.gier_written.specs.Renamed.{collected_text}
use Rattle.gier_written.proofs.RenamedExpressions.{alone_is}
use Rattle.gier_text4.specs.PurePass.{does, IsCopied, marks, MarksOther}
use Rattle.gier_text4.specs.State.{put}
use Rattle.gier_text4.proofs.Copying.{marked_text, is_use, fold_written, Copies, MkCopies, both, one, nothing}
use mathlib.Core.Path.{fun_ext}

pub other_opens : (os : List Name) (c : Construct) (l : ℕ) → marks (construct_number c) ≡ MarksOther
    → Copies os (λ k. opens c l ∷ k) (λ k. opens c l ∷ k)
other_opens os c l e = MkCopies (λ k. rw e refl)

pub other_shuts : (os : List Name) (c : Construct) (l : ℕ) → marks (construct_number c) ≡ MarksOther
    → Copies os (λ k. shuts c l ∷ k) (λ k. shuts c l ∷ k)
other_shuts os c l e = MkCopies (λ k. rw e refl)

-- operators
adding_copied : (o : Adding) → does (number_of (adding_tag o)) ≡ IsCopied
adding_copied Add = refl
adding_copied Subtract = refl

adding_unused : (o : Adding) → is_use (number_of (adding_tag o)) ≡ false
adding_unused Add = refl
adding_unused Subtract = refl

pub leading_copied : (o : Adding) → does (number_of (leading_tag o)) ≡ IsCopied
leading_copied Add = refl
leading_copied Subtract = refl

pub leading_unused : (o : Adding) → is_use (number_of (leading_tag o)) ≡ false
leading_unused Add = refl
leading_unused Subtract = refl

multiplying_copied : (o : Multiplying) → does (number_of (multiplying_tag o)) ≡ IsCopied
multiplying_copied Multiply = refl
multiplying_copied Divide = refl

multiplying_unused : (o : Multiplying) → is_use (number_of (multiplying_tag o)) ≡ false
multiplying_unused Multiply = refl
multiplying_unused Divide = refl

comparing_copied : (o : Comparing) → does (number_of (comparing_tag o)) ≡ IsCopied
comparing_copied LessThan = refl
comparing_copied AtMost = refl
comparing_copied EqualTo = refl
comparing_copied AtLeast = refl
comparing_copied MoreThan = refl
comparing_copied Unequal = refl

comparing_unused : (o : Comparing) → is_use (number_of (comparing_tag o)) ≡ false
comparing_unused LessThan = refl
comparing_unused AtMost = refl
comparing_unused EqualTo = refl
comparing_unused AtLeast = refl
comparing_unused MoreThan = refl
comparing_unused Unequal = refl

logical_copied : (o : Bool) → does (number_of (logical_tag o)) ≡ IsCopied
logical_copied true = refl
logical_copied false = refl

logical_unused : (o : Bool) → is_use (number_of (logical_tag o)) ≡ false
logical_unused true = refl
logical_unused false = refl

-- strings and identifiers
copied_bytes : (os : List Name) (bs : List Byte) → Copies os (spell_bytes bs) (spell_bytes bs)
copied_bytes os [] = nothing os
copied_bytes os (b ∷ bs) = both (one os (sym StringByte b.value b.line) refl refl) (copied_bytes os bs)

pub copied_use : (os : List Name) (p q : Places) (x : Name)
    → Copies os (used_name (marked_text os) p x) (used_name (collected_text os) q x)
copied_use os p q x = MkCopies (λ k. refl)

never_marked : (b : Bool) (l : ℕ) (k : List Symbol) → called_alone Marked b l k ≡ k
never_marked true l k = refl
never_marked false l k = refl

pub copied_alone : (os : List Name) (p q : Places) (b c : Bool) (x : Name)
    → Copies os (text_name (marked_text os) p b x) (text_name (collected_text os) q c x)
copied_alone os p q b true x = MkCopies (λ k.
    ap (λ r. fold_written os (used_name (marked_text os) p x r)) (never_marked b x.line k))
copied_alone os p q b false x =
    MkCopies (λ k. ap (λ r. fold_written os (used_name (marked_text os) p x r)) (never_marked b x.line k))

pub marked_alone : (os : List Name) (p : Places) (g : Expected) (e : Expr) (k : List Symbol)
    → actual_by (name_alone e) (marked_text os) p g (text_expr (marked_text os) p e k) k ≡ text_expr (marked_text os) p e k
marked_alone os p g (OneSimple (OneImplication
    (OneDisjunction (OneConjunction (OneNegation
    (OneRelation (OneArithmetic (OneTerm (OneFactor (OnePrimary (OneCall (Alone x)))))))))))) k =
    ap (λ r. used_name (marked_text os) p x r) (never_marked _ x.line k ∙ back (never_marked _ x.line k))
marked_alone os p g _ k = refl

expression_alone : (os : List Name) (p q : Places) (g h : Expected) (e : Expr)
    → Copies os (λ k. opens MActual (first_expr e) ∷ text_expr (marked_text os) p e (shuts MActual (last_expr e) ∷ k))
    (λ k. opens MActual (first_expr e) ∷ text_expr (collected_text os) q e (shuts MActual (last_expr e) ∷ k))
    → Copies os (text_actual (marked_text os) p g (OneExpr e)) (text_actual (collected_text os) q h (OneExpr e))
expression_alone os p q g h e (MkCopies a) = MkCopies (λ k.
    ap (λ r. fold_written os (opens MActual (first_expr e) ∷ r)) (marked_alone os p g e (shuts MActual (last_expr e) ∷ k))
    ∙ a k
    ∙ ap (λ t. put t (fold_written os k))
    (fun_ext (λ r. ap (λ z. opens MActual (first_expr e) ∷ z) (back (alone_is os q h e (shuts MActual (last_expr e) ∷ r))))))

mutual
  pub copied_expr : (os : List Name) (p q : Places) (x : Expr)
      → Copies os (text_expr (marked_text os) p x) (text_expr (collected_text os) q x)
  copied_expr os p q (OneSimple y) = copied_simple os p q y
  copied_expr os p q (IfExpr l c m s n e) =
      (both (other_opens os MConditional l refl) (both (one os (word If l) refl refl)
      (both (copied_expr os p q c) (both (one os (word Then m) refl refl)
      (both (copied_simple os p q s) (both (one os (word Else n) refl refl)
      (both (copied_expr os p q e) (other_shuts os MConditional (last_expr e) refl))))))))

  pub copied_simple : (os : List Name) (p q : Places) (x : Simple)
      → Copies os (text_simple (marked_text os) p x) (text_simple (collected_text os) q x)
  copied_simple os p q (OneImplication y) = copied_implication os p q y
  copied_simple os p q (Equivalent y l z) =
      (both (copied_simple os p q y) (both (one os (word Equiv l) refl refl) (copied_implication os p q z)))

  pub copied_implication : (os : List Name) (p q : Places) (x : Implication)
      → Copies os (text_implication (marked_text os) p x) (text_implication (collected_text os) q x)
  copied_implication os p q (OneDisjunction y) = copied_disjunction os p q y
  copied_implication os p q (Implies y l z) =
      (both (copied_implication os p q y) (both (one os (word Impl l) refl refl) (copied_disjunction os p q z)))

  pub copied_disjunction : (os : List Name) (p q : Places) (x : Disjunction)
      → Copies os (text_disjunction (marked_text os) p x) (text_disjunction (collected_text os) q x)
  copied_disjunction os p q (OneConjunction y) = copied_conjunction os p q y
  copied_disjunction os p q (Either y l z) =
      (both (copied_disjunction os p q y) (both (one os (word Or l) refl refl) (copied_conjunction os p q z)))

  pub copied_conjunction : (os : List Name) (p q : Places) (x : Conjunction)
      → Copies os (text_conjunction (marked_text os) p x) (text_conjunction (collected_text os) q x)
  copied_conjunction os p q (OneNegation y) = copied_negation os p q y
  copied_conjunction os p q (Both y l z) =
      (both (copied_conjunction os p q y) (both (one os (word And l) refl refl) (copied_negation os p q z)))

  pub copied_negation : (os : List Name) (p q : Places) (x : Negation)
      → Copies os (text_negation (marked_text os) p x) (text_negation (collected_text os) q x)
  copied_negation os p q (OneRelation y) = copied_relation os p q y
  copied_negation os p q (Negated l y) = (both (one os (word Not l) refl refl) (copied_relation os p q y))

  pub copied_relation : (os : List Name) (p q : Places) (x : Relation)
      → Copies os (text_relation (marked_text os) p x) (text_relation (collected_text os) q x)
  copied_relation os p q (OneArithmetic y) = copied_arithmetic os p q y
  copied_relation os p q (Compared y o l z) =
      (both (copied_arithmetic os p q y) (both (one os (word (comparing_tag o) l) (comparing_copied o) (comparing_unused o))
      (copied_arithmetic os p q z)))

  pub copied_arithmetic : (os : List Name) (p q : Places) (x : Arithmetic)
      → Copies os (text_arithmetic (marked_text os) p x) (text_arithmetic (collected_text os) q x)
  copied_arithmetic os p q (OneTerm y) = copied_term os p q y
  copied_arithmetic os p q (Signed o l y) =
      (both (one os (word (leading_tag o) l) (leading_copied o) (leading_unused o)) (copied_term os p q y))
  copied_arithmetic os p q (Summed y o l z) =
      (both (copied_arithmetic os p q y) (both (one os (word (adding_tag o) l) (adding_copied o) (adding_unused o))
      (copied_term os p q z)))

  pub copied_term : (os : List Name) (p q : Places) (x : Term)
      → Copies os (text_term (marked_text os) p x) (text_term (collected_text os) q x)
  copied_term os p q (OneFactor y) = copied_factor os p q y
  copied_term os p q (Multiplied y o l z) =
      (both (copied_term os p q y) (both (one os (word (multiplying_tag o) l) (multiplying_copied o) (multiplying_unused o))
      (copied_factor os p q z)))

  pub copied_factor : (os : List Name) (p q : Places) (x : Factor)
      → Copies os (text_factor (marked_text os) p x) (text_factor (collected_text os) q x)
  copied_factor os p q (OnePrimary y) = copied_primary os p q y
  copied_factor os p q (Raised y l z) =
      (both (copied_factor os p q y) (both (one os (word Power l) refl refl) (copied_primary os p q z)))

  pub copied_primary : (os : List Name) (p q : Places) (x : Primary)
      → Copies os (text_primary (marked_text os) p x) (text_primary (collected_text os) q x)
  copied_primary os p q (Numeral n l) = one os (sym Number n l) refl refl
  copied_primary os p q (Logical b l) = one os (word (logical_tag b) l) (logical_copied b) (logical_unused b)
  copied_primary os p q (Bracketed l e m) =
      (both (one os (word LeftParenthesis l) refl refl) (both (copied_expr os p q e) (one os (word RightParenthesis m) refl refl)))
  copied_primary os p q (OneCall x) = copied_call os p q x
  copied_primary os p q (OneElement x) = copied_element os p q x

  pub copied_call : (os : List Name) (p q : Places) (x : Call)
      → Copies os (text_call (marked_text os) p x) (text_call (collected_text os) q x)
  copied_call os p q (Alone x) = copied_alone os p q (is_called_alone (p x.number).what.kind (p
      x.number).what.count) (is_called_alone (q x.number).what.kind (q x.number).what.count) x
  copied_call os p q (WithActuals x l a more m) =
      (both (copied_use os p q x) (both (one os (word LeftParenthesis l) refl refl)
      (both (copied_actual os p q (expected_kinds (p x.number).what) (expected_kinds (q x.number).what) a) (both
      (copied_actuals os p q (further_expected (expected_kinds (p x.number).what)) (further_expected
      (expected_kinds (q x.number).what)) more) (one os (word RightParenthesis m) refl refl)))))

  pub copied_element : (os : List Name) (p q : Places) (x : Element)
      → Copies os (text_element (marked_text os) p x) (text_element (collected_text os) q x)
  copied_element os p q (Subscripted x l e es m) =
      (both (copied_use os p q x) (both (one os (word LeftBracket l) refl refl)
      (both (other_opens os MSubscript (first_expr e) refl) (both (copied_expr os p q e)
      (both (other_shuts os MSubscript (last_expr e) refl) (both (copied_subscripts os p q es)
      (one os (word RightBracket m) refl refl)))))))

  pub copied_actual : (os : List Name) (p q : Places) (g h : Expected) (x : Actual)
      → Copies os (text_actual (marked_text os) p g x) (text_actual (collected_text os) q h x)
  copied_actual os p q g h (OneExpr e) =
      expression_alone os p q g h e (both (other_opens os MActual (first_expr e) refl) (both (copied_expr os p q e)
      (other_shuts os MActual (last_expr e) refl)))
  copied_actual os p q g h (AString l bs m) =
      (both (other_opens os MActual l refl) (both (one os (word StringBegin l) refl refl)
      (both (copied_bytes os bs) (both (one os (word StringEnd m) refl refl) (other_shuts os MActual m refl)))))

  pub copied_actuals : (os : List Name) (p q : Places) (g h : Expected) (x : Actuals)
      → Copies os (text_actuals (marked_text os) p g x) (text_actuals (collected_text os) q h x)
  copied_actuals os p q g h NoActuals = nothing os
  copied_actuals os p q g h (MoreActuals l a more) =
      (both (one os (word Comma l) refl refl) (both (copied_actual os p q g h a)
      (copied_actuals os p q (further_expected g) (further_expected h) more)))

  pub copied_subscripts : (os : List Name) (p q : Places) (x : Exprs)
      → Copies os (text_subscripts (marked_text os) p x) (text_subscripts (collected_text os) q x)
  copied_subscripts os p q NoExprs = nothing os
  copied_subscripts os p q (MoreExprs l e es) =
      (both (one os (word Comma l) refl refl) (both (other_opens os MSubscript (first_expr e) refl)
      (both (copied_expr os p q e) (both (other_shuts os MSubscript (last_expr e) refl) (copied_subscripts os p q es)))))
