-- The pass copies the parts of statements that declare nothing.
use Rattle.std.proofs.Common.{ℕ, true, List, [], ◌∷◌, refl}
use Rattle.gier_symbol.specs.declared.tag.Tag.TheVariants.{Becomes, Goto, Comma, Step, Until, While, For, Do}
use Rattle.gier_symbol.specs.ByTag.{word}
use Rattle.gier_tree.specs.declared.construct.Construct.TheVariants.{GoTo as MGoTo, ForElement as MForElement}
use Rattle.gier_tree.specs.declared.construct.Construct.TheVariants.{SwitchElement as MElement}
use Rattle.gier_tree.specs.Lines.{first_expr, last_expr, first_turns, last_turns}
use Rattle.gier_tree.specs.Places.{Places}
use Rattle.gier_tree.specs.Texts.{Where, text_left, text_lefts, text_turn, text_turns, text_next_turns, text_call_statement}
use Rattle.gier_tree.specs.Texts.{text_switch_element, text_switch_elements, text_basic}
use Rattle.gier_tree.specs.Trees.{Name, Expr, Exprs, NoExprs, MoreExprs, Call, Alone, WithActuals, LeftSide, OneName, LeftElement}
use Rattle.gier_tree.specs.Trees.{LeftPart, Turns, OneValue, StepUntil, WhileTrue, NextTurns, Assign, Jump}
use Rattle.gier_tree.specs.Written.{used_name}
use Rattle.gier_written.specs.Renamed.{collected_text}
use Rattle.gier_text4.proofs.Copying.{marked_text, Copies, both, one, nothing}
use Rattle.gier_text4.proofs.CopiedExpressions.{other_opens, other_shuts, copied_use, copied_alone, copied_expr, copied_call}
use Rattle.gier_text4.proofs.CopiedExpressions.{copied_element}

copied_left : (os : List Name) (p q : Places) (x : LeftSide)
    → Copies os (text_left (marked_text os) p x) (text_left (collected_text os) q x)
copied_left os p q (OneName x) = copied_use os p q x
copied_left os p q (LeftElement e) = copied_element os p q e

copied_lefts : (os : List Name) (p q : Places) (xs : List LeftPart)
    → Copies os (text_lefts (marked_text os) p xs) (text_lefts (collected_text os) q xs)
copied_lefts os p q [] = nothing os
copied_lefts os p q (x ∷ xs) = both (copied_left os p q x.left) (both (one os (word Becomes x.becomes) refl refl) (copied_lefts
    os p q xs))

pub copied_assignment : (os : List Name) (p q : Places) (u v : Where) (x : LeftPart) (xs : List LeftPart) (e : Expr)
    → Copies os (text_basic (marked_text os) p u (Assign x xs e)) (text_basic (collected_text os) q v (Assign x xs e))
copied_assignment os p q u v x xs e = both (copied_lefts os p q (x ∷ xs)) (copied_expr os p q e)

pub copied_jump : (os : List Name) (p q : Places) (u v : Where) (l : ℕ) (e : Expr)
    → Copies os (text_basic (marked_text os) p u (Jump l e)) (text_basic (collected_text os) q v (Jump l e))
copied_jump os p q u v l e = both (other_opens os MGoTo l refl) (both (one os (word Goto l) refl refl)
    (both (copied_expr os p q e) (other_shuts os MGoTo (last_expr e) refl)))

pub copied_call_statement : (os : List Name) (p q : Places) (c : Call)
    → Copies os (text_call_statement (marked_text os) p c) (text_call_statement (collected_text os) q c)
copied_call_statement os p q (Alone x) = copied_alone os p q true true x
copied_call_statement os p q (WithActuals x l a more m) = copied_call os p q (WithActuals x l a more m)

copied_turn : (os : List Name) (p q : Places) (x : Turns)
    → Copies os (text_turn (marked_text os) p x) (text_turn (collected_text os) q x)
copied_turn os p q (OneValue e) = copied_expr os p q e
copied_turn os p q (StepUntil a l b m c) = both (copied_expr os p q a) (both (one os (word Step l) refl refl)
    (both (copied_expr os p q b) (both (one os (word Until m) refl refl) (copied_expr os p q c))))
copied_turn os p q (WhileTrue e l f) = both (copied_expr os p q e) (both (one os (word While l) refl refl) (copied_expr os p q f))

copied_turns : (os : List Name) (p q : Places) (x : Turns)
    → Copies os (text_turns (marked_text os) p x) (text_turns (collected_text os) q x)
copied_turns os p q x = both (other_opens os MForElement (first_turns x) refl)
    (both (copied_turn os p q x) (other_shuts os MForElement (last_turns x) refl))

copied_next_turns : (os : List Name) (p q : Places) (xs : List NextTurns)
    → Copies os (text_next_turns (marked_text os) p xs) (text_next_turns (collected_text os) q xs)
copied_next_turns os p q [] = nothing os
copied_next_turns os p q (x ∷ xs) =
    both (one os (word Comma x.comma) refl refl) (both (copied_turns os p q x.turns) (copied_next_turns os p q xs))

-- what stands before the controlled statement, labels not counted
pub copied_for : (os : List Name) (p q : Places) (l : ℕ) (x : Name) (m : ℕ) (t : Turns) (ts : List NextTurns) (n : ℕ)
    → Copies os
    (λ k. word For l ∷ used_name (marked_text os) p x (word Becomes m ∷ text_turns (marked_text os) p t
    (text_next_turns (marked_text os) p ts (word Do n ∷ k))))
    (λ k. word For l ∷ used_name (collected_text os) q x (word Becomes m ∷ text_turns (collected_text os) q t
    (text_next_turns (collected_text os) q ts (word Do n ∷ k))))
copied_for os p q l x m t ts n = both (one os (word For l) refl refl) (both (copied_use os p q x)
    (both (one os (word Becomes m) refl refl) (both (copied_turns os p q t) (both (copied_next_turns os p q ts)
    (one os (word Do n) refl refl)))))

-- elements of switches
copied_element_of : (os : List Name) (p q : Places) (e : Expr)
    → Copies os (text_switch_element (marked_text os) p e) (text_switch_element (collected_text os) q e)
copied_element_of os p q e = both (other_opens os MElement (first_expr e) refl)
    (both (copied_expr os p q e) (other_shuts os MElement (last_expr e) refl))

copied_elements : (os : List Name) (p q : Places) (es : Exprs)
    → Copies os (text_switch_elements (marked_text os) p es) (text_switch_elements (collected_text os) q es)
copied_elements os p q NoExprs = nothing os
copied_elements os p q (MoreExprs l e es) =
    both (one os (word Comma l) refl refl) (both (copied_element_of os p q e) (copied_elements os p q es))

pub copied_switch : (os : List Name) (p q : Places) (m : ℕ) (e : Expr) (es : Exprs)
    → Copies os (λ k. word Becomes m ∷ text_switch_element (marked_text os) p e (text_switch_elements (marked_text os) p es k))
    (λ k. word Becomes m ∷ text_switch_element (collected_text os) q e (text_switch_elements (collected_text os) q es k))
copied_switch os p q m e es = both (one os (word Becomes m) refl refl) (both (copied_element_of os p q e) (copied_elements os p
    q es))
