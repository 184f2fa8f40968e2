-- What stands behind the parts of statements that declare nothing, in text 3.
use Rattle.std.proofs.Common.{ℕ, true, List, [], ◌∷◌}
use Rattle.gier_symbol.specs.declared.symbol.Symbol.{Symbol}
use Rattle.gier_symbol.specs.declared.tag.Tag.TheVariants.{LabelColon, Becomes, Goto, Comma, Step, Until, While, For, Do}
use Rattle.gier_symbol.specs.ByTag.{word}
use Rattle.gier_tree.specs.declared.construct.Construct.TheVariants.{GoTo as MGoTo, ForElement as MForElement}
use Rattle.gier_tree.specs.declared.construct.Construct.TheVariants.{SwitchElement as MElement}
use Rattle.gier_tree.specs.Lines.{first_expr, last_expr, first_turns, last_turns}
use Rattle.gier_tree.specs.Places.{Places}
use Rattle.gier_tree.specs.Texts.{Where, text_left, text_lefts, text_turn, text_turns, text_next_turns, text_call_statement}
use Rattle.gier_tree.specs.Texts.{text_switch_element, text_switch_elements, text_basic, text_labels, declares}
use Rattle.gier_tree.specs.Trees.{Name, Expr, Exprs, NoExprs, MoreExprs, Call, Alone, WithActuals, LeftSide, OneName, LeftElement}
use Rattle.gier_tree.specs.Trees.{LabelPlace, LeftPart, Turns, OneValue, StepUntil, WhileTrue, NextTurns, Assign, Jump}
use Rattle.gier_tree.specs.Written.{used_name}
use Rattle.gier_tree.specs.Written.{opens, shuts}
use Rattle.gier_text4.proofs.Copying.{marked_text}
use Rattle.gier_text4.proofs.Dropping.{Drops, after, first, none}
use Rattle.gier_text4.proofs.DroppedExpressions.{dropped_use, dropped_alone, dropped_expr, dropped_call, dropped_element}

dropped_left : (P : Symbol → Type 0) (os : List Name) (p : Places) (x : LeftSide)
    → Drops P (text_left (marked_text os) p x)
dropped_left P os p (OneName x) = dropped_use P os p x
dropped_left P os p (LeftElement e) = dropped_element P os p e

dropped_lefts : (P : Symbol → Type 0) (os : List Name) (p : Places) (xs : List LeftPart)
    → Drops P (text_lefts (marked_text os) p xs)
dropped_lefts P os p [] = none P
dropped_lefts P os p (x ∷ xs) =
    after (dropped_left P os p x.left) (after (first P (word Becomes x.becomes)) (dropped_lefts P os p xs))

pub dropped_assignment : (P : Symbol
    → Type 0) (os : List Name) (p : Places) (u : Where) (x : LeftPart) (xs : List LeftPart) (e : Expr)
    → Drops P (text_basic (marked_text os) p u (Assign x xs e))
dropped_assignment P os p u x xs e = after (dropped_lefts P os p (x ∷ xs)) (dropped_expr P os p e)

pub dropped_jump : (P : Symbol → Type 0) (os : List Name) (p : Places) (u : Where) (l : ℕ) (e : Expr)
    → Drops P (text_basic (marked_text os) p u (Jump l e))
dropped_jump P os p u l e = after (first P (opens MGoTo l)) (after (first P (word Goto l))
    (after (dropped_expr P os p e) (first P (shuts MGoTo (last_expr e)))))

pub dropped_call_statement : (P : Symbol → Type 0) (os : List Name) (p : Places) (c : Call)
    → Drops P (text_call_statement (marked_text os) p c)
dropped_call_statement P os p (Alone x) = dropped_alone P os p true x
dropped_call_statement P os p (WithActuals x l a more m) = dropped_call P os p (WithActuals x l a more m)

dropped_turn : (P : Symbol → Type 0) (os : List Name) (p : Places) (x : Turns)
    → Drops P (text_turn (marked_text os) p x)
dropped_turn P os p (OneValue e) = dropped_expr P os p e
dropped_turn P os p (StepUntil a l b m c) = after (dropped_expr P os p a) (after (first P (word Step l))
    (after (dropped_expr P os p b) (after (first P (word Until m)) (dropped_expr P os p c))))
dropped_turn P os p (WhileTrue e l f) = after (dropped_expr P os p e) (after (first P (word While l)) (dropped_expr P os p f))

dropped_turns : (P : Symbol → Type 0) (os : List Name) (p : Places) (x : Turns)
    → Drops P (text_turns (marked_text os) p x)
dropped_turns P os p x = after (first P (opens MForElement (first_turns x)))
    (after (dropped_turn P os p x) (first P (shuts MForElement (last_turns x))))

dropped_next_turns : (P : Symbol → Type 0) (os : List Name) (p : Places) (xs : List NextTurns)
    → Drops P (text_next_turns (marked_text os) p xs)
dropped_next_turns P os p [] = none P
dropped_next_turns P os p (x ∷ xs) =
    after (first P (word Comma x.comma)) (after (dropped_turns P os p x.turns) (dropped_next_turns P os p xs))

-- what stands before the controlled statement, labels not counted
pub dropped_for : (P : Symbol → Type 0) (os : List Name) (p : Places) (l : ℕ) (x : Name) (m : ℕ) (t : Turns) (ts : List
    NextTurns) (n : ℕ)
    → Drops P (λ k. word For l ∷ used_name (marked_text os) p x (word Becomes m ∷ text_turns (marked_text os) p t
    (text_next_turns (marked_text os) p ts (word Do n ∷ k))))
dropped_for P os p l x m t ts n = after (first P (word For l)) (after (dropped_use P os p x)
    (after (first P (word Becomes m)) (after (dropped_turns P os p t) (after (dropped_next_turns P os p ts)
    (first P (word Do n))))))

-- elements of switches
dropped_element_of : (P : Symbol → Type 0) (os : List Name) (p : Places) (e : Expr)
    → Drops P (text_switch_element (marked_text os) p e)
dropped_element_of P os p e = after (first P (opens MElement (first_expr e)))
    (after (dropped_expr P os p e) (first P (shuts MElement (last_expr e))))

dropped_elements : (P : Symbol → Type 0) (os : List Name) (p : Places) (es : Exprs)
    → Drops P (text_switch_elements (marked_text os) p es)
dropped_elements P os p NoExprs = none P
dropped_elements P os p (MoreExprs l e es) =
    after (first P (word Comma l)) (after (dropped_element_of P os p e) (dropped_elements P os p es))

pub dropped_switch : (P : Symbol → Type 0) (os : List Name) (p : Places) (m : ℕ) (e : Expr) (es : Exprs)
    → Drops P (λ k. word Becomes m ∷ text_switch_element (marked_text os) p e (text_switch_elements (marked_text os) p es k))
dropped_switch P os p m e es = after (first P (word Becomes m)) (after (dropped_element_of P os p e) (dropped_elements P os p es))

-- labels
pub dropped_labels : (P : Symbol → Type 0) (ls : List LabelPlace) → Drops P (text_labels ls)
dropped_labels P [] = none P
dropped_labels P (l ∷ ls) = after (first P (declares l.name)) (after (first P (word LabelColon l.colon)) (dropped_labels P ls))
