-- Over text 5 of an expression the pass finds its type and its faults, and writes its text 6.
use Rattle.std.proofs.Common.{◌≡◌, ◌∙◌, ◌++◌, ◌+◌, ◌*◌, ◌^◌, ◌%◌, ℕ, zero, suc, Bool, true, false, List, [], ◌∷◌, refl}
use Rattle.std.proofs.Common.{sym as back, ap, arith}
use Rattle.std.specs.Prelude.{Option, None, Some, nat_le, not, min, ◌==◌}
use Rattle.gier_symbol.specs.declared.symbol.Symbol.{Symbol}
use Rattle.gier_symbol.specs.declared.tag.Tag.TheVariants.{Power, Not, And, Or, Impl, Equiv, LeftParenthesis, RightParenthesis}
use Rattle.gier_symbol.specs.declared.tag.Tag.TheVariants.{LeftBracket, RightBracket, If, Then, Else, Used, Place}
use Rattle.gier_symbol.specs.declared.tag.Tag.TheVariants.{Subscripted as SubscriptedTag, Called, StringBegin, StringEnd}
use Rattle.gier_symbol.specs.ByTag.{sym, word}
use Rattle.gier_tree.specs.declared.construct.Construct.TheVariants.{Actual as MActual, Subscript as MSubscript}
use Rattle.gier_tree.specs.declared.construct.Construct.TheVariants.{ConditionalExpression as MConditional}
use Rattle.gier_tree.specs.declared.kind.Kind.{Kind}
use Rattle.gier_tree.specs.declared.kind.Kind.TheVariants.{Undeclared}
use Rattle.gier_tree.specs.Kinds.{kind_number}
use Rattle.gier_tree.specs.Described.{Described, description}
use Rattle.gier_tree.specs.Lines.{first_expr, last_expr, last_simple, last_implication, last_disjunction, last_conjunction}
use Rattle.gier_tree.specs.Lines.{last_negation, last_relation, last_arithmetic, last_term, last_factor, last_primary}
use Rattle.gier_tree.specs.Need.{count_exprs, count_actuals}
use Rattle.gier_tree.specs.Places.{Placed, Places}
use Rattle.gier_tree.specs.Spell.{adding_tag, multiplying_tag, comparing_tag, spell_bytes}
use Rattle.gier_tree.specs.Written.{Distributed, Polished, Expected, opens, shuts, leading_tag, described_use, count_behind}
use Rattle.gier_tree.specs.Written.{place_number, greatest_address, is_called_alone, is_called_as, called_alone, name_alone}
use Rattle.gier_tree.specs.Written.{actual_by, expected_kinds, further_expected, text_expr, text_simple, text_implication}
use Rattle.gier_tree.specs.Written.{text_disjunction, text_conjunction, text_negation, text_relation, text_arithmetic}
use Rattle.gier_tree.specs.Written.{text_term, text_factor, text_primary, text_subscripts, text_actual, text_actuals}
use Rattle.gier_tree.specs.Trees.{Name, Byte, Adding, Add, Subtract, Multiplying, Multiply, Divide, Comparing, LessThan, AtMost}
use Rattle.gier_tree.specs.Trees.{EqualTo, AtLeast, MoreThan, Unequal, Expr, OneSimple, IfExpr, Simple, OneImplication}
use Rattle.gier_tree.specs.Trees.{Equivalent, Implication, OneDisjunction, Implies, Disjunction, OneConjunction, Either}
use Rattle.gier_tree.specs.Trees.{Conjunction, OneNegation, Both, Negation, OneRelation, Negated, Relation, OneArithmetic}
use Rattle.gier_tree.specs.Trees.{Compared, Arithmetic, OneTerm, Signed, Summed, Term, OneFactor, Multiplied, Factor}
use Rattle.gier_tree.specs.Trees.{OnePrimary, Raised, Primary, Numeral, Logical, Bracketed, OneCall, OneElement, Alone}
use Rattle.gier_tree.specs.Trees.{WithActuals, Subscripted, Actual, OneExpr, AString, Actuals, NoActuals, MoreActuals, Exprs}
use Rattle.gier_tree.specs.Trees.{NoExprs, MoreExprs}
use Rattle.gier_kinds.specs.Actuals.{Wanted, wanted_behind, known_formals, is_other_count, actual_fits, fits_by, name_fits_in}
use Rattle.gier_kinds.specs.Actuals.{type_fits_in, string_fits_in}
use Rattle.gier_kinds.specs.AllowedUses.{alone_type, called_type, element_type}
use Rattle.gier_kinds.specs.ExprFaults.{CallPlace, InExpression, AsStatement, most_subscripts, most_actuals, too_long}
use Rattle.gier_kinds.specs.ExprFaults.{subscript_fault, is_other_number, may_be_called, actual_fault, wanted_of}
use Rattle.gier_kinds.specs.ExprTypes.{type_expr, type_simple, type_implication, type_disjunction, type_conjunction}
use Rattle.gier_kinds.specs.ExprTypes.{type_negation, type_relation, type_arithmetic, type_term, type_factor, type_primary}
use Rattle.gier_kinds.specs.Faults.{TypeFault, WrongUse, WrongSubscripts, WrongCount, WrongActual, WrongCondition}
use Rattle.gier_kinds.specs.Faults.{WrongBranches, WrongOperand, falls}
use Rattle.gier_kinds.specs.Types.{ExprType, OfInteger, OfBoolean, Unknown, agree, is_known, either_type}
use Rattle.gier_faults.specs.Insertion.{insert_all}
use Rattle.gier_fair.specs.Described.{described}
use Rattle.gier_text6.specs.Constructs.{further, actual_ends}
use Rattle.gier_text6.specs.Ending.{element_held}
use Rattle.gier_text6.specs.Entering.{formals_if, formals_at, use_described}
use Rattle.gier_text6.specs.JudgedExpressions.{shown, Tells, text_five, text_six, adds, at}
use Rattle.gier_text6.specs.PassState.{Context, AtStatement, AtLeftPart, AtVariable, AtActual, AtOperand, Use, Nothing, AText}
use Rattle.gier_text6.specs.PassState.{Open, Waits, Parenthesis, Brackets, Calls, Subscripting, Passing, Branching, World}
use Rattle.gier_text6.specs.PassState.{Found, found, raises, writes, core, Core, State, state}
use Rattle.gier_text6.specs.PlacedExpressions.{operand_kind, unless_named, placed_expr, placed_simple, placed_implication}
use Rattle.gier_text6.specs.PlacedExpressions.{placed_disjunction, placed_conjunction, placed_negation, placed_relation}
use Rattle.gier_text6.specs.PlacedExpressions.{placed_arithmetic, placed_term, placed_factor, placed_primary, placed_actual}
use Rattle.gier_text6.specs.PlacedExpressions.{placed_actuals, placed_subscripts}
use Rattle.gier_text6.specs.PlacedFaults.{on_place, raise}
use Rattle.gier_text6.specs.Positions.{after_count, after_use, after_bytes, after_by, after_expr, after_simple}
use Rattle.gier_text6.specs.Positions.{after_implication, after_disjunction, after_conjunction, after_negation, after_relation}
use Rattle.gier_text6.specs.Positions.{after_arithmetic, after_term, after_factor, after_primary, after_actual, after_actuals}
use Rattle.gier_text6.specs.Positions.{after_subscripts}
use Rattle.gier_text6.specs.PurePass.{judge, addresses}
use Rattle.gier_text6.specs.Uses.{call_place, call_begins, calls_if, unless_allowed}
use Rattle.gier_text6.proofs.Rising.{insert_append, late, ends, operator, prefix, in_list, down}
use Rattle.gier_text6.proofs.Fitting.{fits_expr, fits_implication, fits_disjunction, fits_conjunction, fits_negation}
use Rattle.gier_text6.proofs.Fitting.{fits_relation, fits_arithmetic, fits_term, fits_factor, fits_primary, fits_actual}
use Rattle.gier_text6.proofs.Fitting.{fits_actuals, fits_subscripts}
use Rattle.gier_text6.proofs.Closing.{start, a_use, holding, Under, Closes, Holds, is_some, absurd, closes_up, under_up}
use Rattle.gier_text6.proofs.Closing.{under_waits, closes_then, closes_else, closes_right_parenthesis, closes_subscript}
use Rattle.gier_text6.proofs.Closing.{closes_conditional, closes_actual, closes_equiv, push_equiv, ends_equiv, closes_impl}
use Rattle.gier_text6.proofs.Closing.{push_impl, ends_impl, closes_or, push_or, ends_or, closes_and, push_and, ends_and}
use Rattle.gier_text6.proofs.Closing.{closes_power, push_power, ends_power, closes_times, push_times, ends_times, level_times}
use Rattle.gier_text6.proofs.Closing.{closes_sum, push_sum, ends_sum, level_sum, closes_comparing, push_comparing}
use Rattle.gier_text6.proofs.Closing.{ends_comparing, level_comparing, push_leading, ends_leading, level_leading, take_logical}

-- a used identifier is held, and written
abbrev pub the_use : Placed → (position line : ℕ) → Context → Use
the_use a q l x = a_use a.what.kind (place_number a % addresses) a.what.count q l x

use_by : (W : World) (kind : Kind) (place count l : ℕ) (k : List Symbol) (a : Context) (st : List Open) (v : ExprType) (F :
    Found) (n i : ℕ) → judge (sym Used (kind_number kind) l ∷ sym Place place l
    ∷ count_behind kind count l k) (start a W st v F n i) ≡ judge k (holding (a_use kind (place % addresses) (shown kind
    count) n l a) W st v (adds [] (λ w. sym Used (kind_number kind) l ∷ sym Place place l
    ∷ count_behind kind count l w) F) (after_count kind (suc (suc n))) l)
use_by W Undeclared place count l k a st v F n i = refl
use_by W _ place count l k a st v F n i = refl

pub use_held : (W : World) (p : Places) (tells : Tells W p) (x l : ℕ) (k : List Symbol) (a : Context) (st : List Open) (v :
    ExprType) (F : Found) (n i : ℕ) → judge (described_use (p x) l k) (start a W st v F n i) ≡ judge k (holding (the_use (p
    x) n l a) W st v (adds [] (described_use (p x) l) F) (after_use (p x) n) l)
use_held W p tells x l k a st v F n i =
    use_by W (p x).what.kind (place_number (p x)) (p x).what.count l k a st v F n i
    ∙ ap (λ c. judge k (holding (a_use (p x).what.kind (place_number (p x) % addresses) c n l a) W st v
    (adds [] (described_use (p x) l) F) (after_use (p x) n) l)) (tells.counts x)

pub number_told : (level address : ℕ) → (level * 2 ^ 24 + min address greatest_address) % addresses ≡ min address greatest_address
number_told level address = omega arith

pub told : (W : World) (p : Places) (tells : Tells W p) (x q l : ℕ) (a : Context)
    → use_described W (the_use (p x) q l a) ≡ (p x).what
told W p tells x q l a =
    ap (λ m. description (p x).what.kind (p x).what.count (formals_if (p x).what.kind
    (formals_at m W.numbered))) (number_told (p x).level (p x).address)
    ∙ ap (λ f. description (p x).what.kind (p x).what.count f) (tells.formals x)

pub called_five : (b : Bool) (l : ℕ) (rest : List Symbol) → called_alone Distributed b l rest ≡ rest
called_five true l rest = refl
called_five false l rest = refl

pub called_six : (b : Bool) (l : ℕ) (F : Found) → calls_if b l F ≡ found F.faults (λ rest. F.out (called_alone Polished b l rest))
called_six true l F = refl
called_six false l F = refl

-- an element that is held is dropped
drops : (W : World) (a : Context) (m : ℕ) (k : List Symbol) (c : Closes W m k) (t : ExprType) (q i : ℕ) (st : List Open) (v :
    ExprType) (F : Found) (n l : ℕ) → judge k (state AtOperand (element_held a t q i) W st v F n l) ≡ judge k (at W st v F n l)
drops W AtStatement m k c t q i st v F n l = c.dropped t q i st v F n l
drops W AtLeftPart m k c t q i st v F n l = c.dropped t q i st v F n l
drops W AtVariable m k c t q i st v F n l = refl
drops W AtActual m k c t q i st v F n l = refl
drops W AtOperand m k c t q i st v F n l = refl

abbrev pub total_exprs : ℕ → Exprs → ℕ
total_exprs a NoExprs = a
total_exprs a (MoreExprs j y ys) = total_exprs (suc a) ys

pub total_next : (a : ℕ) (ys : Exprs) → total_exprs (suc a) ys ≡ suc (total_exprs a ys)
total_next a NoExprs = refl
total_next a (MoreExprs j y ys) = total_next (suc a) ys

pub total_is : (ys : Exprs) → total_exprs 0 ys ≡ count_exprs ys
total_is NoExprs = refl
total_is (MoreExprs j y ys) = total_next 0 ys ∙ ap suc (total_is ys)

abbrev pub total_actuals : ℕ → Actuals → ℕ
total_actuals a NoActuals = a
total_actuals a (MoreActuals j y ys) = total_actuals (suc a) ys

pub actuals_next : (a : ℕ) (ys : Actuals) → total_actuals (suc a) ys ≡ suc (total_actuals a ys)
actuals_next a NoActuals = refl
actuals_next a (MoreActuals j y ys) = actuals_next (suc a) ys

pub actuals_is : (ys : Actuals) → total_actuals 0 ys ≡ count_actuals ys
actuals_is NoActuals = refl
actuals_is (MoreActuals j y ys) = actuals_next 0 ys ∙ ap suc (actuals_is ys)

-- actuals: what ends with the first one, and with the others
abbrev pub first_by : ℕ → (old fits : Bool) → Bool
first_by zero b fits = fits
first_by (suc c) b fits = b

abbrev pub further_by : ℕ → (fits : Bool) → List TypeFault
further_by zero fits = []
further_by (suc c) fits = further most_actuals (suc c) fits WrongActual

ended : (fits : Bool) (q l : ℕ) (d : Described) (w : Wanted) (e : Expected) (c r i : ℕ) (b : Bool) (W : World) (st st2 : List
    Open) (v : ExprType) (F : Found) → actual_ends fits q l (Calls d w e (suc c) r i b
    ∷ st) (core W st2 v F) ≡ core W (Calls d w e (suc c) r i (first_by c b fits) ∷ st) v (raises q l (further_by c fits) F)
ended fits q l d w e zero r i b W st st2 v F = refl
ended fits q l d w e (suc c) r i b W st st2 v F = refl

bytes : (bs : List Byte) (m : ℕ) (k : List Symbol) (W : World) (st : List Open) (v : ExprType) (F : Found) (n l : ℕ)
    → judge (spell_bytes bs (word StringEnd m ∷ k)) (at W st v F n l)
    ≡ judge k (state AtOperand AText W st v (adds [] (λ w. spell_bytes bs (word StringEnd m ∷ w)) F) (suc (after_bytes bs n)) m)
bytes [] m k W st v F n l = refl
bytes (b ∷ bs) m k W st v F n l = bytes bs m k W st v (adds [] (λ w. spell_bytes (b ∷ []) w) F) (suc n) b.line

abbrev pub value_by : Option Name → Places → Expr → ExprType → ExprType
value_by None p e v = type_expr (described p) e
value_by (Some x) p e v = v

abbrev pub value_behind : Places → Actual → ExprType → ExprType
value_behind p (OneExpr e) v = value_by (name_alone e) p e v
value_behind p (AString l bs m) v = v

abbrev pub last_actual : Actual → ℕ
last_actual (OneExpr e) = last_expr e
last_actual (AString l bs m) = m

abbrev up_simple : Simple → Expr
up_simple x = OneSimple x

abbrev up_implication : Implication → Expr
up_implication x = up_simple (OneImplication x)

abbrev up_disjunction : Disjunction → Expr
up_disjunction x = up_implication (OneDisjunction x)

abbrev up_conjunction : Conjunction → Expr
up_conjunction x = up_disjunction (OneConjunction x)

abbrev up_negation : Negation → Expr
up_negation x = up_conjunction (OneNegation x)

abbrev up_relation : Relation → Expr
up_relation x = up_negation (OneRelation x)

abbrev up_arithmetic : Arithmetic → Expr
up_arithmetic x = up_relation (OneArithmetic x)

abbrev up_term : Term → Expr
up_term x = up_arithmetic (OneTerm x)

abbrev up_factor : Factor → Expr
up_factor x = up_term (OneFactor x)

abbrev up_primary : Primary → Expr
up_primary x = up_factor (OnePrimary x)

-- behind the shut mark of an actual
abbrev behind_actual : World → Symbol → (position : ℕ) → Core → State
behind_actual W s n c = record {
  core = core c.world c.stack c.value (writes s c.found);
  held = Nothing;
  context =
      AtOperand;
  position = suc n;
  line = s.line;
}

-- an actual that is an identifier alone, or isn't
by_name : (W : World) (os : List Name) (p : Places) (tells : Tells W p) (y : Expr) (e : Expected) (k : List Symbol) (d :
    Described) (w : Wanted) (c q r : ℕ) (b : Bool) (st : List Open) (v : ExprType) (F : Found) (n j : ℕ) (o : Option Name) →
    name_alone y ≡ o
    → (name_alone y ≡ None → judge (text_expr (text_five os) p y (shuts MActual (last_expr y) ∷ k)) (start AtActual W
    (Passing w e n j ∷ Calls d (wanted_behind w) (further_expected e) (suc c) q r b
    ∷ st) v F (suc (suc n)) (first_expr y)) ≡ judge (shuts MActual (last_expr y) ∷ k) (at W (Passing w e n j
    ∷ Calls d (wanted_behind w) (further_expected e) (suc c) q r b
    ∷ st) (type_expr (described p) y) (adds (placed_expr p y (suc (suc n))) (text_expr (text_six
    os) p y) F) (after_expr p y (suc (suc n))) (last_expr y)))
    → judge (actual_by o (text_five os) p e (text_expr (text_five os) p y (shuts MActual (last_expr y) ∷ k)) (shuts MActual
    (last_expr y) ∷ k)) (start AtActual W (Passing w e n j ∷ Calls d (wanted_behind w) (further_expected e) (suc c) q r b
    ∷ st) v F (suc (suc n)) (first_expr y))
    ≡ judge k (at W (Calls d (wanted_behind w) (further_expected e) (suc c) q r (first_by c b (fits_by o (described p) w y))
    ∷ st) (value_by o p y v) (found (raise n j (further_by c (fits_by o (described p) w y)) (insert_all
    (unless_named o (placed_expr p y (suc (suc
    n)))) F.faults)) (λ rest. F.out (actual_by o (text_six os) p e (text_expr (text_six os) p y (shuts MActual (last_expr y)
    ∷ rest)) (shuts MActual (last_expr y) ∷ rest)))) (suc (after_by o p (after_expr p y (suc (suc n))) (suc (suc n))))
    (last_expr y))
by_name W os p tells y e k d w c q r b st v F n j None h other =
    other h ∙ ap (λ z. judge k (behind_actual W (shuts MActual (last_expr y)) (after_expr p y (suc (suc n)))
    z)) (ended (type_fits_in w (type_expr (described
    p) y)) n j d (wanted_behind w) (further_expected e) c q r b W st (Passing w e n j ∷ Calls d (wanted_behind w)
    (further_expected e) (suc c) q r b
    ∷ st) (type_expr (described p) y) (adds (placed_expr p y (suc (suc n))) (text_expr (text_six os) p y) F))
by_name W os p tells y e k d w c q r b st v F n j (Some x) h other =
    let s = shuts MActual (last_expr y) in let calls = Calls d (wanted_behind w) (further_expected e) (suc c) q r b ∷ st in
    let stack = Passing w e n j ∷ calls in let m = suc (suc n) in let F1 = adds [] (described_use (p x.number) x.line) F in
    let called = is_called_as e (p x.number).what in
    ap (λ z. judge (described_use (p x.number) x.line z) (start AtActual W stack v F m
    (first_expr y))) (called_five called x.line (s ∷ k))
    ∙ use_held W p tells x.number x.line (s ∷ k) AtActual stack v F m (first_expr y)
    ∙ ap (λ f. judge k (behind_actual W s (after_use (p x.number) m)
    (actual_ends (name_fits_in w f) n j calls (core W calls v
    (calls_if (is_called_as e f) x.line F1))))) (told W p tells x.number m x.line AtActual)
    ∙ ap (λ z. judge k (behind_actual W s (after_use (p x.number) m)
    (actual_ends (name_fits_in w (p x.number).what) n j calls (core W calls v z)))) (called_six called x.line F1)
    ∙ ap (λ z. judge k (behind_actual W s (after_use (p x.number) m) z)) (ended (name_fits_in w
    (p x.number).what) n j d (wanted_behind w) (further_expected e) c q r b W st calls v (found F.faults (λ rest.
    F.out (described_use (p x.number) x.line (called_alone Polished called x.line rest)))))

abbrev is_expression : CallPlace → Bool
is_expression InExpression = true
is_expression AsStatement = false

no_place : {A : Type 0} → AsStatement ≡ InExpression → A
no_place g = absurd (ap is_expression g)

holds_equiv : (W : World) (i : ℕ) (w : List Symbol) (a : Context) → call_place a ≡ InExpression → (e : Expr)
    → Holds W a (word Equiv i ∷ w) e
holds_equiv W i w AtStatement g e = λ alone. no_place g
holds_equiv W i w AtLeftPart g e = λ alone kind number count q j st v F n l. refl
holds_equiv W i w AtVariable g e = λ alone kind number count q j st v F n l. refl
holds_equiv W i w AtActual g e = λ alone kind number count q j st v F n l. refl
holds_equiv W i w AtOperand g e = λ alone kind number count q j st v F n l. refl

holds_impl : (W : World) (i : ℕ) (w : List Symbol) (a : Context) → call_place a ≡ InExpression → (e : Expr)
    → Holds W a (word Impl i ∷ w) e
holds_impl W i w AtStatement g e = λ alone. no_place g
holds_impl W i w AtLeftPart g e = λ alone kind number count q j st v F n l. refl
holds_impl W i w AtVariable g e = λ alone kind number count q j st v F n l. refl
holds_impl W i w AtActual g e = λ alone kind number count q j st v F n l. refl
holds_impl W i w AtOperand g e = λ alone kind number count q j st v F n l. refl

holds_or : (W : World) (i : ℕ) (w : List Symbol) (a : Context) → call_place a ≡ InExpression → (e : Expr)
    → Holds W a (word Or i ∷ w) e
holds_or W i w AtStatement g e = λ alone. no_place g
holds_or W i w AtLeftPart g e = λ alone kind number count q j st v F n l. refl
holds_or W i w AtVariable g e = λ alone kind number count q j st v F n l. refl
holds_or W i w AtActual g e = λ alone kind number count q j st v F n l. refl
holds_or W i w AtOperand g e = λ alone kind number count q j st v F n l. refl

holds_and : (W : World) (i : ℕ) (w : List Symbol) (a : Context) → call_place a ≡ InExpression → (e : Expr)
    → Holds W a (word And i ∷ w) e
holds_and W i w AtStatement g e = λ alone. no_place g
holds_and W i w AtLeftPart g e = λ alone kind number count q j st v F n l. refl
holds_and W i w AtVariable g e = λ alone kind number count q j st v F n l. refl
holds_and W i w AtActual g e = λ alone kind number count q j st v F n l. refl
holds_and W i w AtOperand g e = λ alone kind number count q j st v F n l. refl

holds_power : (W : World) (i : ℕ) (w : List Symbol) (a : Context) → call_place a ≡ InExpression → (e : Expr)
    → Holds W a (word Power i ∷ w) e
holds_power W i w AtStatement g e = λ alone. no_place g
holds_power W i w AtLeftPart g e = λ alone kind number count q j st v F n l. refl
holds_power W i w AtVariable g e = λ alone kind number count q j st v F n l. refl
holds_power W i w AtActual g e = λ alone kind number count q j st v F n l. refl
holds_power W i w AtOperand g e = λ alone kind number count q j st v F n l. refl

holds_times : (W : World) (o : Multiplying) (i : ℕ) (w : List Symbol) (a : Context) → call_place a ≡ InExpression → (e : Expr)
    → Holds W a (word (multiplying_tag o) i ∷ w) e
holds_times W Multiply i w AtStatement g e = λ alone. no_place g
holds_times W Multiply i w AtLeftPart g e = λ alone kind number count q j st v F n l. refl
holds_times W Multiply i w AtVariable g e = λ alone kind number count q j st v F n l. refl
holds_times W Multiply i w AtActual g e = λ alone kind number count q j st v F n l. refl
holds_times W Multiply i w AtOperand g e = λ alone kind number count q j st v F n l. refl
holds_times W Divide i w AtStatement g e = λ alone. no_place g
holds_times W Divide i w AtLeftPart g e = λ alone kind number count q j st v F n l. refl
holds_times W Divide i w AtVariable g e = λ alone kind number count q j st v F n l. refl
holds_times W Divide i w AtActual g e = λ alone kind number count q j st v F n l. refl
holds_times W Divide i w AtOperand g e = λ alone kind number count q j st v F n l. refl

holds_sum : (W : World) (o : Adding) (i : ℕ) (w : List Symbol) (a : Context) → call_place a ≡ InExpression → (e : Expr)
    → Holds W a (word (adding_tag o) i ∷ w) e
holds_sum W Add i w AtStatement g e = λ alone. no_place g
holds_sum W Add i w AtLeftPart g e = λ alone kind number count q j st v F n l. refl
holds_sum W Add i w AtVariable g e = λ alone kind number count q j st v F n l. refl
holds_sum W Add i w AtActual g e = λ alone kind number count q j st v F n l. refl
holds_sum W Add i w AtOperand g e = λ alone kind number count q j st v F n l. refl
holds_sum W Subtract i w AtStatement g e = λ alone. no_place g
holds_sum W Subtract i w AtLeftPart g e = λ alone kind number count q j st v F n l. refl
holds_sum W Subtract i w AtVariable g e = λ alone kind number count q j st v F n l. refl
holds_sum W Subtract i w AtActual g e = λ alone kind number count q j st v F n l. refl
holds_sum W Subtract i w AtOperand g e = λ alone kind number count q j st v F n l. refl

holds_comparing : (W : World) (o : Comparing) (i : ℕ) (w : List Symbol) (a : Context) → call_place a ≡ InExpression → (e : Expr)
    → Holds W a (word (comparing_tag o) i ∷ w) e
holds_comparing W LessThan i w AtStatement g e = λ alone. no_place g
holds_comparing W LessThan i w AtLeftPart g e = λ alone kind number count q j st v F n l. refl
holds_comparing W LessThan i w AtVariable g e = λ alone kind number count q j st v F n l. refl
holds_comparing W LessThan i w AtActual g e = λ alone kind number count q j st v F n l. refl
holds_comparing W LessThan i w AtOperand g e = λ alone kind number count q j st v F n l. refl
holds_comparing W AtMost i w AtStatement g e = λ alone. no_place g
holds_comparing W AtMost i w AtLeftPart g e = λ alone kind number count q j st v F n l. refl
holds_comparing W AtMost i w AtVariable g e = λ alone kind number count q j st v F n l. refl
holds_comparing W AtMost i w AtActual g e = λ alone kind number count q j st v F n l. refl
holds_comparing W AtMost i w AtOperand g e = λ alone kind number count q j st v F n l. refl
holds_comparing W EqualTo i w AtStatement g e = λ alone. no_place g
holds_comparing W EqualTo i w AtLeftPart g e = λ alone kind number count q j st v F n l. refl
holds_comparing W EqualTo i w AtVariable g e = λ alone kind number count q j st v F n l. refl
holds_comparing W EqualTo i w AtActual g e = λ alone kind number count q j st v F n l. refl
holds_comparing W EqualTo i w AtOperand g e = λ alone kind number count q j st v F n l. refl
holds_comparing W AtLeast i w AtStatement g e = λ alone. no_place g
holds_comparing W AtLeast i w AtLeftPart g e = λ alone kind number count q j st v F n l. refl
holds_comparing W AtLeast i w AtVariable g e = λ alone kind number count q j st v F n l. refl
holds_comparing W AtLeast i w AtActual g e = λ alone kind number count q j st v F n l. refl
holds_comparing W AtLeast i w AtOperand g e = λ alone kind number count q j st v F n l. refl
holds_comparing W MoreThan i w AtStatement g e = λ alone. no_place g
holds_comparing W MoreThan i w AtLeftPart g e = λ alone kind number count q j st v F n l. refl
holds_comparing W MoreThan i w AtVariable g e = λ alone kind number count q j st v F n l. refl
holds_comparing W MoreThan i w AtActual g e = λ alone kind number count q j st v F n l. refl
holds_comparing W MoreThan i w AtOperand g e = λ alone kind number count q j st v F n l. refl
holds_comparing W Unequal i w AtStatement g e = λ alone. no_place g
holds_comparing W Unequal i w AtLeftPart g e = λ alone kind number count q j st v F n l. refl
holds_comparing W Unequal i w AtVariable g e = λ alone kind number count q j st v F n l. refl
holds_comparing W Unequal i w AtActual g e = λ alone kind number count q j st v F n l. refl
holds_comparing W Unequal i w AtOperand g e = λ alone kind number count q j st v F n l. refl

mutual
  pub expr : (W : World) (os : List Name) (p : Places) (tells : Tells W p) (x : Expr) (k : List Symbol) (a : Context) (g :
      call_place a ≡ InExpression) (st : List Open) (v : ExprType) (F : Found) (n l : ℕ) → Under W 1 st → Closes W 1 k → Holds W
      a k (x) → judge (text_expr (text_five os) p x k) (start a W st v F n l)
      ≡ judge k (at W st (type_expr (described p) x) (adds (placed_expr p x n) (text_expr (text_six os) p x) F) (after_expr p x
      n) (last_expr x))
  expr W os p tells (OneSimple x) k a g st v F n l u c h = simple W os p tells x k a g st v F n l u c h
  expr W os p tells (IfExpr i x m y j z) k a g st v F n l u c h =
      let n1 = suc (suc n) in let n2 = after_expr p x n1 in let n3 = suc n2 in let n4 = after_simple p y n3 in let n5 =
      suc n4 in let n6 = after_expr p z n5 in
      let tx = type_expr (described p) x in let ty = type_simple (described p) y in let tz = type_expr (described p) z in
      let px = placed_expr p x n1 in let py = placed_simple p y n3 in let pz = placed_expr p z n5 in
      let ends = shuts MConditional (last_expr z) ∷ k in
      let behind_else = text_expr (text_five os) p z ends in
      let behind_then = text_simple (text_five os) p y (word Else j ∷ behind_else) in
      let kc = falls (not (agree OfBoolean tx)) WrongCondition in
      let kb = falls (not (agree ty tz)) WrongBranches in
      let F0 = writes (word If i) (writes (opens MConditional i) F) in
      let F1 = adds px (text_expr (text_six os) p x) F0 in let F2 = writes (word Then m) (raises (suc n) i kc F1) in
      let F3 = writes (word Else j) (adds py (text_simple (text_six os) p y) F2) in
      let G1 = insert_all px F.faults in let G2 = raise (suc n) i kc G1 in let G3 = insert_all py G2 in
      expr W os p tells x (word Then m ∷ behind_then) AtOperand refl (Branching Unknown (suc n) i
      ∷ st) v F0 n1 i (λ m g v F. refl) (closes_then W m _) (λ e. (closes_then W m behind_then).held)
      ∙ simple W os p tells y (word Else j ∷ behind_else) AtOperand refl (Branching Unknown (suc n) i
      ∷ st) tx F2 n3 m (λ m g v F. refl) (closes_else W j _) (λ e. (closes_else W j behind_else).held)
      ∙ expr W os p tells z ends AtOperand refl (Branching ty n4 j
      ∷ st) ty F3 n5 j (λ m g v F. refl) (closes_conditional W (last_expr z) k) (λ e.
      (closes_conditional W (last_expr z) k).held)
      ∙ ap (λ G. judge k (at W st (either_type ty tz)
      (found G (λ rest. F.out (text_expr (text_six os) p (IfExpr i x m y j z) rest))) (suc n6) (last_expr z)))
      (late n4 j kb n5 n6 pz (fits_expr p z n5).rising (omega arith) G3
      ∙ ap (λ G. insert_all pz (raise n4 j kb (insert_all py G))) (late (suc n) i kc n1 n2 px (fits_expr p x n1).rising (omega
      arith) F.faults)
      ∙ back (insert_append (on_place (suc n) i kc ++ px ++ py ++ on_place n4 j kb) pz F.faults
      ∙ ap (insert_all pz) (insert_append (on_place (suc n) i kc ++ px ++ py) (on_place n4 j kb) F.faults
      ∙ ap (raise n4 j kb) (insert_append (on_place (suc n) i kc ++ px) py F.faults
      ∙ ap (insert_all py) (insert_append (on_place (suc n) i kc) px F.faults)))))

  pub simple : (W : World) (os : List Name) (p : Places) (tells : Tells W p) (x : Simple) (k : List Symbol) (a : Context) (g :
      call_place a ≡ InExpression) (st : List Open) (v : ExprType) (F : Found) (n l : ℕ) → Under W 1 st → Closes W 1 k → Holds W
      a k (up_simple x) → judge (text_simple (text_five os) p x k) (start a W st v F n l)
      ≡ judge k (at W st (type_simple (described p) x) (adds (placed_simple p x n) (text_simple (text_six os) p x)
      F) (after_simple p x n) (last_simple x))
  simple W os p tells (OneImplication y) k a g st v F n l u c h =
      implication W os p tells y k a g st v F n l (under_up W 1 2 st refl u) (closes_up W 1 2 k refl c) h
  simple W os p tells (Equivalent x i y) k a g st v F n l u c h =
      let rest = text_implication (text_five os) p y k in
      let m = after_simple p x n in let m1 = after_implication p y (suc m) in
      let tx = type_simple (described p) x in let ty = type_implication (described p) y in
      let px = placed_simple p x n in let py = placed_implication p y (suc m) in
      let fx = agree OfBoolean tx in let F1 = adds px (text_simple (text_six os) p x) F in let F2 =
      raises m i (falls (not fx) WrongOperand) F1 in
      simple W os p tells x (word Equiv i ∷ rest) a g st v F n l u (closes_equiv W i _) (holds_equiv W i rest a g (up_simple x))
      ∙ push_equiv W i rest st tx F1 m (last_simple x) u
      ∙ implication W os p tells y k AtOperand refl (Waits Equiv m i fx
      ∷ st) tx F2 (suc m) i (under_waits W 2 Equiv m i fx st refl) (closes_up W 1 2 k refl c) (λ e. c.held)
      ∙ ends_equiv W k c m i fx st ty (adds py (text_implication (text_six os) p y) F2) m1 (last_implication y)
      ∙ ap (λ G. judge k (at W st OfBoolean (found G (λ w. F.out (text_simple (text_six os) p (Equivalent x i y) w))) m1
      (last_implication y))) (operator fx (agree OfBoolean ty) m i px py F.faults m1 (fits_implication p y (suc m)).rising)

  pub implication : (W : World) (os : List Name) (p : Places) (tells : Tells W p) (x : Implication) (k : List Symbol) (a :
      Context) (g : call_place a ≡ InExpression) (st : List Open) (v : ExprType) (F : Found) (n l : ℕ) → Under W 2 st → Closes W
      2 k → Holds W a k (up_implication x)
      → judge (text_implication (text_five os) p x k) (start a W st v F n l)
      ≡ judge k (at W st (type_implication (described p) x) (adds (placed_implication p x n)
      (text_implication (text_six os) p x) F) (after_implication p x n) (last_implication x))
  implication W os p tells (OneDisjunction y) k a g st v F n l u c h =
      disjunction W os p tells y k a g st v F n l (under_up W 2 3 st refl u) (closes_up W 2 3 k refl c) h
  implication W os p tells (Implies x i y) k a g st v F n l u c h =
      let rest = text_disjunction (text_five os) p y k in
      let m = after_implication p x n in let m1 = after_disjunction p y (suc m) in
      let tx = type_implication (described p) x in let ty = type_disjunction (described p) y in
      let px = placed_implication p x n in let py = placed_disjunction p y (suc m) in
      let fx = agree OfBoolean tx in let F1 = adds px (text_implication (text_six os) p x) F in let F2 =
      raises m i (falls (not fx) WrongOperand) F1 in
      implication W os p tells x (word Impl i
      ∷ rest) a g st v F n l u (closes_impl W i _) (holds_impl W i rest a g (up_implication x))
      ∙ push_impl W i rest st tx F1 m (last_implication x) u
      ∙ disjunction W os p tells y k AtOperand refl (Waits Impl m i fx
      ∷ st) tx F2 (suc m) i (under_waits W 3 Impl m i fx st refl) (closes_up W 2 3 k refl c) (λ e. c.held)
      ∙ ends_impl W k c m i fx st ty (adds py (text_disjunction (text_six os) p y) F2) m1 (last_disjunction y)
      ∙ ap (λ G. judge k (at W st OfBoolean (found G (λ w. F.out (text_implication (text_six os) p (Implies x i y) w))) m1
      (last_disjunction y))) (operator fx (agree OfBoolean ty) m i px py F.faults m1 (fits_disjunction p y (suc m)).rising)

  pub disjunction : (W : World) (os : List Name) (p : Places) (tells : Tells W p) (x : Disjunction) (k : List Symbol) (a :
      Context) (g : call_place a ≡ InExpression) (st : List Open) (v : ExprType) (F : Found) (n l : ℕ) → Under W 3 st → Closes W
      3 k → Holds W a k (up_disjunction x)
      → judge (text_disjunction (text_five os) p x k) (start a W st v F n l)
      ≡ judge k (at W st (type_disjunction (described p) x) (adds (placed_disjunction p x n)
      (text_disjunction (text_six os) p x) F) (after_disjunction p x n) (last_disjunction x))
  disjunction W os p tells (OneConjunction y) k a g st v F n l u c h =
      conjunction W os p tells y k a g st v F n l (under_up W 3 4 st refl u) (closes_up W 3 4 k refl c) h
  disjunction W os p tells (Either x i y) k a g st v F n l u c h =
      let rest = text_conjunction (text_five os) p y k in
      let m = after_disjunction p x n in let m1 = after_conjunction p y (suc m) in
      let tx = type_disjunction (described p) x in let ty = type_conjunction (described p) y in
      let px = placed_disjunction p x n in let py = placed_conjunction p y (suc m) in
      let fx = agree OfBoolean tx in let F1 = adds px (text_disjunction (text_six os) p x) F in let F2 =
      raises m i (falls (not fx) WrongOperand) F1 in
      disjunction W os p tells x (word Or i ∷ rest) a g st v F n l u (closes_or W i _) (holds_or W i rest a g (up_disjunction x))
      ∙ push_or W i rest st tx F1 m (last_disjunction x) u
      ∙ conjunction W os p tells y k AtOperand refl (Waits Or m i fx
      ∷ st) tx F2 (suc m) i (under_waits W 4 Or m i fx st refl) (closes_up W 3 4 k refl c) (λ e. c.held)
      ∙ ends_or W k c m i fx st ty (adds py (text_conjunction (text_six os) p y) F2) m1 (last_conjunction y)
      ∙ ap (λ G. judge k (at W st OfBoolean (found G (λ w. F.out (text_disjunction (text_six os) p (Either x i y) w))) m1
      (last_conjunction y))) (operator fx (agree OfBoolean ty) m i px py F.faults m1 (fits_conjunction p y (suc m)).rising)

  pub conjunction : (W : World) (os : List Name) (p : Places) (tells : Tells W p) (x : Conjunction) (k : List Symbol) (a :
      Context) (g : call_place a ≡ InExpression) (st : List Open) (v : ExprType) (F : Found) (n l : ℕ) → Under W 4 st → Closes W
      4 k → Holds W a k (up_conjunction x)
      → judge (text_conjunction (text_five os) p x k) (start a W st v F n l)
      ≡ judge k (at W st (type_conjunction (described p) x) (adds (placed_conjunction p x n)
      (text_conjunction (text_six os) p x) F) (after_conjunction p x n) (last_conjunction x))
  conjunction W os p tells (OneNegation y) k a g st v F n l u c h =
      negation W os p tells y k a g st v F n l (under_up W 4 5 st refl u) (closes_up W 4 5 k refl c) h
  conjunction W os p tells (Both x i y) k a g st v F n l u c h =
      let rest = text_negation (text_five os) p y k in
      let m = after_conjunction p x n in let m1 = after_negation p y (suc m) in
      let tx = type_conjunction (described p) x in let ty = type_negation (described p) y in
      let px = placed_conjunction p x n in let py = placed_negation p y (suc m) in
      let fx = agree OfBoolean tx in let F1 = adds px (text_conjunction (text_six os) p x) F in let F2 =
      raises m i (falls (not fx) WrongOperand) F1 in
      conjunction W os p tells x (word And i ∷ rest) a g st v F n l u (closes_and W i _) (holds_and W i rest a g (up_conjunction x))
      ∙ push_and W i rest st tx F1 m (last_conjunction x) u
      ∙ negation W os p tells y k AtOperand refl (Waits And m i fx
      ∷ st) tx F2 (suc m) i (under_waits W 5 And m i fx st refl) (closes_up W 4 5 k refl c) (λ e. c.held)
      ∙ ends_and W k c m i fx st ty (adds py (text_negation (text_six os) p y) F2) m1 (last_negation y)
      ∙ ap (λ G. judge k (at W st OfBoolean (found G (λ w. F.out (text_conjunction (text_six os) p (Both x i y) w))) m1
      (last_negation y))) (operator fx (agree OfBoolean ty) m i px py F.faults m1 (fits_negation p y (suc m)).rising)

  pub negation : (W : World) (os : List Name) (p : Places) (tells : Tells W p) (x : Negation) (k : List Symbol) (a : Context) (g
      : call_place a ≡ InExpression) (st : List Open) (v : ExprType) (F : Found) (n l : ℕ) → Under W 5 st → Closes W 5 k → Holds
      W a k (up_negation x) → judge (text_negation (text_five os) p x k) (start a W st v F n l)
      ≡ judge k (at W st (type_negation (described p) x) (adds (placed_negation p x n) (text_negation (text_six os) p x)
      F) (after_negation p x n) (last_negation x))
  negation W os p tells (OneRelation y) k a g st v F n l u c h =
      relation W os p tells y k a g st v F n l (under_up W 5 6 st refl u) (closes_up W 5 6 k refl c) h
  negation W os p tells (Negated i y) k a g st v F n l u c h =
      let m = after_relation p y (suc n) in let py = placed_relation p y (suc n) in let ty = type_relation (described p) y in
      relation W os p tells y k AtOperand refl (Waits Not n i true
      ∷ st) v F (suc n) i (under_waits W 6 Not n i true st refl) (closes_up W 5 6 k refl c) (λ e. c.held)
      ∙ c.waits Not n i true st ty (adds py (text_relation (text_six os) p y) F) m (last_relation y) refl
      ∙ ap (λ G. judge k (at W st OfBoolean (found G (λ rest. F.out (text_negation (text_six os) p (Negated i y) rest))) m
      (last_relation y))) (prefix n i (operand_kind OfBoolean ty) py F.faults m (fits_relation p y (suc n)).rising)

  pub relation : (W : World) (os : List Name) (p : Places) (tells : Tells W p) (x : Relation) (k : List Symbol) (a : Context) (g
      : call_place a ≡ InExpression) (st : List Open) (v : ExprType) (F : Found) (n l : ℕ) → Under W 6 st → Closes W 6 k → Holds
      W a k (up_relation x) → judge (text_relation (text_five os) p x k) (start a W st v F n l)
      ≡ judge k (at W st (type_relation (described p) x) (adds (placed_relation p x n) (text_relation (text_six os) p x)
      F) (after_relation p x n) (last_relation x))
  relation W os p tells (OneArithmetic y) k a g st v F n l u c h =
      arithmetic W os p tells y k a g st v F n l (under_up W 6 7 st refl u) (closes_up W 6 7 k refl c) h
  relation W os p tells (Compared x o i y) k a g st v F n l u c h =
      let rest = text_arithmetic (text_five os) p y k in
      let m = after_arithmetic p x n in let m1 = after_arithmetic p y (suc m) in
      let tx = type_arithmetic (described p) x in let ty = type_arithmetic (described p) y in
      let px = placed_arithmetic p x n in let py = placed_arithmetic p y (suc m) in
      let fx = agree OfInteger tx in let F1 = adds px (text_arithmetic (text_six os) p x) F in let F2 =
      raises m i (falls (not fx) WrongOperand) F1 in
      arithmetic W os p tells x (word (comparing_tag o) i
      ∷ rest) a g st v F n l (under_up W 6 7 st refl u) (closes_up W 6 7 _ refl (closes_comparing W o i _)) (holds_comparing
      W o i rest a g (up_arithmetic x))
      ∙ push_comparing W o i rest st tx F1 m (last_arithmetic x) u
      ∙ arithmetic W os p tells y k AtOperand refl (Waits (comparing_tag o) m i fx
      ∷ st) tx F2 (suc m) i (under_waits W 7 (comparing_tag o) m i fx st (ap (nat_le 7) (level_comparing
      o))) (closes_up W 6 7 k refl c) (λ e. c.held)
      ∙ ends_comparing W o k c m i fx st ty (adds py (text_arithmetic (text_six os) p y) F2) m1 (last_arithmetic y)
      ∙ ap (λ G. judge k (at W st OfBoolean (found G (λ w. F.out (text_relation (text_six os) p (Compared x o i y) w))) m1
      (last_arithmetic y))) (operator fx (agree OfInteger ty) m i px py F.faults m1 (fits_arithmetic p y (suc m)).rising)

  pub arithmetic : (W : World) (os : List Name) (p : Places) (tells : Tells W p) (x : Arithmetic) (k : List Symbol) (a :
      Context) (g : call_place a ≡ InExpression) (st : List Open) (v : ExprType) (F : Found) (n l : ℕ) → Under W 7 st → Closes W
      7 k → Holds W a k (up_arithmetic x)
      → judge (text_arithmetic (text_five os) p x k) (start a W st v F n l)
      ≡ judge k (at W st (type_arithmetic (described p) x) (adds (placed_arithmetic p x n) (text_arithmetic (text_six os) p x)
      F) (after_arithmetic p x n) (last_arithmetic x))
  arithmetic W os p tells (OneTerm y) k a g st v F n l u c h =
      term W os p tells y k a g st v F n l (under_up W 7 8 st refl u) (closes_up W 7 8 k refl c) h
  arithmetic W os p tells (Signed o i y) k a g st v F n l u c h =
      let m = after_term p y (suc n) in let py = placed_term p y (suc n) in let ty = type_term (described p) y in
      push_leading W o i (text_term (text_five os) p y k) a st v F n l
      ∙ term W os p tells y k AtOperand refl (Waits (leading_tag o) n i true
      ∷ st) v F (suc n) i (under_waits W 8 (leading_tag o) n i true st (ap (nat_le 8) (level_leading
      o))) (closes_up W 7 8 k refl c) (λ e. c.held)
      ∙ ends_leading W o k c n i st ty (adds py (text_term (text_six os) p y) F) m (last_term y)
      ∙ ap (λ G. judge k (at W st OfInteger (found G (λ rest. F.out (text_arithmetic (text_six os) p (Signed o i y) rest))) m
      (last_term y))) (prefix n i (operand_kind OfInteger ty) py F.faults m (fits_term p y (suc n)).rising)
  arithmetic W os p tells (Summed x o i y) k a g st v F n l u c h =
      let rest = text_term (text_five os) p y k in
      let m = after_arithmetic p x n in let m1 = after_term p y (suc m) in
      let tx = type_arithmetic (described p) x in let ty = type_term (described p) y in
      let px = placed_arithmetic p x n in let py = placed_term p y (suc m) in
      let fx = agree OfInteger tx in let F1 = adds px (text_arithmetic (text_six os) p x) F in let F2 =
      raises m i (falls (not fx) WrongOperand) F1 in
      arithmetic W os p tells x (word (adding_tag o) i
      ∷ rest) a g st v F n l u (closes_sum W o i _) (holds_sum W o i rest a g (up_arithmetic x))
      ∙ push_sum W o i rest st tx F1 m (last_arithmetic x) u
      ∙ term W os p tells y k AtOperand refl (Waits (adding_tag o) m i fx
      ∷ st) tx F2 (suc m) i (under_waits W 8 (adding_tag o) m i fx st (ap (nat_le 8) (level_sum
      o))) (closes_up W 7 8 k refl c) (λ e. c.held)
      ∙ ends_sum W o k c m i fx st ty (adds py (text_term (text_six os) p y) F2) m1 (last_term y)
      ∙ ap (λ G. judge k (at W st OfInteger (found G (λ w. F.out (text_arithmetic (text_six os) p (Summed x o i y) w))) m1
      (last_term y))) (operator fx (agree OfInteger ty) m i px py F.faults m1 (fits_term p y (suc m)).rising)

  pub term : (W : World) (os : List Name) (p : Places) (tells : Tells W p) (x : Term) (k : List Symbol) (a : Context) (g :
      call_place a ≡ InExpression) (st : List Open) (v : ExprType) (F : Found) (n l : ℕ) → Under W 8 st → Closes W 8 k → Holds W
      a k (up_term x) → judge (text_term (text_five os) p x k) (start a W st v F n l)
      ≡ judge k (at W st (type_term (described p) x) (adds (placed_term p x n) (text_term (text_six os) p x) F) (after_term p x
      n) (last_term x))
  term W os p tells (OneFactor y) k a g st v F n l u c h =
      factor W os p tells y k a g st v F n l (under_up W 8 9 st refl u) (closes_up W 8 9 k refl c) h
  term W os p tells (Multiplied x o i y) k a g st v F n l u c h =
      let rest = text_factor (text_five os) p y k in
      let m = after_term p x n in let m1 = after_factor p y (suc m) in
      let tx = type_term (described p) x in let ty = type_factor (described p) y in
      let px = placed_term p x n in let py = placed_factor p y (suc m) in
      let fx = agree OfInteger tx in let F1 = adds px (text_term (text_six os) p x) F in let F2 =
      raises m i (falls (not fx) WrongOperand) F1 in
      term W os p tells x (word (multiplying_tag o) i
      ∷ rest) a g st v F n l u (closes_times W o i _) (holds_times W o i rest a g (up_term x))
      ∙ push_times W o i rest st tx F1 m (last_term x) u
      ∙ factor W os p tells y k AtOperand refl (Waits (multiplying_tag o) m i fx
      ∷ st) tx F2 (suc m) i (under_waits W 9 (multiplying_tag o) m i fx st (ap (nat_le 9) (level_times
      o))) (closes_up W 8 9 k refl c) (λ e. c.held)
      ∙ ends_times W o k c m i fx st ty (adds py (text_factor (text_six os) p y) F2) m1 (last_factor y)
      ∙ ap (λ G. judge k (at W st OfInteger (found G (λ w. F.out (text_term (text_six os) p (Multiplied x o i y) w))) m1
      (last_factor y))) (operator fx (agree OfInteger ty) m i px py F.faults m1 (fits_factor p y (suc m)).rising)

  pub factor : (W : World) (os : List Name) (p : Places) (tells : Tells W p) (x : Factor) (k : List Symbol) (a : Context) (g :
      call_place a ≡ InExpression) (st : List Open) (v : ExprType) (F : Found) (n l : ℕ) → Under W 9 st → Closes W 9 k → Holds W
      a k (up_factor x) → judge (text_factor (text_five os) p x k) (start a W st v F n l)
      ≡ judge k (at W st (type_factor (described p) x) (adds (placed_factor p x n) (text_factor (text_six os) p x)
      F) (after_factor p x n) (last_factor x))
  factor W os p tells (OnePrimary y) k a g st v F n l u c h = primary W os p tells y k a g st v F n l c h
  factor W os p tells (Raised x i y) k a g st v F n l u c h =
      let rest = text_primary (text_five os) p y k in
      let m = after_factor p x n in let m1 = after_primary p y (suc m) in
      let tx = type_factor (described p) x in let ty = type_primary (described p) y in
      let px = placed_factor p x n in let py = placed_primary p y (suc m) in
      let fx = agree OfInteger tx in let F1 = adds px (text_factor (text_six os) p x) F in let F2 =
      raises m i (falls (not fx) WrongOperand) F1 in
      factor W os p tells x (word Power i ∷ rest) a g st v F n l u (closes_power W i _) (holds_power W i rest a g (up_factor x))
      ∙ push_power W i rest st tx F1 m (last_factor x) u
      ∙ primary W os p tells y k AtOperand refl (Waits Power m i fx ∷ st) tx F2 (suc m) i c (λ e. c.held)
      ∙ ends_power W k c m i fx st ty (adds py (text_primary (text_six os) p y) F2) m1 (last_primary y)
      ∙ ap (λ G. judge k (at W st OfInteger (found G (λ w. F.out (text_factor (text_six os) p (Raised x i y) w))) m1
      (last_primary y))) (operator fx (agree OfInteger ty) m i px py F.faults m1 (fits_primary p y (suc m)).rising)

  pub primary : (W : World) (os : List Name) (p : Places) (tells : Tells W p) (x : Primary) (k : List Symbol) (a : Context) (g :
      call_place a ≡ InExpression) (st : List Open) (v : ExprType) (F : Found) (n l : ℕ) → Closes W 9 k → Holds W a k
      (up_primary x) → judge (text_primary (text_five os) p x k) (start a W st v F n l)
      ≡ judge k (at W st (type_primary (described p) x) (adds (placed_primary p x n) (text_primary (text_six os) p x)
      F) (after_primary p x n) (last_primary x))
  primary W os p tells (Numeral w i) k a g st v F n l c h = refl
  primary W os p tells (Logical b i) k a g st v F n l c h = take_logical W b i k a st v F n l
  primary W os p tells (Bracketed i x m) k a g st v F n l c h =
      expr W os p tells x (word RightParenthesis m ∷ k) AtOperand refl (Parenthesis
      ∷ st) v (writes (word LeftParenthesis i) F) (suc n) i (λ m g v F. refl) (closes_right_parenthesis W m k) (λ e.
      (closes_right_parenthesis W m k).held)
  primary W os p tells (OneCall (Alone x)) k a g st v F n l c h =
      let d = (p x.number).what in let called = is_called_alone d.kind d.count in
      let F1 = raises n x.line (unless_allowed (is_known (alone_type d.kind d.count))) (adds [] (described_use (p x.number)
      x.line) F) in
      ap (λ w. judge (described_use (p x.number) x.line w) (start a W st v F n l)) (called_five called x.line k)
      ∙ use_held W p tells x.number x.line k a st v F n l
      ∙ h refl d.kind _ d.count n x.line st v (adds [] (described_use (p x.number) x.line) F) (after_use (p x.number) n) x.line
      ∙ ap (λ z. judge k (at W st (alone_type d.kind d.count) z (after_use (p x.number) n) x.line)) (called_six called x.line F1)
  primary W os p tells (OneCall (WithActuals x i y more m)) k a g st v F n l c h =
      let d = (p x.number).what in let w = wanted_of InExpression d in let e = expected_kinds d in
      let n1 = after_use (p x.number) n in let n2 = after_actual p y (suc n1) in let n3 = after_actuals p more n2 in
      let fits = actual_fits (described p) w y in
      let ku = falls (not (may_be_called InExpression d)) WrongUse in
      let kf = falls (is_other_count (known_formals d) (suc (count_actuals more))) WrongCount ++ actual_fault fits in
      let py = placed_actual p y (suc n1) in let pm = placed_actuals p (wanted_behind w) 1 more n2 in
      let rest = text_actuals (text_five os) p (further_expected e) more (word RightParenthesis m ∷ k) in
      let F0 = adds [] (described_use (p x.number) x.line) F in
      let F1 = raises n x.line ku F0 in let F2 = adds py (text_actual (text_six os) p e y) F1 in
      let out : List Symbol → List Symbol = λ z. F.out (text_primary (text_six os) p (OneCall (WithActuals x i y more m)) z) in
      use_held W p tells x.number x.line (word LeftParenthesis i ∷ text_actual (text_five os) p e y rest) a st v F n l
      ∙ ap (λ z. judge (text_actual (text_five os) p e y rest) (record {
        core = call_begins z (use_described W (the_use (p x.number) n x.line a)) n x.line n1 i (core W st v F0);
        held =
            Nothing;
        context = AtOperand;
        position = suc n1;
        line = i;
      })) g
      ∙ ap (λ d. judge (text_actual (text_five os) p e y rest) (record {
        core = call_begins InExpression d n x.line n1 i (core W st v F0);
        held = Nothing;
        context = AtOperand;
        position =
            suc n1;
        line = i;
      })) (told W p tells x.number n x.line a)
      ∙ actual W os p tells y e rest d w 0 n1 i true st v F1 n1 i
      ∙ actuals W os p tells more (further_expected e) 0 d (wanted_behind w) n1 i fits m k st (value_behind p y v) F2 n2
      (last_actual y)
      ∙ ap (λ t. judge k (at W st (called_type d.kind d.count)
      (found (raise n1 i (falls (is_other_count (known_formals d) t) WrongCount ++ actual_fault fits)
      (insert_all pm F2.faults)) (λ z.
      F2.out (text_actuals (text_six os) p (further_expected e) more (sym Called t i
      ∷ z)))) (suc n3) m)) (actuals_next 0 more ∙ ap suc (actuals_is more))
      ∙ ap (λ G. judge k (at W st (called_type d.kind d.count) (found G out) (suc n3) m))
      (late n1 i kf n2 n3 pm (fits_actuals p (wanted_behind w) 1 more n2).rising (omega
      (arith, ends (suc n1) n2 py _ (fits_actual p y (suc n1)))) F2.faults
      ∙ ap (insert_all pm) (late n1 i kf (suc n1) n2 py (fits_actual p y (suc n1)).rising (omega arith) F1.faults)
      ∙ back (insert_append (on_place n x.line ku ++ on_place n1 i kf ++ py) pm F.faults
      ∙ ap (insert_all pm) (insert_append (on_place n x.line ku ++ on_place n1 i kf) py F.faults
      ∙ ap (insert_all py) (insert_append (on_place n x.line ku) (on_place n1 i kf) F.faults))))
  primary W os p tells (OneElement (Subscripted x i y ys m)) k a g st v F n l c h =
      let d = (p x.number).what in let u = the_use (p x.number) n x.line a in
      let n1 = after_use (p x.number) n in let n2 = suc (suc n1) in let n3 = after_expr p y n2 in let n4 = suc n3 in let n5 =
      after_subscripts p ys n4 in
      let ty = type_expr (described p) y in let fits = agree OfInteger ty in
      let ku = falls (not (is_known (element_type d.kind))) WrongUse in
      let kf = falls (is_other_number d.kind d.count (suc (count_exprs ys))) WrongSubscripts ++ subscript_fault ty in
      let py = placed_expr p y n2 in let pm = placed_subscripts p 1 ys n4 in
      let rest = text_subscripts (text_five os) p ys (word RightBracket m ∷ k) in
      let ends_y = shuts MSubscript (last_expr y) ∷ rest in
      let F0 = adds [] (described_use (p x.number) x.line) F in
      let F1 = writes (opens MSubscript (first_expr y)) (raises n x.line ku F0) in let F2 =
      writes (shuts MSubscript (last_expr y)) (adds py (text_expr (text_six os) p y) F1) in
      let out : List Symbol → List Symbol = λ z. F.out (text_primary (text_six os) p (OneElement (Subscripted x i y ys m)) z) in
      use_held W p tells x.number x.line (word LeftBracket i ∷ opens MSubscript (first_expr y)
      ∷ text_expr (text_five os) p y ends_y) a st v F n l
      ∙ expr W os p tells y ends_y AtOperand refl (Subscripting n1 i ∷ Brackets u 1 n1 i true
      ∷ st) v F1 n2 (first_expr y) (λ m g v F. refl) (closes_subscript W (last_expr y) rest) (λ e.
      (closes_subscript W (last_expr y) rest).held)
      ∙ subscripts W os p tells ys 0 u n1 i fits m k st ty F2 n4 (last_expr y)
      ∙ drops W a 9 k c (element_type d.kind) n x.line st (element_type d.kind) (found (raise n1 i
      (falls (is_other_number d.kind d.count (total_exprs 1 ys)) WrongSubscripts
      ++ subscript_fault ty) (insert_all pm F2.faults)) (λ z. F2.out (text_subscripts (text_six os) p ys (sym SubscriptedTag
      (total_exprs 1 ys) i ∷ z)))) (suc n5) m
      ∙ ap (λ t. judge k (at W st (element_type d.kind)
      (found (raise n1 i (falls (is_other_number d.kind d.count t) WrongSubscripts ++ subscript_fault ty)
      (insert_all pm F2.faults)) (λ z.
      F2.out (text_subscripts (text_six os) p ys (sym SubscriptedTag t i
      ∷ z)))) (suc n5) m)) (total_next 0 ys ∙ ap suc (total_is ys))
      ∙ ap (λ G. judge k (at W st (element_type d.kind) (found G out) (suc n5) m))
      (late n1 i kf n4 n5 pm (fits_subscripts p 1 ys n4).rising (omega (arith, ends n2 n3 py _ (fits_expr p y n2))) F2.faults
      ∙ ap (insert_all pm) (late n1 i kf n2 n3 py (fits_expr p y n2).rising (omega arith) F1.faults)
      ∙ back (insert_append (on_place n x.line ku ++ on_place n1 i kf ++ py) pm F.faults
      ∙ ap (insert_all pm) (insert_append (on_place n x.line ku ++ on_place n1 i kf) py F.faults
      ∙ ap (insert_all py) (insert_append (on_place n x.line ku) (on_place n1 i kf) F.faults))))

  pub subscripts : (W : World) (os : List Name) (p : Places) (tells : Tells W p) (xs : Exprs) (c : ℕ) (u : Use) (q r : ℕ) (b :
      Bool) (m : ℕ) (k : List Symbol) (st : List Open) (v : ExprType) (F : Found) (n l : ℕ) → judge (text_subscripts (text_five
      os) p xs (word RightBracket m ∷ k)) (at W (Brackets u (suc c) q r b
      ∷ st) v F n l) ≡ judge k (state AtOperand (element_held u.context (element_type u.kind) u.position u.line) W st
      (element_type u.kind) (found (raise q r (falls (is_other_number u.kind u.count (total_exprs (suc c) xs)) WrongSubscripts
      ++ falls (not b) WrongSubscripts) (insert_all (placed_subscripts p (suc
      c) xs n) F.faults)) (λ z. F.out (text_subscripts (text_six os) p xs (sym SubscriptedTag (total_exprs (suc c) xs) r ∷ z))))
      (suc (after_subscripts p xs n)) m)
  subscripts W os p tells NoExprs c u q r b m k st v F n l = refl
  subscripts W os p tells (MoreExprs j y ys) c u q r b m k st v F n l =
      let rest = text_subscripts (text_five os) p ys (word RightBracket m ∷ k) in
      let ends_y = shuts MSubscript (last_expr y) ∷ rest in
      let n2 = suc (suc n) in let n3 = after_expr p y n2 in let n4 = suc n3 in
      let ty = type_expr (described p) y in let py = placed_expr p y n2 in let pm = placed_subscripts p (suc (suc c)) ys n4 in
      let F1 = writes (opens MSubscript (first_expr y)) (raises n j (too_long most_subscripts (suc c)) F) in
      let kf = too_long most_subscripts (suc c) ++ subscript_fault ty in
      let out1 : List Symbol → List Symbol =
      λ z. F.out (opens MSubscript (first_expr y) ∷ text_expr (text_six os) p y (shuts MSubscript (last_expr y) ∷ z)) in
      let total = total_exprs (suc (suc c)) ys in
      expr W os p tells y ends_y AtOperand refl (Subscripting n j ∷ Brackets u (suc (suc c)) q r b
      ∷ st) v F1 n2 (first_expr y) (λ m g v F. refl) (closes_subscript W (last_expr y) rest) (λ e.
      (closes_subscript W (last_expr y) rest).held)
      ∙ ap (λ G. judge rest (at W (Brackets u (suc (suc c)) q r b ∷ st) ty (found G out1) n4 (last_expr y))) (in_list (suc c ==
      most_subscripts) (agree OfInteger ty) WrongSubscripts n j py F.faults (suc n) n3 (down (suc n) n2 n3 py (omega arith)
      (fits_expr p y n2).rising) refl)
      ∙ subscripts W os p tells ys (suc c) u q r b m k st ty (found (insert_all (on_place n j kf ++ py)
      F.faults) out1) n4 (last_expr y)
      ∙ ap (λ G. judge k (state AtOperand (element_held u.context (element_type u.kind) u.position u.line) W st
      (element_type u.kind) (found (raise q r (falls (is_other_number u.kind u.count total) WrongSubscripts
      ++ falls (not b) WrongSubscripts) G) (λ z. out1 (text_subscripts (text_six os) p ys (sym SubscriptedTag total r
      ∷ z)))) (suc (after_subscripts p ys n4)) m)) (back (insert_append (on_place n j kf ++ py) pm F.faults))

  pub actual : (W : World) (os : List Name) (p : Places) (tells : Tells W p) (x : Actual) (e : Expected) (k : List Symbol) (d :
      Described) (w : Wanted) (c q r : ℕ) (b : Bool) (st : List Open) (v : ExprType) (F : Found) (n j : ℕ) → judge (text_actual
      (text_five os) p e x k) (at W (Calls d w e c q r b
      ∷ st) v F (suc n) j) ≡ judge k (at W (Calls d (wanted_behind w) (further_expected e) (suc c) q r (first_by c b
      (actual_fits (described p) w x)) ∷ st) (value_behind p x v) (found (raise n j (further_by c (actual_fits (described p) w
      x)) (insert_all (placed_actual p x (suc n)) (raise n j (too_long most_actuals c) F.faults))) (λ z. F.out (text_actual
      (text_six os) p e x z))) (after_actual p x (suc n)) (last_actual x))
  actual W os p tells (OneExpr y) e k d w c q r b st v F n j =
      let s = shuts MActual (last_expr y) in let F1 =
      writes (opens MActual (first_expr y)) (raises n j (too_long most_actuals c) F) in
      by_name W os p tells y e k d w c q r b st v F1 n j (name_alone y) refl
      (λ none. expr W os p tells y (s ∷ k) AtActual refl (Passing w e n j
      ∷ Calls d (wanted_behind w) (further_expected e) (suc c) q r b
      ∷ st) v F1 (suc (suc n)) (first_expr y) (λ m g v F. refl) (closes_actual W (last_expr y) k) (λ h.
      absurd (back (ap is_some none) ∙ h)))
  actual W os p tells (AString i bs m) e k d w c q r b st v F n j =
      let N = suc (after_bytes bs (suc (suc (suc n)))) in
      let stack = Passing w e n j ∷ Calls d (wanted_behind w) (further_expected e) (suc c) q r b ∷ st in
      let F1 = writes (word StringBegin i) (writes (opens MActual i) (raises n j (too_long most_actuals c) F)) in
      let F2 = adds [] (λ z. spell_bytes bs (word StringEnd m ∷ z)) F1 in
      bytes bs m (shuts MActual m ∷ k) W stack v F1 (suc (suc (suc n))) i
      ∙ ap (λ z. judge k (behind_actual W (shuts MActual m) N z)) (ended (string_fits_in w) n j d (wanted_behind
      w) (further_expected e) c q r b W st stack v F2)

  pub actuals : (W : World) (os : List Name) (p : Places) (tells : Tells W p) (xs : Actuals) (e : Expected) (c : ℕ) (d :
      Described) (w : Wanted) (q r : ℕ) (b : Bool) (m : ℕ) (k : List Symbol) (st : List Open) (v : ExprType) (F : Found) (n l :
      ℕ) → judge (text_actuals (text_five os) p e xs (word RightParenthesis m ∷ k)) (at W (Calls d w e (suc c) q r b
      ∷ st) v F n l) ≡ judge k (at W st (called_type d.kind d.count) (found (raise q r (falls
      (is_other_count (known_formals d) (total_actuals (suc c) xs)) WrongCount
      ++ actual_fault b) (insert_all (placed_actuals p w (suc
      c) xs n) F.faults)) (λ z. F.out (text_actuals (text_six os) p e xs (sym Called (total_actuals (suc c) xs) r ∷ z)))) (suc
      (after_actuals p xs n)) m)
  actuals W os p tells NoActuals e c d w q r b m k st v F n l = refl
  actuals W os p tells (MoreActuals j y ys) e c d w q r b m k st v F n l =
      let rest = text_actuals (text_five os) p (further_expected e) ys (word RightParenthesis m ∷ k) in
      let n1 = after_actual p y (suc n) in
      let fits = actual_fits (described p) w y in let py = placed_actual p y (suc n) in let pm =
      placed_actuals p (wanted_behind w) (suc (suc c)) ys n1 in
      let kf = too_long most_actuals (suc c) ++ actual_fault fits in
      let out1 : List Symbol → List Symbol = λ z. F.out (text_actual (text_six os) p e y z) in let total =
      total_actuals (suc (suc c)) ys in
      actual W os p tells y e rest d w (suc c) q r b st v F n j
      ∙ ap (λ G. judge rest (at W (Calls d (wanted_behind w) (further_expected e) (suc (suc c)) q r b ∷ st) (value_behind p y v)
      (found G out1) n1 (last_actual y))) (in_list (suc c == most_actuals) fits WrongActual n j py F.faults (suc n) n1
      (fits_actual p y (suc n)).rising refl)
      ∙ actuals W os p tells ys (further_expected e) (suc c) d (wanted_behind w) q r b m k st (value_behind p y v) (found
      (insert_all (on_place n j kf ++ py) F.faults) out1) n1 (last_actual y)
      ∙ ap (λ G. judge k (at W st (called_type d.kind d.count)
      (found (raise q r (falls (is_other_count (known_formals d) total) WrongCount ++ actual_fault b) G) (λ z.
      out1 (text_actuals (text_six os) p (further_expected e) ys (sym Called total r
      ∷ z)))) (suc (after_actuals p ys n1)) m)) (back (insert_append (on_place n j kf ++ py) pm F.faults))
