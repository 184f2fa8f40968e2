-- What ends an operand: which symbols end the operators that wait, and an identifier that is held.
use Rattle.std.proofs.Common.{◌≡◌, ℕ, suc, Bool, true, false, List, ◌∷◌, refl, ap, arith}
use Rattle.std.specs.Prelude.{Option, None, Some, nat_le, not, ◌&&◌}
use Rattle.std.proofs.lemmas.Bool.Decides.{nat_tests}
use Rattle.gier_symbol.specs.declared.symbol.Symbol.{Symbol}
use Rattle.gier_symbol.specs.declared.tag.Tag.{Tag}
use Rattle.gier_symbol.specs.declared.tag.Tag.TheVariants.{Power, And, Or, Impl, Equiv, Semicolon, RightParenthesis}
use Rattle.gier_symbol.specs.declared.tag.Tag.TheVariants.{RightBracket, Then, Else, Times, Div, Plus, Minus, Less, NotGreater}
use Rattle.gier_symbol.specs.declared.tag.Tag.TheVariants.{Equal, NotLess, Greater, NotEqual, LeadingPlus, LeadingMinus}
use Rattle.gier_symbol.specs.ByTag.{word}
use Rattle.gier_tree.specs.declared.construct.Construct.TheVariants.{Actual as MActual, Subscript as MSubscript}
use Rattle.gier_tree.specs.declared.construct.Construct.TheVariants.{ConditionalExpression as MConditional}
use Rattle.gier_tree.specs.declared.kind.Kind.{Kind}
use Rattle.gier_tree.specs.Spell.{adding_tag, multiplying_tag, comparing_tag, logical_tag}
use Rattle.gier_tree.specs.Trees.{Name, Adding, Add, Subtract, Multiplying, Multiply, Divide, Comparing, LessThan, AtMost}
use Rattle.gier_tree.specs.Trees.{EqualTo, AtLeast, MoreThan, Unequal, Expr}
use Rattle.gier_tree.specs.Written.{shuts, leading_tag, operation, name_alone, is_called_alone}
use Rattle.gier_kinds.specs.AllowedUses.{alone_type}
use Rattle.gier_kinds.specs.Faults.{WrongOperand, falls}
use Rattle.gier_kinds.specs.Types.{ExprType, OfInteger, OfBoolean, agree, is_known}
use Rattle.gier_text6.specs.Ending.{right_fault, finish}
use Rattle.gier_text6.specs.JudgedExpressions.{at}
use Rattle.gier_text6.specs.Operators.{level_of, gives_of}
use Rattle.gier_text6.specs.PassState.{Context, AtOperand, Use, Nothing, AUse, AnElement, Open, Waits, World, Found, raises}
use Rattle.gier_text6.specs.PassState.{writes, core, Core, State, state}
use Rattle.gier_text6.specs.PlacedExpressions.{operand_kind}
use Rattle.gier_text6.specs.PurePass.{judge, operates}
use Rattle.gier_text6.specs.Uses.{calls_if, faulty_use}

abbrev pub start : Context → World → List Open → ExprType → Found → (position line : ℕ) → State
start a W st v F n l = state a Nothing W st v F n l

abbrev pub a_use : (kind : Kind) (number count position line : ℕ) → Context → Use
a_use kind number count q i a = record { kind = kind; number = number; count = count; position = q; line = i; context = a }

abbrev pub holding : Use → World → List Open → ExprType → Found → (position line : ℕ) → State
holding u W st v F n l = state u.context (AUse u) W st v F n l

-- an identifier that is held, where this begins, ends as an operand
abbrev pub Ends : World → Context → List Symbol → Type 0
Ends W a k = (kind : Kind) (number count q i : ℕ) (st : List Open) (v : ExprType) (F : Found) (n l : ℕ)
    → judge k (holding (a_use kind number count q i a) W st v F n l)
    ≡ judge k (at W st (alone_type kind count) (calls_if (is_called_alone kind count) i
    (faulty_use (a_use kind number count q i a) (is_known (alone_type kind count)) F)) n l)

-- no operator of so high a level waits on the top
abbrev pub Under : World → ℕ → List Open → Type 0
Under W n st = (m : ℕ) → nat_le n m ≡ true → (v : ExprType) (F : Found) → finish m W st v F ≡ core W st v F

-- these symbols end operands: operators of at least this level, and what is held
pub record Closes (W : World) (n : ℕ) (k : List Symbol) : Type 0 where
  pub waits : (t : Tag) (q i : ℕ) (b : Bool) (st : List Open) (v : ExprType) (F : Found) (m l : ℕ)
      → nat_le n (level_of t) ≡ true → judge k (at W (Waits t q i b ∷ st) v F m l)
      ≡ judge k (at W st (gives_of t) (writes (operation t i) (raises q i (right_fault t b v) F)) m l)
  pub held : Ends W AtOperand k
  pub dropped : (t : ExprType) (q i : ℕ) (st : List Open) (v : ExprType) (F : Found) (m l : ℕ)
      → judge k (state AtOperand (AnElement t q i) W st v F m l) ≡ judge k (at W st v F m l)

abbrev pub is_some : Option Name → Bool
is_some None = false
is_some (Some x) = true

-- an expression that is an identifier alone ends as an operand
abbrev pub Holds : World → Context → List Symbol → Expr → Type 0
Holds W a k e = is_some (name_alone e) ≡ true → Ends W a k

pub absurd : {A : Type 0} → false ≡ true → A
absurd h = grind (arith, nat_tests)

le_trans : (a b c : ℕ) → nat_le a b ≡ true → nat_le b c ≡ true → nat_le a c ≡ true
le_trans a b c h g = grind (arith, nat_tests)

le_not : (n m l : ℕ) → nat_le n m ≡ true → nat_le n l ≡ false → nat_le m l ≡ false
le_not n m l h g = grind (arith, nat_tests)

pub zero_le : (n : ℕ) → nat_le 0 n ≡ true
zero_le n = grind (arith, nat_tests)

pub closes_up : (W : World) (n m : ℕ) (k : List Symbol) → nat_le n m ≡ true → Closes W n k → Closes W m k
closes_up W n m k h c = record {
  waits =
      λ t q i b st v F j l g. c.waits t q i b st v F j l (le_trans n m (level_of t) h g);
  held = c.held;
  dropped = c.dropped;
}

pub under_waits : (W : World) (n : ℕ) (t : Tag) (q i : ℕ) (b : Bool) (st : List Open) → nat_le n (level_of t) ≡ false
    → Under W n (Waits t q i b ∷ st)
under_waits W n t q i b st h = λ m g v F. rw (le_not n m (level_of t) g h) refl

pub under_up : (W : World) (n m : ℕ) (st : List Open) → nat_le n m ≡ true → Under W n st → Under W m st
under_up W n m st h u = λ a g. u a (le_trans n m a h g)

pub closes_then : (W : World) (i : ℕ) (w : List Symbol) → Closes W 1 (word Then i ∷ w)
closes_then W i w = record {
  waits = λ t q j b st v F n l h. rw (zero_le (level_of t)) refl;
  held =
      λ kind number count q j st v F n l. refl;
  dropped = λ t q j st v F n l. refl;
}

pub closes_else : (W : World) (i : ℕ) (w : List Symbol) → Closes W 1 (word Else i ∷ w)
closes_else W i w = record {
  waits = λ t q j b st v F n l h. rw (zero_le (level_of t)) refl;
  held =
      λ kind number count q j st v F n l. refl;
  dropped = λ t q j st v F n l. refl;
}

pub closes_right_parenthesis : (W : World) (i : ℕ) (w : List Symbol) → Closes W 1 (word RightParenthesis i ∷ w)
closes_right_parenthesis W i w =
    record {
      waits = λ t q j b st v F n l h. rw (zero_le (level_of t)) refl;
      held =
          λ kind number count q j st v F n l. refl;
      dropped = λ t q j st v F n l. refl;
    }

pub closes_right_bracket : (W : World) (i : ℕ) (w : List Symbol) → Closes W 1 (word RightBracket i ∷ w)
closes_right_bracket W i w = record {
  waits = λ t q j b st v F n l h. rw (zero_le (level_of t)) refl;
  held =
      λ kind number count q j st v F n l. refl;
  dropped = λ t q j st v F n l. refl;
}

pub closes_semicolon : (W : World) (i : ℕ) (w : List Symbol) → Closes W 1 (word Semicolon i ∷ w)
closes_semicolon W i w = record {
  waits = λ t q j b st v F n l h. rw (zero_le (level_of t)) refl;
  held =
      λ kind number count q j st v F n l. refl;
  dropped = λ t q j st v F n l. refl;
}

pub closes_subscript : (W : World) (i : ℕ) (w : List Symbol) → Closes W 1 (shuts MSubscript i ∷ w)
closes_subscript W i w = record {
  waits = λ t q j b st v F n l h. rw (zero_le (level_of t)) refl;
  held =
      λ kind number count q j st v F n l. refl;
  dropped = λ t q j st v F n l. refl;
}

pub closes_conditional : (W : World) (i : ℕ) (w : List Symbol) → Closes W 1 (shuts MConditional i ∷ w)
closes_conditional W i w = record {
  waits = λ t q j b st v F n l h. rw (zero_le (level_of t)) refl;
  held =
      λ kind number count q j st v F n l. refl;
  dropped = λ t q j st v F n l. refl;
}

pub closes_actual : (W : World) (i : ℕ) (w : List Symbol) → Closes W 1 (shuts MActual i ∷ w)
closes_actual W i w = record {
  waits = λ t q j b st v F n l h. rw (zero_le (level_of t)) refl;
  held =
      λ kind number count q j st v F n l. refl;
  dropped = λ t q j st v F n l. refl;
}

abbrev operates_on : Tag → (line position : ℕ) → Core → Core
operates_on t i n c = operates t (word t i) n c

pub closes_equiv : (W : World) (i : ℕ) (w : List Symbol) → Closes W 1 (word Equiv i ∷ w)
closes_equiv W i w = record {
  waits = λ t q j b st v F n l h. rw h refl;
  held =
      λ kind number count q j st v F n l. refl;
  dropped = λ t q j st v F n l. refl;
}

pub push_equiv : (W : World) (i : ℕ) (w : List Symbol) (st : List Open) (v : ExprType) (F : Found) (n l : ℕ) → Under W 1 st
    → judge (word Equiv i ∷ w) (at W st v F n l)
    ≡ judge w (at W (Waits Equiv n i (agree OfBoolean v)
    ∷ st) v (raises n i (falls (not (agree OfBoolean v)) WrongOperand) F) (suc n) i)
push_equiv W i w st v F n l u =
    ap (λ c. judge w (record { core = c; held = Nothing; context = AtOperand; position = suc n; line = i })) (ap (operates_on
    Equiv i n) (u 1 refl v F))

pub ends_equiv : (W : World) (k : List Symbol) (c : Closes W 1 k) (q i : ℕ) (b : Bool) (st : List Open) (v : ExprType) (F :
    Found) (n l : ℕ) → judge k (at W (Waits Equiv q i b
    ∷ st) v F n l) ≡ judge k (at W st OfBoolean (writes (operation Equiv i) (raises q i (falls (b && not (agree OfBoolean v))
    WrongOperand) F)) n l)
ends_equiv W k c q i b st v F n l = c.waits Equiv q i b st v F n l refl

pub closes_impl : (W : World) (i : ℕ) (w : List Symbol) → Closes W 2 (word Impl i ∷ w)
closes_impl W i w = record {
  waits = λ t q j b st v F n l h. rw h refl;
  held =
      λ kind number count q j st v F n l. refl;
  dropped = λ t q j st v F n l. refl;
}

pub push_impl : (W : World) (i : ℕ) (w : List Symbol) (st : List Open) (v : ExprType) (F : Found) (n l : ℕ) → Under W 2 st
    → judge (word Impl i ∷ w) (at W st v F n l)
    ≡ judge w (at W (Waits Impl n i (agree OfBoolean v)
    ∷ st) v (raises n i (falls (not (agree OfBoolean v)) WrongOperand) F) (suc n) i)
push_impl W i w st v F n l u = ap (λ c.
    judge w (record {
      core = c;
      held = Nothing;
      context = AtOperand;
      position = suc n;
      line =
          i;
    })) (ap (operates_on Impl i n) (u 2 refl v F))

pub ends_impl : (W : World) (k : List Symbol) (c : Closes W 2 k) (q i : ℕ) (b : Bool) (st : List Open) (v : ExprType) (F :
    Found) (n l : ℕ) → judge k (at W (Waits Impl q i b
    ∷ st) v F n l) ≡ judge k (at W st OfBoolean (writes (operation Impl i) (raises q i (falls (b && not (agree OfBoolean v))
    WrongOperand) F)) n l)
ends_impl W k c q i b st v F n l = c.waits Impl q i b st v F n l refl

pub closes_or : (W : World) (i : ℕ) (w : List Symbol) → Closes W 3 (word Or i ∷ w)
closes_or W i w = record {
  waits = λ t q j b st v F n l h. rw h refl;
  held = λ kind number count q j st v F n l. refl;
  dropped =
      λ t q j st v F n l. refl;
}

pub push_or : (W : World) (i : ℕ) (w : List Symbol) (st : List Open) (v : ExprType) (F : Found) (n l : ℕ) → Under W 3 st
    → judge (word Or i ∷ w) (at W st v F n l)
    ≡ judge w (at W (Waits Or n i (agree OfBoolean v)
    ∷ st) v (raises n i (falls (not (agree OfBoolean v)) WrongOperand) F) (suc n) i)
push_or W i w st v F n l u = ap (λ c.
    judge w (record {
      core = c;
      held = Nothing;
      context = AtOperand;
      position = suc n;
      line =
          i;
    })) (ap (operates_on Or i n) (u 3 refl v F))

pub ends_or : (W : World) (k : List Symbol) (c : Closes W 3 k) (q i : ℕ) (b : Bool) (st : List Open) (v : ExprType) (F : Found)
    (n l : ℕ) → judge k (at W (Waits Or q i b ∷ st) v F n l)
    ≡ judge k (at W st OfBoolean (writes (operation Or i) (raises q i (falls (b && not (agree OfBoolean v)) WrongOperand) F)) n l)
ends_or W k c q i b st v F n l = c.waits Or q i b st v F n l refl

pub closes_and : (W : World) (i : ℕ) (w : List Symbol) → Closes W 4 (word And i ∷ w)
closes_and W i w = record {
  waits = λ t q j b st v F n l h. rw h refl;
  held =
      λ kind number count q j st v F n l. refl;
  dropped = λ t q j st v F n l. refl;
}

pub push_and : (W : World) (i : ℕ) (w : List Symbol) (st : List Open) (v : ExprType) (F : Found) (n l : ℕ) → Under W 4 st
    → judge (word And i ∷ w) (at W st v F n l)
    ≡ judge w (at W (Waits And n i (agree OfBoolean v)
    ∷ st) v (raises n i (falls (not (agree OfBoolean v)) WrongOperand) F) (suc n) i)
push_and W i w st v F n l u = ap (λ c.
    judge w (record {
      core = c;
      held = Nothing;
      context = AtOperand;
      position = suc n;
      line =
          i;
    })) (ap (operates_on And i n) (u 4 refl v F))

pub ends_and : (W : World) (k : List Symbol) (c : Closes W 4 k) (q i : ℕ) (b : Bool) (st : List Open) (v : ExprType) (F : Found)
    (n l : ℕ) → judge k (at W (Waits And q i b ∷ st) v F n l)
    ≡ judge k (at W st OfBoolean (writes (operation And i) (raises q i (falls (b && not (agree OfBoolean v)) WrongOperand) F)) n l)
ends_and W k c q i b st v F n l = c.waits And q i b st v F n l refl

pub closes_power : (W : World) (i : ℕ) (w : List Symbol) → Closes W 9 (word Power i ∷ w)
closes_power W i w = record {
  waits = λ t q j b st v F n l h. rw h refl;
  held =
      λ kind number count q j st v F n l. refl;
  dropped = λ t q j st v F n l. refl;
}

pub push_power : (W : World) (i : ℕ) (w : List Symbol) (st : List Open) (v : ExprType) (F : Found) (n l : ℕ) → Under W 9 st
    → judge (word Power i ∷ w) (at W st v F n l)
    ≡ judge w (at W (Waits Power n i (agree OfInteger v)
    ∷ st) v (raises n i (falls (not (agree OfInteger v)) WrongOperand) F) (suc n) i)
push_power W i w st v F n l u =
    ap (λ c. judge w (record { core = c; held = Nothing; context = AtOperand; position = suc n; line = i })) (ap (operates_on
    Power i n) (u 9 refl v F))

pub ends_power : (W : World) (k : List Symbol) (c : Closes W 9 k) (q i : ℕ) (b : Bool) (st : List Open) (v : ExprType) (F :
    Found) (n l : ℕ) → judge k (at W (Waits Power q i b
    ∷ st) v F n l) ≡ judge k (at W st OfInteger (writes (operation Power i) (raises q i (falls (b && not (agree OfInteger v))
    WrongOperand) F)) n l)
ends_power W k c q i b st v F n l = c.waits Power q i b st v F n l refl

pub closes_times : (W : World) (o : Multiplying) (i : ℕ) (w : List Symbol) → Closes W 8 (word (multiplying_tag o) i ∷ w)
closes_times W Multiply i w = record {
  waits = λ t q j b st v F n l h. rw h refl;
  held =
      λ kind number count q j st v F n l. refl;
  dropped = λ t q j st v F n l. refl;
}
closes_times W Divide i w = record {
  waits = λ t q j b st v F n l h. rw h refl;
  held =
      λ kind number count q j st v F n l. refl;
  dropped = λ t q j st v F n l. refl;
}

pub push_times : (W : World) (o : Multiplying) (i : ℕ) (w : List Symbol) (st : List Open) (v : ExprType) (F : Found) (n l : ℕ)
    → Under W 8 st → judge (word (multiplying_tag o) i ∷ w) (at W st v F n l)
    ≡ judge w (at W (Waits (multiplying_tag o) n i (agree OfInteger v)
    ∷ st) v (raises n i (falls (not (agree OfInteger v)) WrongOperand) F) (suc n) i)
push_times W Multiply i w st v F n l u =
    ap (λ c. judge w (record { core = c; held = Nothing; context = AtOperand; position = suc n; line = i })) (ap (operates_on
    Times i n) (u 8 refl v F))
push_times W Divide i w st v F n l u =
    ap (λ c. judge w (record { core = c; held = Nothing; context = AtOperand; position = suc n; line = i })) (ap (operates_on
    Div i n) (u 8 refl v F))

pub ends_times : (W : World) (o : Multiplying) (k : List Symbol) (c : Closes W 8 k) (q i : ℕ) (b : Bool) (st : List Open) (v :
    ExprType) (F : Found) (n l : ℕ) → judge k (at W (Waits (multiplying_tag o) q i b
    ∷ st) v F n l) ≡ judge k (at W st OfInteger (writes (operation (multiplying_tag o) i) (raises q i (falls
    (b && not (agree OfInteger v)) WrongOperand) F)) n l)
ends_times W Multiply k c q i b st v F n l = c.waits Times q i b st v F n l refl
ends_times W Divide k c q i b st v F n l = c.waits Div q i b st v F n l refl

pub level_times : (o : Multiplying) → level_of (multiplying_tag o) ≡ 8
level_times Multiply = refl
level_times Divide = refl

pub closes_sum : (W : World) (o : Adding) (i : ℕ) (w : List Symbol) → Closes W 7 (word (adding_tag o) i ∷ w)
closes_sum W Add i w = record {
  waits = λ t q j b st v F n l h. rw h refl;
  held =
      λ kind number count q j st v F n l. refl;
  dropped = λ t q j st v F n l. refl;
}
closes_sum W Subtract i w = record {
  waits = λ t q j b st v F n l h. rw h refl;
  held =
      λ kind number count q j st v F n l. refl;
  dropped = λ t q j st v F n l. refl;
}

pub push_sum : (W : World) (o : Adding) (i : ℕ) (w : List Symbol) (st : List Open) (v : ExprType) (F : Found) (n l : ℕ)
    → Under W 7 st → judge (word (adding_tag o) i ∷ w) (at W st v F n l)
    ≡ judge w (at W (Waits (adding_tag o) n i (agree OfInteger v)
    ∷ st) v (raises n i (falls (not (agree OfInteger v)) WrongOperand) F) (suc n) i)
push_sum W Add i w st v F n l u =
    ap (λ c. judge w (record { core = c; held = Nothing; context = AtOperand; position = suc n; line = i })) (ap (operates_on
    Plus i n) (u 7 refl v F))
push_sum W Subtract i w st v F n l u =
    ap (λ c. judge w (record { core = c; held = Nothing; context = AtOperand; position = suc n; line = i })) (ap (operates_on
    Minus i n) (u 7 refl v F))

pub ends_sum : (W : World) (o : Adding) (k : List Symbol) (c : Closes W 7 k) (q i : ℕ) (b : Bool) (st : List Open) (v :
    ExprType) (F : Found) (n l : ℕ) → judge k (at W (Waits (adding_tag o) q i b
    ∷ st) v F n l) ≡ judge k (at W st OfInteger (writes (operation (adding_tag o) i) (raises q i (falls
    (b && not (agree OfInteger v)) WrongOperand) F)) n l)
ends_sum W Add k c q i b st v F n l = c.waits Plus q i b st v F n l refl
ends_sum W Subtract k c q i b st v F n l = c.waits Minus q i b st v F n l refl

pub level_sum : (o : Adding) → level_of (adding_tag o) ≡ 7
level_sum Add = refl
level_sum Subtract = refl

pub closes_comparing : (W : World) (o : Comparing) (i : ℕ) (w : List Symbol) → Closes W 6 (word (comparing_tag o) i ∷ w)
closes_comparing W LessThan i w =
    record {
      waits = λ t q j b st v F n l h. rw h refl;
      held = λ kind number count q j st v F n l. refl;
      dropped =
          λ t q j st v F n l. refl;
    }
closes_comparing W AtMost i w =
    record {
      waits = λ t q j b st v F n l h. rw h refl;
      held = λ kind number count q j st v F n l. refl;
      dropped =
          λ t q j st v F n l. refl;
    }
closes_comparing W EqualTo i w =
    record {
      waits = λ t q j b st v F n l h. rw h refl;
      held = λ kind number count q j st v F n l. refl;
      dropped =
          λ t q j st v F n l. refl;
    }
closes_comparing W AtLeast i w =
    record {
      waits = λ t q j b st v F n l h. rw h refl;
      held = λ kind number count q j st v F n l. refl;
      dropped =
          λ t q j st v F n l. refl;
    }
closes_comparing W MoreThan i w =
    record {
      waits = λ t q j b st v F n l h. rw h refl;
      held = λ kind number count q j st v F n l. refl;
      dropped =
          λ t q j st v F n l. refl;
    }
closes_comparing W Unequal i w =
    record {
      waits = λ t q j b st v F n l h. rw h refl;
      held = λ kind number count q j st v F n l. refl;
      dropped =
          λ t q j st v F n l. refl;
    }

pub push_comparing : (W : World) (o : Comparing) (i : ℕ) (w : List Symbol) (st : List Open) (v : ExprType) (F : Found) (n l : ℕ)
    → Under W 6 st → judge (word (comparing_tag o) i ∷ w) (at W st v F n l)
    ≡ judge w (at W (Waits (comparing_tag o) n i (agree OfInteger v)
    ∷ st) v (raises n i (falls (not (agree OfInteger v)) WrongOperand) F) (suc n) i)
push_comparing W LessThan i w st v F n l u =
    ap (λ c. judge w (record { core = c; held = Nothing; context = AtOperand; position = suc n; line = i })) (ap (operates_on
    Less i n) (u 6 refl v F))
push_comparing W AtMost i w st v F n l u =
    ap (λ c. judge w (record { core = c; held = Nothing; context = AtOperand; position = suc n; line = i })) (ap (operates_on
    NotGreater i n) (u 6 refl v F))
push_comparing W EqualTo i w st v F n l u =
    ap (λ c. judge w (record { core = c; held = Nothing; context = AtOperand; position = suc n; line = i })) (ap (operates_on
    Equal i n) (u 6 refl v F))
push_comparing W AtLeast i w st v F n l u =
    ap (λ c. judge w (record { core = c; held = Nothing; context = AtOperand; position = suc n; line = i })) (ap (operates_on
    NotLess i n) (u 6 refl v F))
push_comparing W MoreThan i w st v F n l u =
    ap (λ c. judge w (record { core = c; held = Nothing; context = AtOperand; position = suc n; line = i })) (ap (operates_on
    Greater i n) (u 6 refl v F))
push_comparing W Unequal i w st v F n l u =
    ap (λ c. judge w (record { core = c; held = Nothing; context = AtOperand; position = suc n; line = i })) (ap (operates_on
    NotEqual i n) (u 6 refl v F))

pub ends_comparing : (W : World) (o : Comparing) (k : List Symbol) (c : Closes W 6 k) (q i : ℕ) (b : Bool) (st : List Open) (v :
    ExprType) (F : Found) (n l : ℕ) → judge k (at W (Waits (comparing_tag o) q i b
    ∷ st) v F n l) ≡ judge k (at W st OfBoolean (writes (operation (comparing_tag o) i) (raises q i (falls
    (b && not (agree OfInteger v)) WrongOperand) F)) n l)
ends_comparing W LessThan k c q i b st v F n l = c.waits Less q i b st v F n l refl
ends_comparing W AtMost k c q i b st v F n l = c.waits NotGreater q i b st v F n l refl
ends_comparing W EqualTo k c q i b st v F n l = c.waits Equal q i b st v F n l refl
ends_comparing W AtLeast k c q i b st v F n l = c.waits NotLess q i b st v F n l refl
ends_comparing W MoreThan k c q i b st v F n l = c.waits Greater q i b st v F n l refl
ends_comparing W Unequal k c q i b st v F n l = c.waits NotEqual q i b st v F n l refl

pub level_comparing : (o : Comparing) → level_of (comparing_tag o) ≡ 6
level_comparing LessThan = refl
level_comparing AtMost = refl
level_comparing EqualTo = refl
level_comparing AtLeast = refl
level_comparing MoreThan = refl
level_comparing Unequal = refl

pub push_leading : (W : World) (o : Adding) (i : ℕ) (w : List Symbol) (a : Context) (st : List Open) (v : ExprType) (F : Found)
    (n l : ℕ) → judge (word (leading_tag o) i ∷ w) (start a W st v F n l)
    ≡ judge w (at W (Waits (leading_tag o) n i true ∷ st) v F (suc n) i)
push_leading W Add i w a st v F n l = refl
push_leading W Subtract i w a st v F n l = refl

pub ends_leading : (W : World) (o : Adding) (k : List Symbol) (c : Closes W 7 k) (q i : ℕ) (st : List Open) (v : ExprType) (F :
    Found) (n l : ℕ) → judge k (at W (Waits (leading_tag o) q i true
    ∷ st) v F n l) ≡ judge k (at W st OfInteger (writes (operation (leading_tag o) i) (raises q i (operand_kind OfInteger
    v) F)) n l)
ends_leading W Add k c q i st v F n l = c.waits LeadingPlus q i true st v F n l refl
ends_leading W Subtract k c q i st v F n l = c.waits LeadingMinus q i true st v F n l refl

pub level_leading : (o : Adding) → level_of (leading_tag o) ≡ 7
level_leading Add = refl
level_leading Subtract = refl

pub take_logical : (W : World) (b : Bool) (i : ℕ) (k : List Symbol) (a : Context) (st : List Open) (v : ExprType) (F : Found) (n
    l : ℕ) → judge (word (logical_tag b) i
    ∷ k) (start a W st v F n l) ≡ judge k (at W st OfBoolean (writes (word (logical_tag b) i) F) (suc n) i)
take_logical W true i k a st v F n l = refl
take_logical W false i k a st v F n l = refl
