-- Pass 6 as a pure function: a step for each symbol of text 5, from state to state. Operators and lists wait on a stack, a used
-- identifier is held until the next symbol, and a fault is inserted by its position when it is known.
use Rattle.std.specs.Prelude.{◌%◌, ◌^◌, ℕ, zero, suc, Bool, true, not, List, [], ◌∷◌, Option, None, Some}
use Rattle.gier_symbol.specs.declared.symbol.Symbol.{Symbol}
use Rattle.gier_symbol.specs.declared.tag.Tag.{Tag}
use Rattle.gier_symbol.specs.declared.tag.Tag.TheVariants.{Number, StringEnd, TextEnd, Plus, Minus, Times, Div, Power, Less}
use Rattle.gier_symbol.specs.declared.tag.Tag.TheVariants.{NotGreater, Equal, NotLess, Greater, NotEqual, Not, And, Or, Impl}
use Rattle.gier_symbol.specs.declared.tag.Tag.TheVariants.{Equiv, True, False, Comma, Semicolon, Becomes, LeftParenthesis}
use Rattle.gier_symbol.specs.declared.tag.Tag.TheVariants.{RightParenthesis, LeftBracket, RightBracket, Begin, End, If, Then}
use Rattle.gier_symbol.specs.declared.tag.Tag.TheVariants.{Else, For, Step, Until, While, Do, Goto, LeadingPlus, LeadingMinus}
use Rattle.gier_symbol.specs.declared.tag.Tag.TheVariants.{LabelColon, Formal, ValueListed, OpenMark, ShutMark, Entry}
use Rattle.gier_symbol.specs.declared.tag.Tag.TheVariants.{Description, Used, Place, Count}
use Rattle.gier_kinds.specs.ExprFaults.{most_actuals, too_long}
use Rattle.gier_kinds.specs.Faults.{WrongValue, WrongElement, WrongCondition, WrongOperand, falls}
use Rattle.gier_kinds.specs.Headings.{is_value}
use Rattle.gier_kinds.specs.Types.{ExprType, OfInteger, OfBoolean, agree}
use Rattle.gier_text6.specs.Constructs.{behind_open, opens, shuts, with_world}
use Rattle.gier_text6.specs.Decoded.{tag_at, kind_at, construct_at}
use Rattle.gier_text6.specs.Ending.{finished, ended, held_behind, right_bracket, right_parenthesis, comma}
use Rattle.gier_text6.specs.Entering.{with_entry, with_formals, described_as}
use Rattle.gier_text6.specs.Operators.{level_of, takes_of}
use Rattle.gier_text6.specs.PassState.{Context, AtStatement, AtLeftPart, AtVariable, AtOperand, Use, Held, Nothing, AUse, AText}
use Rattle.gier_text6.specs.PassState.{Open, Waits, LeftPart, Turning, Repeating, Going, Deciding, Branching, raises, Core}
use Rattle.gier_text6.specs.PassState.{core, State}
use Rattle.gier_text6.specs.Uses.{settle, becomes, written, left_bracket, left_parenthesis}

-- behind a symbol
abbrev pub next : Context → Held → Symbol → (position : ℕ) → Core → State
next context held s n c = record { core = c; held = held; context = context; position = suc n; line = s.line }

-- the symbol before the one at this position
abbrev pub before : ℕ → ℕ
before zero = zero
before (suc n) = n

abbrev pub value_is : ExprType → Core → Core
value_is v c = core c.world c.stack v c.found

-- operators wait, and aren't written yet
abbrev pub prefix : Tag → Symbol → (position : ℕ) → Core → Core
prefix tag s n c = core c.world (Waits tag n s.line true ∷ c.stack) c.value c.found

abbrev pub waits : Tag → (fits : Bool) → Symbol → (position : ℕ) → Core → Core
waits tag fits s n c =
    core c.world (Waits tag n s.line fits ∷ c.stack) c.value (raises n s.line (falls (not fits) WrongOperand) c.found)

abbrev pub operates : Tag → Symbol → (position : ℕ) → Core → Core
operates tag s n c = waits tag (agree (takes_of tag) c.value) s n c

abbrev pub infix_on : Tag → Symbol → (position : ℕ) → Core → Core
infix_on tag s n c = operates tag s n (finished (level_of tag) c)

-- an `_if` or `_goto` is the place of its construct
abbrev pub begins : (position line : ℕ) → List Open → List Open
begins n l (Deciding q i ∷ st) = Deciding n l ∷ st
begins n l (Branching t q i ∷ st) = Branching t n l ∷ st
begins n l (Going q i ∷ st) = Going n l ∷ st
begins n l st = st

abbrev pub begin_word : Symbol → (position : ℕ) → Core → Core
begin_word s n c = written s (core c.world (begins n s.line c.stack) c.value c.found)

-- a `_then` ends a condition
abbrev pub condition_ends : List Open → Core → Core
condition_ends (Deciding q l ∷ st) c =
    core c.world (Deciding q l ∷ st) c.value (raises q l (falls (not (agree OfBoolean c.value)) WrongCondition) c.found)
condition_ends (Branching t q l ∷ st) c =
    core c.world (Branching t q l ∷ st) c.value (raises q l (falls (not (agree OfBoolean c.value)) WrongCondition) c.found)
condition_ends st c = c

abbrev pub then_word : Symbol → Core → Core
then_word s c = written s (condition_ends c.stack c)

-- an `_else` between branches has the type of the first
abbrev pub branch_ends : (position line : ℕ) → List Open → ExprType → List Open
branch_ends n l (Branching t q i ∷ st) v = Branching v n l ∷ st
branch_ends n l st v = st

abbrev pub else_word : Symbol → (position : ℕ) → Core → Core
else_word s n c = written s (core c.world (branch_ends n s.line c.stack c.value) c.value c.found)

-- behind them a statement begins, but not within a conditional expression
abbrev pub behind_branch : List Open → Context
behind_branch (Branching t q l ∷ st) = AtOperand
behind_branch st = AtStatement

abbrev pub then_state : Symbol → (position : ℕ) → Core → State
then_state s n c = next (behind_branch c.stack) Nothing s n (then_word s c)

abbrev pub else_state : Symbol → (position : ℕ) → Core → State
else_state s n c = next (behind_branch c.stack) Nothing s n (else_word s n c)

-- a `:=` behind a left part
abbrev pub behind_becomes : List Open → Context
behind_becomes (LeftPart t q l ∷ st) = AtLeftPart
behind_becomes st = AtOperand

abbrev pub becomes_state : Symbol → (position : ℕ) → Core → State
becomes_state s n c = next (behind_becomes c.stack) Nothing s n (written s c)

-- a part of a for element ends with `_step`, `_until` or `_while`
abbrev pub turn_ends : Open → (position line : ℕ) → List Open → Core → Core
turn_ends now n l (Turning q i ∷ st) c =
    core c.world (now ∷ st) c.value (raises q i (falls (not (agree OfInteger c.value)) WrongElement) c.found)
turn_ends now n l st c = c

abbrev pub element_word : Open → Symbol → (position : ℕ) → Core → Core
element_word now s n c = written s (turn_ends now n s.line c.stack c)

-- what entries and headings tell
abbrev pub describes : Symbol → Core → Core
describes s c = written s (with_world (described_as (kind_at s.value) c.world.entry c.world) c)

abbrev pub counts_formal : Symbol → (position line : ℕ) → Core → Core
counts_formal s n l c =
    written s (core (with_formals c.world (suc c.world.formals)) c.stack c.value (raises (before n) l
    (too_long most_actuals c.world.formals) c.found))

abbrev pub lists_value : Symbol → (position : ℕ) → Core → Core
lists_value s n c =
    written s (core c.world c.stack c.value (raises n s.line (falls (not (is_value (c.world.kinds s.value))) WrongValue) c.found))

abbrev pub addresses : ℕ
addresses = 2 ^ 24

abbrev pub with_place : Held → ℕ → Held
with_place (AUse u) place = AUse (record {
  kind = u.kind;
  number = place % addresses;
  count = u.count;
  position = u.position;
  line = u.line;
  context = u.context;
})
with_place held place = held

abbrev pub with_count : Held → ℕ → Held
with_count (AUse u) count = AUse (record {
  kind = u.kind;
  number = u.number;
  count = count;
  position = u.position;
  line = u.line;
  context = u.context;
})
with_count held count = held

abbrev pub use_of : Symbol → State → Use
use_of s c = record {
  kind = kind_at s.value;
  number = 0;
  count = 0;
  position = c.position;
  line = s.line;
  context = c.context;
}

-- a symbol behind which nothing is held, unless it is an identifier, an element or a string
abbrev pub ordinary : Context → Symbol → (position : ℕ) → Core → State
ordinary context s n c = next context Nothing s n c

abbrev pub now : State → Core
now c = settle c.held c.core

abbrev pub step_by : Tag → Symbol → State → State
step_by Place s c = next c.context (with_place c.held s.value) s c.position (written s c.core)
step_by Count s c = next c.context (with_count c.held s.value) s c.position (written s c.core)
step_by LeftBracket s c = ordinary AtOperand s c.position (left_bracket c.held s c.position c.core)
step_by LeftParenthesis s c = ordinary AtOperand s c.position (left_parenthesis c.held s c.position c.core)
step_by Becomes s c = becomes_state s c.position (becomes c.held c.position s.line c.core)
step_by ShutMark s c = ordinary AtOperand s c.position (written s (shuts (construct_at s.value) c.held c.core))
step_by Used s c = next c.context (AUse (use_of s c)) s c.position (written s (now c))
step_by OpenMark s c =
    ordinary (behind_open (construct_at s.value)) s c.position
    (written s (opens (construct_at s.value) (before c.position) c.line (now c)))
step_by Not s c = ordinary AtOperand s c.position (prefix Not s c.position (now c))
step_by LeadingPlus s c = ordinary AtOperand s c.position (prefix LeadingPlus s c.position (now c))
step_by LeadingMinus s c = ordinary AtOperand s c.position (prefix LeadingMinus s c.position (now c))
step_by Plus s c = ordinary AtOperand s c.position (infix_on Plus s c.position (now c))
step_by Minus s c = ordinary AtOperand s c.position (infix_on Minus s c.position (now c))
step_by Times s c = ordinary AtOperand s c.position (infix_on Times s c.position (now c))
step_by Div s c = ordinary AtOperand s c.position (infix_on Div s c.position (now c))
step_by Power s c = ordinary AtOperand s c.position (infix_on Power s c.position (now c))
step_by Less s c = ordinary AtOperand s c.position (infix_on Less s c.position (now c))
step_by NotGreater s c = ordinary AtOperand s c.position (infix_on NotGreater s c.position (now c))
step_by Equal s c = ordinary AtOperand s c.position (infix_on Equal s c.position (now c))
step_by NotLess s c = ordinary AtOperand s c.position (infix_on NotLess s c.position (now c))
step_by Greater s c = ordinary AtOperand s c.position (infix_on Greater s c.position (now c))
step_by NotEqual s c = ordinary AtOperand s c.position (infix_on NotEqual s c.position (now c))
step_by And s c = ordinary AtOperand s c.position (infix_on And s c.position (now c))
step_by Or s c = ordinary AtOperand s c.position (infix_on Or s c.position (now c))
step_by Impl s c = ordinary AtOperand s c.position (infix_on Impl s c.position (now c))
step_by Equiv s c = ordinary AtOperand s c.position (infix_on Equiv s c.position (now c))
step_by Comma s c = ordinary AtOperand s c.position (comma (now c).stack s (now c))
step_by RightParenthesis s c =
    ordinary AtOperand s c.position (right_parenthesis (finished 0 (now c)).stack s (finished 0 (now c)))
step_by RightBracket s c =
    next AtOperand (held_behind (finished 0 (now c)).stack) s c.position
    (right_bracket (finished 0 (now c)).stack s (finished 0 (now c)))
step_by If s c = ordinary AtOperand s c.position (begin_word s c.position (now c))
step_by Goto s c = ordinary AtOperand s c.position (begin_word s c.position (now c))
step_by Then s c = then_state s c.position (finished 0 (now c))
step_by Else s c = else_state s c.position (ended (finished 0 (now c)))
step_by Step s c =
    ordinary AtOperand s c.position (element_word (Turning c.position s.line) s c.position (finished 0 (now c)))
step_by Until s c =
    ordinary AtOperand s c.position (element_word (Turning c.position s.line) s c.position (finished 0 (now c)))
step_by While s c =
    ordinary AtOperand s c.position (element_word (Repeating c.position s.line) s c.position (finished 0 (now c)))
step_by Semicolon s c = ordinary AtStatement s c.position (written s (ended (finished 0 (now c))))
step_by Do s c = ordinary AtStatement s c.position (written s (ended (finished 0 (now c))))
step_by End s c = ordinary AtOperand s c.position (written s (ended (finished 0 (now c))))
step_by TextEnd s c = ordinary AtOperand s c.position (written s (ended (finished 0 (now c))))
step_by Number s c = ordinary AtOperand s c.position (written s (value_is OfInteger (now c)))
step_by True s c = ordinary AtOperand s c.position (written s (value_is OfBoolean (now c)))
step_by False s c = ordinary AtOperand s c.position (written s (value_is OfBoolean (now c)))
step_by StringEnd s c = next AtOperand AText s c.position (written s (now c))
step_by Entry s c =
    ordinary c.context s c.position (written s (with_world (with_entry (now c).world (Some s.value)) (now c)))
step_by Description s c = ordinary c.context s c.position (describes s (now c))
step_by Formal s c = ordinary AtOperand s c.position (counts_formal s c.position c.line (now c))
step_by ValueListed s c = ordinary AtOperand s c.position (lists_value s c.position (now c))
step_by Begin s c = ordinary AtStatement s c.position (written s (now c))
step_by LabelColon s c = ordinary AtStatement s c.position (written s (now c))
step_by For s c = ordinary AtVariable s c.position (written s (now c))
step_by tag s c = ordinary AtOperand s c.position (written s (now c))

-- what is no tag of text 5 changes nothing
abbrev pub step_if : Option Tag → Symbol → State → State
step_if None s c = next c.context c.held s c.position c.core
step_if (Some tag) s c = step_by tag s c

abbrev pub step : Symbol → State → State
step s c = step_if (tag_at s.tag) s c

abbrev pub judge : List Symbol → State → State
judge [] c = c
judge (s ∷ w) c = judge w (step s c)
