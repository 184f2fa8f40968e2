-- The state of pass 6 between two symbols: what is open, what is held, what entries have told, which faults were found and what was
-- written.
use Rattle.std.specs.Prelude.{ℕ, Bool, List, ◌∷◌, Option}
use Rattle.gier_symbol.specs.declared.symbol.Symbol.{Symbol}
use Rattle.gier_symbol.specs.declared.tag.Tag.{Tag}
use Rattle.gier_text.specs.declared.fault.Fault.{Fault}
use Rattle.gier_tree.specs.declared.kind.Kind.{Kind}
use Rattle.gier_tree.specs.Described.{Described}
use Rattle.gier_tree.specs.Written.{Expected}
use Rattle.gier_kinds.specs.Actuals.{Wanted}
use Rattle.gier_kinds.specs.Faults.{TypeFault}
use Rattle.gier_kinds.specs.Types.{ExprType}
use Rattle.gier_text6.specs.PlacedFaults.{raise}

-- what the next symbol begins: a statement, another left part or the right side, the controlled variable, an actual, or anything
-- else, where an identifier is an operand
pub data Context : Type 0 where
  AtStatement : Context
  AtLeftPart : Context
  AtVariable : Context
  AtActual : Context
  AtOperand : Context

-- a used identifier: what its symbols tell, where it stands, and what it began
pub record Use : Type 0 where
  pub kind : Kind
  pub number : ℕ
  pub count : ℕ
  pub position : ℕ
  pub line : ℕ
  pub context : Context

-- what is held until the next symbol: an identifier, an element that may be a left part, with the place of its identifier, or a
-- string
pub data Held : Type 0 where
  Nothing : Held
  AUse : Use → Held
  AnElement : ExprType → (position line : ℕ) → Held
  AText : Held

-- what is open, with the place of the symbol on which its fault falls
pub data Open : Type 0 where
  -- an operator, and whether its left operand fits
  Waits : Tag → (position line : ℕ) → (left : Bool) → Open
  Parenthesis : Open
  -- a list that has begun: so many parts so far, and whether the first one fits
  Brackets : Use → (count position line : ℕ) → (first : Bool) → Open
  Calls : Described → Wanted → Expected → (count position line : ℕ) → (first : Bool) → Open
  LeftPart : ExprType → (position line : ℕ) → Open
  -- parts with the symbol before them
  Subscripting : (position line : ℕ) → Open
  Passing : Wanted → Expected → (position line : ℕ) → Open
  Bounding : (before position line : ℕ) → Open
  Choosing : (position line : ℕ) → Open
  Turning : (position line : ℕ) → Open
  Repeating : (position line : ℕ) → Open
  Going : (position line : ℕ) → Open
  Deciding : (position line : ℕ) → Open
  -- a conditional expression, with the type of its first branch
  Branching : ExprType → (position line : ℕ) → Open
  -- a block, with the number of its next switch or procedure; a segment with so many bounds; a procedure with its number
  InBlock : (next : ℕ) → Open
  InSegment : (bounds : ℕ) → Open
  InProcedure : Option ℕ → Open
  Plain : Open

-- a label, a switch or a procedure, by its number: the kinds of its formals, and whether its declaration is open
pub record Numbered : Type 0 where
  pub formals : List Kind
  pub is_open : Bool

-- what entries and headings have told: the kind that was entered last under the number of an identifier, all that is numbered, the
-- entry that has no description yet, and how many formals the heading has so far
pub record World : Type 0 where
  pub kinds : ℕ → Kind
  pub numbered : List Numbered
  pub entry : Option ℕ
  pub formals : ℕ

-- the faults so far, and what was written, before what is to come
pub record Found : Type 0 where
  pub faults : List Fault
  pub out : List Symbol → List Symbol

abbrev pub found : List Fault → (List Symbol → List Symbol) → Found
found faults out = record { faults = faults; out = out }

abbrev pub raises : (position line : ℕ) → List TypeFault → Found → Found
raises q l kinds F = found (raise q l kinds F.faults) F.out

abbrev pub writes : Symbol → Found → Found
writes s F = found F.faults (λ rest. F.out (s ∷ rest))

-- with the type of the operand that ended last
pub record Core : Type 0 where
  pub world : World
  pub stack : List Open
  pub value : ExprType
  pub found : Found

abbrev pub core : World → List Open → ExprType → Found → Core
core W st v F = record { world = W; stack = st; value = v; found = F }

-- behind so many symbols, the last one on this line
pub record State : Type 0 where
  pub core : Core
  pub held : Held
  pub context : Context
  pub position : ℕ
  pub line : ℕ

abbrev pub state : Context → Held → World → List Open → ExprType → Found → (position line : ℕ) → State
state x h W st v F n l = record { core = core W st v F; held = h; context = x; position = n; line = l }
