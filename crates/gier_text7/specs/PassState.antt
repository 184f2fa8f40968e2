-- What the pass knows between two symbols: where code stands, the operand that it has, the identifier that it holds, and the
-- constructs that are open.
use Rattle.std.specs.Prelude.{ℕ, suc, Bool, false, List, [], ◌∷◌, Option, None, Some}
use Rattle.gier_tree.specs.declared.kind.Kind.{Kind}
use Rattle.gier_tree.specs.Orders.{State}
use Rattle.gier_text7.specs.Answers.{Answer}

pub record Mentioned : Type 0 where
  pub kind : Kind
  pub place : ℕ
  pub line : ℕ

pub data Open : Type 0 where
  Chosen : (line label : ℕ) → Open
  Calls : (count : ℕ) → Open
  Actual : (line : ℕ) → Open
  Evaluation : (line after start free high level : ℕ) → Open
  Block : (number : ℕ) → Open
  SwitchOf : (line over label : ℕ) → Open
  Inside : (line free high level : ℕ) → Open

pub record Pass : Type 0 where
  pub level : ℕ
  pub free : ℕ
  pub high : ℕ
  pub full : Bool
  pub value : ℕ
  pub held : Option Mentioned
  pub stack : List Open
  pub known : State

abbrev pub at : (level free high : ℕ) → Bool → (value : ℕ) → Option Mentioned → List Open → State → Pass
at level w h full v held st s =
    record { level = level; free = w; high = h; full = full; value = v; held = held; stack = st; known = s }

abbrev pub Go : Type 0
Go = Pass → Answer

abbrev pub labels_more : State → State
labels_more s = record { labels = suc s.labels; line = s.line; words = s.words }

-- the actual on the top becomes an evaluation with its first operand, and an operand before this one is kept
abbrev pub actual_line : List Open → Option ℕ
actual_line (Actual line ∷ st) = Some line
actual_line st = None

abbrev pub below : List Open → List Open
below [] = []
below (o ∷ st) = st

-- words and marks
abbrev pub empty : List Open → Pass → Pass
empty st c = at c.level c.free c.high false c.value None st c.known
