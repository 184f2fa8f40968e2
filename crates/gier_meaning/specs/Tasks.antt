-- What goes on after a step was charged. The definitions recur on the tree and give over to `Next` what is entered; Meaning
-- lets it recur on the steps.
use Rattle.std.specs.Prelude.{ℕ, ℤ, List}
use Rattle.gier_agree.specs.declared.kind.Kind.{Kind}
use Rattle.gier_meaning.specs.Tree.{Meant, Name, Expr, Element, Formal, Statement, Statements, Declarations}
use Rattle.gier_meaning.specs.Address.{Address}
use Rattle.gier_meaning.specs.Outcome.{Finished}
use Rattle.gier_meaning.specs.Destinations.{Destination}
use Rattle.gier_meaning.specs.Maps.{Binding}
use Rattle.gier_meaning.specs.Computation.{Computation}

-- what is handed over to a formal: the value of an actual, or the name that replaces the formal
pub data Passed : Type 0 where
  AValue : ℤ → Passed
  AName : Name → Passed

-- a for statement: its line, its controlled variable and the variable's line, the labels of the turns in which it stands, and
-- the controlled statement
pub record Loop : Type 0 where
  pub line : ℕ
  pub variable : Name
  pub place : ℕ
  pub turn : List Binding
  pub body : Statement

pub record Next : Type 0 where
  -- the actual of a formal by name, for its value, for its address, for a label; also an element of a switch
  pub value : Expr → Computation ℤ
  pub address : Meant → Expr → (line : ℕ) → Computation Address
  pub destination : Expr → Computation Destination
  -- a procedure, which is told by its own identifier, kind, formals and statement
  pub procedure : (own : ℕ) → Kind → List Formal → Statement → List Passed → Computation ℤ
  pub block : Declarations → Statements → Computation Finished
  -- statements from a label on, after a go to it; these are the labels of their scope
  pub rest : (label : ℕ) → List ℕ → (turn : List Binding) → Statements → Computation Finished
  -- the same element of a for list again, then those that follow, after the end of a turn
  pub again : Loop → Element → List Element → Computation Finished
