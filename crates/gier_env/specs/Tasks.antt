-- What goes on after a step was charged, with the environment in which it goes on.
use Rattle.std.specs.Prelude.{ℕ, ℤ, List}
use Rattle.gier_agree.specs.declared.kind.Kind.{Kind}
use Rattle.gier_meaning.specs.Tree.{Meant, Name, Expr, Element, Formal, Statement, Statements, Declarations}
use Rattle.gier_meaning.specs.Address.{Address}
use Rattle.gier_meaning.specs.Outcome.{Finished}
use Rattle.gier_meaning.specs.Destinations.{Destination}
use Rattle.gier_env.specs.Env.{Env, Denoted}
use Rattle.gier_env.specs.Computation.{Computation}

-- what is handed over to a formal
pub data Passed : Type 0 where
  AValue : ℤ → Passed
  AMeaning : Denoted → Passed

-- a for statement and the environment in which it stands
pub record Loop : Type 0 where
  pub line : ℕ
  pub variable : Name
  pub place : ℕ
  pub body : Statement
  pub env : Env

pub record Next : Type 0 where
  -- the actual of a formal by name, for its value, for its address, for a label; also an element of a switch
  pub value : Expr → Env → Computation ℤ
  pub address : Meant → Expr → Env → (line : ℕ) → Computation Address
  pub destination : Expr → Env → Computation Destination
  -- a procedure: its own identifier, kind, formals, statement, and the activation in which it is declared
  pub procedure : (own : ℕ) → Kind → List Formal → Statement → Env → List Passed → Computation ℤ
  pub block : Declarations → Statements → Env → Computation Finished
  -- statements from a label on, after a go to it; these are the labels of their scope
  pub rest : (label : ℕ) → List ℕ → Statements → Env → Computation Finished
  -- the same element of a for list again, then those that follow, after the end of a turn
  pub again : Loop → Element → List Element → Computation Finished
