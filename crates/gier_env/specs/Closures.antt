-- What the store keeps of a procedure or a switch here, and what it says that a name is.
use Rattle.std.specs.Prelude.{ℕ, Option, Some, None}
use Rattle.gier_meaning.specs.Tree.{Name}
use Rattle.gier_meaning.specs.State.{Entity, State}
use Rattle.gier_meaning.specs.What.{What, Unknown, IsString, IsStandard}
use Rattle.gier_meaning.specs.Bodies.{Body, body_what, entity_what, as_formal, by_name_what}
use Rattle.gier_env.specs.Env.{Env, Denoted, AnEntity, AProcedure, AFormalProcedure, AText, AStandard, AnActual, denotation}

-- a declaration with the activation in which it stands
pub record Closure : Type 0 where
  pub body : Body
  pub home : Env

abbrev pub closure_what : Closure → What
closure_what closure = body_what closure.body

abbrev pub denoted_what : (ℕ → Entity Closure) → Denoted → What
denoted_what store (AnEntity n) = entity_what closure_what (store n)
denoted_what store (AProcedure n) = entity_what closure_what (store n)
denoted_what store (AFormalProcedure n) = as_formal (entity_what closure_what (store n))
denoted_what store (AText bytes) = IsString
denoted_what store (AStandard standard) = IsStandard standard
denoted_what store (AnActual meant kind e env) = by_name_what meant kind

abbrev pub option_what : (ℕ → Entity Closure) → Option Denoted → What
option_what store None = Unknown
option_what store (Some denotation) = denoted_what store denotation

abbrev pub what_of : Env → State Closure → Name → What
what_of env s name = option_what s.store (denotation env name)
