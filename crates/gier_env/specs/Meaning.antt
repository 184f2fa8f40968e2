-- The meaning of a program with environments. What is entered recurs on the permitted steps, since a step was charged for it.
use Rattle.std.specs.Prelude.{ℕ, zero, suc, List, [], ◌∷◌, Option, Some, None}
use Rattle.gier_word.specs.declared.alarm.Alarm.TheVariants.{Assignment, Stack}
use Rattle.gier_tree.specs.Trees.{Program}
use Rattle.gier_meaning.specs.Tree.{Meant, AsExpression, AsVariable, AsLabel, AsFormal, Expr, Element, Statement, Statements, Whole}
use Rattle.gier_meaning.specs.Plain.{plain}
use Rattle.gier_meaning.specs.Entry.{live_after_taking}
use Rattle.gier_meaning.specs.Live.{InProgram}
use Rattle.gier_meaning.specs.State.{State}
use Rattle.gier_meaning.specs.Address.{Address}
use Rattle.gier_meaning.specs.Outcome.{Outcome, Alarmed, Finished, stops, senseless, caught}
use Rattle.gier_meaning.specs.Accounts.{with_most}
use Rattle.gier_meaning.specs.Scopes.{labels, quantities}
use Rattle.gier_meaning.specs.Room.{program_room}
use Rattle.gier_meaning.specs.TurnLabels.{entities_from}
use Rattle.gier_meaning.specs.Standing.{initial_state}
use Rattle.gier_meaning.specs.Observation.{Observation, observation}
use Rattle.gier_env.specs.Env.{Env, Outermost, Inside, NoBindings, with_entities}
use Rattle.gier_env.specs.Computation.{Computation}
use Rattle.gier_env.specs.Closures.{Closure, what_of}
use Rattle.gier_env.specs.Standing.{standard_bindings}
use Rattle.gier_env.specs.Tasks.{Loop, Next}
use Rattle.gier_env.specs.Expressions.{value, address, destination}
use Rattle.gier_env.specs.Loops.{again}
use Rattle.gier_env.specs.Statements.{run, resume_all}
use Rattle.gier_env.specs.Blocks.{entered_block, entered_procedure, activated_body}

-- nothing is entered without a step
abbrev pub nothing_entered : Next
nothing_entered = record {
  value = λ e env live s. senseless 0 live s;
  address = λ meant e env line live s. senseless line live s;
  destination = λ e env live s. senseless 0 live s;
  procedure = λ own kind formals body home passed live s. senseless 0 live s;
  block = λ ds ss env live s. senseless 0 live s;
  rest = λ label own ss env live s. senseless 0 live s;
  again = λ loop element elements live s. senseless 0 live s;
}

module _ (limit : ℕ) where
  -- only an actual that is a variable, or a formal by name that gives one, has an address
  abbrev pub actual_address : Next → Meant → Expr → Env → (line : ℕ) → Computation Address
  actual_address next AsExpression e env line live s = stops (Alarmed Assignment) line live s
  actual_address next AsVariable e env line live s = address limit next e env live s
  actual_address next AsLabel e env line live s = senseless line live s
  actual_address next AsFormal e env line live s = address limit next e env live s

  -- the rest of the statements of a scope, in which a go to may come again
  abbrev pub rest_run : Next → (label : ℕ) → List ℕ → Statements → Env → Computation Finished
  rest_run next label own ss env live s =
      caught own (λ label1 s1. next.rest label1 own ss env live s1) (resume_all limit next label ss env live s)

  abbrev pub turns_again : Next → Loop → Element → List Element → Computation Finished
  turns_again next loop element elements live s =
      again limit next loop (λ inner s1. run limit next loop.body inner live s1) element elements live s

  -- what is entered, where this is what is entered in it
  abbrev pub entered : Next → Next
  entered next = record {
    value = λ e env live s. value limit next e env live s;
    address = λ meant e env line live s. actual_address next meant e env line live s;
    destination = λ e env live s. destination limit next e env live s;
    procedure = λ own kind formals body home passed live s. entered_procedure limit next own kind formals body home passed live s;
    block = λ ds ss env live s. entered_block limit next ds ss env live s;
    rest = λ label own ss env live s. rest_run next label own ss env live s;
    again = λ loop element elements live s. turns_again next loop element elements live s;
  }

  abbrev pub within : (steps : ℕ) → Next
  within zero = nothing_entered
  within (suc steps) = entered (within steps)

  -- a program takes its room, but charges no step; its labels are those of its scope
  abbrev pub program_run : Next → (line : ℕ) → Statement → (own : List ℕ) → Env → Option ℕ → (room : ℕ) → State Closure
      → Outcome Closure Finished
  program_run next line s own env None room st = stops (Alarmed Stack) line [] st
  program_run next line s own env (Some most) room st =
      activated_body limit next s own env (record { shape = InProgram; words = room } ∷ []) (with_most most st)

  abbrev pub executed : (permitted : ℕ) → (line : ℕ) → Statement → (own : List ℕ) → Env → State Closure → Outcome Closure Finished
  executed permitted line s own env st =
      let room : ℕ = program_room (what_of env st) s in
      program_run (within permitted) line s own env (live_after_taking limit 0 0 room) room st

  abbrev pub meaning : Program → (unread : List ℕ) → (permitted : ℕ) → Observation
  meaning program unread permitted =
      let whole : Whole = plain program in
      let own : List ℕ = labels whole.statement in
      let env : Env = Inside (with_entities 0 (quantities own) NoBindings) (Inside standard_bindings Outermost) in
      observation permitted (executed permitted whole.line whole.statement (entities_from 0 own) env
      (initial_state unread permitted))
