-- The meaning of a program by the copy rule. What is entered recurs on the permitted steps, since a step was charged for it.
use Rattle.std.specs.Prelude.{ℕ, zero, suc, List, [], ◌∷◌, ◌++◌, Option, Some, None}
use Rattle.gier_word.specs.declared.alarm.Alarm.TheVariants.{Assignment, Stack}
use Rattle.gier_tree.specs.Trees.{Program}
use Rattle.gier_meaning.specs.Tree.{Meant, AsExpression, AsVariable, AsLabel, AsFormal, Expr, Element, Statement, Statements, Whole}
use Rattle.gier_meaning.specs.Plain.{plain}
use Rattle.gier_meaning.specs.Entry.{live_after_taking}
use Rattle.gier_meaning.specs.Live.{InProgram}
use Rattle.gier_meaning.specs.State.{State}
use Rattle.gier_meaning.specs.Address.{Address}
use Rattle.gier_meaning.specs.Outcome.{Outcome, Alarmed, Finished, stops, senseless, caught}
use Rattle.gier_meaning.specs.Accounts.{with_most}
use Rattle.gier_meaning.specs.Scopes.{labels, quantities}
use Rattle.gier_meaning.specs.Room.{program_room}
use Rattle.gier_meaning.specs.Maps.{Binding, map_of, entity_bindings}
use Rattle.gier_meaning.specs.Close.{close_in}
use Rattle.gier_meaning.specs.TurnLabels.{entities_from}
use Rattle.gier_meaning.specs.Computation.{Computation}
use Rattle.gier_meaning.specs.Bodies.{Body}
use Rattle.gier_meaning.specs.Tasks.{Loop, Next}
use Rattle.gier_meaning.specs.Names.{what_of}
use Rattle.gier_meaning.specs.Expressions.{value, address, destination}
use Rattle.gier_meaning.specs.Loops.{again}
use Rattle.gier_meaning.specs.Statements.{run, resume_all}
use Rattle.gier_meaning.specs.Blocks.{entered_block, entered_procedure, closed_body}
use Rattle.gier_meaning.specs.Standing.{standard_bindings, initial_state}
use Rattle.gier_meaning.specs.Observation.{Observation, observation}

-- nothing is entered without a step
abbrev pub nothing_entered : Next
nothing_entered = record {
  value = λ e live s. senseless 0 live s;
  address = λ meant e line live s. senseless line live s;
  destination = λ e live s. senseless 0 live s;
  procedure = λ own kind formals body passed live s. senseless 0 live s;
  block = λ ds ss live s. senseless 0 live s;
  rest = λ label own turn ss live s. senseless 0 live s;
  again = λ loop element elements live s. senseless 0 live s;
}

module _ (limit : ℕ) where
  -- only an actual that is a variable, or a formal by name that gives one, has an address
  abbrev pub actual_address : Next → Meant → Expr → (line : ℕ) → Computation Address
  actual_address next AsExpression e line live s = stops (Alarmed Assignment) line live s
  actual_address next AsVariable e line live s = address limit next e live s
  actual_address next AsLabel e line live s = senseless line live s
  actual_address next AsFormal e line live s = address limit next e live s

  -- the rest of the statements of a scope, in which a go to may come again
  abbrev pub rest_run : Next → (label : ℕ) → List ℕ → List Binding → Statements → Computation Finished
  rest_run next label own turn ss live s =
      caught own (λ label1 s1. next.rest label1 own turn ss live s1) (resume_all limit next label turn ss live s)

  abbrev pub turns_again : Next → Loop → Element → List Element → Computation Finished
  turns_again next loop element elements live s =
      again limit next loop (λ inner s1. run limit next inner loop.body live s1) element elements live s

  -- what is entered, where this is what is entered in it
  abbrev pub entered : Next → Next
  entered next = record {
    value = λ e live s. value limit next e live s;
    address = λ meant e line live s. actual_address next meant e line live s;
    destination = λ e live s. destination limit next e live s;
    procedure = λ own kind formals body passed live s. entered_procedure limit next own kind formals body passed live s;
    block = λ ds ss live s. entered_block limit next ds ss live s;
    rest = λ label own turn ss live s. rest_run next label own turn ss live s;
    again = λ loop element elements live s. turns_again next loop element elements live s;
  }

  abbrev pub within : (steps : ℕ) → Next
  within zero = nothing_entered
  within (suc steps) = entered (within steps)

  -- a program takes its room, but charges no step; its labels are those of its scope
  abbrev pub program_run : Next → (line : ℕ) → Statement → (own : List ℕ) → Option ℕ → (room : ℕ) → State Body
      → Outcome Body Finished
  program_run next line s own None room st = stops (Alarmed Stack) line [] st
  program_run next line s own (Some most) room st =
      closed_body limit next s own (record { shape = InProgram; words = room } ∷ []) (with_most most st)

  abbrev pub executed : (permitted : ℕ) → (line : ℕ) → Statement → (own : List ℕ) → State Body → Outcome Body Finished
  executed permitted line s own st =
      let room : ℕ = program_room (what_of st) s in
      program_run (within permitted) line s own (live_after_taking limit 0 0 room) room st

  abbrev pub meaning : Program → (unread : List ℕ) → (permitted : ℕ) → Observation
  meaning program unread permitted =
      let whole : Whole = plain program in
      let own : List ℕ = labels whole.statement in
      let closed : Statement = close_in (map_of (entity_bindings 0 (quantities own) ++ standard_bindings)) whole.statement in
      observation permitted (executed permitted whole.line closed (entities_from 0 own) (initial_state unread permitted))
