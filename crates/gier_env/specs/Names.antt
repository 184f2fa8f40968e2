-- What a name in the place of a variable, a label or an array gives (Report 3.1, 3.5, 4.7.3.2). The actual of a formal by name
-- is evaluated in its own environment: a step is charged and its room is taken.
use Rattle.std.specs.Prelude.{ℕ, ℤ, List, [], ◌∷◌, Option, Some, None}
use Rattle.gier_meaning.specs.Tree.{Expr}
use Rattle.gier_meaning.specs.Live.{Live, InEvaluation}
use Rattle.gier_meaning.specs.State.{Entity, Kept, State}
use Rattle.gier_meaning.specs.Address.{Address}
use Rattle.gier_meaning.specs.Outcome.{Outcome, Gives, senseless}
use Rattle.gier_meaning.specs.Accounts.{enter}
use Rattle.gier_meaning.specs.Room.{evaluation_room}
use Rattle.gier_meaning.specs.Bodies.{Body, SwitchList}
use Rattle.gier_meaning.specs.Destinations.{Destination, Undefined}
use Rattle.gier_meaning.specs.Entities.{cell_value, cell_address, label_at, element_address}
use Rattle.gier_meaning.specs.Names.{switch_element}
use Rattle.gier_env.specs.Env.{Env, Denoted, AnEntity, AnActual}
use Rattle.gier_env.specs.Computation.{Computation}
use Rattle.gier_env.specs.Closures.{Closure, what_of}
use Rattle.gier_env.specs.Tasks.{Next}

abbrev pub element_of : Option Denoted → List ℤ → (line : ℕ) → Computation Address
element_of (Some (AnEntity n)) subscripts line live s = element_address (s.store n) n subscripts line live s
element_of _ subscripts line live s = senseless line live s

module _ (limit : ℕ) where
  -- an evaluation is entered
  abbrev pub evaluation : {T : Type 0} → Expr → Env → (line : ℕ) → Live → State Closure → (Computation T) → Outcome Closure T
  evaluation e env line live s go = enter limit (InEvaluation line) (evaluation_room (what_of env s) e) line live s go

  abbrev pub value_of : Next → Option Denoted → (line : ℕ) → Computation ℤ
  value_of next (Some (AnEntity n)) line live s = cell_value (s.store n) line live s
  value_of next (Some (AnActual meant kind e env)) line live s =
      evaluation e env line live s (λ live1 s1. next.value e env live1 s1)
  value_of next _ line live s = senseless line live s

  abbrev pub address_of : Next → Option Denoted → (line : ℕ) → Computation Address
  address_of next (Some (AnEntity n)) line live s = cell_address (s.store n) n line live s
  address_of next (Some (AnActual meant kind e env)) line live s =
      evaluation e env line live s (λ live1 s1. next.address meant e env line live1 s1)
  address_of next _ line live s = senseless line live s

  abbrev pub destination_of : Next → Option Denoted → (line : ℕ) → Computation Destination
  destination_of next (Some (AnEntity n)) line live s = label_at (s.store n) n line live s
  destination_of next (Some (AnActual meant kind e env)) line live s =
      evaluation e env line live s (λ live1 s1. next.destination e env live1 s1)
  destination_of next _ line live s = senseless line live s

  -- an element of a switch is evaluated where the switch is declared; where there is none the designator is undefined,
  -- without a step (Report 3.5.5)
  abbrev pub picked_destination : Next → Option Expr → Env → (line : ℕ) → Computation Destination
  picked_destination next None env line live s = Gives Undefined s
  picked_destination next (Some e) env line live s = evaluation e env line live s (λ live1 s1. next.destination e env live1 s1)

  abbrev pub list_destination : Next → Body → Env → List ℤ → (line : ℕ) → Computation Destination
  list_destination next (SwitchList elements) env (i ∷ []) line live s =
      picked_destination next (switch_element i elements) env line live s
  list_destination next _ env _ line live s = senseless line live s

  abbrev pub switch_destination : Next → Entity Closure → List ℤ → (line : ℕ) → Computation Destination
  switch_destination next (Kept closure) subscripts line live s =
      list_destination next closure.body closure.home subscripts line live s
  switch_destination next _ subscripts line live s = senseless line live s

  abbrev pub designator : Next → Option Denoted → List ℤ → (line : ℕ) → Computation Destination
  designator next (Some (AnEntity n)) subscripts line live s = switch_destination next (s.store n) subscripts line live s
  designator next _ subscripts line live s = senseless line live s
