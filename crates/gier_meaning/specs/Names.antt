-- What a name in the place of a variable, a label or an array gives (Report 3.1, 3.5, 4.7.3.2). The actual of a formal by name
-- is evaluated in the place of the formal: a step is charged and its room is taken.
use Rattle.std.specs.Prelude.{ℕ, zero, suc, ℤ, pos, negsuc, List, [], ◌∷◌, Option, Some, None}
use Rattle.gier_meaning.specs.Tree.{Name, AnEntity, AnActual, Expr, Exprs, NoExprs, MoreExprs}
use Rattle.gier_meaning.specs.Live.{Live, InEvaluation}
use Rattle.gier_meaning.specs.State.{Entity, Kept, State}
use Rattle.gier_meaning.specs.Address.{Address}
use Rattle.gier_meaning.specs.Outcome.{Outcome, Gives, senseless}
use Rattle.gier_meaning.specs.Accounts.{enter}
use Rattle.gier_meaning.specs.Room.{evaluation_room}
use Rattle.gier_meaning.specs.What.{What}
use Rattle.gier_meaning.specs.Computation.{Computation}
use Rattle.gier_meaning.specs.Bodies.{Body, SwitchList, body_what, what_in}
use Rattle.gier_meaning.specs.Entities.{cell_value, cell_address, label_at, element_address}
use Rattle.gier_meaning.specs.Destinations.{Destination, Undefined}
use Rattle.gier_meaning.specs.Tasks.{Next}

abbrev pub what_of : State Body → Name → What
what_of s = what_in body_what s.store

abbrev pub element_of : Name → List ℤ → (line : ℕ) → Computation Address
element_of (AnEntity n) subscripts line live s = element_address (s.store n) n subscripts line live s
element_of _ subscripts line live s = senseless line live s

abbrev pub picked_from : ℕ → Exprs → Option Expr
picked_from i NoExprs = None
picked_from zero (MoreExprs e es) = Some e
picked_from (suc i) (MoreExprs e es) = picked_from i es

-- the element of a switch with this number, from 1 (Report 5.3.3)
abbrev pub switch_element : ℤ → Exprs → Option Expr
switch_element (pos zero) es = None
switch_element (pos (suc i)) es = picked_from i es
switch_element (negsuc i) es = None

module _ (limit : ℕ) where
  -- an evaluation is entered
  abbrev pub evaluation : {T : Type 0} → Expr → (line : ℕ) → Live → State Body → (Computation T) → Outcome Body T
  evaluation e line live s go = enter limit (InEvaluation line) (evaluation_room (what_of s) e) line live s go

  abbrev pub value_of : Next → Name → (line : ℕ) → Computation ℤ
  value_of next (AnEntity n) line live s = cell_value (s.store n) line live s
  value_of next (AnActual meant kind e) line live s = evaluation e line live s (λ live1 s1. next.value e live1 s1)
  value_of next _ line live s = senseless line live s

  abbrev pub address_of : Next → Name → (line : ℕ) → Computation Address
  address_of next (AnEntity n) line live s = cell_address (s.store n) n line live s
  address_of next (AnActual meant kind e) line live s = evaluation e line live s (λ live1 s1. next.address meant e line live1 s1)
  address_of next _ line live s = senseless line live s

  abbrev pub destination_of : Next → Name → (line : ℕ) → Computation Destination
  destination_of next (AnEntity n) line live s = label_at (s.store n) n line live s
  destination_of next (AnActual meant kind e) line live s = evaluation e line live s (λ live1 s1. next.destination e live1 s1)
  destination_of next _ line live s = senseless line live s

  -- an element of a switch is evaluated; where there is none the designator is undefined, without a step (Report 3.5.5)
  abbrev pub picked_destination : Next → Option Expr → (line : ℕ) → Computation Destination
  picked_destination next None line live s = Gives Undefined s
  picked_destination next (Some e) line live s = evaluation e line live s (λ live1 s1. next.destination e live1 s1)

  abbrev pub switch_destination : Next → Entity Body → List ℤ → (line : ℕ) → Computation Destination
  switch_destination next (Kept (SwitchList elements)) (i ∷ []) line live s =
      picked_destination next (switch_element i elements) line live s
  switch_destination next _ _ line live s = senseless line live s

  abbrev pub designator : Next → Name → List ℤ → (line : ℕ) → Computation Destination
  designator next (AnEntity n) subscripts line live s = switch_destination next (s.store n) subscripts line live s
  designator next _ subscripts line live s = senseless line live s
