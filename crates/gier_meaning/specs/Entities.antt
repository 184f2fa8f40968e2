-- What an entity gives in the place of a variable, a label, or an array with subscripts.
use Rattle.std.specs.Prelude.{ℕ, ℤ, List}
use Rattle.gier_word.specs.declared.alarm.Alarm.TheVariants.{Subscript}
use Rattle.gier_meaning.specs.Live.{Live}
use Rattle.gier_meaning.specs.State.{Entity, ACell, AnArray, ALabel, State}
use Rattle.gier_meaning.specs.Address.{Address, CellAt, ElementAt}
use Rattle.gier_meaning.specs.Arrays.{are_within}
use Rattle.gier_meaning.specs.Outcome.{Outcome, Gives, Alarmed, stops, senseless, either}
use Rattle.gier_meaning.specs.Destinations.{Destination, To}

abbrev pub cell_value : {K : Type 0} → Entity K → (line : ℕ) → Live → State K → Outcome K ℤ
cell_value (ACell kind value) line live s = Gives value s
cell_value _ line live s = senseless line live s

abbrev pub cell_address : {K : Type 0} → Entity K → ℕ → (line : ℕ) → Live → State K → Outcome K Address
cell_address (ACell kind value) n line live s = Gives (CellAt n) s
cell_address _ n line live s = senseless line live s

abbrev pub label_at : {K : Type 0} → Entity K → ℕ → (line : ℕ) → Live → State K → Outcome K Destination
label_at ALabel n line live s = Gives (To n) s
label_at _ n line live s = senseless line live s

-- the number of subscripts and each of them is tested when all have values
abbrev pub element_address : {K : Type 0} → Entity K → ℕ → List ℤ → (line : ℕ) → Live → State K → Outcome K Address
element_address (AnArray kind bounds elements) n subscripts line live s =
    either (are_within subscripts bounds) s
    (λ s1. Gives (ElementAt n subscripts) s1)
    (λ s1. stops (Alarmed Subscript) line live s1)
element_address _ n subscripts line live s = senseless line live s
