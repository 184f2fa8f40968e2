-- What the laws say.
use Rattle.std.specs.Prelude.{◌<◌, ◌≤◌, ℕ, length}
use Rattle.gier_tree.specs.Object.{address_of}
use Rattle.gier_tree.specs.Orders.{first_label}
use Rattle.gier_tree.specs.Text7.{code_program}
use Rattle.gier_tree.specs.Trees.{Program}
use Rattle.gier_tree.specs.Words.{words_in, PlacesAreAddresses}
use Rattle.gier_fair.specs.InScope.{IsInScope}
use Rattle.gier_placed.specs.Placed.{places_in, program_numbers}

-- no more labels than there are numbers for those that are declared
abbrev pub HasFewLabels : Program → Type 0
HasFewLabels t = length (places_in (code_program t)) ≤ first_label

-- the address of each label is that of its place
abbrev pub LabelsAreAddresses : Type 0
LabelsAreAddresses = (t : Program) → IsInScope t → HasFewLabels t → PlacesAreAddresses (code_program t)

-- a word of the text stands before the label's place, and one behind it
pub record IsWithin (t : Program) (label : ℕ) : Type 0 where
  pub above : 0 < address_of (code_program t) label 0
  pub below : address_of (code_program t) label 0 < words_in (code_program t)

-- the addresses of the labels that a program declares
abbrev pub LabelsAreWithin : Type 0
LabelsAreWithin = (t : Program) → IsInScope t → HasFewLabels t → (label : ℕ) → label < program_numbers t → IsWithin t label
