-- The labels that have their places in a text 7: those that the program declares, from 0 up, and those of its code, from 2^23 up.
use Rattle.std.specs.Prelude.{◌≡◌, ◌+◌, ◌==◌, ℕ, zero, suc, List, [], ◌∷◌, length, if◌then◌else◌}
use Rattle.gier_symbol.specs.declared.symbol.Symbol.{Symbol}
use Rattle.gier_tree.specs.Entries.{entries_numbers, numbers_group, program_entries}
use Rattle.gier_tree.specs.Object.{Piece, APlace, piece_of}
use Rattle.gier_tree.specs.Orders.{first_label}
use Rattle.gier_tree.specs.Text7.{code_program}
use Rattle.gier_tree.specs.Trees.{Program, MkProgram}
use Rattle.gier_fair.specs.InScope.{IsInScope}

-- the labels whose places these are, in the order of the text
abbrev pub with_place : Piece → List ℕ → List ℕ
with_place (APlace label) labels = label ∷ labels
with_place piece labels = labels

abbrev pub places_in : List Symbol → List ℕ
places_in [] = []
places_in (s ∷ text) = with_place (piece_of s) (places_in text)

-- how often a number stands in a list
abbrev pub times : ℕ → List ℕ → ℕ
times x [] = 0
times x (y ∷ ys) = (if y == x then 1 else 0) + times x ys

-- so many numbers, from one on
abbrev pub numbered : (from count : ℕ) → List ℕ
numbered from zero = []
numbered from (suc count) = from ∷ numbered (suc from) count

-- how many labels, switches and procedures a program declares
abbrev pub program_numbers : Program → ℕ
program_numbers (MkProgram ls g l) = entries_numbers (program_entries (MkProgram ls g l)) + numbers_group g

-- Each label has as many places as its number stands among those that are declared and those of the code; and there are as many
-- places as such numbers.
pub record HasPlaces (t : Program) (code : ℕ) : Type 0 where
  pub labels : (x : ℕ) → times x (places_in (code_program t))
      ≡ times x (numbered 0 (program_numbers t)) + times x (numbered first_label code)
  pub all : length (places_in (code_program t)) ≡ program_numbers t + code

abbrev pub AreNumbered : Type 0
AreNumbered = (t : Program) → IsInScope t → (code : ℕ) × HasPlaces t code
