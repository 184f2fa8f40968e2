-- What is printed for a list of errors.
use Rattle.std.specs.Prelude.{ℕ, List, [], ◌∷◌, ◌++◌, codes, decimal}
use Rattle.gier_text.specs.declared.fault.Fault.{Fault}
use Rattle.gier_text.specs.declared.fault.FaultKind.{FaultKind}
use Rattle.gier_text.specs.declared.fault.FaultKind.TheVariants.{TooLong}
use Rattle.gier_text.specs.Faults.{text_of_fault}

-- a fault with its line
abbrev pub located_line : Fault → List ℕ
located_line fault = (codes "line " ++ decimal fault.line) ++ ((codes " " ++ text_of_fault fault.kind) ++ codes "\n")

-- too long a program has no line
abbrev pub line_by : FaultKind → Fault → List ℕ
line_by TooLong fault = text_of_fault TooLong ++ codes "\n"
line_by _ fault = located_line fault

abbrev pub fault_line : Fault → List ℕ
fault_line fault = line_by fault.kind fault

abbrev pub errors_text : List Fault → List ℕ
errors_text [] = []
errors_text (fault ∷ faults) = fault_line fault ++ errors_text faults
