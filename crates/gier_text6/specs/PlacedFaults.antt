-- Faults of types with their positions in text 5, and when such faults are those of a definition, which tells lines alone.
use Rattle.std.specs.Prelude.{◌≡◌, ℕ, List, [], ◌∷◌, map}
use Rattle.gier_symbol.specs.Listing.{FaultAt}
use Rattle.gier_text.specs.declared.fault.Fault.{Fault}
use Rattle.gier_text.specs.declared.fault.FaultKind.{FaultKind}
use Rattle.gier_text.specs.declared.fault.FaultKind.TheVariants.{ListTooLong as ListFault, Value, Kind as KindFault, Subscripts}
use Rattle.gier_text.specs.declared.fault.FaultKind.TheVariants.{ParameterCount, Parameter, Bound, ForElement, Condition}
use Rattle.gier_text.specs.declared.fault.FaultKind.TheVariants.{Branches, Designational, Assignment, Operand}
use Rattle.gier_faults.specs.Insertion.{insert_all, IsRising}
use Rattle.gier_kinds.specs.Faults.{TypeFault, TypeFaults, ListTooLong, WrongValue, WrongUse, WrongSubscripts, WrongCount}
use Rattle.gier_kinds.specs.Faults.{WrongActual, WrongBound, WrongElement, WrongCondition, WrongBranches, WrongTarget}
use Rattle.gier_kinds.specs.Faults.{WrongAssignment, WrongOperand}

-- what the tables of a pass call it
abbrev pub fault_kind : TypeFault → FaultKind
fault_kind ListTooLong = ListFault
fault_kind WrongValue = Value
fault_kind WrongUse = KindFault
fault_kind WrongSubscripts = Subscripts
fault_kind WrongCount = ParameterCount
fault_kind WrongActual = Parameter
fault_kind WrongBound = Bound
fault_kind WrongElement = ForElement
fault_kind WrongCondition = Condition
fault_kind WrongBranches = Branches
fault_kind WrongTarget = Designational
fault_kind WrongAssignment = Assignment
fault_kind WrongOperand = Operand

-- the first of those that fall on the symbol at this position
abbrev pub on_place : (position line : ℕ) → List TypeFault → List Fault
on_place position line [] = []
on_place position line (kind ∷ kinds) = record { position = position; line = line; kind = fault_kind kind } ∷ []

abbrev pub raise : (position line : ℕ) → List TypeFault → List Fault → List Fault
raise position line kinds faults = insert_all (on_place position line kinds) faults

-- a fault without its position, and one of the definition with the tables' kind
abbrev pub unplaced : Fault → FaultAt FaultKind
unplaced f = record { kind = f.kind; line = f.line }

abbrev pub as_told : FaultAt TypeFault → FaultAt FaultKind
as_told f = record { kind = fault_kind f.kind; line = f.line }

-- the faults of the definition, at strictly rising positions from the first number on and below the second
pub record Fits (low high : ℕ) (placed : List Fault) (faults : TypeFaults) : Type 0 where
  pub rising : IsRising low high placed
  pub same : map unplaced placed ≡ map as_told faults
