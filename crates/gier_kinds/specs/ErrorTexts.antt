-- How errors are printed: each on a line of its own, with the line of the program where it stands; too long a program has none.
use Rattle.std.specs.Prelude.{◌++◌, ℕ, List, [], ◌∷◌, codes, decimal}
use Rattle.gier_symbol.specs.Listing.{FaultAt, SymbolFault, WrongByte, WrongWord, OpenString, LargeNumber}
use Rattle.gier_scope.specs.Faults.{ScopeFault, DeclaredTwice, NotDeclared, LocalInBound, NotFormal, SpecifiedTwice, NotSpecified}
use Rattle.gier_scope.specs.Faults.{TooDeep}
use Rattle.gier_kinds.specs.Errors.{Fault, OfSymbols, OfStructure, OfScopes, OfTypes, Faults, Errors, TooLong, Listed}
use Rattle.gier_kinds.specs.Faults.{TypeFault, ListTooLong, WrongValue, WrongUse, WrongSubscripts, WrongCount, WrongActual}
use Rattle.gier_kinds.specs.Faults.{WrongBound, WrongElement, WrongCondition, WrongBranches, WrongTarget, WrongAssignment}
use Rattle.gier_kinds.specs.Faults.{WrongOperand}

abbrev pub symbol_text : SymbolFault → List ℕ
symbol_text WrongByte = codes "character"
symbol_text WrongWord = codes "word"
symbol_text OpenString = codes "string"
symbol_text LargeNumber = codes "number"

abbrev pub scope_text : ScopeFault → List ℕ
scope_text DeclaredTwice = codes "declared twice"
scope_text NotDeclared = codes "not declared"
scope_text LocalInBound = codes "local in bound"
scope_text NotFormal = codes "not formal"
scope_text SpecifiedTwice = codes "specified twice"
scope_text NotSpecified = codes "not specified"
scope_text TooDeep = codes "level"

abbrev pub type_text : TypeFault → List ℕ
type_text ListTooLong = codes "list too long"
type_text WrongValue = codes "value"
type_text WrongUse = codes "kind"
type_text WrongSubscripts = codes "subscripts"
type_text WrongCount = codes "parameter count"
type_text WrongActual = codes "parameter"
type_text WrongBound = codes "bound"
type_text WrongElement = codes "for"
type_text WrongCondition = codes "condition"
type_text WrongBranches = codes "branches"
type_text WrongTarget = codes "designational"
type_text WrongAssignment = codes "assignment"
type_text WrongOperand = codes "operand"

abbrev pub fault_text : Fault → List ℕ
fault_text (OfSymbols kind) = symbol_text kind
fault_text OfStructure = codes "structure"
fault_text (OfScopes kind) = scope_text kind
fault_text (OfTypes kind) = type_text kind

abbrev pub fault_line : FaultAt Fault → List ℕ
fault_line fault = codes "line " ++ decimal fault.line ++ codes " " ++ fault_text fault.kind ++ codes "\n"

abbrev pub fault_lines : Faults → List ℕ
fault_lines [] = []
fault_lines (fault ∷ faults) = fault_line fault ++ fault_lines faults

abbrev pub error_lines : Errors → List ℕ
error_lines TooLong = codes "program too long\n"
error_lines (Listed faults) = fault_lines faults
