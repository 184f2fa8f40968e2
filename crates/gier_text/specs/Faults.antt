-- The text of each kind of fault, and what the faults of the definition are called here.
use Rattle.std.specs.Prelude.{ℕ, List, codes}
use Rattle.gier_symbol.specs.Listing.{FaultAt, SymbolFault, WrongByte, WrongWord, OpenString, LargeNumber}
use Rattle.gier_text.specs.declared.fault.Fault.{Fault}
use Rattle.gier_text.specs.declared.fault.FaultKind.{FaultKind}
use Rattle.gier_text.specs.declared.fault.FaultKind.TheVariants.{TooLong, Character, Word, Unclosed, Number, Structure}
use Rattle.gier_text.specs.declared.fault.FaultKind.TheVariants.{DeclaredTwice, NotDeclared, LocalInBound, NotFormal}
use Rattle.gier_text.specs.declared.fault.FaultKind.TheVariants.{SpecifiedTwice, NotSpecified, Level, ListTooLong, Value, Kind}
use Rattle.gier_text.specs.declared.fault.FaultKind.TheVariants.{Subscripts, ParameterCount, Parameter, Bound, ForElement}
use Rattle.gier_text.specs.declared.fault.FaultKind.TheVariants.{Condition, Branches, Designational, Assignment, Operand}

abbrev pub text_of_fault : FaultKind → List ℕ
text_of_fault TooLong = codes "program too long"
text_of_fault Character = codes "character"
text_of_fault Word = codes "word"
text_of_fault Unclosed = codes "string"
text_of_fault Number = codes "number"
text_of_fault Structure = codes "structure"
text_of_fault DeclaredTwice = codes "declared twice"
text_of_fault NotDeclared = codes "not declared"
text_of_fault LocalInBound = codes "local in bound"
text_of_fault NotFormal = codes "not formal"
text_of_fault SpecifiedTwice = codes "specified twice"
text_of_fault NotSpecified = codes "not specified"
text_of_fault Level = codes "level"
text_of_fault ListTooLong = codes "list too long"
text_of_fault Value = codes "value"
text_of_fault Kind = codes "kind"
text_of_fault Subscripts = codes "subscripts"
text_of_fault ParameterCount = codes "parameter count"
text_of_fault Parameter = codes "parameter"
text_of_fault Bound = codes "bound"
text_of_fault ForElement = codes "for"
text_of_fault Condition = codes "condition"
text_of_fault Branches = codes "branches"
text_of_fault Designational = codes "designational"
text_of_fault Assignment = codes "assignment"
text_of_fault Operand = codes "operand"

-- the kind of a fault of bytes or numbers
abbrev pub kind_of_symbol_fault : SymbolFault → FaultKind
kind_of_symbol_fault WrongByte = Character
kind_of_symbol_fault WrongWord = Word
kind_of_symbol_fault OpenString = Unclosed
kind_of_symbol_fault LargeNumber = Number

abbrev pub as_fault : FaultAt SymbolFault → FaultAt FaultKind
as_fault fault = record { kind = kind_of_symbol_fault fault.kind; line = fault.line }

-- a fault of the tables without its position
abbrev pub without_position : Fault → FaultAt FaultKind
without_position fault = record { kind = fault.kind; line = fault.line }
