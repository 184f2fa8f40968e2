-- The errors of a program text: that it is too long, or else the faults of the first of five lists that isn't empty: those of its
-- bytes, of its numbers, of its structure, of its scopes and of its types. Where there are none, the text is a program.
use Rattle.std.specs.Prelude.{ℕ, Bool, true, false, nat_lt, List, [], ◌∷◌, map, length, Option, None, Some}
use Rattle.gier_symbol.specs.Assembly.{assembly}
use Rattle.gier_symbol.specs.Listing.{FaultAt, SymbolFault, Listing}
use Rattle.gier_symbol.specs.Reading.{symbols_of}
use Rattle.gier_tree.specs.Hoist.{hoist}
use Rattle.gier_tree.specs.Structure.{structure_fault, program_spelled}
use Rattle.gier_tree.specs.Trees.{Program}
use Rattle.gier_scope.specs.Faults.{ScopeFault}
use Rattle.gier_scope.specs.ScopeFaults.{scope_faults}
use Rattle.gier_kinds.specs.Faults.{TypeFault}
use Rattle.gier_kinds.specs.TypeFaults.{type_faults}

pub data Fault : Type 0 where
  OfSymbols : SymbolFault → Fault
  OfStructure : Fault
  OfScopes : ScopeFault → Fault
  OfTypes : TypeFault → Fault

abbrev pub Faults : Type 0
Faults = List (FaultAt Fault)

pub data Errors : Type 0 where
  TooLong : Errors
  Listed : Faults → Errors

-- a program has at most so many bytes
abbrev pub most_bytes : ℕ
most_bytes = 524288

-- faults of one list, told as such
abbrev pub faults_as : {K : Type 0} → (K → Fault) → List (FaultAt K) → Faults
faults_as of faults = map (λ f. record { kind = of f.kind; line = f.line }) faults

abbrev pub structure_list : Option ℕ → Faults
structure_list None = []
structure_list (Some line) = record { kind = OfStructure; line = line } ∷ []

-- scopes are those of the program as it was written, types those of the hoisted one
abbrev pub scope_list : Option Program → Faults
scope_list None = []
scope_list (Some t) = faults_as OfScopes (scope_faults t)

abbrev pub type_list : Option Program → Faults
type_list None = []
type_list (Some t) = faults_as OfTypes (type_faults (hoist t))

abbrev pub lists_behind : (read assembly : Listing) → List Faults
lists_behind read assembly =
    faults_as OfSymbols read.faults ∷ faults_as OfSymbols assembly.faults ∷ structure_list (structure_fault assembly.symbols)
    ∷ scope_list (program_spelled assembly.symbols) ∷ type_list (program_spelled assembly.symbols) ∷ []

abbrev pub five_lists : List ℕ → List Faults
five_lists bytes = lists_behind (symbols_of bytes) (assembly (symbols_of bytes).symbols)

abbrev pub first_filled : List Faults → Faults
first_filled [] = []
first_filled ([] ∷ lists) = first_filled lists
first_filled ((fault ∷ faults) ∷ lists) = fault ∷ faults

abbrev pub errors_by : (too_long : Bool) → (bytes : List ℕ) → Errors
errors_by true bytes = TooLong
errors_by false bytes = Listed (first_filled (five_lists bytes))

abbrev pub errors : List ℕ → Errors
errors bytes = errors_by (nat_lt most_bytes (length bytes)) bytes
