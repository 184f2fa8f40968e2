-- What may be wrong with the declarations and uses of identifiers, and how a fault is listed: with the line of its symbol.
use Rattle.std.specs.Prelude.{ℕ, Bool, true, false, List, [], ◌∷◌}
use Rattle.gier_symbol.specs.Listing.{FaultAt}

-- in the order of the table in which the first of two on one symbol is listed; here no symbol has two
pub data ScopeFault : Type 0 where
  DeclaredTwice : ScopeFault
  NotDeclared : ScopeFault
  LocalInBound : ScopeFault
  NotFormal : ScopeFault
  SpecifiedTwice : ScopeFault
  NotSpecified : ScopeFault
  TooDeep : ScopeFault

abbrev pub ScopeFaults : Type 0
ScopeFaults = List (FaultAt ScopeFault)

-- a fault on a line, where there is one
abbrev pub fault_where : Bool → ScopeFault → (line : ℕ) → ScopeFaults
fault_where true kind line = record { kind = kind; line = line } ∷ []
fault_where false kind line = []
