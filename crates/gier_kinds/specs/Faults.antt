-- What may be wrong with the types of expressions and the uses of identifiers, and how a fault is listed: with the line of its
-- symbol, and at most one on a symbol.
use Rattle.std.specs.Prelude.{ℕ, Bool, true, false, List, [], ◌∷◌}
use Rattle.gier_symbol.specs.Listing.{FaultAt}

-- in the order of the table: of two on one symbol the one that stands first here is listed
pub data TypeFault : Type 0 where
  ListTooLong : TypeFault
  WrongValue : TypeFault
  WrongUse : TypeFault
  WrongSubscripts : TypeFault
  WrongCount : TypeFault
  WrongActual : TypeFault
  WrongBound : TypeFault
  WrongElement : TypeFault
  WrongCondition : TypeFault
  WrongBranches : TypeFault
  WrongTarget : TypeFault
  WrongAssignment : TypeFault
  WrongOperand : TypeFault

abbrev pub TypeFaults : Type 0
TypeFaults = List (FaultAt TypeFault)

-- a fault that falls on a symbol, where it does
abbrev pub falls : Bool → TypeFault → List TypeFault
falls true kind = kind ∷ []
falls false kind = []

-- of those that fall on the symbol of this line, in the order of the table, the first one
abbrev pub on_symbol : (line : ℕ) → List TypeFault → TypeFaults
on_symbol line [] = []
on_symbol line (kind ∷ kinds) = record { kind = kind; line = line } ∷ []
