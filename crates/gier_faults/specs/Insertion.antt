-- Faults as a list in order of position: each is put before the first that stands later. Where no two have one position it doesn't
-- matter in which order they are found. What a fault means isn't told here.
use Rattle.std.specs.Prelude.{◌≡◌, ◌≤◌, ◌<◌, ◌==◌, ℕ, suc, false, nat_lt, List, [], ◌∷◌, if◌then◌else◌}
use Rattle.gier_text.specs.declared.fault.Fault.{Fault}
use Rattle.gier_text.specs.TablesModel.{TablesModel, AddsFault}

-- before the first one that stands later
abbrev pub insert_by : Fault → List Fault → List Fault
insert_by f [] = f ∷ []
insert_by f (g ∷ gs) = if nat_lt f.position g.position then f ∷ g ∷ gs else g ∷ insert_by f gs

-- one after the other
abbrev pub insert_all : List Fault → List Fault → List Fault
insert_all [] gs = gs
insert_all (f ∷ fs) gs = insert_all fs (insert_by f gs)

-- at strictly rising positions, from the first number on and below the second
abbrev pub IsRising : (low high : ℕ) → List Fault → Type 0
IsRising low high [] = low ≤ high
IsRising low high (f ∷ fs) = (low ≤ f.position) × IsRising (suc f.position) high fs

-- at positions from this one on that don't fall
abbrev pub IsSorted : (low : ℕ) → List Fault → Type 0
IsSorted low [] = low ≤ low
IsSorted low (f ∷ fs) = (low ≤ f.position) × IsSorted f.position fs

-- the same faults in another order
pub data Reordered : List Fault → List Fault → Type 0 where
  Empty : Reordered [] []
  Before : (f : Fault) (xs ys : List Fault) → Reordered xs ys → Reordered (f ∷ xs) (f ∷ ys)
  Swapped : (f g : Fault) (xs : List Fault) → Reordered (f ∷ g ∷ xs) (g ∷ f ∷ xs)
  Followed : (xs ys zs : List Fault) → Reordered xs ys → Reordered ys zs → Reordered xs zs

-- faults at rising positions, found in any order, are listed in the order of their positions
abbrev pub AnyOrderIsListed : Type 0
AnyOrderIsListed = (low high : ℕ) (found listed : List Fault) → IsRising low high listed → Reordered listed found
    → insert_all found [] ≡ listed

-- two insertions at different positions can change places
abbrev pub InsertionsCommute : Type 0
InsertionsCommute = (f g : Fault) → f.position == g.position ≡ false → (hs : List Fault)
    → insert_by f (insert_by g hs) ≡ insert_by g (insert_by f hs)

-- what is found late stands before what was found since
abbrev pub LateIsBefore : Type 0
LateIsBefore = (f : Fault) (low high : ℕ) (since : List Fault) → IsRising low high since → f.position < low → (hs : List Fault)
    → insert_by f (insert_all since hs) ≡ insert_all since (insert_by f hs)

-- the tables of passes insert so
abbrev pub TablesInsert : Type 0
TablesInsert = (old new : TablesModel) (f : Fault) → IsSorted 0 old.faults → AddsFault old f new
    → (new ≡ record old { faults = insert_by f old.faults }) × IsSorted 0 new.faults
