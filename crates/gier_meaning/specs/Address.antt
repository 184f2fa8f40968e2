-- Addresses (Report 4.2.3 has left parts): of a cell, or of an element of an array, which its subscripts tell (Report 3.1.4).
use Rattle.std.specs.Prelude.{◌&&◌, ℕ, ℤ, pos, Bool, true, false, int_le, List, [], ◌∷◌, if◌then◌else◌}
use Rattle.gier_meaning.specs.State.{Entity, Nothing, ACell, AnArray, ALabel, Kept, State, with_entity}

pub data Address : Type 0 where
  CellAt : (entity : ℕ) → Address
  ElementAt : (entity : ℕ) → (subscripts : List ℤ) → Address

abbrev pub is_same : ℤ → ℤ → Bool
is_same a b = int_le a b && int_le b a

abbrev pub are_same : List ℤ → List ℤ → Bool
are_same [] [] = true
are_same [] (b ∷ bs) = false
are_same (a ∷ as_) [] = false
are_same (a ∷ as_) (b ∷ bs) = is_same a b && are_same as_ bs

abbrev pub with_element : (List ℤ → ℤ) → List ℤ → ℤ → List ℤ → ℤ
with_element elements subscripts value others = if are_same others subscripts then value else elements others

-- the value in a cell
abbrev pub value_in : {K : Type 0} → Entity K → ℤ
value_in Nothing = pos 0
value_in (ACell kind value) = value
value_in (AnArray kind bounds elements) = pos 0
value_in ALabel = pos 0
value_in (Kept k) = pos 0

-- the value of an element
abbrev pub element_in : {K : Type 0} → Entity K → List ℤ → ℤ
element_in Nothing subscripts = pos 0
element_in (ACell kind value) subscripts = pos 0
element_in (AnArray kind bounds elements) subscripts = elements subscripts
element_in ALabel subscripts = pos 0
element_in (Kept k) subscripts = pos 0

-- the value at an address
abbrev pub value_at : {K : Type 0} → Address → State K → ℤ
value_at (CellAt n) s = value_in (s.store n)
value_at (ElementAt n subscripts) s = element_in (s.store n) subscripts

abbrev pub cell_with : {K : Type 0} → Entity K → ℤ → Entity K
cell_with Nothing value = Nothing
cell_with (ACell kind old) value = ACell kind value
cell_with (AnArray kind bounds elements) value = AnArray kind bounds elements
cell_with ALabel value = ALabel
cell_with (Kept k) value = Kept k

abbrev pub array_with : {K : Type 0} → Entity K → List ℤ → ℤ → Entity K
array_with Nothing subscripts value = Nothing
array_with (ACell kind old) subscripts value = ACell kind old
array_with (AnArray kind bounds elements) subscripts value = AnArray kind bounds (with_element elements subscripts value)
array_with ALabel subscripts value = ALabel
array_with (Kept k) subscripts value = Kept k

-- an address receives a value
abbrev pub receives : {K : Type 0} → Address → ℤ → State K → State K
receives (CellAt n) value s = with_entity n (cell_with (s.store n) value) s
receives (ElementAt n subscripts) value s = with_entity n (array_with (s.store n) subscripts value) s

-- all of them receive it (Report 4.2.3.3)
abbrev pub receive : {K : Type 0} → List Address → ℤ → State K → State K
receive [] value s = s
receive (address ∷ addresses) value s = receive addresses value (receives address value s)
