-- Entities, and the state of a run. An entity is a number that is given out once; the store says what it is. What a procedure
-- or a switch keeps, `K`, is a closed declaration where calls copy, and a declaration with an environment where they don't.
-- A logical value is kept as a number: true is 1, false is 0.
use Rattle.std.specs.Prelude.{◌==◌, ℕ, ◌+◌, ℤ, List, ◌++◌, if◌then◌else◌}
use Rattle.gier_agree.specs.declared.kind.Kind.{Kind}

-- the lower and the upper bound of a subscript
pub record Pair : Type 0 where
  pub lower : ℤ
  pub upper : ℤ

pub data Entity (K : Type 0) : Type 0 where
  Nothing : Entity K
  ACell : Kind → (value : ℤ) → Entity K
  AnArray : Kind → (bounds : List Pair) → (elements : List ℤ → ℤ) → Entity K
  ALabel : Entity K
  Kept : K → Entity K

pub record State (K : Type 0) : Type 0 where
  pub fresh : ℕ
  pub store : ℕ → Entity K
  pub unread : List ℕ
  pub printed : List ℕ
  pub left : ℕ
  pub most : ℕ

abbrev pub with_value : {K : Type 0} → (ℕ → Entity K) → ℕ → Entity K → ℕ → Entity K
with_value store n entity m = if m == n then entity else store m

-- from now on the store says this of n
abbrev pub with_entity : {K : Type 0} → ℕ → Entity K → State K → State K
with_entity n entity s = record s { store = with_value s.store n entity }

-- so many more entities are given out
abbrev pub given_out : {K : Type 0} → ℕ → State K → State K
given_out n s = record s { fresh = s.fresh + n }

abbrev pub with_printed : {K : Type 0} → List ℕ → State K → State K
with_printed bytes s = record s { printed = s.printed ++ bytes }
