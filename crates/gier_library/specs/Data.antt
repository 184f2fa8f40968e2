-- The data that a program reads: at most so many bytes of a source, and what a call that reads them takes and answers.
use Rattle.std.specs.Prelude.{◌≡◌, ◌⊎◌, ◌≤◌, ◌+◌, ◌++◌, ℕ, ℤ, Bool, true, List, [], ◌∷◌, length, Option, None, Some, Result, Ok}
use Rattle.std.specs.Prelude.{Err}
use Rattle.gier_word.specs.Standard.{Reading}
use Rattle.gier_word.specs.declared.alarm.Alarm.{Alarm}
use Rattle.gier_word.specs.declared.refusal.Failed.{Failed}

-- the most bytes that the data may have
abbrev pub limit : ℕ
limit = 16777216

-- the data as a caller knows them: what the source has left, where it is told, how many bytes it gave to them, and
-- whether they have ended
pub record Stand : Type 0 where
  pub left : Option (List ℕ)
  pub given : ℕ
  pub ended : Bool

-- where the source tells, these bytes are what it lost
abbrev pub Loses : Option (List ℕ) → List ℕ → Option (List ℕ) → Type 0
Loses None bytes new = new ≡ None
Loses (Some left) bytes new = (rest : List ℕ) × (left ≡ bytes ++ rest) × (new ≡ Some rest)

-- where the source tells, nothing is left
abbrev pub IsUsedUp : Option (List ℕ) → Type 0
IsUsedUp None = Unit {0}
IsUsedUp (Some left) = left ≡ []

-- These bytes came from the source. The data end at the limit or where the source has nothing left, and for good.
pub record Takes (old : Stand) (bytes : List ℕ) (new : Stand) : Type 0 where
  pub counted : new.given ≡ old.given + length bytes
  pub lost : Loses old.left bytes new.left
  pub limited : new.given ≤ limit
  pub full : new.given ≡ limit → new.ended ≡ true
  pub ends : new.ended ≡ true → (old.ended ≡ true) ⊎ ((new.given ≡ limit) ⊎ IsUsedUp new.left)
  pub stays : old.ended ≡ true → new ≡ old

-- what one read brings
abbrev pub bytes_of : Result (Option ℕ) Failed → List ℕ
bytes_of (Ok (Some byte)) = byte ∷ []
bytes_of (Ok None) = []
bytes_of (Err failed) = []

-- no read failed: the procedure makes this outcome of these bytes and takes all of them, and it asks for one more only
-- where the data have ended
pub record Makes (reading : Reading) (bytes : List ℕ) (outcome : Result ℤ Alarm) (ended : Bool) : Type 0 where
  pub answer : reading.outcome ≡ outcome
  pub whole : reading.taken ≡ length bytes
  pub meets : reading.meets_end ≡ true → ended ≡ true

-- a read failed: the procedure takes these bytes, whatever stands behind them
abbrev pub IsBegun : (List ℕ → Reading) → List ℕ → Type 0
IsBegun reads bytes = (rest : List ℕ) → length bytes ≤ (reads (bytes ++ rest)).taken

abbrev pub Fits : (List ℕ → Reading) → List ℕ → Result (Result ℤ Alarm) Failed → Bool → Type 0
Fits reads bytes (Ok outcome) ended = Makes (reads bytes) bytes outcome ended
Fits reads bytes (Err failed) ended = IsBegun reads bytes

-- a call that reads: some bytes came from the source, and the answer is what the procedure makes of them
abbrev pub Reads : (List ℕ → Reading) → Stand → Result (Result ℤ Alarm) Failed → Stand → Type 0
Reads reads old answer new = (bytes : List ℕ) × Takes old bytes new × Fits reads bytes answer new.ended
