-- What entering an activation comes to, on plain numbers: first a step is charged, then the room is taken. All who speak of
-- steps and words share this.
use Rattle.std.specs.Prelude.{ℕ, zero, suc, ◌+◌, max, nat_lt, Option, Some, None, if◌then◌else◌}

-- the greatest number of live words after n more are taken; None where they are more than the limit
abbrev pub live_after_taking : (limit most live n : ℕ) → Option ℕ
live_after_taking limit most live n = if nat_lt limit (live + n) then None else Some (max most (live + n))

pub data Entry : Type 0 where
  NoStep : Entry
  NoRoom : (left : ℕ) → Entry
  Enters : (left most : ℕ) → Entry

abbrev pub with_room : (left : ℕ) → Option ℕ → Entry
with_room left None = NoRoom left
with_room left (Some most) = Enters left most

abbrev pub entry : (limit left most live room : ℕ) → Entry
entry limit zero most live room = NoStep
entry limit (suc left) most live room = with_room left (live_after_taking limit most live room)
