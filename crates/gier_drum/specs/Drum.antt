-- What a call of a drum does to its meaning, where that is told.
use Rattle.std.specs.Prelude.{◌^◌, ◌-◌, ◌<◌, ◌≤◌, ◌≡◌, ℕ, List, [], ◌∷◌, ◌++◌, All, length, replicate, Result, IsErrOf, Option}
use Rattle.std.specs.Prelude.{None, Some, slice_get, slice_set}
use Rattle.gier_word.specs.Cause.{HasRisen}
use Rattle.gier_drum.specs.declared.drum.Entry.{Entry}
use Rattle.gier_drum.specs.declared.drum.RoomFault.{RoomFault}
use Rattle.gier_drum.specs.declared.drum.RoomFault.TheVariants.{Failed}

-- the words of a track that was never written
abbrev pub zero_track : List ℕ
zero_track = replicate 40 0

-- 40 words, each below 2^40
pub record IsTrack (words : List ℕ) : Type 0 where
  pub long : length words ≡ 40
  pub small : All (λ word. word < 2 ^ 40) words

-- the count of faults never falls, and it rose where the drum failed; want of memory needs no cause
pub record HasRoomCause {T : Type 0} (before now : ℕ) (result : Result T RoomFault) : Type 0 where
  pub later : before ≤ now
  pub failed : IsErrOf result Failed → HasRisen before now

-- the old tracks, and behind them tracks of zeros up to this room
abbrev pub Grows : Option (List (List ℕ)) → ℕ → Option (List (List ℕ)) → Type 0
Grows None room new = new ≡ None
Grows (Some tracks) room new = new ≡ Some (tracks ++ replicate (room - length tracks) zero_track)

-- these are the words of the track
abbrev pub GivesTrack : Option (List (List ℕ)) → ℕ → List ℕ → Type 0
GivesTrack None track words = Unit {0}
GivesTrack (Some tracks) track words = slice_get tracks track ≡ Some words

-- the track has these words, and all others stay
abbrev pub SetsTrack : Option (List (List ℕ)) → ℕ → List ℕ → Option (List (List ℕ)) → Type 0
SetsTrack None track words new = new ≡ None
SetsTrack (Some tracks) track words new = new ≡ Some (slice_set tracks track words)

-- the entry is appended
abbrev pub Logs : Option (List Entry) → Entry → Option (List Entry) → Type 0
Logs None entry new = new ≡ None
Logs (Some entries) entry new = new ≡ Some (entries ++ entry ∷ [])
