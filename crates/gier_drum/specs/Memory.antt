-- What a drum in memory holds, and what its calls do to that.
use Rattle.std.specs.Prelude.{◌<◌, ◌≡◌, ◌^◌, ◌-◌, ◌++◌, ℕ, List, All, length, replicate, Option, Some, Result, OnOk, OnErr}
use Rattle.std.specs.Prelude.{IfErr, slice_get, slice_set}
use Rattle.gier_drum.specs.declared.drum.Entry.TheVariants.{Read, Write}
use Rattle.gier_drum.specs.declared.drum.RoomFault.{RoomFault}
use Rattle.gier_drum.specs.declared.drum.RoomFault.TheVariants.{Memory as WantOfMemory}
use Rattle.gier_drum.specs.Drum.{IsTrack, zero_track}
use Rattle.gier_drum.specs.Log.{Log, Notes}

-- fewer than 2^32 tracks
pub record AreTracks (tracks : List (List ℕ)) : Type 0 where
  pub few : length tracks < 2 ^ 32
  pub shaped : All IsTrack tracks

-- the tracks, and behind them tracks of zeros where there are fewer than wanted
abbrev pub grown_to : ℕ → List (List ℕ) → List (List ℕ)
grown_to wanted tracks = tracks ++ replicate (wanted - length tracks) zero_track

pub record Memory : Type 0 where
  pub tracks : List (List ℕ)
  pub log : Option Log

-- room is refused for want of memory alone, and the journal stays
pub record MakesRoom {T : Type 0} (old : Memory) (wanted : ℕ) (result : Result T RoomFault) (new : Memory) : Type 0 where
  pub grown : OnOk result (new.tracks ≡ grown_to wanted old.tracks)
  pub kept : OnErr result (new.tracks ≡ old.tracks)
  pub want : IfErr result (λ fault. fault ≡ WantOfMemory)
  pub log : new.log ≡ old.log

-- a read is refused by a full journal alone
pub record Reads {T E : Type 0} (old : Memory) (track : ℕ) (result : Result T E) (into : List ℕ) (new : Memory) : Type 0 where
  pub given : OnOk result (slice_get old.tracks track ≡ Some into)
  pub kept : new.tracks ≡ old.tracks
  pub log : Notes old.log (Read track) result new.log

-- a write is refused by a full journal alone
pub record Writes {T E : Type 0} (old : Memory) (track : ℕ) (from : List ℕ) (result : Result T E) (new : Memory) : Type 0 where
  pub set : OnOk result (new.tracks ≡ slice_set old.tracks track from)
  pub kept : OnErr result (new.tracks ≡ old.tracks)
  pub log : Notes old.log (Write track) result new.log
