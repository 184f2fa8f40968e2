-- What a `FailingDrum` is about to do.
use Rattle.std.specs.Prelude.{◌≡◌, ◌==◌, ◌+◌, ℕ, List, Bool, Result, Err, IsErr, IsOk, MatchBool}
use Rattle.std.specs.List.{list_any}
use Rattle.gier_drum.specs.declared.failing_drum.FailingDrum.{FailingDrum}
use Rattle.gier_drum.specs.declared.drum.RoomFault.{RoomFault}
use Rattle.gier_drum.specs.declared.drum.RoomFault.TheVariants.{Failed as DrumFailed}
use Rattle.gier_drum.specs.Log.{refusals, saturating_next}
use Rattle.gier_drum.specs.Memory.{Memory, MakesRoom, Reads, Writes}
use Rattle.gier_drum.specs.MemDrum.{memory_of}

-- what it holds, at which calls it fails, how many were made, and at how many of these it failed
pub record Plan : Type 0 where
  pub memory : Memory
  pub fails : List ℕ
  pub calls : ℕ
  pub failed : ℕ

abbrev pub plan_of : FailingDrum → Plan
plan_of drum = record { memory = memory_of drum.inner; fails = drum.fails.items; calls = drum.calls; failed = drum.failed }

-- the next call is a listed one
abbrev pub is_listed : Plan → Bool
is_listed plan = list_any (λ n. n == plan.calls) plan.fails

-- the faults of listed calls, and those of a full journal
abbrev pub fault_count : Plan → ℕ
fault_count plan = refusals plan.memory.log + plan.failed

-- the call is counted, and refused where it is listed
pub record Counts {T E : Type 0} (old : Plan) (result : Result T E) (new : Plan) : Type 0 where
  pub calls : new.calls ≡ saturating_next old.calls
  pub fails : new.fails ≡ old.fails
  pub listed : MatchBool (is_listed old) (IsErr result × (new.failed ≡ saturating_next old.failed))
      (IsOk result × (new.failed ≡ old.failed))

-- a call that is counted, that fails and changes no memory where it is listed, and else does this
pub record FailsOr (old new : Plan) (fault does : Type 0) : Type 0 where
  pub calls : new.calls ≡ saturating_next old.calls
  pub fails : new.fails ≡ old.fails
  pub listed : MatchBool (is_listed old) (fault × (new.failed ≡ saturating_next old.failed) × (new.memory ≡ old.memory))
      (does × (new.failed ≡ old.failed))

abbrev pub FailsOrMakesRoom : {T : Type 0} → Plan → ℕ → Result T RoomFault → Plan → Type 0
FailsOrMakesRoom old wanted result new = FailsOr old new (result ≡ Err DrumFailed) (MakesRoom old.memory wanted result new.memory)

abbrev pub FailsOrReads : {T E : Type 0} → Plan → ℕ → Result T E → List ℕ → Plan → Type 0
FailsOrReads old track result into new = FailsOr old new (IsErr result) (Reads old.memory track result into new.memory)

abbrev pub FailsOrWrites : {T E : Type 0} → Plan → ℕ → List ℕ → Result T E → Plan → Type 0
FailsOrWrites old track from result new = FailsOr old new (IsErr result) (Writes old.memory track from result new.memory)
