-- What a trace keeps of the references that were noted, and the plan that it found last.
use Rattle.std.specs.Prelude.{◌≡◌, ℕ, ◌<◌, Bool, true, false, cond, nat_lt, Option, Some, None, List, [], ◌∷◌, ◌++◌, length}
use Rattle.std.specs.Prelude.{take, All}
use Rattle.gier_best.specs.Changes.{last_from, changes_of}

pub record Traced : Type 0 where
  -- how many changes it keeps
  pub limit : ℕ
  -- how many tracks there are
  pub tracks : ℕ
  -- the track of the last reference
  pub last : Option ℕ
  pub too_long : Bool
  pub kept : List ℕ
  pub plan : List (ℕ × ℕ)

-- nothing was noted yet
abbrev pub fresh : ℕ → ℕ → Traced
fresh limit tracks = record { limit = limit; tracks = tracks; last = None; too_long = false; kept = []; plan = [] }

-- a change of track was noted: it is kept where there is room
abbrev pub after_change : Traced → ℕ → Traced
after_change trace track = record trace {
  last = Some track;
  too_long = cond (nat_lt (length trace.kept) trace.limit) trace.too_long true;
  kept = cond (nat_lt (length trace.kept) trace.limit) (trace.kept ++ track ∷ []) trace.kept;
}

-- these are the references noted since the trace was opened or cleared
pub record HasNoted (trace : Traced) (refs : List ℕ) : Type 0 where
  pub last : trace.last ≡ last_from None refs
  pub too_long : trace.too_long ≡ nat_lt trace.limit (length (changes_of refs))
  pub kept : trace.kept ≡ take trace.limit (changes_of refs)

-- each track noted is one of those that there are
abbrev pub AreTracks : Traced → Type 0
AreTracks trace = All (λ track. track < trace.tracks) trace.kept

-- noting and clearing leave these as they are
pub record KeepsSettings (old new : Traced) : Type 0 where
  pub limit : new.limit ≡ old.limit
  pub tracks : new.tracks ≡ old.tracks
  pub plan : new.plan ≡ old.plan
