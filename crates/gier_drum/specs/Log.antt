-- The journal of a drum in memory: how many entries it may hold, the entries, and how many it has refused.
use Rattle.std.specs.Prelude.{◌≡◌, ◌+◌, ℕ, zero, suc, List, [], ◌∷◌, ◌++◌, length, nat_lt, nat_le, Bool, false, if◌then◌else◌}
use Rattle.std.specs.Prelude.{Result, IsOk, IsErr, Option, None, Some, MatchBool}
use Rattle.gier_drum.specs.declared.drum.Entry.{Entry}

pub record Log : Type 0 where
  pub limit : ℕ
  pub entries : List Entry
  pub refused : ℕ

-- the entries, where there is a journal
abbrev pub journal_entries : Option Log → Option (List Entry)
journal_entries None = None
journal_entries (Some log) = Some log.entries

-- none where there is no journal
abbrev pub entries_of : Option Log → List Entry
entries_of None = []
entries_of (Some log) = log.entries

abbrev pub refusals : Option Log → ℕ
refusals None = 0
refusals (Some log) = log.refused

abbrev pub is_full : Option Log → Bool
is_full None = false
is_full (Some log) = nat_le log.limit (length log.entries)

-- one more, unless a count of 64 bits stands at its last value
abbrev pub saturating_next : ℕ → ℕ
saturating_next n = if nat_lt n 18446744073709551615 then n + 1 else n

abbrev pub with_entry : Option Log → Entry → Option Log
with_entry None entry = None
with_entry (Some log) entry = Some (record log { entries = log.entries ++ entry ∷ [] })

abbrev pub with_refusal : Option Log → Option Log
with_refusal None = None
with_refusal (Some log) = Some (record log { refused = saturating_next log.refused })

-- a full journal refuses the entry and counts that; no other does
abbrev pub Notes : {T E : Type 0} → Option Log → Entry → Result T E → Option Log → Type 0
Notes old entry result new =
    MatchBool (is_full old) (IsErr result × (new ≡ with_refusal old)) (IsOk result × (new ≡ with_entry old entry))

-- an empty journal of so many entries, and none for 0
abbrev pub new_log : ℕ → Option Log
new_log zero = None
new_log (suc n) = Some (record { limit = suc n; entries = []; refused = 0 })
