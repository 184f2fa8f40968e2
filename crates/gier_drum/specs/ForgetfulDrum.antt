-- What a `ForgetfulDrum` holds and how many reads it still answers.
use Rattle.std.specs.Prelude.{◌≡◌, ℕ, zero, suc, List, Some, slice_get}
use Rattle.gier_drum.specs.declared.forgetful_drum.ForgetfulDrum.{ForgetfulDrum}
use Rattle.gier_drum.specs.Drum.{zero_track}

abbrev pub held_of : ForgetfulDrum → List (List ℕ)
held_of drum = drum.tracks

abbrev pub left_of : ForgetfulDrum → ℕ
left_of drum = drum.left

-- where reads are left the words are the track's and one fewer is left, and else they are zeros
abbrev pub RemembersOrForgets : ℕ → List (List ℕ) → ℕ → List ℕ → ℕ → Type 0
RemembersOrForgets zero tracks track words left = (words ≡ zero_track) × (left ≡ 0)
RemembersOrForgets (suc n) tracks track words left = (slice_get tracks track ≡ Some words) × (left ≡ n)
