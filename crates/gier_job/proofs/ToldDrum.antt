-- A drum that tells its tracks goes on telling them when its room grows.
use Rattle.std.proofs.Common.{◌≡◌, ℕ, List, Option, None, Some, true, is_some, refl}
use Rattle.gier_drum.specs.Drum.{Grows}

pub grown_told : (old new : Option (List (List ℕ))) (room : ℕ) → Grows old room new → is_some old ≡ true → is_some new ≡ true
grown_told None new room grows told = rw grows told
grown_told (Some tracks) new room grows told = rw grows refl
