-- What is known of a `FileDrum`: nothing of its bytes.
use Rattle.std.specs.Prelude.{◌≡◌, ℕ, Option, Result, is_ok, if◌then◌else◌}
use Rattle.std.specs.declared.fs.File.{File}
use Rattle.gier_drum.specs.declared.file_drum.FileDrum.{FileDrum}
use Rattle.gier_drum.specs.Log.{saturating_next}

abbrev pub file_of : FileDrum → Option File
file_of drum = drum.file

abbrev pub room_of : FileDrum → ℕ
room_of drum = drum.room

abbrev pub failed_of : FileDrum → ℕ
failed_of drum = drum.failed

-- each failure is counted, and nothing else
abbrev pub CountsFault : {T E : Type 0} → ℕ → Result T E → ℕ → Type 0
CountsFault old result new = new ≡ (if is_ok result then old else saturating_next old)
