-- The program text and the data of a tape: what stands before and behind the first `#`.
use Rattle.std.specs.Prelude.{◌==◌, ℕ, Bool, true, false, List, [], ◌∷◌, take}

abbrev pub parting_byte : ℕ
parting_byte = 35

abbrev pub before_parting : Bool → (byte : ℕ) → (rest : List ℕ) → List ℕ
before_parting true byte rest = []
before_parting false byte rest = byte ∷ rest

-- the bytes before the first `#`, or all where there is none
abbrev pub program_of : List ℕ → List ℕ
program_of [] = []
program_of (byte ∷ tape) = before_parting (byte == parting_byte) byte (program_of tape)

abbrev pub behind_parting : Bool → (tape : List ℕ) → (later : List ℕ) → List ℕ
behind_parting true tape later = tape
behind_parting false tape later = later

abbrev pub all_data : List ℕ → List ℕ
all_data [] = []
all_data (byte ∷ tape) = behind_parting (byte == parting_byte) tape (all_data tape)

-- the data end after this many bytes at the latest
abbrev pub most_data : ℕ
most_data = 16777216

abbrev pub data_of : List ℕ → List ℕ
data_of tape = take most_data (all_data tape)
