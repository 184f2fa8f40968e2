-- What of a tape is the program text: all bytes before the first `#`, at most 524,288 of them.
use Rattle.std.specs.Prelude.{◌≡◌, ◌≢◌, ◌==◌, ◌<◌, ◌≤◌, ◌+◌, ℕ, min, if◌then◌else◌, List, [], ◌∷◌, length, drop, slice_get}
use Rattle.std.specs.Prelude.{Option, None, Some, Result, Ok, Err}
use Rattle.gier_pass1.specs.declared.read.ReadStop.{ReadStop}
use Rattle.gier_pass1.specs.declared.read.ReadStop.TheVariants.{TooLong, Read, Pass}

-- the most bytes that a program text may have
abbrev pub longest : ℕ
longest = 524288

-- the bytes before the first `#`, or all where there is none
abbrev pub program_of : List ℕ → List ℕ
program_of [] = []
program_of (byte ∷ tape) = if byte == 35 then [] else byte ∷ program_of tape

-- how many bytes are taken for it: the text and its mark, but no more than one byte beyond the longest text
abbrev pub taken_of : List ℕ → ℕ
taken_of tape = min (length (program_of tape)) longest + 1

-- the next byte of the program text, where it goes on
abbrev pub GivesByte : Option (List ℕ) → ℕ → Option (List ℕ) → Type 0
GivesByte None byte new = new ≡ None
GivesByte (Some left) byte new = (slice_get left 0 ≡ Some byte) × (new ≡ Some (drop 1 left))

-- the end of the program text
abbrev pub GivesEnd : Option (List ℕ) → Option (List ℕ) → Type 0
GivesEnd None new = new ≡ None
GivesEnd (Some left) new = (program_of left ≡ []) × (new ≡ Some (drop 1 left))

-- the next byte of a program text of which so many bytes were taken, its end, or a byte too many
abbrev pub GivesNext : Option (List ℕ) → ℕ → Result (Option ℕ) ReadStop → Option (List ℕ) → Type 0
GivesNext left taken (Ok None) new = GivesEnd left new
GivesNext left taken (Ok (Some byte)) new = GivesByte left byte new × (byte ≢ 35) × (taken < longest)
GivesNext left taken (Err TooLong) new = ((byte : ℕ) × GivesByte left byte new × (byte ≢ 35)) × (taken ≡ longest)
GivesNext left taken (Err Read) new = new ≡ left
GivesNext left taken (Err (Pass stop)) new = ⊥

-- the tape lost a part of what is to be taken
abbrev pub TakesPart : Option (List ℕ) → Option (List ℕ) → Type 0
TakesPart None new = new ≡ None
TakesPart (Some tape) new = (n : ℕ) × (n ≤ taken_of tape) × (new ≡ Some (drop n tape))

-- the tape lost all that is to be taken
abbrev pub TakesAll : Option (List ℕ) → Option (List ℕ) → Type 0
TakesAll None new = new ≡ None
TakesAll (Some tape) new = new ≡ Some (drop (taken_of tape) tape)

-- the program text has so many bytes
abbrev pub IsCount : Option (List ℕ) → ℕ → Type 0
IsCount None n = Unit {0}
IsCount (Some tape) n = n ≡ length (program_of tape)

-- the program text is longer than the longest
abbrev pub IsTooLong : Option (List ℕ) → Type 0
IsTooLong None = Unit {0}
IsTooLong (Some tape) = longest < length (program_of tape)

-- what was taken from the tape
abbrev pub Takes : Result ℕ ReadStop → Option (List ℕ) → Option (List ℕ) → Type 0
Takes (Ok n) old new = (n ≤ longest) × IsCount old n × TakesAll old new
Takes (Err TooLong) old new = TakesAll old new × IsTooLong old
Takes (Err Read) old new = TakesPart old new
Takes (Err (Pass stop)) old new = TakesPart old new
