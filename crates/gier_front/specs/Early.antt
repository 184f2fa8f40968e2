-- The faults that are found before scopes and types: those of the first pass that finds any.
use Rattle.std.specs.Prelude.{◌≡◌, ◌<◌, ◌==◌, ◌||◌, ℕ, Bool, true, false, nat_lt, List, [], ◌∷◌, length, map, Option, None}
use Rattle.std.specs.Prelude.{Some, Result, Ok, Err, IsTrue}
use Rattle.gier_symbol.specs.declared.symbol.Symbol.{Symbol}
use Rattle.gier_symbol.specs.declared.tag.Tag.TheVariants.{Letter, Digit, StringByte}
use Rattle.gier_symbol.specs.Assembly.{is, is_letter_or_digit, assembly}
use Rattle.gier_symbol.specs.Bytes.{is_letter}
use Rattle.gier_symbol.specs.Listing.{FaultAt, Listing}
use Rattle.gier_symbol.specs.Reading.{symbols_of}
use Rattle.gier_text.specs.declared.fault.Fault.{Fault}
use Rattle.gier_text.specs.declared.fault.FaultKind.{FaultKind}
use Rattle.gier_text.specs.declared.fault.FaultKind.TheVariants.{TooLong, Structure}
use Rattle.gier_text.specs.Faults.{as_fault, without_position}
use Rattle.gier_tree.specs.Structure.{structure_fault}
use Rattle.gier_limits.specs.Areas.{longest}
use Rattle.gier_front.specs.declared.stop.FrontStop.{FrontStop}
use Rattle.gier_front.specs.declared.stop.FrontStop.TheVariants.{Errors, Read, Drum, Spoilt}

abbrev pub too_long : List (FaultAt FaultKind)
too_long = record { kind = TooLong; line = 0 } ∷ []

-- the one fault of structure, where there is one
abbrev pub structure_faults : Option ℕ → List (FaultAt FaultKind)
structure_faults None = []
structure_faults (Some at) = record { kind = Structure; line = at } ∷ []

-- the faults of a pass, or else those of the next ones
abbrev pub or_else : {T : Type 0} → List T → List T → List T
or_else [] later = later
or_else (fault ∷ faults) later = fault ∷ faults

-- from text 2 on
abbrev pub faults_of_two : List Symbol → List (FaultAt FaultKind)
faults_of_two symbols = structure_faults (structure_fault symbols)

-- from text 1 on
abbrev pub faults_of_one : List Symbol → List (FaultAt FaultKind)
faults_of_one symbols = or_else (map as_fault (assembly symbols).faults) (faults_of_two (assembly symbols).symbols)

abbrev pub early_by : (long : Bool) → Listing → List (FaultAt FaultKind)
early_by true listing = too_long
early_by false listing = or_else (map as_fault listing.faults) (faults_of_one listing.symbols)

-- the early faults of a program text
abbrev pub early_faults : (program : List ℕ) → List (FaultAt FaultKind)
early_faults program = early_by (nat_lt longest (length program)) (symbols_of program)

-- where there are early faults, just these were found, in order
abbrev pub AreEarly : List (FaultAt FaultKind) → List Fault → Type 0
AreEarly [] found = Unit {0}
AreEarly (fault ∷ faults) found = map without_position found ≡ fault ∷ faults

-- a program that goes through has none
abbrev pub FindsEarly : {T : Type 0} → Result T FrontStop → List (FaultAt FaultKind) → List Fault → Type 0
FindsEarly (Ok x) early found = early ≡ []
FindsEarly (Err Errors) early found = AreEarly early found
FindsEarly (Err Read) early found = Unit {0}
FindsEarly (Err Drum) early found = Unit {0}
FindsEarly (Err (Spoilt odd)) early found = Unit {0}

-- Pass 1 either found the early faults, or none: then text 1 has the symbols of the program text, and what is left to
-- be found is found in it.
abbrev pub FindsFirst : {T : Type 0} → Result T FrontStop → (program : List ℕ) → List Fault → (held : Option (List Symbol)) → Type 0
FindsFirst (Ok x) program found held =
    (early_faults program ≡ faults_of_one (symbols_of program).symbols) × (held ≡ Some (symbols_of program).symbols)
FindsFirst (Err Errors) program found held = AreEarly (early_faults program) found
FindsFirst (Err Read) program found held = Unit {0}
FindsFirst (Err Drum) program found held = Unit {0}
FindsFirst (Err (Spoilt odd)) program found held = Unit {0}

-- Letters, digits and bytes of strings are all that has a value, and letters and digits are spelled as such.
pub record IsPlain (s : Symbol) : Type 0 where
  pub letter : is Letter s ≡ true → is_letter s.value ≡ true
  pub digit : is Digit s ≡ true → s.value < 10
  pub other : IsTrue (is_letter_or_digit s || is StringByte s || s.value == 0)

-- all symbols of a list
abbrev pub ArePlain : List Symbol → Type 0
ArePlain [] = Unit {0}
ArePlain (s ∷ list) = IsPlain s × ArePlain list
