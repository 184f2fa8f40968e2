-- What the front hands on, and what it takes from the tape.
use Rattle.std.specs.Prelude.{◌≡◌, ◌≤◌, ◌+◌, ◌*◌, ℕ, List, Option, Result, Ok, Err}
use Rattle.gier_text.specs.declared.fronted.Fronted.{Fronted}
use Rattle.gier_pass1.specs.Program.{TakesAll, TakesPart}
use Rattle.gier_front.specs.declared.stop.FrontStop.{FrontStop}
use Rattle.gier_front.specs.declared.stop.FrontStop.TheVariants.{Errors, Read, Drum, Spoilt}
use Rattle.gier_limits.specs.Areas.{longest, first_of}
use Rattle.gier_text.specs.SymbolsOnTracks.{text_on}
use Rattle.gier_text.specs.Potential.{IsWithinPotential}
use Rattle.gier_front.specs.Passes.{IsToldAs}

-- text 6 lies in the first area, and is no longer than a text of a program of so many bytes may be
pub record IsFronted (fronted : Fronted) : Type 0 where
  pub area : fronted.area ≡ 0
  pub bytes : fronted.bytes ≤ longest
  pub symbols : fronted.symbols ≤ 24 * fronted.bytes + 64

-- text 6 is told where the drum is, and isn't too heavy
abbrev pub HasTextSix : Option (List (List ℕ)) → Fronted → Type 0
HasTextSix tracks fronted = IsToldAs (IsWithinPotential 6 fronted.bytes) (text_on tracks (first_of 6) fronted.symbols)

-- the program text was taken from the tape, or a part of it where something failed
abbrev pub FrontTakes : {T : Type 0} → Result T FrontStop → Option (List ℕ) → Option (List ℕ) → Type 0
FrontTakes (Ok fronted) old new = TakesAll old new
FrontTakes (Err Errors) old new = TakesAll old new
FrontTakes (Err Read) old new = TakesPart old new
FrontTakes (Err Drum) old new = TakesPart old new
FrontTakes (Err (Spoilt odd)) old new = TakesPart old new
