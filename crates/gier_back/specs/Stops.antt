-- What the stops of passes become, and why the back may stop.
use Rattle.std.specs.Prelude.{Result, Ok, Err}
use Rattle.gier_word.specs.declared.refusal.Odd.{Odd}
use Rattle.gier_text.specs.declared.pass.PassStop.{PassStop}
use Rattle.gier_text.specs.declared.pass.PassStop.TheVariants.{Drum as PassDrum, Memory as PassMemory, Full as PassFull}
use Rattle.gier_text.specs.declared.pass.PassStop.TheVariants.{Spoilt as PassSpoilt}
use Rattle.gier_back.specs.declared.stop.BackStop.{BackStop}
use Rattle.gier_back.specs.declared.stop.BackStop.TheVariants.{Drum, Spoilt}

abbrev nowhere : Odd
nowhere = record { place = 0; word = 0 }

abbrev pub stop_of : PassStop → BackStop
stop_of PassDrum = Drum
stop_of PassMemory = Spoilt nowhere
stop_of PassFull = Spoilt nowhere
stop_of (PassSpoilt odd) = Spoilt odd

-- a pass was stopped by the drum alone, if it was
abbrev pub OnlyDrum : {T : Type 0} → Result T PassStop → Type 0
OnlyDrum (Ok x) = Unit {0}
OnlyDrum (Err PassDrum) = Unit {0}
OnlyDrum (Err PassMemory) = ⊥
OnlyDrum (Err PassFull) = ⊥
OnlyDrum (Err (PassSpoilt odd)) = ⊥

-- a pass was stopped by the drum, or is spoilt in this way
abbrev pub DrumOr : {T : Type 0} → Result T PassStop → (Odd → Type 0) → Type 0
DrumOr (Ok x) P = Unit {0}
DrumOr (Err PassDrum) P = Unit {0}
DrumOr (Err PassMemory) P = ⊥
DrumOr (Err PassFull) P = ⊥
DrumOr (Err (PassSpoilt odd)) P = P odd

-- where the answer is Spoilt, this holds of what it names
abbrev pub SpoiltAs : {T : Type 0} → Result T BackStop → (Odd → Type 0) → Type 0
SpoiltAs (Ok x) P = Unit {0}
SpoiltAs (Err Drum) P = Unit {0}
SpoiltAs (Err (Spoilt odd)) P = P odd
