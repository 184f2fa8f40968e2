-- What the stops of passes and texts become.
use Rattle.std.specs.Prelude.{Result, Ok, Err}
use Rattle.gier_word.specs.declared.refusal.Odd.{Odd}
use Rattle.gier_text.specs.declared.pass.PassStop.{PassStop}
use Rattle.gier_text.specs.declared.pass.PassStop.TheVariants.{Drum as PassDrum, Memory as PassMemory, Full as PassFull}
use Rattle.gier_text.specs.declared.pass.PassStop.TheVariants.{Spoilt as PassSpoilt}
use Rattle.gier_text.specs.declared.text.TextStop.{TextStop}
use Rattle.gier_text.specs.declared.text.TextStop.TheVariants.{Failed, Memory as TextMemory, Full as TextFull, Spoilt as TextSpoilt}
use Rattle.gier_front.specs.declared.stop.FrontStop.{FrontStop}
use Rattle.gier_front.specs.declared.stop.FrontStop.TheVariants.{Errors, Read, Drum, Spoilt}

abbrev nowhere : Odd
nowhere = record { place = 0; word = 0 }

abbrev pub stop_of : PassStop → FrontStop
stop_of PassDrum = Drum
stop_of PassMemory = Spoilt nowhere
stop_of PassFull = Spoilt nowhere
stop_of (PassSpoilt odd) = Spoilt odd

abbrev pub text_stop_of : TextStop → FrontStop
text_stop_of Failed = Drum
text_stop_of TextMemory = Spoilt nowhere
text_stop_of TextFull = Spoilt nowhere
text_stop_of (TextSpoilt odd) = Spoilt odd

-- the answer isn't Spoilt
abbrev pub NotSpoilt : {T : Type 0} → Result T FrontStop → Type 0
NotSpoilt (Ok x) = Unit {0}
NotSpoilt (Err Errors) = Unit {0}
NotSpoilt (Err Read) = Unit {0}
NotSpoilt (Err Drum) = Unit {0}
NotSpoilt (Err (Spoilt odd)) = ⊥
