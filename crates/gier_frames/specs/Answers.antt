-- How a call's answer follows from what refuses it.
use Rattle.std.specs.Prelude.{◌≡◌, Option, None, Some, Result, Ok, Err}
use Rattle.gier_frames.specs.declared.halt.Halt.{Halt}

-- a call is refused just as it must be
abbrev pub Answers : {T : Type 0} → Option Halt → Result T Halt → Type 0
Answers refusal (Ok value) = refusal ≡ None
Answers refusal (Err halt) = refusal ≡ Some halt
