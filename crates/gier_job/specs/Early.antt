-- Errors that stand before scopes and types are looked at: those of bytes, words, strings, numbers and structure, and that a text
-- is too long. Where the devices tell what they hold, just these are printed.
use Rattle.std.specs.Prelude.{◌≡◌, ℕ, Bool, true, false, List, [], ◌∷◌, Option}
use Rattle.gier_io.specs.Device.{Puts}
use Rattle.gier_kinds.specs.Errors.{Fault, OfSymbols, OfStructure, OfScopes, OfTypes, Errors as AllErrors, TooLong, Listed}
use Rattle.gier_kinds.specs.ErrorTexts.{error_lines}
use Rattle.gier_job.specs.declared.status.Status.{Status}
use Rattle.gier_job.specs.declared.status.Status.TheVariants.{Done, Errors, Alarm, Steps}

abbrev pub is_early : Fault → Bool
is_early (OfSymbols kind) = true
is_early OfStructure = true
is_early (OfScopes kind) = false
is_early (OfTypes kind) = false

-- all errors of a text are of one list, so the first of them tells
abbrev pub are_early : AllErrors → Bool
are_early TooLong = true
are_early (Listed []) = false
are_early (Listed (fault ∷ faults)) = is_early fault.kind

-- Early errors are printed with their lines and nothing else, and a program that ends well or is run has none.
abbrev pub AnswersEarly : Status → AllErrors → (old new : Option (List ℕ)) → Type 0
AnswersEarly Errors found old new = are_early found ≡ true → Puts old (error_lines found) new
AnswersEarly Done found old new = are_early found ≡ false
AnswersEarly Alarm found old new = are_early found ≡ false
AnswersEarly Steps found old new = are_early found ≡ false
AnswersEarly _ found old new = Unit {0}
