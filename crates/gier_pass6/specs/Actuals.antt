-- Which actual fits which formal.
use Rattle.std.specs.Prelude.{◌||◌, ℕ, Bool, true, false, not, nat_le, if◌then◌else◌}
use Rattle.gier_pass6.specs.declared.actuals.Fit.{Fit}
use Rattle.gier_pass6.specs.declared.actuals.Fit.TheVariants.{Anything, Free, Formal}
use Rattle.gier_pass6.specs.declared.actuals.Passed.{Passed}
use Rattle.gier_pass6.specs.declared.actuals.Passed.TheVariants.{Fits, Calls, Differs}
use Rattle.gier_pass6.specs.declared.kind.Kind.{Kind}
use Rattle.gier_pass6.specs.declared.kind.Kind.TheVariants.{IntegerArray, BooleanArray, Switch, Procedure, IntegerProcedure}
use Rattle.gier_pass6.specs.declared.kind.Kind.TheVariants.{BooleanProcedure, IntegerArrayFormal, BooleanArrayFormal}
use Rattle.gier_pass6.specs.declared.kind.Kind.TheVariants.{LabelFormal, SwitchFormal, StringFormal, ProcedureFormal}
use Rattle.gier_pass6.specs.declared.kind.Kind.TheVariants.{IntegerProcedureFormal, BooleanProcedureFormal, OutInteger, OutText}
use Rattle.gier_pass6.specs.declared.kind.Kind.TheVariants.{OutCr, OutChar, InInteger, InChar, Abs, Sign}
use Rattle.gier_pass6.specs.declared.types.ValueType.{ValueType}
use Rattle.gier_pass6.specs.declared.types.ValueType.TheVariants.{Unknown, Label, Text}
use Rattle.gier_pass6.specs.declared.uses.Meaning.{Meaning}
use Rattle.gier_pass6.specs.Kinds.{number_of}
use Rattle.gier_pass6.specs.Types.{fits, agree}
use Rattle.gier_pass6.specs.Uses.{value_type, is_procedure, meaning_alone}

-- the number of what an actual is compared with, as entries of the stack keep it
abbrev pub fit_number : Fit → ℕ
fit_number Anything = 0
fit_number Free = 64
fit_number (Formal formal) = number_of formal

-- the type of the expressions that fit a formal; it is unknown where none does
abbrev pub wanted_type : Kind → ValueType
wanted_type LabelFormal = Label
wanted_type formal = value_type formal

-- an actual that isn't an identifier alone
abbrev pub value_fits : Fit → ValueType → Bool
value_fits Anything value = true
value_fits Free value = true
value_fits (Formal StringFormal) value = fits value Text
value_fits (Formal formal) value = fits value (wanted_type formal)

abbrev pub fits_if : Bool → Passed
fits_if good = if good then Fits else Differs

-- an identifier alone as an actual of a formal procedure
abbrev pub name_fits_free : Kind → ℕ → Passed
name_fits_free OutInteger count = Differs
name_fits_free OutText count = Differs
name_fits_free OutCr count = Differs
name_fits_free OutChar count = Differs
name_fits_free Abs count = Differs
name_fits_free Sign count = Differs
name_fits_free InInteger count = Calls
name_fits_free InChar count = Calls
name_fits_free kind count = fits_if (not (is_procedure kind) || nat_le count 80)

-- arrays, switches, strings and procedures
abbrev pub is_same_thing : Kind → Kind → ℕ → Bool
is_same_thing IntegerArrayFormal IntegerArray count = true
is_same_thing IntegerArrayFormal IntegerArrayFormal count = true
is_same_thing BooleanArrayFormal BooleanArray count = true
is_same_thing BooleanArrayFormal BooleanArrayFormal count = true
is_same_thing SwitchFormal Switch count = true
is_same_thing SwitchFormal SwitchFormal count = true
is_same_thing StringFormal StringFormal count = true
is_same_thing ProcedureFormal ProcedureFormal count = true
is_same_thing IntegerProcedureFormal IntegerProcedureFormal count = true
is_same_thing BooleanProcedureFormal BooleanProcedureFormal count = true
is_same_thing ProcedureFormal Procedure count = nat_le count 80
is_same_thing IntegerProcedureFormal IntegerProcedure count = nat_le count 80
is_same_thing BooleanProcedureFormal BooleanProcedure count = nat_le count 80
is_same_thing formal kind count = false

-- an identifier as an expression of this type
abbrev pub meaning_fits : Meaning → ValueType → Passed
meaning_fits is wanted = if agree is.value wanted then (if is.call then Calls else Fits) else Differs

abbrev pub formal_fits : ValueType → Kind → Kind → ℕ → Passed
formal_fits Unknown formal kind count = fits_if (is_same_thing formal kind count)
formal_fits wanted formal kind count = meaning_fits (meaning_alone kind count) wanted

abbrev pub name_fits_formal : Kind → Kind → ℕ → Passed
name_fits_formal formal kind count = formal_fits (wanted_type formal) formal kind count

-- an identifier alone as an actual
abbrev pub name_fits : Fit → Kind → ℕ → Passed
name_fits Anything kind count = Fits
name_fits Free kind count = name_fits_free kind count
name_fits (Formal formal) kind count = name_fits_formal formal kind count
