-- The names of the alarms, and the alarm that an operation without a result gives.
use Rattle.std.specs.Prelude.{ℕ, List, codes}
use Rattle.gier_word.specs.declared.alarm.Alarm.{Alarm}
use Rattle.gier_word.specs.declared.alarm.Alarm.TheVariants.{Spill, Division, Power, Bounds, Subscript, Assignment, Character}
use Rattle.gier_word.specs.declared.alarm.Alarm.TheVariants.{Data, Stack, Parameters}
use Rattle.gier_word.specs.declared.int40.Spoil.{Spoil}
use Rattle.gier_word.specs.declared.int40.Spoil.TheVariants.{Spill as SpillSpoil, Division as DivisionSpoil, Power as PowerSpoil}

abbrev pub name_of : Alarm → List ℕ
name_of Spill = codes "spill"
name_of Division = codes "division"
name_of Power = codes "power"
name_of Bounds = codes "bounds"
name_of Subscript = codes "subscript"
name_of Assignment = codes "assignment"
name_of Character = codes "character"
name_of Data = codes "data"
name_of Stack = codes "stack"
name_of Parameters = codes "parameters"

abbrev pub alarm_of : Spoil → Alarm
alarm_of SpillSpoil = Spill
alarm_of DivisionSpoil = Division
alarm_of PowerSpoil = Power
