-- One order that may print and take data, as the row of the flat run says it: the words read, the bytes printed and the
-- data taken are the row's, and so are the registers, or how the run ends. Where a device failed, they are the first of the
-- row's. Nothing is asked of the data behind those that were taken, but that nothing is there where they have ended.
use Rattle.std.specs.Prelude.{◌≡◌, ◌≤◌, ◌-◌, ◌++◌, ⊤, ℕ, Bool, true, false, List, [], length, Result, Ok, Err}
use Rattle.gier_order.specs.Flat.Row.{Regs, Ended as HasEnded, Alarmed, NoSteps, Step, On, Ends, Odd as OddStep, Row}
use Rattle.gier_exec.specs.References.{stop_step}
use Rattle.gier_exec.specs.declared.stop.Stop.TheVariants.{Ended, Alarm, Steps, Odd}
use Rattle.gier_exec.specs.declared.stop.Miss.TheVariants.{Drum, Stop as Stopped}
use Rattle.gier_exec.specs.declared.stop.Quit.{Quit}
use Rattle.gier_exec.specs.declared.stop.Quit.TheVariants.{Miss as Missed, Read, Write}
use Rattle.gier_exec.specs.declared.turn.Turn.{Turn}
use Rattle.gier_exec.specs.declared.turn.Turn.TheVariants.{On as TurnOn, Ended as TurnEnded, Alarm as TurnAlarm}
use Rattle.gier_exec.specs.declared.turn.Turn.TheVariants.{Steps as TurnSteps, Read as TurnRead, Write as TurnWrite}
use Rattle.gier_exec.specs.declared.turn.Turn.TheVariants.{Drum as TurnDrum, Spoilt as TurnSpoilt}

-- a row that read these words and printed these bytes
abbrev pub printing_row : List ℕ → List ℕ → Step → Row
printing_row refs printed step = record { refs = refs; printed = printed; step = step }

-- what can stand behind the data that were taken
abbrev pub IsRest : Bool → List ℕ → Type 0
IsRest true rest = rest ≡ []
IsRest false rest = ⊤

-- the data that a step leaves of those before it
abbrev pub left_by : Regs → Step → List ℕ
left_by before (On after) = after.input
left_by before (Ends ending after) = after.input
left_by before OddStep = before.input

abbrev pub StartsWith : List ℕ → List ℕ → Type 0
StartsWith first all = (rest : List ℕ) × (all ≡ first ++ rest)

-- what was read, printed and taken is the first of what the row reads, prints and takes
pub record IsCut (row : Row) (before : Regs) (read put taken : List ℕ) : Type 0 where
  pub refs : StartsWith read row.refs
  pub printed : StartsWith put row.printed
  pub input : length taken ≤ length before.input - length (left_by before row.step)

-- what carrying out an order answers
abbrev pub RefinesExecution : Row → (before after : Regs) → (read put taken : List ℕ) → Result ℕ Quit → Type 0
RefinesExecution row before after read put taken (Ok next) = row ≡ printing_row read put (On (record after { place = next }))
RefinesExecution row before after read put taken (Err (Missed (Stopped stop))) = row ≡ printing_row read put (stop_step after stop)
RefinesExecution row before after read put taken (Err (Missed Drum)) = IsCut row before read put taken
RefinesExecution row before after read put taken (Err Read) = IsCut row before read put taken
RefinesExecution row before after read put taken (Err Write) = IsCut row before read put taken

-- what `step_order` answers; an order that is odd is told with its place and its word
abbrev pub RefinesTurn : Row → (before after : Regs) → (read put taken : List ℕ) → (place word : ℕ) → Turn → Type 0
RefinesTurn row before after read put taken place word TurnOn = row ≡ printing_row read put (On after)
RefinesTurn row before after read put taken place word TurnEnded = row ≡ printing_row read put (Ends HasEnded after)
RefinesTurn row before after read put taken place word (TurnAlarm alarm) = row ≡ printing_row read put (Ends (Alarmed alarm) after)
RefinesTurn row before after read put taken place word TurnSteps = row ≡ printing_row read put (Ends NoSteps after)
RefinesTurn row before after read put taken place word (TurnSpoilt odd) = (row ≡ printing_row read put OddStep)
    × (odd ≡ record { place = place; word = word })
RefinesTurn row before after read put taken place word TurnDrum = IsCut row before read put taken
RefinesTurn row before after read put taken place word TurnRead = IsCut row before read put taken
RefinesTurn row before after read put taken place word TurnWrite = IsCut row before read put taken

-- what comes of an order at a place, with its word, that doesn't let the run go on
abbrev pub turn_of_stop : Quit → (place word : ℕ) → Turn
turn_of_stop (Missed Drum) place word = TurnDrum
turn_of_stop (Missed (Stopped Ended)) place word = TurnEnded
turn_of_stop (Missed (Stopped (Alarm alarm))) place word = TurnAlarm alarm
turn_of_stop (Missed (Stopped Steps)) place word = TurnSteps
turn_of_stop (Missed (Stopped Odd)) place word = TurnSpoilt (record { place = place; word = word })
turn_of_stop Read place word = TurnRead
turn_of_stop Write place word = TurnWrite
