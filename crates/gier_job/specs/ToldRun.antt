-- What is told of a run by the report of a flat run, with the lines of the words of its object: printed bytes, ending, steps,
-- words, data left, and where it stopped, as the meaning tells them.
use Rattle.std.specs.Prelude.{ℕ, List, map, Option, None, Some}
use Rattle.gier_symbol.specs.declared.symbol.Symbol.{Symbol}
use Rattle.gier_order.specs.Flat.Live as flat
use Rattle.gier_order.specs.Flat.Row as row
use Rattle.gier_order.specs.Flat.Run.{Report}
use Rattle.gier_tree.specs.WordLines.{line_at}
use Rattle.gier_meaning.specs.Live.{Shape, InProgram, InBlock, InProcedure, InEvaluation, Activation, Stop}
use Rattle.gier_meaning.specs.Outcome.{Alarmed, NoStepLeft, Senseless}
use Rattle.gier_meaning.specs.Observation.{Observation, Ending, Ended, Stopped}

-- an order that is none has no sense
abbrev pub ending_told : row.Ending → Ending
ending_told row.Ended = Ended
ending_told (row.Alarmed alarm) = Stopped (Alarmed alarm)
ending_told row.NoSteps = Stopped NoStepLeft
ending_told (row.Spoilt place word) = Stopped Senseless

-- a procedure and an evaluation are told with the line by which they were entered
abbrev pub shape_told : flat.Shape → (line : ℕ) → Shape
shape_told flat.Program line = InProgram
shape_told flat.Block line = InBlock
shape_told flat.Procedure line = InProcedure line
shape_told flat.Evaluation line = InEvaluation line

abbrev pub activation_told : (text : List Symbol) → flat.Live → Activation
activation_told text live = record { shape = shape_told live.shape (line_at text live.entered_by); words = live.words }

abbrev pub stop_told : (text : List Symbol) → (place : ℕ) → List flat.Live → Stop
stop_told text place lives = record { live = map (activation_told text) lives; line = line_at text place }

-- a run that came to its end stopped nowhere
abbrev pub stop_after : row.Ending → Stop → Option Stop
stop_after row.Ended stop = None
stop_after (row.Alarmed alarm) stop = Some stop
stop_after row.NoSteps stop = Some stop
stop_after (row.Spoilt place word) stop = Some stop

-- by the text 7 of the object that was run
abbrev pub told_by : (text : List Symbol) → Report → Observation
told_by text report = record {
  printed = report.printed;
  ending = ending_told report.ending;
  steps = report.steps;
  words = report.words;
  unread = report.left;
  stop = stop_after report.ending (stop_told text report.place report.live);
}
