-- Which ending of a run an order brings.
use Rattle.std.specs.Prelude.{Option, Some, None}
use Rattle.gier_exec.specs.declared.turn.Turn.{Turn}
use Rattle.gier_exec.specs.declared.turn.Turn.TheVariants as turn
use Rattle.gier_runner.specs.declared.ending.Ending.{Ending}
use Rattle.gier_runner.specs.declared.ending.Ending.TheVariants as ending

-- none where the run goes on
abbrev pub ending_of : Turn → Option Ending
ending_of turn.On = None
ending_of turn.Ended = Some ending.Ended
ending_of (turn.Alarm alarm) = Some (ending.Alarm alarm)
ending_of turn.Steps = Some ending.Steps
ending_of turn.Read = Some ending.Read
ending_of turn.Write = Some ending.Write
ending_of turn.Drum = Some ending.Drum
ending_of (turn.Spoilt odd) = Some (ending.Spoilt odd)
