-- What is printed behind what a program printed, by what is told of its run: how it ended, the report, the table of misses, the
-- cheapest plan, and where it stopped.
use Rattle.std.specs.Prelude.{◌++◌, ◌-◌, ℕ, zero, suc, Bool, true, false, nat_lt, List, [], ◌∷◌, take, length, codes, decimal}
use Rattle.std.specs.Prelude.{Option, None, Some}
use Rattle.gier_word.specs.Alarm.{name_of}
use Rattle.gier_order.specs.Misses.{misses}
use Rattle.gier_best.specs.Plan.{farthest}
use Rattle.gier_best.specs.Changes.{changes_of}
use Rattle.gier_meaning.specs.Live.{Shape, InProgram, InBlock, InProcedure, InEvaluation, Activation, Live, Stop}
use Rattle.gier_meaning.specs.Outcome.{Alarmed, NoStepLeft, Senseless}
use Rattle.gier_meaning.specs.Observation.{Observation, Ending, Ended, Stopped}
use Rattle.gier_job.specs.Tails.{alarm_tail, steps_tail, report_tail, table_tail, best_tail, too_long_tail}
use Rattle.gier_job.specs.declared.command.Command.{Command}
use Rattle.gier_job.specs.declared.status.Status.{Status}
use Rattle.gier_job.specs.declared.status.Status.TheVariants.{Done, Errors, Alarm, Steps}

-- only a tree with errors comes to a place where no rule says anything
abbrev pub status_after : Ending → Status
status_after Ended = Done
status_after (Stopped (Alarmed alarm)) = Alarm
status_after (Stopped NoStepLeft) = Steps
status_after (Stopped Senseless) = Errors

abbrev pub ending_tail : Ending → List ℕ
ending_tail Ended = []
ending_tail (Stopped (Alarmed alarm)) = alarm_tail (name_of alarm)
ending_tail (Stopped NoStepLeft) = steps_tail
ending_tail (Stopped Senseless) = []

abbrev pub if_asked : Bool → (tail : List ℕ) → List ℕ
if_asked true tail = tail
if_asked false tail = []

-- how many reads these references miss with so many places
abbrev pub transfers : (tracks : List ℕ) → (places : ℕ) → ℕ
transfers tracks places = length (misses tracks places)

-- the misses for so many numbers of places, from one on
abbrev pub table_from : (tracks : List ℕ) → (count places : ℕ) → List ℕ
table_from tracks zero places = []
table_from tracks (suc more) places = transfers tracks places ∷ table_from tracks more (suc places)

abbrev pub most_places : ℕ
most_places = 64

-- a plan is made for at most so many changes of track
abbrev pub most_changes : ℕ
most_changes = 1000000

abbrev pub plan_tail : (too_long : Bool) → List (ℕ × ℕ) → List ℕ
plan_tail true moves = too_long_tail
plan_tail false moves = best_tail (length moves) moves

abbrev pub cheapest_tail : (tracks : List ℕ) → (places : ℕ) → List ℕ
cheapest_tail tracks places = plan_tail (nat_lt most_changes (length (changes_of tracks))) (farthest tracks places)

abbrev pub counts : Command → Observation → (tracks : List ℕ) → List ℕ
counts c run tracks =
    if_asked c.report (report_tail run.steps (transfers tracks c.settings.places) run.words)
    ++ if_asked c.table (table_tail (table_from tracks most_places 1))
    ++ if_asked c.best (cheapest_tail tracks c.settings.places)

abbrev pub shape_text : Shape → List ℕ
shape_text InProgram = codes "program"
shape_text InBlock = codes "block"
shape_text (InProcedure line) = codes "procedure line " ++ decimal line
shape_text (InEvaluation line) = codes "evaluation line " ++ decimal line

abbrev pub activation_tail : Activation → List ℕ
activation_tail a = codes "\n*** " ++ shape_text a.shape ++ codes " words " ++ decimal a.words ++ codes "\n"

abbrev pub activation_tails : Live → List ℕ
activation_tails [] = []
activation_tails (a ∷ outer) = activation_tail a ++ activation_tails outer

-- at most so many activations are told; of more only the number is
abbrev pub most_told : ℕ
most_told = 64

abbrev pub more_tail : (untold : ℕ) → List ℕ
more_tail zero = []
more_tail (suc n) = codes "\n*** and " ++ decimal (suc n) ++ codes " more\n"

abbrev pub stop_tails : Stop → List ℕ
stop_tails stop =
    codes "\n*** mortem line " ++ decimal stop.line ++ codes "\n" ++ activation_tails (take most_told stop.live)
    ++ more_tail (length stop.live - most_told)

abbrev pub mortem_for : (asked : Bool) → Option Stop → List ℕ
mortem_for asked None = []
mortem_for asked (Some stop) = if_asked asked (stop_tails stop)
