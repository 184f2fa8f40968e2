-- What is printed behind what a program printed, by what the machine that ran it tells of its run.
use Rattle.std.specs.Prelude.{◌++◌, ℕ, Bool, false, nat_lt, List, [], length}
use Rattle.gier_word.specs.Alarm.{name_of}
use Rattle.gier_best.specs.Plan.{farthest}
use Rattle.gier_best.specs.Changes.{changes_of}
use Rattle.gier_runner.specs.declared.ending.Ending.{Ending}
use Rattle.gier_runner.specs.declared.ending.Ending.TheVariants as ending
use Rattle.gier_runner.specs.declared.settings.Report.{Report}
use Rattle.gier_job.specs.Tails.{alarm_tail, steps_tail, report_tail, table_tail}
use Rattle.gier_job.specs.RunTails.{if_asked, table_from, most_places, plan_tail}
use Rattle.gier_job.specs.declared.command.Command.{Command}

-- a post-mortem follows where it is asked for and something stopped the run
abbrev pub has_mortem : (asked : Bool) → Ending → Bool
has_mortem asked ending.Ended = false
has_mortem asked (ending.Alarm alarm) = asked
has_mortem asked ending.Steps = asked
has_mortem asked ending.Read = false
has_mortem asked ending.Write = false
has_mortem asked ending.Drum = false
has_mortem asked (ending.Spoilt odd) = false

-- there is none where a device failed, or the drum was spoilt
abbrev pub end_tail : Ending → List ℕ
end_tail ending.Ended = []
end_tail (ending.Alarm alarm) = alarm_tail (name_of alarm)
end_tail ending.Steps = steps_tail
end_tail ending.Read = []
end_tail ending.Write = []
end_tail ending.Drum = []
end_tail (ending.Spoilt odd) = []

abbrev pub taken_tail : (asked : Bool) → Report → List ℕ
taken_tail asked report = if_asked asked (report_tail report.steps report.transfers report.words)

-- by the tracks referred to
abbrev pub misses_tail : (asked : Bool) → (tracks : List ℕ) → List ℕ
misses_tail asked tracks = if_asked asked (table_tail (table_from tracks most_places 1))

-- by the tracks within the object; a plan is made for at most so many changes of track
abbrev pub best_plan_tail : (asked : Bool) → (most : ℕ) → (tracks : List ℕ) → (places : ℕ) → List ℕ
best_plan_tail asked most tracks places = if_asked asked (plan_tail (nat_lt most (length (changes_of tracks)))
    (farthest tracks places))

abbrev pub cost_tails : Command → (most : ℕ) → (tracks notes : List ℕ) → List ℕ
cost_tails c most tracks notes = misses_tail c.table tracks ++ best_plan_tail c.best most notes c.settings.places

-- all that is asked for of a run that no device stopped
abbrev pub count_tails : Command → Report → (most : ℕ) → (tracks notes : List ℕ) → List ℕ
count_tails c report most tracks notes = taken_tail c.report report ++ cost_tails c most tracks notes

-- what stands behind a run that ended so
abbrev pub run_tails : Ending → Command → Report → (most : ℕ) → (tracks notes : List ℕ) → List ℕ
run_tails ending.Ended c report most tracks notes = count_tails c report most tracks notes
run_tails (ending.Alarm alarm) c report most tracks notes = end_tail (ending.Alarm alarm) ++ count_tails c report most tracks notes
run_tails ending.Steps c report most tracks notes = end_tail ending.Steps ++ count_tails c report most tracks notes
run_tails ending.Read c report most tracks notes = []
run_tails ending.Write c report most tracks notes = []
run_tails ending.Drum c report most tracks notes = []
run_tails (ending.Spoilt odd) c report most tracks notes = []
