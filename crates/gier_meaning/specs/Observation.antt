-- What is told of a run in the end.
use Rattle.std.specs.Prelude.{ℕ, ◌-◌, List, Option, Some, None}
use Rattle.gier_meaning.specs.Live.{Stop}
use Rattle.gier_meaning.specs.State.{State}
use Rattle.gier_meaning.specs.Outcome.{Why, Senseless, Outcome, Gives, Goes, Stops, Finished}

pub data Ending : Type 0 where
  Ended : Ending
  Stopped : Why → Ending

-- the printed bytes, the ending, the steps charged, the greatest number of live words, the data left; and where it stopped
pub record Observation : Type 0 where
  pub printed : List ℕ
  pub ending : Ending
  pub steps : ℕ
  pub words : ℕ
  pub unread : List ℕ
  pub stop : Option Stop

abbrev pub told_of : {K : Type 0} → (permitted : ℕ) → Ending → Option Stop → State K → Observation
told_of permitted ending stop s =
    record { printed = s.printed; ending = ending; steps = permitted - s.left; words = s.most; unread = s.unread; stop = stop }

-- of a program that was executed with so many permitted steps
abbrev pub observation : {K : Type 0} → (permitted : ℕ) → Outcome K Finished → Observation
observation permitted (Gives _ s) = told_of permitted Ended None s
observation permitted (Goes label s) = told_of permitted (Stopped Senseless) None s
observation permitted (Stops why stop s) = told_of permitted (Stopped why) (Some stop) s
