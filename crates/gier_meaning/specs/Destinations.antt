-- What a designational expression gives, and what a go to makes of it (Report 3.5 and 4.3).
use Rattle.std.specs.Prelude.{ℕ}
use Rattle.gier_meaning.specs.Live.{Live}
use Rattle.gier_meaning.specs.State.{State}
use Rattle.gier_meaning.specs.Outcome.{Outcome, Gives, Goes, Finished, Done}
use Rattle.gier_meaning.specs.Accounts.{charge}

-- a label, or that it is undefined (Report 3.5.5)
pub data Destination : Type 0 where
  To : (label : ℕ) → Destination
  Undefined : Destination

-- a go to that goes charges a step; one whose expression is undefined is a dummy statement (Report 4.3.5)
abbrev pub goes_to : {K : Type 0} → Destination → (line : ℕ) → Live → State K → Outcome K Finished
goes_to (To label) line live s = charge line live s (λ s1. Goes label s1)
goes_to Undefined line live s = Gives Done s
