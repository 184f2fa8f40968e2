-- What executing or evaluating a part comes to: it gives something, a go to leaves it, or the run stops in it. The parts of a
-- construct are taken from left to right, and the first that gives nothing ends the construct.
use Rattle.std.specs.Prelude.{◌==◌, ◌||◌, ℕ, Bool, true, false, List, [], ◌∷◌}
use Rattle.gier_word.specs.declared.alarm.Alarm.{Alarm}
use Rattle.gier_meaning.specs.Live.{Live, Stop}
use Rattle.gier_meaning.specs.State.{State}

-- why a run stops: an alarm, or a step beyond those permitted. A tree that has faults of scopes or of types may also come to
-- a place where no rule says anything; no other tree does.
pub data Why : Type 0 where
  Alarmed : Alarm → Why
  NoStepLeft Senseless : Why

pub data Outcome (K T : Type 0) : Type 0 where
  Gives : T → State K → Outcome K T
  Goes : (label : ℕ) → State K → Outcome K T
  Stops : Why → Stop → State K → Outcome K T

-- a statement that is executed to its end
pub data Finished : Type 0 where
  Done : Finished

abbrev pub then_do : {K A B : Type 0} → Outcome K A → (A → State K → Outcome K B) → Outcome K B
then_do (Gives a s) go = go a s
then_do (Goes label s) go = Goes label s
then_do (Stops why stop s) go = Stops why stop s

-- it stops here
abbrev pub stops : {K T : Type 0} → Why → (line : ℕ) → Live → State K → Outcome K T
stops why line live s = Stops why (record { live = live; line = line }) s

-- nothing says what this is
abbrev pub senseless : {K T : Type 0} → (line : ℕ) → Live → State K → Outcome K T
senseless = stops Senseless

-- one of two ways
abbrev pub either : {K T : Type 0} → Bool → State K → (State K → Outcome K T) → (State K → Outcome K T) → Outcome K T
either true s yes_way no_way = yes_way s
either false s yes_way no_way = no_way s

abbrev pub is_among : ℕ → List ℕ → Bool
is_among n [] = false
is_among n (m ∷ ms) = (n == m) || is_among n ms

-- a go to one of these labels goes on here (Report 4.3.3); any other leaves
abbrev pub caught : {K T : Type 0} → List ℕ → (ℕ → State K → Outcome K T) → Outcome K T → Outcome K T
caught own goes_on (Gives a s) = Gives a s
caught own goes_on (Goes label s) = either (is_among label own) s (λ s1. goes_on label s1) (λ s1. Goes label s1)
caught own goes_on (Stops why stop s) = Stops why stop s
