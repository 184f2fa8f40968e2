-- The accounts of a run: the six places that charge a step, and what takes room. `limit` is the number of permitted words.
use Rattle.std.specs.Prelude.{ℕ, zero, suc, ◌∷◌, Option, Some, None}
use Rattle.gier_word.specs.declared.alarm.Alarm.TheVariants.{Stack}
use Rattle.gier_meaning.specs.Entry.{Entry, NoStep, NoRoom, Enters, entry, live_after_taking}
use Rattle.gier_meaning.specs.Live.{Shape, Live, live_words, with_elements}
use Rattle.gier_meaning.specs.State.{State}
use Rattle.gier_meaning.specs.Outcome.{Outcome, Gives, Alarmed, NoStepLeft, stops}

abbrev pub with_left : {K : Type 0} → ℕ → State K → State K
with_left left s = record s { left = left }

abbrev pub with_most : {K : Type 0} → ℕ → State K → State K
with_most most s = record s { most = most }

abbrev pub charged_by : {K T : Type 0} → ℕ → (line : ℕ) → Live → State K → (State K → Outcome K T) → Outcome K T
charged_by zero line live s go = stops NoStepLeft line live s
charged_by (suc left) line live s go = go (with_left left s)

-- a step is charged: for a go to that goes, and at the end of a turn of a controlled statement
abbrev pub charge : {K T : Type 0} → (line : ℕ) → Live → State K → (State K → Outcome K T) → Outcome K T
charge line live s go = charged_by s.left line live s go

abbrev pub enters_by : {K T : Type 0} → Entry → Shape → (room line : ℕ) → Live → State K → (Live → State K → Outcome K T)
    → Outcome K T
enters_by NoStep shape room line live s go = stops NoStepLeft line live s
enters_by (NoRoom left) shape room line live s go = stops (Alarmed Stack) line live (with_left left s)
enters_by (Enters left most) shape room line live s go =
    go (record { shape = shape; words = room } ∷ live) (with_left left (with_most most s))

abbrev pub room_by : {K : Type 0} → Option ℕ → ℕ → (line : ℕ) → Live → State K → Outcome K Live
room_by None n line live s = stops (Alarmed Stack) line live s
room_by (Some most) n line live s = Gives (with_elements n live) (with_most most s)

module _ (limit : ℕ) where
  -- an activation is entered: a step is charged, the room is taken, and it goes on with the activation on the list
  abbrev pub enter : {K T : Type 0} → Shape → (room line : ℕ) → Live → State K → (Live → State K → Outcome K T) → Outcome K T
  enter shape room line live s go = enters_by (entry limit s.left s.most (live_words live) room) shape room line live s go

  -- an array takes room for its elements, which belongs to its block
  abbrev pub take_elements : {K : Type 0} → ℕ → (line : ℕ) → Live → State K → Outcome K Live
  take_elements n line live s = room_by (live_after_taking limit s.most (live_words live) n) n line live s
