-- Which words of the object were read, in order, as the drum's journal, the places and the counts of references tell it,
-- and what a row says of it.
use Rattle.std.specs.Prelude.{◌≡◌, ◌/◌, ◌++◌, ⊤, ℕ, true, List, [], ◌∷◌, map, Option, None, Some, Result, Ok, Err}
use Rattle.gier_drum.specs.declared.drum.Entry.{Entry}
use Rattle.gier_word.specs.declared.refusal.Failed.{Failed}
use Rattle.gier_order.specs.Counts.{StandsFor as RecentFor}
use Rattle.gier_order.specs.Misses.{misses}
use Rattle.gier_order.specs.declared.object.Object.{Object}
use Rattle.gier_order.specs.Flat.Row.{Regs, Ended as HasEnded, Alarmed, NoSteps, Step, On, Ends, Odd as OddStep, Row, behind_ref}
use Rattle.gier_order.specs.Flat.Row.{odd}
use Rattle.gier_places.specs.Contents.{Agrees, LogsReads, StandsFor as PlacesFor}
use Rattle.gier_best.specs.TraceModel.{HasNoted}
use Rattle.gier_exec.specs.Reading.{Stand}
use Rattle.gier_exec.specs.Rows.{track_words, track_of, reading_row}
use Rattle.gier_exec.specs.declared.stop.Stop.{Stop}
use Rattle.gier_exec.specs.declared.stop.Stop.TheVariants.{Ended, Alarm, Steps, Odd}
use Rattle.gier_exec.specs.declared.stop.Miss.{Miss}
use Rattle.gier_exec.specs.declared.stop.Miss.TheVariants.{Drum, Stop as Stopped}

-- the tracks of these addresses on the drum, and within the object
abbrev pub tracks_of : Object → List ℕ → List ℕ
tracks_of object refs = map (λ a. track_of object a) refs

abbrev pub notes_of : List ℕ → List ℕ
notes_of refs = map (λ a. a / track_words) refs

-- The words at these addresses were referred to, in this order: the places still agree with the drum, both counts have
-- them, and the journal has a read for each that missed.
pub record Refers (object : Object) (refs : List ℕ) (old new : Stand) : Type 0 where
  pub agrees : Agrees old.tracks old.places.held → Agrees new.tracks new.places.held
  pub recent : (before : List ℕ) → RecentFor old.recent before → RecentFor new.recent (before ++ tracks_of object refs)
  pub noted : (before : List ℕ) → HasNoted old.trace before → HasNoted new.trace (before ++ notes_of refs)
  pub stands : (before : List ℕ) → PlacesFor old.places before → PlacesFor new.places (before ++ tracks_of object refs)
  pub reads : (before : List ℕ) (journal : Option (List Entry)) → PlacesFor old.places before
      → LogsReads journal (misses before old.places.places) old.journal
      → LogsReads journal (misses (before ++ tracks_of object refs) old.places.places) new.journal

-- the address was referred to where the word was read
abbrev pub read_at : ℕ → Result ℕ Failed → List ℕ
read_at a (Ok word) = a ∷ []
read_at a (Err failed) = []

abbrev pub fetched_at : ℕ → Result ℕ Miss → List ℕ
fetched_at a (Ok word) = a ∷ []
fetched_at a (Err miss) = []

-- a row that reads a word goes on with it, or is odd; of a failed drum nothing is said
abbrev pub RefinesFetch : Row → (ℕ → Row) → ℕ → Result ℕ Miss → Type 0
RefinesFetch row go a (Ok word) = row ≡ behind_ref a (go word)
RefinesFetch row go a (Err Drum) = ⊤
RefinesFetch row go a (Err (Stopped Ended)) = ⊥
RefinesFetch row go a (Err (Stopped (Alarm alarm))) = ⊥
RefinesFetch row go a (Err (Stopped Steps)) = ⊥
RefinesFetch row go a (Err (Stopped Odd)) = row ≡ odd

-- the row's step where an order stops
abbrev pub stop_step : Regs → Stop → Step
stop_step regs Ended = Ends HasEnded regs
stop_step regs (Alarm alarm) = Ends (Alarmed alarm) regs
stop_step regs Steps = Ends NoSteps regs
stop_step regs Odd = OddStep

-- some more is behind these references
abbrev pub Begins : List ℕ → Row → Type 0
Begins refs row = (rest : List ℕ) × (row.refs ≡ refs ++ rest)

-- The row reads these words, and comes to these registers, with the address of the next order, where it goes on. Where the
-- drum failed, the words that were read are the first of the row's.
abbrev pub RefinesOrder : Row → List ℕ → Regs → Result ℕ Miss → Type 0
RefinesOrder row refs regs (Ok next) = row ≡ reading_row refs (On (record regs { place = next }))
RefinesOrder row refs regs (Err (Stopped stop)) = row ≡ reading_row refs (stop_step regs stop)
RefinesOrder row refs regs (Err Drum) = Begins refs row
