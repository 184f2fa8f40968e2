-- What a pass of the back finds and what it leaves.
use Rattle.std.specs.Prelude.{◌≡◌, ◌≤◌, ℕ, List, Option, Some, Result, OnOk, IsErrOf}
use Rattle.gier_word.specs.Cause.{HasRisen}
use Rattle.gier_drum.specs.View.{DrumView, PreservesDrum}
use Rattle.gier_symbol.specs.declared.symbol.Symbol.{Symbol}
use Rattle.gier_text.specs.declared.pass.PassStop.{PassStop}
use Rattle.gier_text.specs.declared.pass.PassStop.TheVariants.{Drum}
use Rattle.gier_text.specs.declared.text.Way.{Way}
use Rattle.gier_text.specs.Turned.{GoesOn}
use Rattle.gier_text.specs.View.{View, IsPlacedAs, Rewinds, KeepsTracks}

-- the text holds a list of which this holds
pub record Writes (P : List Symbol → Type 0) (new : View) : Type 0 where
  pub written : List Symbol
  pub held : new.held ≡ Some written
  pub relates : P written

-- a text was turned, and as it was then it is still there
pub record Stays {T S : Type 0} (view : T → S → View) (first end : T → ℕ) (old : T) (store_old : S) (direction : Way)
    (store : S) : Type 0 where
  pub turned : T
  pub place : IsPlacedAs first end old turned
  pub rewinds : Rewinds (view old store_old) direction (view turned store)

-- the text may hold so many symbols
abbrev pub HasRoom : View → ℕ → Type 0
HasRoom text most = (capacity : ℕ) × (text.capacity ≡ Some capacity) × (most ≤ capacity)

-- The output may be written on, no track changed but those of the two texts, and the answer names the drum only where that failed.
pub record Passes {T S R : Type 0} (view : T → S → View) (first end : T → ℕ) (drum : S → DrumView) (input output : T) (store : S)
    (new_output : T) (new_store : S) (result : Result R PassStop) : Type 0 where
  pub goes_on : OnOk result (GoesOn (view output store) (view new_output new_store))
  pub place : IsPlacedAs first end output new_output
  pub changes : (to : ℕ) → end input ≤ to → end output ≤ to → PreservesDrum (KeepsTracks 0 to) (drum store) (drum new_store)
  pub failed : IsErrOf result Drum → HasRisen (drum store).faults (drum new_store).faults
