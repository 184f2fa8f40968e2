-- What the first pass does to its output, its store and the tables.
use Rattle.std.specs.Prelude.{◌≡◌, ◌≤◌, ◌+◌, ℕ, List, [], ◌∷◌, length, All, IsTrue, Option, Result, Ok, Err}
use Rattle.gier_drum.specs.declared.drum.Entry.{Entry}
use Rattle.gier_symbol.specs.declared.symbol.Symbol.{Symbol}
use Rattle.gier_symbol.specs.Texts.{stands_in}
use Rattle.gier_text.specs.TablesModel.{TablesModel}
use Rattle.gier_text.specs.Log.{Logged}
use Rattle.gier_text.specs.Passes.{SpoiltIf}
use Rattle.gier_text.specs.View.{View, WritesAll, IsPlacedAs, KeepsTracks, KeepsOthers}
use Rattle.gier_pass1.specs.declared.state.Token.{Token}
use Rattle.gier_pass1.specs.declared.state.Token.TheVariants.{Nothing, Written, LexError}
use Rattle.gier_pass1.specs.declared.read.ReadStop.{ReadStop}
use Rattle.gier_pass1.specs.declared.read.ReadStop.TheVariants.{TooLong, Read, Pass}

-- nothing is done to the store and the output but by writes to the output
pub record Frame {T S : Type 0} (view : T → S → View) (first end : T → ℕ) (room : S → ℕ) (tracks : S → Option (List (List ℕ)))
    (faults : S → ℕ) (out : T) (store : S) (new_out : T) (new_store : S) : Type 0 where
  pub place : IsPlacedAs first end out new_out
  pub same_room : room new_store ≡ room store
  pub same_tracks : KeepsTracks (first out) (end out) (tracks store) (tracks new_store)
  pub kept : KeepsOthers view first end out store new_store
  pub later : faults store ≤ faults new_store

-- the symbol that was found, where there is one
abbrev pub letters_in : Token → List Symbol
letters_in Nothing = []
letters_in (Written s) = s ∷ []
letters_in (LexError fault) = []

-- these symbols, which are of text 1, are appended, and the journal grows by what their writes add
pub record Puts (symbols : List Symbol) (old new : View) (before after : Option (List Entry)) : Type 0 where
  pub written : WritesAll old symbols new
  pub letters : All (λ s. IsTrue (stands_in 1 s.tag)) symbols
  pub logged : Logged old new before after

-- so many faults are added, and nothing else of the tables changes
pub record AddsFaults (old new : TablesModel) (most : ℕ) : Type 0 where
  pub same_limit : new.limit ≡ old.limit
  pub same_used : new.used ≡ old.used
  pub same_lists : new.lists ≡ old.lists
  pub added : length new.faults ≤ length old.faults + most

-- the answer isn't Spoilt
abbrev pub NeverSpoilt : Result ℕ ReadStop → Type 0
NeverSpoilt (Ok n) = Unit {0}
NeverSpoilt (Err TooLong) = Unit {0}
NeverSpoilt (Err Read) = Unit {0}
NeverSpoilt (Err (Pass stop)) = SpoiltIf {T = ℕ} (Err stop) ⊥
