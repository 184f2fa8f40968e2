-- What the calls of a text add to the journal of its store: a write of each track that is written, and a read of each
-- that is read.
use Rattle.std.specs.Prelude.{◌≡◌, ◌==◌, ℕ, ◌+◌, ◌-◌, ◌/◌, Bool, true, false, if◌then◌else◌, List, [], ◌∷◌, ◌++◌, Option, None}
use Rattle.std.specs.Prelude.{Some}
use Rattle.gier_drum.specs.declared.drum.Entry.{Entry}
use Rattle.gier_drum.specs.declared.drum.Entry.TheVariants.{Read, Write}
use Rattle.gier_text.specs.declared.text.Way.{Way}
use Rattle.gier_text.specs.declared.text.Way.TheVariants.{Forward, Backward}
use Rattle.gier_text.specs.SymbolsOnTracks.{tabulated, tracks_for, buffered_only}
use Rattle.gier_text.specs.View.{View}

-- these entries are appended
abbrev pub LogsAll : Option (List Entry) → List Entry → Option (List Entry) → Type 0
LogsAll None entries new = new ≡ None
LogsAll (Some old) entries new = new ≡ Some (old ++ entries)

-- the journal grows by what the text's calls add
pub record Logged (old new : View) (before after : Option (List Entry)) : Type 0 where
  pub entries : List Entry
  pub log : new.log ≡ old.log ++ entries
  pub journal : LogsAll before entries after

-- the writes of so many tracks from the first on
abbrev pub writes_of : ℕ → ℕ → List Entry
writes_of first n = tabulated (λ t. Write (first + t)) n

-- the reads of a text of so many tracks, of which the track before this number was read last: forward from the first
-- track on, backward from the last one on
abbrev pub reads_of : Way → ℕ → ℕ → ℕ → List Entry
reads_of Forward first all loaded = tabulated (λ t. Read (first + t)) loaded
reads_of Backward first all loaded = tabulated (λ t. Read (first + (all - 1 - t))) (if loaded == 0 then 0 else all + 1 - loaded)

-- the entries of a text while it is written, where it is written here at all
abbrev pub writing_log : Bool → ℕ → ℕ → List Entry
writing_log fresh first n = if fresh then writes_of first n else []

-- all entries of a text so far
unfoldable pub log_of : Bool → Bool → ℕ → ℕ → Way → ℕ → List Entry
log_of fresh false first count way loaded = writing_log fresh first (count / 20)
log_of fresh true first count way loaded = writing_log fresh first (tracks_for count)
    ++ reads_of way first (tracks_for count) loaded

-- the entry of a read, where the track isn't there yet
abbrev pub new_read : ℕ → ℕ → ℕ → List Entry
new_read first t loaded = if t + 1 == loaded then [] else Read (first + t) ∷ []

-- the entry of the last track, where it has begun
abbrev pub last_write : Bool → ℕ → ℕ → List Entry
last_write fresh first count = if buffered_only fresh count == 0 then [] else Write (first + count / 20) ∷ []
