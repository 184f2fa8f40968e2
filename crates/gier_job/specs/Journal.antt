-- The drum's journal of a call: what compiling a program writes and reads, what its run reads, and what a search for lines reads.
use Rattle.std.specs.Prelude.{◌≡◌, ◌+◌, ◌/◌, ◌==◌, ◌||◌, ◌⊎◌, ◌++◌, ℕ, zero, suc, Bool, true, false, if◌then◌else◌, List, [], ◌∷◌}
use Rattle.std.specs.Prelude.{length, map, take, reverse, Option, None, Some}
use Rattle.gier_drum.specs.declared.drum.Entry.{Entry}
use Rattle.gier_drum.specs.declared.drum.Entry.TheVariants.{Read, Write}
use Rattle.gier_limits.specs.Areas.{first_of, object_first}
use Rattle.gier_symbol.specs.Assembly.{assembly}
use Rattle.gier_symbol.specs.Reading.{symbols_of}
use Rattle.gier_order.specs.Flat.Live.{Live}
use Rattle.gier_order.specs.Flat.Row.{Ending, Ended}
use Rattle.gier_order.specs.Flat.Run.{Report, flat}
use Rattle.gier_order.specs.Misses.{misses}
use Rattle.gier_mortem.specs.WordLines.{greatest}
use Rattle.gier_tree.specs.Object.{code, text8}
use Rattle.gier_tree.specs.Structure.{program_spelled}
use Rattle.gier_tree.specs.Text7.{text7}
use Rattle.gier_tree.specs.TextsOf.{text3, text4, text5, text6}
use Rattle.gier_tree.specs.Trees.{Program}
use Rattle.gier_tree.specs.WordLines.{place_at}
use Rattle.gier_job.specs.Reply.{text_for, data_for, track_words}
use Rattle.gier_job.specs.RunTails.{most_told, if_asked}
use Rattle.gier_job.specs.declared.command.Command.{Command}

-- so many tracks, in rising order
abbrev pub rising : (first count : ℕ) → List ℕ
rising first zero = []
rising first (suc count) = first ∷ rising (suc first) count

abbrev pub symbols_of_track : ℕ
symbols_of_track = 20

-- the tracks of a text with so many symbols
abbrev pub text_tracks : (text symbols : ℕ) → List ℕ
text_tracks text symbols = rising (first_of text) ((symbols + 19) / symbols_of_track)

-- the texts that the next pass reads from the end
abbrev pub is_backward : (text : ℕ) → Bool
is_backward text = (text == 3) || ((text == 4) || ((text == 7) || (text == 8)))

abbrev pub writes_text : (text symbols : ℕ) → List Entry
writes_text text symbols = map Write (text_tracks text symbols)

abbrev pub reads_text : (text symbols : ℕ) → List Entry
reads_text text symbols = map Read (if is_backward text then reverse (text_tracks text symbols) else text_tracks text symbols)

abbrev pub writes_object : (words : ℕ) → List Entry
writes_object words = map Write (rising object_first ((words + 39) / track_words))

-- Compiling

-- what a pass reads and what it writes, each in its order
pub record Work : Type 0 where
  pub reads : List Entry
  pub writes : List Entry

-- a pass reads the text that the one before it wrote; the last one writes what is told
abbrev pub works_from : (text : ℕ) → (reads : List Entry) → (symbols : List ℕ) → (last : List Entry) → List Work
works_from text reads [] last = record { reads = reads; writes = last } ∷ []
works_from text reads (n ∷ ns) last =
    record { reads = reads; writes = writes_text text n } ∷ works_from (suc text) (reads_text text n) ns last

-- the entries of two lists, each in its order
abbrev pub AreMixed : (reads writes all : List Entry) → Type 0
AreMixed reads writes [] = (reads ≡ []) × (writes ≡ [])
AreMixed reads writes (entry ∷ all) =
    ((rest : List Entry) × (reads ≡ entry ∷ rest) × AreMixed rest writes all)
    ⊎ ((rest : List Entry) × (writes ≡ entry ∷ rest) × AreMixed reads rest all)

-- the passes work one after the other
abbrev pub AreWorks : List Work → (all : List Entry) → Type 0
AreWorks [] all = all ≡ []
AreWorks (work ∷ works) all =
    (first rest : List Entry) × (all ≡ first ++ rest) × AreMixed work.reads work.writes first × AreWorks works rest

-- how many symbols the texts 1 to 5 have, and those behind them
abbrev pub checked_lengths : (text : List ℕ) → Program → List ℕ
checked_lengths text t =
    let one = (symbols_of text).symbols in
    length one ∷ length (assembly one).symbols ∷ length (text3 t) ∷ length (text4 t) ∷ length (text5 t) ∷ []

abbrev pub compiled_lengths : (text : List ℕ) → Program → List ℕ
compiled_lengths text t = checked_lengths text t ++ length (text6 t) ∷ length (text7 t) ∷ length (text8 t) ∷ []

-- a program that is only checked is brought to text 6, which isn't read
abbrev pub works_of : (check : Bool) → (text : List ℕ) → Program → List Work
works_of true text t = works_from 1 [] (checked_lengths text t) (writes_text 6 (length (text6 t)))
works_of false text t = works_from 1 [] (compiled_lengths text t) (writes_object (length (code t)))

-- Running, and finding lines

-- the tracks of the words that a run referred to, where they miss
abbrev pub read_tracks : (places : ℕ) → Report → List ℕ
read_tracks places report = misses (map (λ (a : ℕ). object_first + a / track_words) report.refs) places

-- text 7 is read up to the last word that is asked for: the order that stopped, and those that entered what is told
abbrev pub last_place : Program → Report → ℕ
last_place t report =
    greatest (map (place_at (text7 t)) (report.place ∷ map (λ (live : Live). live.entered_by) (take most_told report.live)))

abbrev pub searched_tracks : Ending → Program → Report → List ℕ
searched_tracks Ended t report = []
searched_tracks ending t report = rising (first_of 7) (suc (last_place t report / symbols_of_track))

abbrev pub run_for : Command → Program → (unread : List ℕ) → Report
run_for c t unread = flat (code t) 0 unread c.settings.steps c.settings.stack

abbrev pub reads_of_run : (check : Bool) → Command → Program → Report → List ℕ
reads_of_run true c t report = []
reads_of_run false c t report = read_tracks c.settings.places report

abbrev pub reads_of_search : (check : Bool) → Command → Program → Report → List ℕ
reads_of_search true c t report = []
reads_of_search false c t report = if_asked c.mortem (searched_tracks report.ending t report)

-- the entries that a call for a program without errors adds to the journal, where no device failed
pub record IsJournal (c : Command) (text unread : List ℕ) (t : Program) (entries : List Entry) : Type 0 where
  pub compiling : List Entry
  pub compiled : AreWorks (works_of c.check text t) compiling
  pub all : entries ≡ compiling ++ map Read (reads_of_run c.check c t (run_for c t unread))
      ++ map Read (reads_of_search c.check c t (run_for c t unread))

-- the same by the tape
abbrev pub tree_of : (text : List ℕ) → Option Program
tree_of text = program_spelled (assembly (symbols_of text).symbols).symbols

abbrev pub OfProgram : Option Program → (Program → Type 0) → Type 0
OfProgram None holds = ⊥
OfProgram (Some t) holds = holds t

abbrev pub IsJournalOf : Command → (tape : List ℕ) → (entries : List Entry) → Type 0
IsJournalOf c tape entries =
    let text = text_for c.sample tape in
    OfProgram (tree_of text) (λ t. IsJournal c text (data_for c.sample tape) t entries)
