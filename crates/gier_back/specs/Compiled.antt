-- What the back hands on.
use Rattle.std.specs.Prelude.{◌≡◌, ◌≤◌, ◌∷◌, [], ℕ, List, Option, Some, length, slice_index, reverse}
use Rattle.gier_order.specs.declared.object.Object.{Object}
use Rattle.gier_symbol.specs.declared.symbol.Symbol.{Symbol}
use Rattle.gier_word.specs.declared.refusal.Odd.{Odd}
use Rattle.gier_limits.specs.Areas.{longest, first_of, object_first, words_of, capacity_of}
use Rattle.gier_text.specs.declared.fronted.Fronted.{Fronted}
use Rattle.gier_text.specs.SymbolsOnTracks.{text_on}
use Rattle.gier_text.specs.Potential.{IsShort}
use Rattle.gier_tree.specs.Complete.{IsComplete}
use Rattle.gier_pass9.specs.ObjectOfText.{object_words, HoldsWords}
use Rattle.gier_pass9.specs.Objects.{IsText7}
use Rattle.gier_pass9.specs.PassOutput.{IsWrong}
use Rattle.gier_tree.specs.Object.{object_of}

-- the tracks from this one on hold the code of a text 7 that is no longer than a text may be
pub record HoldsSeven (tracks : Option (List (List ℕ))) (first bytes count : ℕ) : Type 0 where
  pub list : List Symbol
  pub held : text_on tracks first count ≡ Some list
  pub short : IsShort 7 bytes list

-- the lengths of texts 1 to 8, of which the last two are no longer than a text may be
pub record AreLengths (fronted : Fronted) (lengths : List ℕ) : Type 0 where
  pub seven : ℕ
  pub eight : ℕ
  pub all : lengths ≡ slice_index fronted.lengths 0 ∷ slice_index fronted.lengths 1 ∷ slice_index fronted.lengths 2
      ∷ slice_index fronted.lengths 3 ∷ slice_index fronted.lengths 4 ∷ fronted.symbols ∷ seven ∷ eight ∷ []
  pub few_seven : seven ≤ capacity_of fronted.bytes
  pub few_eight : eight ≤ capacity_of fronted.bytes

-- an object of the program: it lies behind the areas, begins at word 0, and has at least one word
pub record IsObject (fronted : Fronted) (object : Object) : Type 0 where
  pub place : object.first_track ≡ object_first
  pub start : object.start ≡ 0
  pub some : 1 ≤ object.words
  pub few : object.words ≤ words_of fronted.bytes
  pub lengths : AreLengths fronted object.lengths

-- The object's words are those that a text 8 makes, which was no longer than a text may be, and they stand on the object's
-- tracks. The text 7 behind it still lies there; where all of it is known by its end, the words are the object that is defined
-- from it.
pub record IsMade (tracks : Option (List (List ℕ))) (bytes : ℕ) (object : Object) : Type 0 where
  pub list : List Symbol
  pub short : IsShort 8 bytes list
  pub count : length (object_words longest (reverse list)) ≡ object.words
  pub holds : HoldsWords tracks object.first_track (object_words longest (reverse list))
  pub seven : HoldsSeven tracks (first_of 7) bytes (slice_index object.lengths 6)
  pub defined : IsComplete bytes seven.list → IsText7 longest seven.list
      → object_words longest (reverse list) ≡ object_of seven.list

-- a text 8 of letters, which was no longer than a text may be, had no word or too many
pub record IsNoObject (bytes : ℕ) (odd : Odd) : Type 0 where
  pub list : List Symbol
  pub short : IsShort 8 bytes list
  pub wrong : IsWrong (words_of bytes) (reverse list) odd
