-- What the pass writes for a text, and which texts it isn't meant for.
use Rattle.std.specs.Prelude.{◌≡◌, ◌≤◌, ◌⊎◌, ◌++◌, ◌∷◌, ◌+◌, ◌*◌, ◌^◌, ℕ, false, List, [], Option, All, IsTrue, length}
use Rattle.std.specs.Prelude.{if◌then◌else◌}
use Rattle.gier_drum.specs.declared.drum.Entry.{Entry}
use Rattle.gier_symbol.specs.declared.symbol.Symbol.{Symbol}
use Rattle.gier_symbol.specs.declared.tag.Tag.TheVariants.{LabelPlace}
use Rattle.gier_symbol.specs.Texts.{is_tag_of, stands_in}
use Rattle.gier_word.specs.declared.refusal.Odd.{Odd}
use Rattle.gier_text.specs.Drive.{place_of}
use Rattle.gier_text.specs.Log.{LogsAll, writes_of}
use Rattle.gier_text.specs.Passes.{Mixed}
use Rattle.gier_text.specs.View.{View}
use Rattle.gier_pass9.specs.Object.{full_track}

-- all symbols are words but the marks of labels
abbrev pub words_for : Symbol → ℕ
words_for s = if is_tag_of LabelPlace s.tag then 0 else 1

-- how many words of the object a text has
abbrev pub words_in : List Symbol → ℕ
words_in [] = 0
words_in (s ∷ list) = words_for s + words_in list

-- what is written to the journal for a symbol
abbrev pub word_log : Symbol → ℕ → ℕ → List Entry
word_log s first count = if is_tag_of LabelPlace s.tag then [] else full_track first count

abbrev pub AreLetters : List Symbol → Type 0
AreLetters list = All (λ s. IsTrue (stands_in 8 s.tag)) list

-- text 8 of an object of at most so many words
pub record IsObjectText (most : ℕ) (list : List Symbol) : Type 0 where
  pub letters : AreLetters list
  pub some : 1 ≤ words_in list
  pub few : words_in list ≤ most

-- the first symbol that may not stand there: no letter of text 8, or one word too many
pub record IsWrongSymbol (most : ℕ) (list : List Symbol) (odd : Odd) : Type 0 where
  pub before : List Symbol
  pub symbol : Symbol
  pub rest : List Symbol
  pub list_is : list ≡ (before ++ symbol ∷ []) ++ rest
  pub good : AreLetters before
  pub place : odd.place ≡ place_of (length before)
  pub word : odd.word ≡ symbol.tag * 2 ^ 24 + symbol.line
  pub wrong : (stands_in 8 symbol.tag ≡ false) ⊎ ((words_for symbol ≡ 1) × (words_in before ≡ most))

-- a text without a word
pub record IsWordless (list : List Symbol) (odd : Odd) : Type 0 where
  pub letters : AreLetters list
  pub none : words_in list ≡ 0
  pub place : odd.place ≡ 0
  pub word : odd.word ≡ 0

abbrev pub IsWrong : ℕ → List Symbol → Odd → Type 0
IsWrong most list odd = IsWrongSymbol most list odd ⊎ IsWordless list odd

-- the journal grows by the reads of the text and the writes of so many tracks of the object, in some order of the two
pub record Fills (text text_now : View) (first tracks : ℕ) (before after : Option (List Entry)) : Type 0 where
  pub reads : List Entry
  pub entries : List Entry
  pub reading : text_now.log ≡ text.log ++ reads
  pub mixed : Mixed reads (writes_of first tracks) entries
  pub journal : LogsAll before entries after

-- what is told of a store is what is told of the drum
pub record AreThose {S : Type 0} (room drum_room : S → ℕ) (tracks drum_tracks : S → Option (List (List ℕ)))
    (journal drum_journal : S → Option (List Entry)) (faults drum_faults : S → ℕ) : Type 0 where
  pub same_room : (drum : S) → room drum ≡ drum_room drum
  pub same_tracks : (drum : S) → tracks drum ≡ drum_tracks drum
  pub same_journal : (drum : S) → journal drum ≡ drum_journal drum
  pub same_faults : (drum : S) → faults drum ≡ drum_faults drum
