-- What is found of the words that were asked for, whose lines are those of the text of orders.
use Rattle.std.specs.Prelude.{◌≡◌, ◌==◌, ◌<◌, ◌≤◌, ℕ, if◌then◌else◌, List, [], ◌∷◌, ◌++◌, length, map, max}
use Rattle.std.specs.Prelude.{Option, Some, Result, Ok, Err, ⊤, slice_get, All}
use Rattle.gier_symbol.specs.declared.symbol.Symbol.{Symbol}
use Rattle.gier_tree.specs.WordLines.{word_lines}
use Rattle.gier_mortem.specs.declared.lines.Asked.{Asked}
use Rattle.gier_mortem.specs.declared.stop.LineStop.{LineStop}
use Rattle.gier_mortem.specs.declared.stop.LineStop.TheVariants.{Drum, Spoilt}

abbrev pub addresses : List Asked → List ℕ
addresses asked = map (λ (a : Asked). a.address) asked

-- 0 where there is none
abbrev pub greatest : List ℕ → ℕ
greatest [] = 0
greatest (n ∷ ns) = max n (greatest ns)

-- the word with this address has this line
abbrev pub told_line : (address line : ℕ) → Asked → Asked
told_line at new a = if a.address == at then record { address = a.address; line = new } else a

-- each word that was asked for has its line
abbrev pub AreFound : List ℕ → List Asked → Type 0
AreFound lines asked = All (λ a. slice_get lines a.address ≡ Some a.line) asked

-- the search found the lines of all words
abbrev pub Finds : Result ⊤ LineStop → (list : List Symbol) → List Asked → Type 0
Finds (Ok done) list asked = AreFound (word_lines list) asked
Finds (Err stop) list asked = Unit {0}

-- the text is refused only where it ends before a word that was asked for
abbrev pub SpoiltIfShort : Result ⊤ LineStop → (list : List Symbol) → List Asked → Type 0
SpoiltIfShort (Err (Spoilt odd)) list asked = length (word_lines list) ≤ greatest (addresses asked)
SpoiltIfShort (Err Drum) list asked = Unit {0}
SpoiltIfShort (Ok done) list asked = Unit {0}

-- each word that was asked for and lies below an address has its line
abbrev pub AreFoundBelow : List ℕ → ℕ → List Asked → Type 0
AreFoundBelow lines address asked = All (λ a. a.address < address → slice_get lines a.address ≡ Some a.line) asked

-- So far: the words that were passed are those below an address, which is at most the last one asked for; those among them that
-- were asked for have their lines.
pub record Searched (before : Option (List Symbol)) (wanted : List ℕ) (left : Option (List Symbol)) (asked : List Asked)
    (address last : ℕ) : Type 0 where
  pub same : addresses asked ≡ wanted
  pub within : address ≤ last
  pub passed : (list : List Symbol) → before ≡ Some list → (read rest : List Symbol) × (list ≡ read ++ rest) ×
      (left ≡ Some rest) × (length (word_lines read) ≡ address) × AreFoundBelow (word_lines list) address asked
