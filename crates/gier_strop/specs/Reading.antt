-- What a reader of words has read, and what it answers to the next byte by the rules of words.
use Rattle.std.specs.Prelude.{◌≡◌, ◌+◌, ℕ, nat_lt, if◌then◌else◌, List, ◌++◌, [], ◌∷◌, length, map, take, Option, None, Some}
use Rattle.gier_symbol.specs.declared.word.Spelling.{Spelling}
use Rattle.gier_symbol.specs.declared.word.Spelling.TheVariants.{Plain, Quoted}
use Rattle.gier_symbol.specs.Words.{is_next_letter, is_quote, word_ended, WordRead}
use Rattle.gier_strop.specs.declared.reader.Fed.{Fed}
use Rattle.gier_strop.specs.declared.reader.Fed.TheVariants.{More, Word, Fault, WordBefore, FaultBefore}

-- a spelling, and the letters that are kept of a name, in lower case
pub record Reading : Type 0 where
  pub spelling : Spelling
  pub name : List ℕ

-- the letters in lower case, one or all
abbrev pub lower : Spelling → ℕ → ℕ
lower Plain letter = letter
lower Quoted letter = letter + 32

abbrev pub lowered : Spelling → List ℕ → List ℕ
lowered Plain letters = letters
lowered Quoted letters = map (λ letter. letter + 32) letters

-- the reader behind these letters: ten of them are enough to know that they are no word
abbrev pub behind : Spelling → List ℕ → Reading
behind spelling letters = record { spelling = spelling; name = take 10 (lowered spelling letters) }

-- the answer where the word ends with the byte that is fed
abbrev pub answer_with : Option ℕ → Fed
answer_with None = Fault
answer_with (Some tag) = Word tag

-- the answer where the byte that is fed, or the end, stands behind the word
abbrev pub answer_before : Option ℕ → Fed
answer_before None = FaultBefore
answer_before (Some tag) = WordBefore tag

-- the answer for a word of so many letters
abbrev pub answer_of : ℕ → WordRead → Fed
answer_of letters read = if nat_lt letters read.taken then answer_with read.tag else answer_before read.tag

-- the same, told by the number of the word with this name and by what follows its letters
abbrev pub ended_by : Spelling → Option ℕ → Option ℕ → Fed
ended_by Plain tag next = answer_before tag
ended_by Quoted tag next = if is_quote next then answer_with tag else FaultBefore

-- the answer to a byte, or to the end, behind these letters
abbrev pub answer_to : Spelling → List ℕ → Option ℕ → Fed
answer_to spelling letters next = if is_next_letter spelling next then More
    else answer_of (length letters) (word_ended spelling letters next)

-- the letters with the one that is fed
abbrev pub with_letter : List ℕ → Option ℕ → List ℕ
with_letter letters None = letters
with_letter letters (Some letter) = letters ++ letter ∷ []

-- a step of a reader that has read these letters
pub record Feeds (spelling : Spelling) (letters : List ℕ) (next : Option ℕ) (answer : Fed) (new : Reading) : Type 0 where
  pub answered : answer ≡ answer_to spelling letters next
  pub goes_on : answer ≡ More → new ≡ behind spelling (with_letter letters next)
