-- What holds of the reading between two bytes.
use Rattle.std.specs.Prelude.{◌≡◌, ◌≤◌, ◌+◌, ◌&&◌, ℕ, false, if◌then◌else◌, List, [], Option, Some}
use Rattle.gier_symbol.specs.Words.{is_next_letter}
use Rattle.gier_strop.specs.declared.reader.Fed.{Fed}
use Rattle.gier_strop.specs.Reading.{Reading, Feeds, behind, answer_to, with_letter}
use Rattle.gier_pass1.specs.declared.scanner.ScanResult.{ScanResult}
use Rattle.gier_pass1.specs.declared.scanner.Scanner.{Scanner}
use Rattle.gier_pass1.specs.declared.state.Mode.TheVariants.{Start}
use Rattle.gier_pass1.specs.declared.state.State.{State}
use Rattle.gier_pass1.specs.declared.state.Step.{Step}
use Rattle.gier_pass1.specs.Scan.{depth_of, in_word, sign_step, word_step, taken_step, goes, at_next_byte}
use Rattle.gier_pass1.specs.Program.{longest}

-- the reader of words has read some letters
abbrev pub HasLetters : Reading → Type 0
HasLetters reader = (letters : List ℕ) × (reader ≡ behind reader.spelling letters)

-- the place lies in a program text, and the reader of words may go on
pub record IsScanning (scanner : Scanner) : Type 0 where
  pub at : scanner.state.here.at ≤ longest
  pub line : scanner.state.here.line ≤ scanner.state.here.at + 1
  pub began : scanner.state.began.line ≤ scanner.state.here.line
  pub depth : depth_of scanner.state.mode ≤ scanner.state.here.at
  pub reader : HasLetters scanner.reader

-- what ends with the next byte, or before it or the end, where these letters of a word were read
abbrev pub ended_step : State → List ℕ → Option ℕ → Step
ended_step s letters next = if in_word s.mode then word_step s (answer_to s.spelling letters next) else sign_step s next

-- the byte is taken, unless it belongs to what ended
abbrev pub begun_step : Step → ℕ → Step
begun_step ended byte = if ended.taken then goes ended.state else taken_step ended.state byte

-- the letters that are read then of a word
abbrev pub letters_behind : State → List ℕ → Option ℕ → List ℕ
letters_behind s letters next = if in_word s.mode && is_next_letter s.spelling next then with_letter letters next else []

-- the reader has read these letters of the word, and none where no word is read
pub record ReadsLetters (state : State) (reader : Reading) (letters : List ℕ) : Type 0 where
  pub behind_them : reader ≡ behind state.spelling letters
  pub outside : in_word state.mode ≡ false → letters ≡ []

-- this holds for the letters that the scanner has read of a word
abbrev pub IfRead : Scanner → (List ℕ → Type 0) → Type 0
IfRead scanner P = (letters : List ℕ) → ReadsLetters scanner.state scanner.reader letters → P letters

-- the same where a word is read
abbrev pub IfBehind : Scanner → (List ℕ → Type 0) → Type 0
IfBehind scanner P = (letters : List ℕ) → scanner.reader ≡ behind scanner.state.spelling letters → P letters

-- a step of the reader, whatever letters it has read
abbrev pub FeedsAny : Reading → Option ℕ → Fed → Reading → Type 0
FeedsAny reader byte answer new = (letters : List ℕ) → reader ≡ behind reader.spelling letters
    → Feeds reader.spelling letters byte answer new

-- the reader keeps its letters, in the spelling that is told by then
abbrev pub KeepsLetters : State → Reading → State → Reading → Type 0
KeepsLetters s reader new new_reader = (letters : List ℕ) → reader ≡ behind s.spelling letters → (s.mode ≡ Start → letters ≡ [])
    → new_reader ≡ behind new.spelling letters

-- the word ends with the next byte, or before it or the end, or goes on with it
pub record EndsWord (state : State) (letters : List ℕ) (next : Option ℕ) (step : Step) (reader : Reading) : Type 0 where
  pub is_step : step ≡ word_step state (answer_to state.spelling letters next)
  pub is_reader : reader ≡ behind state.spelling (if is_next_letter state.spelling next then with_letter letters next else [])

-- the same of a sign or a word
pub record EndsStep (state : State) (letters : List ℕ) (next : Option ℕ) (step : Step) (reader : Reading) : Type 0 where
  pub is_step : step ≡ ended_step state letters next
  pub is_reader : reader ≡ behind state.spelling (letters_behind state letters next)

-- a byte gives this behind these letters
pub record TakesByte (old : Scanner) (letters : List ℕ) (byte : ℕ) (founds : ScanResult) (new : Scanner) : Type 0 where
  pub ended : founds.ended ≡ (ended_step old.state letters (Some byte)).found
  pub begun : founds.begun ≡ (begun_step (ended_step old.state letters (Some byte)) byte).found
  pub state : new.state ≡ at_next_byte (begun_step (ended_step old.state letters (Some byte)) byte).state byte
  pub reader : new.reader ≡ behind new.state.spelling (letters_behind old.state letters (Some byte))
