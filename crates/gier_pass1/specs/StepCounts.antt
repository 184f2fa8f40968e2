-- What every step of the reading keeps: the place, and that each byte gives at most one symbol and at most one fault.
use Rattle.std.specs.Prelude.{◌≡◌, ◌==◌, ◌||◌, ◌<◌, ◌≤◌, ◌+◌, ◌^◌, ℕ, Bool, IsTrue, if◌then◌else◌}
use Rattle.gier_symbol.specs.Symbols.{IsSymbol}
use Rattle.gier_symbol.specs.Texts.{stands_in}
use Rattle.gier_symbol.specs.Words.{comment_word as comment_number}
use Rattle.gier_strop.specs.declared.reader.Fed.{Fed}
use Rattle.gier_strop.specs.declared.reader.Fed.TheVariants.{More, Word, Fault, WordBefore, FaultBefore}
use Rattle.gier_pass1.specs.declared.state.Mode.{Mode}
use Rattle.gier_pass1.specs.declared.state.Mode.TheVariants.{Start, Between, AfterPrefix, InWord, InString, InComment}
use Rattle.gier_pass1.specs.declared.state.Mode.TheVariants.{InSkipped, InSkippedWord}
use Rattle.gier_pass1.specs.declared.state.State.{State}
use Rattle.gier_pass1.specs.declared.state.Token.{Token}
use Rattle.gier_pass1.specs.declared.state.Token.TheVariants.{Nothing, Written, LexError}
use Rattle.gier_pass1.specs.declared.state.Step.{Step}
use Rattle.gier_pass1.specs.Scan.{depth_of}

-- what is found is a symbol of text 1, where it is a symbol
abbrev pub IsLetter : Token → Type 0
IsLetter Nothing = Unit {0}
IsLetter (Written s) = IsSymbol s × IsTrue (stands_in 1 s.tag)
IsLetter (LexError fault) = Unit {0}

-- the number of a word: the tag of its symbol, or that of the comment word
abbrev pub is_word_number : ℕ → Bool
is_word_number number = number == comment_number || stands_in 1 number

-- the reader of words answers numbers of words only
abbrev pub IsKnown : Fed → Type 0
IsKnown More = Unit {0}
IsKnown (Word number) = IsTrue (is_word_number number)
IsKnown Fault = Unit {0}
IsKnown (WordBefore number) = IsTrue (is_word_number number)
IsKnown FaultBefore = Unit {0}

abbrev pub symbols_in : Token → ℕ
symbols_in Nothing = 0
symbols_in (Written s) = 1
symbols_in (LexError fault) = 0

abbrev pub faults_in : Token → ℕ
faults_in Nothing = 0
faults_in (Written s) = 0
faults_in (LexError fault) = 1

-- a sign and a word that were begun may still give a symbol
abbrev pub owed_symbols : Mode → ℕ
owed_symbols Start = 0
owed_symbols Between = 0
owed_symbols (AfterPrefix opener) = 1
owed_symbols InWord = 1
owed_symbols (InString depth) = 0
owed_symbols InComment = 0
owed_symbols InSkipped = 0
owed_symbols InSkippedWord = 1

-- a word and a string that were begun may still be a fault
abbrev pub owed_faults : Mode → ℕ
owed_faults Start = 0
owed_faults Between = 0
owed_faults (AfterPrefix opener) = 0
owed_faults InWord = 1
owed_faults (InString depth) = 1
owed_faults InComment = 0
owed_faults InSkipped = 0
owed_faults InSkippedWord = 0

-- a sign or a word is being read
abbrev pub IsOpened : Mode → Type 0
IsOpened mode = (owed_symbols mode ≡ 1) × (owed_faults mode ≤ 1) × (depth_of mode ≡ 0)

pub record HasLines (state : State) : Type 0 where
  pub here : state.here.line < 2 ^ 24
  pub began : state.began.line ≤ state.here.line

abbrev pub bytes_in : Step → ℕ
bytes_in step = if step.taken then 1 else 0

pub record PreservesCounts (old : State) (step : Step) : Type 0 where
  pub here : step.state.here ≡ old.here
  pub began : step.state.began.line ≤ old.here.line
  pub depth : depth_of step.state.mode ≤ depth_of old.mode + bytes_in step
  pub symbols : symbols_in step.found + owed_symbols step.state.mode ≤ owed_symbols old.mode + bytes_in step
  pub faults : faults_in step.found + owed_faults step.state.mode ≤ owed_faults old.mode + bytes_in step

-- what ends a sign or a word gives no more than was owed for it
pub record PreservesCountsAtEnd (old : State) (step : Step) : Type 0 where
  pub here : step.state.here ≡ old.here
  pub began : step.state.began.line ≤ old.here.line
  pub depth : depth_of step.state.mode ≤ depth_of old.mode
  pub symbols : symbols_in step.found + owed_symbols step.state.mode ≤ owed_symbols old.mode
  pub faults : faults_in step.found + owed_faults step.state.mode ≤ owed_faults old.mode
