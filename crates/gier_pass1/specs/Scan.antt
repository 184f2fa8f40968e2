-- What each step of the reading gives, by the rules of the source form.
use Rattle.std.specs.Prelude.{◌==◌, ◌||◌, ◌+◌, ◌-◌, ℕ, Bool, true, false, nat_le, if◌then◌else◌, Option, None, Some}
use Rattle.gier_symbol.specs.declared.tag.Tag.{Tag}
use Rattle.gier_symbol.specs.declared.tag.Tag.TheVariants.{Letter, Digit, StringBegin, StringByte, StringEnd, Semicolon, Begin}
use Rattle.gier_symbol.specs.declared.tag.Tag.TheVariants.{End, Else}
use Rattle.gier_symbol.specs.declared.word.Spelling.TheVariants.{Plain, Quoted}
use Rattle.gier_symbol.specs.Tags.{number_of}
use Rattle.gier_symbol.specs.Words.{comment_word as comment_number}
use Rattle.gier_strop.specs.declared.reader.Fed.{Fed}
use Rattle.gier_strop.specs.declared.reader.Fed.TheVariants.{More, Word, Fault as FaultFed, WordBefore, FaultBefore}
use Rattle.gier_text.specs.declared.fault.FaultKind.{FaultKind}
use Rattle.gier_text.specs.declared.fault.FaultKind.TheVariants.{Character, Word as WordFault, Unclosed}
use Rattle.gier_pass1.specs.declared.bytes.DoubleSignPrefix.{DoubleSignPrefix}
use Rattle.gier_pass1.specs.declared.bytes.Kind.{Kind}
use Rattle.gier_pass1.specs.declared.bytes.Kind.TheVariants.{Layout, Letter as LetterKind, Digit as DigitKind, WordStart}
use Rattle.gier_pass1.specs.declared.bytes.Kind.TheVariants.{StringStart, DoubleSignPrefix as OpenerKind, Sign, Other}
use Rattle.gier_pass1.specs.declared.state.Mode.{Mode}
use Rattle.gier_pass1.specs.declared.state.Mode.TheVariants.{Start, Between, AfterPrefix, InWord, InString, InComment}
use Rattle.gier_pass1.specs.declared.state.Mode.TheVariants.{InSkipped, InSkippedWord}
use Rattle.gier_pass1.specs.declared.state.Place.{Place}
use Rattle.gier_pass1.specs.declared.state.State.{State}
use Rattle.gier_pass1.specs.declared.state.Token.{Token}
use Rattle.gier_pass1.specs.declared.state.Token.TheVariants.{Nothing, Written, LexError}
use Rattle.gier_pass1.specs.declared.state.Step.{Step}
use Rattle.gier_pass1.specs.Bytes.{starts_word, kind_of, single_sign, double_of}

-- before the first byte, in line 1
abbrev pub first_place : Place
first_place = record { at = 0; line = 1 }

abbrev pub start_state : State
start_state = record { spelling = Plain; mode = Start; may_comment = false; began = first_place; here = first_place }

-- the line of the byte behind this one
abbrev pub line_after : ℕ → ℕ → ℕ
line_after line byte = if byte == 10 then line + 1 else line

-- at the next byte
abbrev pub at_next_byte : State → ℕ → State
at_next_byte state byte = record state { here = record { at = state.here.at + 1; line = line_after state.here.line byte } }

abbrev pub is_start : Mode → Bool
is_start Start = true
is_start Between = false
is_start (AfterPrefix opener) = false
is_start InWord = false
is_start (InString depth) = false
is_start InComment = false
is_start InSkipped = false
is_start InSkippedWord = false

abbrev pub in_word : Mode → Bool
in_word Start = false
in_word Between = false
in_word (AfterPrefix opener) = false
in_word InWord = true
in_word (InString depth) = false
in_word InComment = false
in_word InSkipped = false
in_word InSkippedWord = true

-- how many braces of a string are open
abbrev pub depth_of : Mode → ℕ
depth_of Start = 0
depth_of Between = 0
depth_of (AfterPrefix opener) = 0
depth_of InWord = 0
depth_of (InString depth) = depth
depth_of InComment = 0
depth_of InSkipped = 0
depth_of InSkippedWord = 0

-- a symbol has the line of its first byte, and a fault its place
abbrev pub began_symbol : State → ℕ → Token
began_symbol state number = Written (record { tag = number; value = 0; line = state.began.line })

abbrev pub here_symbol : State → Tag → ℕ → Token
here_symbol state tag value = Written (record { tag = number_of tag; value = value; line = state.here.line })

abbrev pub began_fault : State → FaultKind → Token
began_fault state kind = LexError (record { position = state.began.at; line = state.began.line; kind = kind })

abbrev pub here_fault : State → FaultKind → Token
here_fault state kind = LexError (record { position = state.here.at; line = state.here.line; kind = kind })

-- the byte is taken, or isn't, and nothing is found
abbrev pub goes : State → Step
goes state = record { state = state; found = Nothing; taken = true }

abbrev pub stays : State → Step
stays state = record { state = state; found = Nothing; taken = false }

-- where a symbol may begin; a comment may begin there behind `;` and the begin word
abbrev pub between_symbols : State → Bool → State
between_symbols state may_comment = record state { mode = Between; may_comment = may_comment }

-- a sign ends with the byte that makes it a double one, and else before the next byte
abbrev pub double_behind : DoubleSignPrefix → Option ℕ → Option Tag
double_behind opener None = None
double_behind opener (Some byte) = double_of opener byte

abbrev pub sign_of_double : State → DoubleSignPrefix → Option Tag → Step
sign_of_double state opener None = record {
  state = between_symbols state false;
  found = began_symbol state (number_of (single_sign opener));
  taken = false;
}
sign_of_double state opener (Some tag) = record {
  state = between_symbols state false;
  found = began_symbol state (number_of tag);
  taken = true;
}

abbrev pub sign_ended : State → DoubleSignPrefix → Option ℕ → Step
sign_ended state opener byte = sign_of_double state opener (double_behind opener byte)

abbrev pub sign_step_in : Mode → State → Option ℕ → Step
sign_step_in Start state byte = stays state
sign_step_in Between state byte = stays state
sign_step_in (AfterPrefix opener) state byte = sign_ended state opener byte
sign_step_in InWord state byte = stays state
sign_step_in (InString depth) state byte = stays state
sign_step_in InComment state byte = stays state
sign_step_in InSkipped state byte = stays state
sign_step_in InSkippedWord state byte = stays state

abbrev pub sign_step : State → Option ℕ → Step
sign_step state byte = sign_step_in state.mode state byte

-- behind the end word bytes are skipped
abbrev pub mode_behind : ℕ → Mode
mode_behind number = if number == number_of End then InSkipped else Between

abbrev pub fault_of_word : State → Bool → Step
fault_of_word state taken = record { state = between_symbols state false; found = began_fault state WordFault; taken = taken }

-- the comment word is a fault where no comment may begin
abbrev pub comment_word : State → Bool → Step
comment_word state taken =
    if state.may_comment
    then record { state = record state { mode = InComment }; found = Nothing; taken = taken }
    else fault_of_word state taken

abbrev pub plain_word : State → ℕ → Bool → Step
plain_word state number taken =
    if number == comment_number then comment_word state taken
    else record {
      state = record state { mode = mode_behind number; may_comment = number == number_of Begin };
      found = began_symbol state number;
      taken = taken;
    }

-- in what is skipped only the end word and the else word count, and no word is a fault
abbrev pub skipped_on : State → Bool → Step
skipped_on state taken = record { state = record state { mode = InSkipped }; found = Nothing; taken = taken }

abbrev pub skipped_word : State → ℕ → Bool → Step
skipped_word state number taken =
    if number == number_of End || number == number_of Else
    then record {
      state = record state { mode = mode_behind number; may_comment = false };
      found = began_symbol state number;
      taken = taken;
    }
    else skipped_on state taken

abbrev pub word_found_in : Mode → State → ℕ → Bool → Step
word_found_in Start state number taken = stays state
word_found_in Between state number taken = stays state
word_found_in (AfterPrefix opener) state number taken = stays state
word_found_in InWord state number taken = plain_word state number taken
word_found_in (InString depth) state number taken = stays state
word_found_in InComment state number taken = stays state
word_found_in InSkipped state number taken = stays state
word_found_in InSkippedWord state number taken = skipped_word state number taken

abbrev pub word_found : State → ℕ → Bool → Step
word_found state number taken = word_found_in state.mode state number taken

abbrev pub word_wrong_in : Mode → State → Bool → Step
word_wrong_in Start state taken = stays state
word_wrong_in Between state taken = stays state
word_wrong_in (AfterPrefix opener) state taken = stays state
word_wrong_in InWord state taken = fault_of_word state taken
word_wrong_in (InString depth) state taken = stays state
word_wrong_in InComment state taken = stays state
word_wrong_in InSkipped state taken = stays state
word_wrong_in InSkippedWord state taken = skipped_on state taken

abbrev pub word_wrong : State → Bool → Step
word_wrong state taken = word_wrong_in state.mode state taken

-- a word, by the answer of its reader to the next byte or the end
abbrev pub word_step : State → Fed → Step
word_step state More = goes state
word_step state (Word number) = word_found state number true
word_step state FaultFed = word_wrong state true
word_step state (WordBefore number) = word_found state number false
word_step state FaultBefore = word_wrong state false

abbrev pub one_byte : State → Tag → ℕ → Step
one_byte state tag value = record {
  state = between_symbols state (number_of tag == number_of Semicolon);
  found = here_symbol state tag value;
  taken = true;
}

abbrev pub opens : State → Mode → Step
opens state mode = goes (record state { mode = mode; began = state.here })

abbrev pub string_starts : State → Step
string_starts state = record {
  state = record state { mode = InString 1; may_comment = false; began = state.here };
  found = here_symbol state StringBegin 0;
  taken = true;
}

-- a byte with which a symbol may begin
abbrev pub begin_as : Kind → State → ℕ → Step
begin_as Layout state byte = goes (record state { mode = Between })
begin_as LetterKind state byte = one_byte state Letter byte
begin_as DigitKind state byte = one_byte state Digit (byte - 48)
begin_as WordStart state byte = opens state InWord
begin_as StringStart state byte = string_starts state
begin_as (OpenerKind opener) state byte = opens state (AfterPrefix opener)
begin_as (Sign tag) state byte = one_byte state tag 0
begin_as Other state byte = record { state = between_symbols state false; found = here_fault state Character; taken = true }

abbrev pub begin_step : State → ℕ → Step
begin_step state byte = begin_as (kind_of state.spelling byte) state byte

-- a `!` as the first byte tells the quoted spelling
abbrev pub first_step : State → ℕ → Step
first_step state byte =
    if byte == 33 then goes (record state { spelling = Quoted; mode = Between }) else begin_step state byte

-- each byte of a string stands for itself, and inner pairs of braces nest
abbrev pub string_byte : State → ℕ → ℕ → Step
string_byte state depth byte = record {
  state = record state { mode = InString depth };
  found = here_symbol state StringByte byte;
  taken = true;
}

abbrev pub string_shut : State → ℕ → ℕ → Step
string_shut state depth byte =
    if nat_le depth 1
    then record { state = record state { mode = Between }; found = here_symbol state StringEnd 0; taken = true }
    else string_byte state (depth - 1) byte

abbrev pub string_step : State → ℕ → ℕ → Step
string_step state depth byte =
    if byte == 123 then string_byte state (depth + 1) byte
    else (if byte == 125 then string_shut state depth byte else string_byte state depth byte)

-- a comment ends with the first `;`
abbrev pub comment_step : State → ℕ → Step
comment_step state byte = if byte == 59 then goes (record state { mode = Between }) else goes state

-- what is skipped ends before the first `;`
abbrev pub skipped_step : State → ℕ → Step
skipped_step state byte =
    if byte == 59 then begin_step state byte
    else (if starts_word state.spelling byte then opens state InSkippedWord else goes state)

abbrev pub taken_in : Mode → State → ℕ → Step
taken_in Start state byte = first_step state byte
taken_in Between state byte = begin_step state byte
taken_in (AfterPrefix opener) state byte = begin_step state byte
taken_in InWord state byte = begin_step state byte
taken_in (InString depth) state byte = string_step state depth byte
taken_in InComment state byte = comment_step state byte
taken_in InSkipped state byte = skipped_step state byte
taken_in InSkippedWord state byte = begin_step state byte

-- a byte that belongs to no sign or word that was begun
abbrev pub taken_step : State → ℕ → Step
taken_step state byte = taken_in state.mode state byte

-- what the end gives, before which this step stands: a string that isn't closed is a fault
abbrev pub at_end_in : Mode → Step → Token
at_end_in Start step = step.found
at_end_in Between step = step.found
at_end_in (AfterPrefix opener) step = step.found
at_end_in InWord step = step.found
at_end_in (InString depth) step = began_fault step.state Unclosed
at_end_in InComment step = step.found
at_end_in InSkipped step = step.found
at_end_in InSkippedWord step = step.found

abbrev pub at_end : Step → Token
at_end step = at_end_in step.state.mode step
