-- What holds of the place and the faults between two bytes: a sign or a word stands on one line, and later faults stand behind
-- all that were found.
use Rattle.std.proofs.Common.{◌≡◌, ◌≤◌, ◌<◌, ◌+◌, ◌-◌, ℕ, Bool, true, false, if◌then◌else◌, Option, None, Some, eqb, nat_le, refl, subst, arith}
use Rattle.std.specs.Prelude.{◌||◌}
use Rattle.std.proofs.lemmas.Bool.Decides.{nat_tests}
use Rattle.gier_symbol.specs.declared.tag.Tag.{Tag}
use Rattle.gier_symbol.specs.declared.word.Spelling.{Spelling}
use Rattle.gier_symbol.specs.declared.word.Spelling.TheVariants.{Plain, Quoted}
use Rattle.gier_symbol.specs.Words.{word_byte}
use Rattle.gier_text.specs.declared.fault.Fault.{Fault}
use Rattle.gier_pass1.specs.declared.bytes.Kind.{Kind}
use Rattle.gier_pass1.specs.declared.bytes.Kind.TheVariants.{Layout, Letter, Digit, WordStart, StringStart, DoubleSignPrefix, Sign, Other}
use Rattle.gier_pass1.specs.declared.bytes.DoubleSignPrefix.{DoubleSignPrefix as OpenerSign}
use Rattle.gier_pass1.specs.declared.state.Mode.{Mode}
use Rattle.gier_pass1.specs.declared.state.Mode.TheVariants.{Start, Between, AfterPrefix, InWord, InString, InComment, InSkipped, InSkippedWord}
use Rattle.gier_pass1.specs.declared.state.State.{State}
use Rattle.gier_pass1.specs.declared.state.Token.{Token}
use Rattle.gier_pass1.specs.declared.state.Token.TheVariants.{Nothing, Written, LexError}
use Rattle.gier_pass1.specs.declared.state.Step.{Step}
use Rattle.gier_pass1.specs.Bytes.{kind_of, starts_word}
use Rattle.gier_pass1.specs.Scan.{start_state, opens, goes, begin_as, begin_step, taken_step, string_step, string_shut, string_byte, plain_word, comment_word, skipped_word, sign_of_double, line_after, at_next_byte}
use Rattle.gier_pass1.proofs.SymbolStarts.{same_byte}
use Rattle.gier_pass1.proofs.FreeBytes.{IsQuiet}
use Rattle.gier_pass1.proofs.Spelled.{on_if}
use Rattle.gier_pass1.proofs.WordEnds.{by_number}
use Rattle.gier_pass1.proofs.WordsFed.{word_mode}

abbrev pub IsWellIn : Mode → State → Type 0
IsWellIn Start s = s ≡ start_state
IsWellIn Between s = Unit {0}
IsWellIn (AfterPrefix opener) s = s.began.line ≡ s.here.line
IsWellIn InWord s = (s.began.line ≡ s.here.line) × (s.began.at < s.here.at)
IsWellIn (InString depth) s = (1 ≤ depth) × (s.began.at < s.here.at)
IsWellIn InComment s = Unit {0}
IsWellIn InSkipped s = Unit {0}
IsWellIn InSkippedWord s = s.began.line ≡ s.here.line

-- no later fault stands before this byte
abbrev pub floor_in : Mode → State → ℕ
floor_in Start s = s.here.at
floor_in Between s = s.here.at
floor_in (AfterPrefix opener) s = s.here.at
floor_in InWord s = s.began.at
floor_in (InString depth) s = s.began.at
floor_in InComment s = s.here.at
floor_in InSkipped s = s.here.at
floor_in InSkippedWord s = s.here.at

abbrev pub OnFault : (Fault → Type 0) → Token → Type 0
OnFault P Nothing = Unit {0}
OnFault P (Written s) = Unit {0}
OnFault P (LexError fault) = P fault

-- the byte is taken, and what holds between two bytes holds behind it
pub record GoesOn (low : ℕ) (s : State) (byte : ℕ) (step : Step) : Type 0 where
  pub well : IsWellIn step.state.mode (at_next_byte step.state byte)
  pub floor : low ≤ floor_in step.state.mode (at_next_byte step.state byte)
  pub fault : OnFault (λ fault. (fault.position ≡ s.here.at) × (s.here.at < floor_in step.state.mode (at_next_byte step.state byte))) step.found

abbrev IsOpening : Kind → Type 0
IsOpening Layout = ⊥
IsOpening Letter = ⊥
IsOpening Digit = ⊥
IsOpening WordStart = Unit {0}
IsOpening StringStart = ⊥
IsOpening (DoubleSignPrefix opener) = Unit {0}
IsOpening (Sign tag) = ⊥
IsOpening Other = ⊥

opening_by : (ends : Bool) (spelling : Spelling) (byte line : ℕ) → eqb byte 10 ≡ ends → IsOpening (kind_of spelling byte)
    → line ≡ line_after line byte
opening_by true spelling byte line is opening = absurd (subst (λ (b : ℕ). IsOpening (kind_of spelling b)) (same_byte byte 10 is) opening)
opening_by false spelling byte line is opening = rw is refl

begin_goes : (kind : Kind) (s : State) (byte : ℕ) → (IsOpening kind → s.here.line ≡ line_after s.here.line byte)
    → GoesOn s.here.at s byte (begin_as kind s byte)
begin_goes Layout s byte line = record { well = tt; floor = omega arith; fault = tt }
begin_goes Letter s byte line = record { well = tt; floor = omega arith; fault = tt }
begin_goes Digit s byte line = record { well = tt; floor = omega arith; fault = tt }
begin_goes WordStart s byte line = record { well = (line tt, omega arith); floor = omega arith; fault = tt }
begin_goes StringStart s byte line = record { well = (omega arith, omega arith); floor = omega arith; fault = tt }
begin_goes (DoubleSignPrefix opener) s byte line = record { well = line tt; floor = omega arith; fault = tt }
begin_goes (Sign tag) s byte line = record { well = tt; floor = omega arith; fault = tt }
begin_goes Other s byte line = record { well = tt; floor = omega arith; fault = (refl, omega arith) }

any_goes : (s : State) (byte : ℕ) → GoesOn s.here.at s byte (begin_step s byte)
any_goes s byte = begin_goes (kind_of s.spelling byte) s byte (λ opening. opening_by (eqb byte 10) s.spelling byte s.here.line refl opening)

string_goes : (s : State) (depth byte : ℕ) → 1 ≤ depth → s.began.at < s.here.at → GoesOn s.began.at s byte (string_byte s depth byte)
string_goes s depth byte deep at = record { well = (deep, omega (arith, at)); floor = omega arith; fault = tt }

shut_by : (last : Bool) (s : State) (depth byte : ℕ) → nat_le depth 1 ≡ last → 1 ≤ depth → s.began.at < s.here.at
    → GoesOn s.began.at s byte (string_shut s depth byte)
shut_by true s depth byte is deep at = rw is (record { well = tt; floor = omega (arith, at); fault = tt })
shut_by false s depth byte is deep at = rw is (string_goes s (depth - 1) byte (grind (arith, nat_tests)) at)

strings_go : (s : State) (depth byte : ℕ) → 1 ≤ depth → s.began.at < s.here.at → GoesOn s.began.at s byte (string_step s depth byte)
strings_go s depth byte deep at =
    on_if (GoesOn s.began.at s byte) (eqb byte 123) _ _ (string_goes s (depth + 1) byte (omega arith) at)
    (on_if (GoesOn s.began.at s byte) (eqb byte 125) _ _ (shut_by (nat_le depth 1) s depth byte refl deep at)
    (string_goes s depth byte deep at))

word_stays : (spelling : Spelling) (line : ℕ) → line ≡ line_after line (word_byte spelling)
word_stays Plain line = refl
word_stays Quoted line = refl

skip_by : (begins : Bool) (s : State) (byte : ℕ) → starts_word s.spelling byte ≡ begins
    → GoesOn s.here.at (record s { mode = InSkipped }) byte
    (if begins then opens (record s { mode = InSkipped }) InSkippedWord else goes (record s { mode = InSkipped }))
skip_by true s byte is = record {
  well = rw (same_byte byte (word_byte s.spelling) is) (word_stays s.spelling s.here.line);
  floor = omega
      arith;
  fault = tt;
}
skip_by false s byte is = record { well = tt; floor = omega arith; fault = tt }

pub quiet_goes : (mode : Mode) (s : State) (byte : ℕ) → IsQuiet mode → IsWellIn mode (record s { mode = mode })
    → GoesOn (floor_in mode (record s { mode = mode })) (record s { mode = mode }) byte (taken_step (record s { mode = mode }) byte)
quiet_goes Start s byte quiet well = on_if (GoesOn s.here.at (record s { mode = Start }) byte) (eqb byte 33) _ _
    (record { well = tt; floor = omega arith; fault = tt }) (any_goes (record s { mode = Start }) byte)
quiet_goes Between s byte quiet well = any_goes (record s { mode = Between }) byte
quiet_goes (AfterPrefix opener) s byte quiet well = absurd quiet
quiet_goes InWord s byte quiet well = absurd quiet
quiet_goes (InString depth) s byte quiet well = strings_go (record s { mode = InString depth }) depth byte well.0 well.1
quiet_goes InComment s byte quiet well = on_if (GoesOn s.here.at (record s { mode = InComment }) byte) (eqb byte 59) _ _
    (record { well = tt; floor = omega arith; fault = tt }) (record { well = tt; floor = omega arith; fault = tt })
quiet_goes InSkipped s byte quiet well = on_if (GoesOn s.here.at (record s { mode = InSkipped }) byte) (eqb byte 59) _ _
    (any_goes (record s { mode = InSkipped }) byte) (skip_by (starts_word s.spelling byte) s byte refl)
quiet_goes InSkippedWord s byte quiet well = absurd quiet

-- where a sign or a word has ended
abbrev pub IsCalm : Mode → Type 0
IsCalm Start = ⊥
IsCalm Between = Unit {0}
IsCalm (AfterPrefix opener) = ⊥
IsCalm InWord = ⊥
IsCalm (InString depth) = ⊥
IsCalm InComment = Unit {0}
IsCalm InSkipped = Unit {0}
IsCalm InSkippedWord = ⊥

-- it ends, and its fault, where it has one, is such
pub record EndsCalm (P : Fault → Type 0) (s : State) (step : Step) : Type 0 where
  pub spelling : step.state.spelling ≡ s.spelling
  pub here : step.state.here ≡ s.here
  pub calm : IsCalm step.state.mode
  pub fault : OnFault P step.found

abbrev pub BeganIn : State → Fault → Type 0
BeganIn s fault = fault.position ≡ s.began.at

behind_calm : (test : Bool) → IsCalm (if test then InSkipped else Between)
behind_calm true = tt
behind_calm false = tt

pub plain_calm : (s : State) (number : ℕ) (taken : Bool) → EndsCalm (BeganIn s) s (plain_word s number taken)
plain_calm s number taken =
    on_if (EndsCalm (BeganIn s) s) (eqb number 56) (comment_word s taken) _
    (on_if (EndsCalm (BeganIn s) s) s.may_comment _ _ (record { spelling = refl; here = refl; calm = tt; fault = tt })
    (record { spelling = refl; here = refl; calm = tt; fault = refl }))
    (record { spelling = refl; here = refl; calm = behind_calm (eqb number 37); fault = tt })

pub skipped_calm : (s : State) (number : ℕ) (taken : Bool) → EndsCalm (λ f. ⊥) s (skipped_word s number taken)
skipped_calm s number taken =
    on_if (EndsCalm (λ f. ⊥) s) (eqb number 37 || eqb number 40) _ _
    (record { spelling = refl; here = refl; calm = behind_calm (eqb number 37); fault = tt })
    (record { spelling = refl; here = refl; calm = tt; fault = tt })

pub sign_calm : (s : State) (opener : OpenerSign) (double : Option Tag) → EndsCalm (λ f. ⊥) s (sign_of_double s opener double)
sign_calm s opener None = record { spelling = refl; here = refl; calm = tt; fault = tt }
sign_calm s opener (Some tag) = record { spelling = refl; here = refl; calm = tt; fault = tt }

abbrev pub WordFaults : Bool → State → Fault → Type 0
WordFaults true s fault = ⊥
WordFaults false s fault = BeganIn s fault

pub word_calm : (skipped : Bool) (tag : Option ℕ) (s : State) (taken : Bool)
    → EndsCalm (WordFaults skipped s) s (by_number (word_mode skipped) tag s taken)
word_calm true None s taken = record { spelling = refl; here = refl; calm = tt; fault = tt }
word_calm true (Some number) s taken = skipped_calm s number taken
word_calm false None s taken = record { spelling = refl; here = refl; calm = tt; fault = refl }
word_calm false (Some number) s taken = plain_calm s number taken

pub well_floor : (mode : Mode) (s : State) → IsWellIn mode s → floor_in mode s ≤ s.here.at
well_floor Start s well = omega arith
well_floor Between s well = omega arith
well_floor (AfterPrefix opener) s well = omega arith
well_floor InWord s well = omega (arith, well.1)
well_floor (InString depth) s well = omega (arith, well.1)
well_floor InComment s well = omega arith
well_floor InSkipped s well = omega arith
well_floor InSkippedWord s well = omega arith

pub well_start : (mode : Mode) (s : State) → IsWellIn mode s → mode ≡ Start → s ≡ start_state
well_start mode s well start = subst (λ (m : Mode). IsWellIn m s) start well
